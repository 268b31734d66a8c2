-- What a program must keep, as one list in order; and the first that it doesn't.
use Rattle.std.specs.Prelude.{◌≡◌, ◌≤◌, ℕ, zero, suc, ◌+◌, ◌++◌, ◌⊎◌, true, false, List, [], ◌∷◌, map, take, length, slice_get, Some}
use Rattle.std.specs.List.{sum_by}
use Rattle.plan_base.specs.declared.name.Name.{Name}
use Rattle.plan_base.specs.declared.tree.Svc.{Svc}
use Rattle.plan_base.specs.declared.tree.Expr.{Expr}
use Rattle.plan_base.specs.declared.tree.Fun.{Fun}
use Rattle.plan_base.specs.declared.tree.Program.{Program}
use Rattle.plan_base.specs.declared.tree.Place.TheVariants.{Decl}
use Rattle.plan_types_spec.specs.declared.type_fault.TypeFault.{TypeFault}
use Rattle.plan_types_spec.specs.declared.type_fault.TypeFault.TheVariants.{TwiceNamed, CodeTooLarge}
use Rattle.plan_base.specs.Sizes.{code_size, expr_nodes}
use Rattle.plan_types_spec.specs.Typing.{Typed, param_names}
use Rattle.plan_types_spec.specs.TypingNames.{has_name, is_prim, built_in, are_new}
use Rattle.plan_types_spec.specs.TypingFills.{Becomes, Fills}
use Rattle.plan_parser_laws.specs.Judgements.{behind, Refused}

-- the names of a service, an exception and a function by their numbers, the body of a function, and the size of the code
pub data Condition : Type 0 where
  of_service : ℕ → Condition
  of_exception : ℕ → Condition
  of_function : ℕ → Condition
  of_body : ℕ → Condition
  of_size : Condition

abbrev pub svc_names : Program → List Name
svc_names p = map (λ d. d.name) p.svcs

abbrev pub fun_names : Program → List Name
fun_names p = map (λ d. d.name) p.funs

-- A service has neither the name of a primitive nor that of an earlier service. An exception has none of a built-in or an
-- earlier one. A function has none of a primitive, a service or an earlier function, and its parameters have different names.
-- A body has the result type below the earlier functions and under the parameters. The code is no larger than 16,000 bytes
-- with all types filled in.
abbrev pub Keeps : Program → Condition → Type 0
Keeps p (of_service k) = (d : Svc) → slice_get p.svcs k ≡ Some d → (is_prim d.name ≡ false) × (has_name (take k (svc_names p)) d.name ≡ false)
Keeps p (of_exception k) = (n : Name) → slice_get p.exns k ≡ Some n → has_name (built_in ++ take k p.exns) n ≡ false
Keeps p (of_function k) = (d : Fun) → slice_get p.funs k ≡ Some d
    → (is_prim d.name ≡ false) × (has_name (svc_names p ++ take k (fun_names p)) d.name ≡ false) × (are_new [] (param_names d.params) ≡ true)
Keeps p (of_body k) = (d : Fun) → slice_get p.funs k ≡ Some d → (e : Expr) × Becomes p k d.params (Some d.result) d.body e d.result
Keeps p of_size = (q : Program) → Fills p q → code_size q ≤ 16000

-- how many expressions the bodies of the first functions have
abbrev pub nodes_before : Program → ℕ → ℕ
nodes_before p k = sum_by (λ d. expr_nodes d.body) (take k p.funs)

-- What is reported where a condition isn't kept: for a name its declaration, counted from the first service through exceptions
-- and functions; for a body its own first refusal, its expressions counted behind those of the bodies before.
pub data Blames (p : Program) : Condition → TypeFault → Type 0 where
  for_service : (k : ℕ) → Blames p (of_service k) (TwiceNamed (Decl (behind 0 k)))
  for_exception : (k : ℕ) → Blames p (of_exception k) (TwiceNamed (Decl (behind (length p.svcs) k)))
  for_function : (k : ℕ) → Blames p (of_function k) (TwiceNamed (Decl (behind (length p.svcs + length p.exns) k)))
  for_body : (k : ℕ) (d : Fun) (f : TypeFault) → slice_get p.funs k ≡ Some d
      → Refused p k f d.params (Some d.result) (behind 0 (nodes_before p k)) d.body → Blames p (of_body k) f
  for_size : Blames p of_size CodeTooLarge

-- so many conditions of a kind from a number on, before further ones
abbrev pub conditions_from : (ℕ → Condition) → ℕ → ℕ → List Condition → List Condition
conditions_from of n zero more = more
conditions_from of n (suc k) more = of n ∷ conditions_from of (n + 1) k more

-- all conditions in their order
abbrev pub conditions : Program → List Condition
conditions p =
    conditions_from of_service 0 (length p.svcs)
    (conditions_from of_exception 0 (length p.exns)
    (conditions_from of_function 0 (length p.funs) (conditions_from of_body 0 (length p.funs) (of_size ∷ []))))

-- f is reported for the first condition of the list that isn't kept
pub data FirstUnkept (p : Program) (f : TypeFault) : List Condition → Type 0 where
  here : (k : Condition) (more : List Condition) → (Keeps p k → ⊥) → Blames p k f → FirstUnkept p f (k ∷ more)
  later : (k : Condition) (more : List Condition) → Keeps p k → FirstUnkept p f more → FirstUnkept p f (k ∷ more)

-- f is the first refusal of the program
abbrev pub FirstRefusal : Program → TypeFault → Type 0
FirstRefusal p f = FirstUnkept p f (conditions p)

-- a program is typed when its missing types are filled in, or refused
abbrev pub IsTypedOrRefused : Program → Type 0
IsTypedOrRefused p = ((q : Program) × Fills p q × Typed q) ⊎ ((f : TypeFault) × FirstRefusal p f)
