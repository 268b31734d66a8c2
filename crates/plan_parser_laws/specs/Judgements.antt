-- What is judged of each form of expression, one condition after the other, apart from the checker; and the first that isn't
-- kept. Parts are typed by the rules, and places are counted.
use Rattle.std.specs.Prelude.{◌≡◌, ℕ, ◌+◌, ◌++◌, ◌==◌, min, nat_le, Bool, true, false, List, [], ◌∷◌, length, ◌⊎◌, Option, Some, None}
use Rattle.std.specs.Prelude.{is_some, option_and_then, take, if◌then◌else◌}
use Rattle.std.specs.List.{find, list_all}
use Rattle.std.specs.Str.{bytes_eq}
use Rattle.plan_base.specs.declared.name.Name.{Name}
use Rattle.plan_base.specs.declared.prim.Primitive.{Primitive}
use Rattle.plan_base.specs.declared.tree.Ty.{Ty}
use Rattle.plan_base.specs.declared.tree.Ty as ty
use Rattle.plan_base.specs.declared.tree.Expr.{Expr, Expr-F, out-Expr}
use Rattle.plan_base.specs.declared.tree.Clause.{Clause}
use Rattle.plan_base.specs.declared.tree.Svc.{Svc}
use Rattle.plan_base.specs.declared.tree.Fun.{Fun}
use Rattle.plan_base.specs.declared.tree.Program.{Program}
use Rattle.plan_base.specs.declared.tree.Place.TheVariants.{Node}
use Rattle.plan_types_spec.specs.declared.type_fault.TypeFault.{TypeFault}
use Rattle.plan_types_spec.specs.declared.type_fault.TypeFault.TheVariants.{UnknownName, NotEarlier, Mismatch, Arity, NeedsType, WrongShape, TypeTooDeep}
use Rattle.plan_base.specs.Trees.{ExprLayer}
use Rattle.plan_base.specs.Sizes.{type_depth, expr_nodes}
use Rattle.plan_types_spec.specs.Typing.{Ctx}
use Rattle.plan_types_spec.specs.TypingNames.{service_of, binds, binding, param_types, prim_of, takes, makes, is_exception, may_catch}
use Rattle.plan_types_spec.specs.TypingNames.{OpKind, arithmetic, joining, equality, ordering, listing, kind_of, is_joined, is_ordered}
use Rattle.plan_types_spec.specs.TypingOrder.{items_of, parts_of, part_in, want_at, given_of, pair_of}
use Rattle.plan_types_spec.specs.TypingFills.{Becomes}

-- Conditions in order: a test, with what is reported where it fails; two types that must be the same, with what is reported; and
-- a part under its bindings, of which a type may be wanted, where what is judged next depends on the type that it has.
pub data Judgement : Type 0 where
  kept : Judgement
  test : Bool → TypeFault → Judgement → Judgement
  same : Ty → Ty → TypeFault → Judgement → Judgement
  part : Ctx → Option Ty → Expr → (Ty → Judgement) → Judgement

-- something must be there
abbrev pub there : {A : Type 0} → Option A → TypeFault → (A → Judgement) → Judgement
there (Some a) f more = more a
there None f more = test false f kept

-- last of all the type is the wanted one, where one is wanted
abbrev pub suits : ℕ → Option Ty → Ty → Judgement
suits at None t = kept
suits at (Some w) t = same w t (Mismatch (Node at) w t) kept

-- before it the depth of a type that comes about
abbrev pub shallow : ℕ → Option Ty → Ty → Judgement
shallow at want t = test (nat_le (type_depth t) 8) (TypeTooDeep (Node at)) (suits at want t)

-- parts from the left, behind those with these types
abbrev pub parts : Ctx → Option (List Ty) → List Ty → List Expr → (List Ty → Judgement) → Judgement
parts c wants types [] more = more types
parts c wants types (e ∷ es) more = part c (want_at wants (length types)) e (λ t. parts c wants (types ++ t ∷ []) es more)

-- a part of which a type is wanted
abbrev pub typed_part : Ctx → Ty → Expr → Judgement → Judgement
typed_part c t e more = part c (Some t) e (λ _. more)

-- as many arguments as types, and each of its type
abbrev pub arguments : Ctx → ℕ → List Ty → List Expr → Judgement → Judgement
arguments c at wants es more = test (length es == length wants) (Arity (Node at)) (parts c (Some wants) [] es (λ _. more))

-- clauses from the first, each of which gives that type
abbrev pub clauses : Ctx → Ty → List Clause → Judgement
clauses c t [] = kept
clauses c t (k ∷ ks) = typed_part c t k.body (clauses c t ks)

-- the first function of that name
abbrev pub function_named : Name → List Fun → Option Fun
function_named f ds = find (λ d. bytes_eq d.name f) ds

-- the first of that name among those that stand before the number `seen`
abbrev pub stands_earlier : Program → ℕ → Name → Option Fun
stands_earlier code seen f = function_named f (take seen code.funs)

-- what is reported where none does: it is the function with that number or a later one, or there is none of that name
abbrev pub none_earlier : Program → Name → ℕ → TypeFault
none_earlier code f at = if is_some (function_named f code.funs) then NotEarlier (Node at) else UnknownName (Node at)

-- The place behind so many expressions: an expression stands before its parts, and each part before the next. Places stop at
-- the last of 32 bits.
abbrev pub behind : ℕ → ℕ → ℕ
behind at count = min (at + count) 4294967295

module _ (code : Program) (seen : ℕ) where
  -- a primitive with the types that it takes, or with one list of any type
  abbrev pub primitive : Ctx → ℕ → Option Ty → Primitive → List Expr → Option (List Ty) → Judgement
  primitive c at want p es (Some ts) = arguments c at ts es (suits at want (makes p))
  primitive c at want p es None =
      test (length es == 1) (Arity (Node at)) (parts c None [] es (λ ts. there (given_of p ts) (WrongShape (Node at)) (λ t. suits at want t)))

  -- a function that stands earlier
  abbrev pub function : Ctx → ℕ → Option Ty → Name → List Expr → Judgement
  function c at want f es = there (stands_earlier code seen f) (none_earlier code f at) (λ d. arguments c at (param_types d.params) es (suits at want d.result))

  -- a declared service, or else a function
  abbrev pub service : Ctx → ℕ → Option Ty → Name → List Expr → Option Svc → Judgement
  service c at want f es (Some d) = arguments c at d.params es (suits at want d.result)
  service c at want f es None = function c at want f es

  -- a name that is called: a primitive, or else a service or a function
  abbrev pub called_name : Ctx → ℕ → Option Ty → Name → List Expr → Option Primitive → Judgement
  called_name c at want f es (Some p) = primitive c at want p es (takes p)
  called_name c at want f es None = service c at want f es (service_of f code.svcs)

  -- the two sides of an operator
  abbrev pub sides : Ctx → ℕ → Option Ty → Expr → Expr → OpKind → Judgement
  sides c at want a b arithmetic = typed_part c ty.Int a (typed_part c ty.Int b (suits at want ty.Int))
  sides c at want a b joining = part c None a (λ t. test (is_joined t) (WrongShape (Node at)) (typed_part c t b (suits at want t)))
  sides c at want a b equality = part c None a (λ t. typed_part c t b (suits at want ty.Bool))
  sides c at want a b ordering = part c None a (λ t. test (is_ordered t) (WrongShape (Node at)) (typed_part c t b (suits at want ty.Bool)))
  sides c at want a b listing = part c (option_and_then items_of want) a (λ t. typed_part c (ty.List t) b (shallow at want (ty.List t)))

  -- An earlier function of two parameters that folds a list: the type of the start and of the items by those of its
  -- parameters.
  abbrev pub folding : Ctx → ℕ → Option Ty → Name → Expr → Expr → (Ty × Ty → Ty × Ty) → Judgement
  folding c at want f a l turned =
      there (stands_earlier code seen f) (none_earlier code f at)
      (λ d. there (pair_of d.params) (Arity (Node at))
      (λ p.
      typed_part c (turned p).0 a (typed_part c (ty.List (turned p).1) l
      (same d.result (turned p).0 (WrongShape (Node at)) (suits at want (turned p).0)))))

  -- What is judged of an expression of that form at a place, under its bindings, of which a type may be wanted: first its
  -- names and counts and the type that nothing else gives, then its parts from the left, its shape, the depth of its type,
  -- and last whether that is the wanted one. Operators judge the left side's shape before the right side.
  abbrev pub judged_form : Ctx → ℕ → Option Ty → ExprLayer → Judgement
  judged_form c at want Expr-F.Unit = suits at want ty.Unit
  judged_form c at want (Expr-F.Bool _) = suits at want ty.Bool
  judged_form c at want (Expr-F.Int _) = suits at want ty.Int
  judged_form c at want (Expr-F.Char _) = suits at want ty.Char
  judged_form c at want (Expr-F.Str _) = suits at want ty.Str
  judged_form c at want (Expr-F.Blob _) = suits at want ty.Blob
  judged_form c at want (Expr-F.Host _) = suits at want ty.Host
  judged_form c at want (Expr-F.Dev _) = suits at want ty.Dev
  judged_form c at want (Expr-F.Nil (Some u)) = shallow at want (ty.List u)
  judged_form c at want (Expr-F.Nil None) = there (option_and_then items_of want) (NeedsType (Node at)) (λ u. shallow at want (ty.List u))
  judged_form c at want (Expr-F.Var v) = there (binding v c) (UnknownName (Node at)) (λ t. suits at want t)
  judged_form c at want (Expr-F.Tuple es) = parts c (option_and_then (parts_of (length es)) want) [] es (λ ts. shallow at want (ty.Tuple ts))
  judged_form c at want (Expr-F.Call f es) = called_name c at want f es (prim_of f)
  judged_form c at want (Expr-F.If a b d) = typed_part c ty.Bool a (part c want b (λ t. typed_part c t d kept))
  judged_form c at want (Expr-F.Let n u a b) = typed_part c u a (part (c ++ binds n u ∷ []) want b (λ _. kept))
  judged_form c at want (Expr-F.Then a b) = typed_part c ty.Unit a (part c want b (λ _. kept))
  judged_form c at want (Expr-F.And a b) = typed_part c ty.Bool a (typed_part c ty.Bool b (suits at want ty.Bool))
  judged_form c at want (Expr-F.Or a b) = typed_part c ty.Bool a (typed_part c ty.Bool b (suits at want ty.Bool))
  judged_form c at want (Expr-F.Not a) = typed_part c ty.Bool a (suits at want ty.Bool)
  judged_form c at want (Expr-F.Binary o a b) = sides c at want a b (kind_of o)
  judged_form c at want (Expr-F.Part i a) = part c None a (λ u. there (part_in i u) (WrongShape (Node at)) (λ t. suits at want t))
  judged_form c at want (Expr-F.Raise n (Some t)) = test (is_exception code n) (UnknownName (Node at)) (shallow at want t)
  judged_form c at want (Expr-F.Raise n None) = test (is_exception code n) (UnknownName (Node at)) (there want (NeedsType (Node at)) (λ t. shallow at want t))
  judged_form c at want (Expr-F.Try a ks) = test (list_all (λ k. may_catch code k.name) ks) (UnknownName (Node at)) (part c want a (λ t. clauses c t ks))
  judged_form c at want (Expr-F.Foldl f a l) = folding c at want f a l (λ p. p)
  judged_form c at want (Expr-F.Foldr f a l) = folding c at want f a l (λ p. (p.1, p.0))
  judged_form c at want (Expr-F.ChunkOf f es) =
      there (function_named f code.funs) (UnknownName (Node at)) (λ d. arguments c at (param_types d.params) es (suits at want ty.Chunk))
  judged_form c at want (Expr-F.Eval a) = typed_part c ty.Chunk a (suits at want ty.Unit)
  judged_form c at want (Expr-F.OnRemote a h n r) = typed_part c ty.Chunk a (typed_part c ty.Host h (typed_part c ty.Int n (suits at want ty.Unit)))
  judged_form c at want (Expr-F.OnNeighbor a h n d) =
      typed_part c ty.Chunk a (typed_part c ty.Host h (typed_part c ty.Int n (typed_part c ty.Dev d (suits at want ty.Unit))))

  mutual
    -- f is reported for the first condition that isn't kept, where the next part stands at the place n
    pub data FirstFailing (f : TypeFault) : ℕ → Judgement → Type 0 where
      fails : {n : ℕ} {b : Bool} {more : Judgement} → b ≡ false → FirstFailing f n (test b f more)
      differ : {n : ℕ} {t u : Ty} {more : Judgement} → (t ≡ u → ⊥) → FirstFailing f n (same t u f more)
      refuses : {n : ℕ} {c : Ctx} {want : Option Ty} {e : Expr} {more : Ty → Judgement} → Refused f c want n e → FirstFailing f n (part c want e more)
      passes : {n : ℕ} {b : Bool} {g : TypeFault} {more : Judgement} → b ≡ true → FirstFailing f n more → FirstFailing f n (test b g more)
      agree : {n : ℕ} {t u : Ty} {g : TypeFault} {more : Judgement} → t ≡ u → FirstFailing f n more → FirstFailing f n (same t u g more)
      becomes : {n : ℕ} {c : Ctx} {want : Option Ty} {e : Expr} {more : Ty → Judgement} (d : Expr) (t : Ty)
          → Becomes code seen c want e d t → FirstFailing f (behind n (expr_nodes e)) (more t) → FirstFailing f n (part c want e more)

    -- f is the first refusal of the expression at the place n
    pub data Refused (f : TypeFault) : Ctx → Option Ty → ℕ → Expr → Type 0 where
      refused : {c : Ctx} {want : Option Ty} {n : ℕ} {e : Expr} → FirstFailing f (behind n 1) (judged_form c n want (out-Expr e)) → Refused f c want n e

  -- an expression is typed, with its types filled in, or refused
  abbrev pub IsTypedOrRefused : Ctx → Option Ty → ℕ → Expr → Type 0
  IsTypedOrRefused c want n e = ((d : Expr) × (t : Ty) × Becomes code seen c want e d t) ⊎ ((f : TypeFault) × Refused f c want n e)
