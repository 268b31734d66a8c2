-- A typed expression gives a value of its type, asks services well, never is without a case, and ends with some allowance: by the
-- purse, since each eval pays; then by the place of the function, since each call is of an earlier one; then by the typing.
use Rattle.std.proofs.Common.{◌≡◌, ℕ, zero, suc, ◌+◌, ◌<◌, ◌≤◌, cond, Bool, true, false, not, ◌&&◌, if◌then◌else◌, nat_le, nat_lt, is_some, ℤ, List, [], ◌∷◌, ◌++◌, length, take, reverse, Option, Some}
use Rattle.std.proofs.Common.{None, slice_get, refl, sym, ap, ◌∙◌, subst, arith, append_assoc}
use Rattle.std.specs.List.{list_all, sum_by, position_or_len}
use Rattle.std.proofs.Math.Nat.{not-suc-le-zero}
use Rattle.std.specs.Option.{option_or}
use Rattle.std.specs.Str.{bytes_eq}
use Rattle.std.proofs.lemmas.List.{append-nil, reverse-append, length-take}
use Rattle.std.proofs.lemmas.Bool.{leb-true}
use Rattle.std.proofs.lemmas.Bool.Decides.{nat_tests}
use Rattle.containers.proofs.Options.{none-some, some-same}
use Rattle.plan_base.specs.declared.name.Name.{Name}
use Rattle.plan_base.specs.declared.ids.Host.{Host}
use Rattle.plan_base.specs.declared.ids.Dev.{Dev}
use Rattle.plan_base.specs.declared.prim.Primitive.{Primitive}
use Rattle.plan_base.specs.declared.tree.Exn.{Exn}
use Rattle.plan_base.specs.declared.tree.Ty.{Ty, Ty-F}
use Rattle.plan_base.specs.declared.tree.Ty.TheVariants as ty
use Rattle.plan_base.specs.declared.tree.Op.{Op}
use Rattle.plan_base.specs.declared.tree.Expr.{Expr, Expr-F, out-Expr}
use Rattle.plan_base.specs.declared.tree.Clause.{Clause}
use Rattle.plan_base.specs.declared.tree.Param.{Param}
use Rattle.plan_base.specs.declared.tree.Svc.{Svc}
use Rattle.plan_base.specs.declared.tree.Fun.{Fun}
use Rattle.plan_base.specs.declared.tree.Program.{Program}
use Rattle.plan_base.specs.declared.tree.Value.{Value, Value-F, out-Value}
use Rattle.plan_base.specs.declared.tree.Value.TheVariants as value
use Rattle.plan_base.specs.declared.tree.Chunk.{Chunk}
use Rattle.plan_base.specs.Trees.{ExprLayer}
use Rattle.plan_base.specs.Sizes.{weight, weight_level, chunk_weight, nesting, nesting_level, chunk_nesting, largest_by}
use Rattle.plan_base.proofs.SizeLaws.{weight_out, nesting_out, chunk_weight_is, chunk_nesting_is}
use Rattle.plan_types_spec.specs.Typing.{IsSmall, literal_type, HasTy, literal, variable, empty, raising, tuple, part, of_items, primitive, serving, call, choice, binder, sequence, both, either}
use Rattle.plan_types_spec.specs.Typing.{negation, calculation, join, comparison, order, prefix, handling, fold_left, fold_right, packing, evaluation, remote, neighbour, HaveTys, no_parts, and_part}
use Rattle.plan_types_spec.specs.Typing.{ClausesHaveTy, no_clauses, and_clause, Typed, HasType, unit, bool, int, char, str, blob, host, dev, list, chunk, HaveTypes, no_values, and_value, AllHaveType}
use Rattle.plan_types_spec.specs.Typing.{no_items, and_item, IsTypedChunk, within, IsShallow}
use Rattle.plan_base.specs.WellFormed.{has_from_to, names_all_but_last, well_formed_type, formed_expr, formed_chunk, well_formed_program, IsWellFormedProgram, IsWellFormedExpr}
use Rattle.plan_types_spec.specs.Typing as typing
use Rattle.plan_types_spec.specs.TypingNames.{place_of, service_of, prim_of, binding, param_types, part_of, of_list, makes}
use Rattle.plan_types_spec.specs.Rules as rules
use Rattle.service_api.specs.Services.{IsGoodChunk, AreGoodValues}
use Rattle.plan_meaning.specs.State.{VisitState}
use Rattle.plan_meaning.specs.Run.{Run, ◌>>◌, pure}
use Rattle.plan_meaning.specs.Meaning as m
use Rattle.plan_meaning.specs.Meaning.{Env, as_bool, bool_at, as_int, int_at, as_host, host_at, as_dev, dev_at, as_chunk, chunk_at, as_items, items_at, value_of, bound_behind, bound, values_behind}
use Rattle.plan_meaning.specs.Meaning.{values, entered_function, applied_at, applied_function, served_or, called_by, called_name, left_along, right_along, handled_exception, visited_chunk, opened_at}
use Rattle.plan_meaning.specs.Meaning.{opened_expression, node, meaning, catches}
use Rattle.plan_meaning.specs.Safe.{HasEnv, IsGoodState, Yields}
use Rattle.containers.proofs.Bools.{and_left, and_right, both_true}
use Rattle.plan_types_spec.proofs.Shapes.{shape_at}
use Rattle.plan_meaning.proofs.Totals.{sum_bounds, largest_bounds}
use Rattle.plan_meaning.proofs.Formed as form
use Rattle.plan_meaning.proofs.Formed.{AllFormed, FormedLevel, formed_of, well_formed, level_formed, items_formed}
use Rattle.plan_meaning.proofs.Keeps as keeps
use Rattle.plan_meaning.proofs.Keeps.{Keeps}
use Rattle.plan_types_spec.specs.Typed.{Fits}
use Rattle.plan_types_spec.proofs.Fitting as given
use Rattle.plan_meaning.proofs.Right.{Good, Mild}
use Rattle.plan_meaning.proofs.Halting.{Halts, Inv, pure_halts, raise_halts, known_halts, cond_halts, mild_halts, then_halts, known_then_halts, rescue_halts, given_halts, whole_halts, paid_halts, remote_halts, neighbour_halts, serve_halts}
use Rattle.plan_meaning.proofs.Within.{meaning_is_fixed}
use Rattle.plan_meaning.specs.Laws.{EndsFrom}

-- ---- what good values are taken for

truth : (v : Value) → HasType v ty.Bool → (b : Bool) × (as_bool v ≡ Some b)
unfolding as_bool
truth v h = let k = shape_at ty.Bool Ty-F.Bool ty.outs-Bool h in (k.0, ap bool_at k.1)

number : (v : Value) → HasType v ty.Int → (n : ℤ) × (as_int v ≡ Some n)
unfolding as_int
number v h = let k = shape_at ty.Int Ty-F.Int ty.outs-Int h in (k.0, ap int_at k.1)

a_host : (v : Value) → HasType v ty.Host → (n : Host) × (as_host v ≡ Some n)
unfolding as_host
a_host v h = let k = shape_at ty.Host Ty-F.Host ty.outs-Host h in (k.0, ap host_at k.1)

a_dev : (v : Value) → HasType v ty.Dev → (d : Dev) × (as_dev v ≡ Some d)
unfolding as_dev
a_dev v h = let k = shape_at ty.Dev Ty-F.Dev ty.outs-Dev h in (k.0, ap dev_at k.1)

nests : {k : Chunk} → IsTypedChunk k → chunk_nesting k ≤ 4
nests (within at d t p g h n w) = n

a_chunk : (v : Value) → Good ty.Chunk v → (k : Chunk) × (as_chunk v ≡ Some k) × IsGoodChunk k
unfolding as_chunk
a_chunk v g =
    let k = shape_at ty.Chunk Ty-F.Chunk ty.outs-Chunk g.typed in
    (k.0, ap chunk_at k.1, record { typed = k.2; formed = form.well_formed_chunk_of k.0 (form.chunk_formed v k.0 k.1 (formed_of v g.formed)) (nests k.2) })

-- ---- good parts of good values

good_all : {vs : List Value} {ts : List Ty} → HaveTypes vs ts → AllFormed vs → sum_by weight vs ≤ 16384 → largest_by nesting vs ≤ 4 → AreGoodValues ts vs
good_all no_values f w n = tt
good_all (and_value {v} {vs} h k) f w n =
    let a = sum_bounds weight 0 16384 v vs w in
    let b = largest_bounds nesting 0 4 v vs n in
    let small : IsSmall v = record { weighs = a.0; nests = b.0 } in
    (record { typed = h; small = small; formed = well_formed v f.0 small }, good_all k f.1 a.1 b.1)

typed_all : (ts : List Ty) (vs : List Value) → AreGoodValues ts vs → HaveTypes vs ts
typed_all [] [] h = no_values
typed_all (t ∷ ts) (v ∷ vs) h = and_value h.0.typed (typed_all ts vs h.1)
typed_all [] (v ∷ vs) h = absurd h
typed_all (t ∷ ts) [] h = absurd h

formed_all : (ts : List Ty) (vs : List Value) → AreGoodValues ts vs → AllFormed vs
formed_all [] [] h = tt
formed_all (t ∷ ts) (v ∷ vs) h = (formed_of v h.0.formed, formed_all ts vs h.1)
formed_all [] (v ∷ vs) h = absurd h
formed_all (t ∷ ts) [] h = absurd h

-- as many values as types
values_count : (ts : List Ty) (vs : List Value) → AreGoodValues ts vs → length ts ≡ length vs
values_count [] [] h = refl
values_count (t ∷ ts) (v ∷ vs) h = ap suc (values_count ts vs h.1)
values_count [] (v ∷ vs) h = absurd h
values_count (t ∷ ts) [] h = absurd h

abbrev AllGood : Ty → List Value → Type 0
AllGood u [] = Unit {0}
AllGood u (v ∷ vs) = Good u v × AllGood u vs

good_items : {u : Ty} {vs : List Value} → AllHaveType u vs → AllFormed vs → sum_by weight vs ≤ 16384 → largest_by nesting vs ≤ 4 → AllGood u vs
good_items no_items f w n = tt
good_items (and_item {v = v} {vs = vs} h k) f w n =
    let a = sum_bounds weight 0 16384 v vs w in
    let b = largest_bounds nesting 0 4 v vs n in
    let small : IsSmall v = record { weighs = a.0; nests = b.0 } in
    (record { typed = h; small = small; formed = well_formed v f.0 small }, good_items k f.1 a.1 b.1)

list_weight : (v : Value) (u : Ty) (vs : List Value) → out-Value v ≡ Value-F.List u vs → weight v ≤ 16384 → sum_by weight vs ≤ 16384
list_weight v u vs e h = let k = weight_out v ∙ ap (λ l. weight_level weight chunk_weight l) e in omega arith

list_nesting : (v : Value) (u : Ty) (vs : List Value) → out-Value v ≡ Value-F.List u vs → nesting v ≤ 4 → largest_by nesting vs ≤ 4
list_nesting v u vs e h = let k = nesting_out v ∙ ap (λ l. nesting_level nesting chunk_nesting l) e in omega arith

items : (u : Ty) (v : Value) → Good (ty.List u) v → (vs : List Value) × (as_items v ≡ Some vs) × AllGood u vs
unfolding as_items
items u v h =
    let k = shape_at (ty.List u) (Ty-F.List u) (ty.outs-List u) h.typed in
    (k.0, ap items_at k.1, good_items k.2 (items_formed v u k.0 k.1 (formed_of v h.formed)) (list_weight v u k.0 k.1 h.small.weighs) (list_nesting v u k.0 k.1 h.small.nests))

all_behind : (u : Ty) (vs : List Value) (v : Value) → AllGood u vs → Good u v → AllGood u (vs ++ v ∷ [])
all_behind u [] v h k = (k, tt)
all_behind u (w ∷ vs) v h k = (h.0, all_behind u vs v h.1 k)

all_reversed : (u : Ty) (vs : List Value) → AllGood u vs → AllGood u (reverse vs)
all_reversed u [] h = tt
all_reversed u (v ∷ vs) h = subst (λ xs. AllGood u xs) (sym (reverse-append (v ∷ []) vs)) (all_behind u (reverse vs) v (all_reversed u vs h.1) h.0)

-- a chunk that is made
chunk_weight_of : (k : Chunk) → weight (value.Chunk k) ≡ 1 + chunk_weight k
chunk_weight_of k = weight_out (value.Chunk k) ∙ ap (λ l. weight_level weight chunk_weight l) (value.outs-Chunk k)

chunk_nesting_of : (k : Chunk) → nesting (value.Chunk k) ≡ chunk_nesting k
chunk_nesting_of k = nesting_out (value.Chunk k) ∙ ap (λ l. nesting_level nesting chunk_nesting l) (value.outs-Chunk k)

made_chunk : (k : Chunk) (at : ℕ) (d : Fun) → Typed k.code → place_of k.entry k.code.funs ≡ Some at → slice_get k.code.funs at ≡ Some d → HaveTypes k.args (param_types d.params) → formed_chunk k ≡ true → Mild ty.Chunk (value.Chunk k)
made_chunk k at d t p g h f small =
    let w = chunk_weight_of k in
    let n = chunk_nesting_of k in
    let weighs : 1 + chunk_weight k ≤ 16384 = subst (λ x. x ≤ 16384) w small.weighs in
    let nests : chunk_nesting k ≤ 4 = subst (λ x. x ≤ 4) n small.nests in
    (chunk k (value.outs-Chunk k) refl (within at d t p g h nests weighs), form.a_chunk (value.Chunk k) k (value.outs-Chunk k) f)

args_weight : (k : Chunk) → 1 + chunk_weight k ≤ 16384 → sum_by weight k.args ≤ 16384
args_weight k h = let e = chunk_weight_is k in omega arith

args_nesting : (k : Chunk) → chunk_nesting k ≤ 4 → largest_by nesting k.args ≤ 4
args_nesting k h = let e = chunk_nesting_is k in omega arith

-- ---- bindings

env_behind : (c : List Param) (env : Env) (p : Param) (v : Value) → HasEnv c env → Good p.ty v → HasEnv (c ++ p ∷ []) (env ++ m.binds p.name v ∷ [])
env_behind [] [] p v h k = (refl, k, tt)
env_behind (q ∷ c) (b ∷ env) p v h k = (h.0, h.1, env_behind c env p v h.2 k)
env_behind [] (b ∷ env) p v h k = absurd h
env_behind (q ∷ c) [] p v h k = absurd h

bound_good : (c : List Param) (done : Env) (ps : List Param) (vs : List Value) → HasEnv c done → AreGoodValues (param_types ps) vs
    → (env : Env) × (bound_behind done ps vs ≡ Some env) × HasEnv (c ++ ps) env
bound_good c done [] [] h k = (done, refl, subst (λ x. HasEnv x done) (sym (append-nil c)) h)
bound_good c done (p ∷ ps) (v ∷ vs) h k =
    let r = bound_good (c ++ p ∷ []) (done ++ m.binds p.name v ∷ []) ps vs (env_behind c done p v h k.0) k.1 in
    (r.0, r.1, subst (λ x. HasEnv x r.0) (append_assoc c (p ∷ []) ps) r.2)
bound_good c done [] (v ∷ vs) h k = absurd k
bound_good c done (p ∷ ps) [] h k = absurd k

abbrev Agrees : Option Ty → Option Value → Type 0
Agrees (Some t) (Some v) = Good t v
Agrees None None = Unit {0}
Agrees _ _ = ⊥

or_agrees : (o o' : Option Ty) (w w' : Option Value) → Agrees o w → Agrees o' w' → Agrees (option_or o o') (option_or w w')
or_agrees (Some t) o' (Some v) w' h k = h
or_agrees None o' None w' h k = k
or_agrees (Some t) o' None w' h k = absurd h
or_agrees None o' (Some v) w' h k = absurd h

if_agrees : (b : Bool) (t : Ty) (v : Value) → Good t v → Agrees (if b then Some t else None) (if b then Some v else None)
if_agrees true t v h = h
if_agrees false t v h = tt

bindings_agree : (x : Name) (c : List Param) (env : Env) → HasEnv c env → Agrees (binding x c) (value_of x env)
bindings_agree x [] [] h = tt
bindings_agree x (p ∷ c) (b ∷ env) h =
    or_agrees (binding x c) _ (value_of x env) _ (bindings_agree x c env h.2)
    (subst (λ n. Agrees (if bytes_eq p.name x then Some p.ty else None) (if bytes_eq n x then Some b.value else None)) h.0 (if_agrees (bytes_eq p.name x) p.ty b.value h.1))
bindings_agree x [] (b ∷ env) h = absurd h
bindings_agree x (p ∷ c) [] h = absurd h

agreed_value_good : (t : Ty) (o : Option Ty) (w : Option Value) → o ≡ Some t → Agrees o w → (v : Value) × (w ≡ Some v) × Good t v
agreed_value_good t (Some u) (Some v) e h = let same : u ≡ t = cc in (v, refl, subst (λ x. Good x v) same h)
agreed_value_good t None w e h = cc
agreed_value_good t (Some u) None e h = absurd h

-- ---- the forms

-- typed and well-formed code
pub record GoodCode (code : Program) : Type 0 where
  pub typed : Typed code
  pub formed : well_formed_program code ≡ true

-- as many types as expressions
types_count : {code : Program} {seen : ℕ} {c : List Param} {es : List Expr} {ts : List Ty} → HaveTys code seen c es ts → length es ≡ length ts
types_count no_parts = refl
types_count (and_part h k) = ap suc (types_count k)

below : (n m at : ℕ) (c : Bool) → nat_lt n m ≡ c → cond c (Some n) None ≡ Some at → at < m
below n m at true e h = let l : n < m = grind (arith, nat_tests) in subst (λ x. x < m) (some-same h) l
below n m at false e h = absurd (none-some h)

-- the place of one of the first functions is below their number
place_below : (f : Name) (funs : List Fun) (seen at : ℕ) → place_of f (take seen funs) ≡ Some at → at < seen
place_below f funs seen at e =
    let n = position_or_len (λ (d : Fun). bytes_eq d.name f) (take seen funs) in
    let k = below n (length (take seen funs)) at (nat_lt n (length (take seen funs))) refl e in
    let l = length-take seen funs in
    omega arith

unit_halts : (c : ℕ) → Halts c (Mild ty.Unit) (pure value.Unit)
unit_halts c = pure_halts c (Mild ty.Unit) value.Unit (λ _. (unit value.outs-Unit refl, form.a_unit value.Unit value.outs-Unit))

module _ (limit : ℕ) where
  -- the parts of an expression halt at their types, under bindings
  abbrev PartsHalt : Program → ℕ → Env → List Expr → List Ty → Type 0
  PartsHalt code seen env [] [] = Unit {0}
  PartsHalt code seen env (e ∷ es) (t ∷ ts) = Halts limit (Good t) (meaning code seen env e) × PartsHalt code seen env es ts
  PartsHalt code seen env _ _ = ⊥

  abbrev ClausesHalt : Program → ℕ → Env → Ty → List Clause → Type 0
  ClausesHalt code seen env t [] = Unit {0}
  ClausesHalt code seen env t (k ∷ ks) = Halts limit (Good t) (meaning code seen env k.body) × ClausesHalt code seen env t ks

  -- so do the functions before a place, and chunks with a lower purse
  abbrev CallsHalt : Program → ℕ → Type 0
  CallsHalt code seen = (at : ℕ) (d : Fun) (args : List Value) → at < seen → slice_get code.funs at ≡ Some d → AreGoodValues (param_types d.params) args → Halts limit (Good d.result) (entered_function meaning code at args)

  abbrev pub EvalsHalt : Type 0
  EvalsHalt = (c : ℕ) → c < limit → (k : Chunk) → IsGoodChunk k → Halts c {A = Value} (λ _. Unit {0}) (visited_chunk meaning k)

  good_mild : {p : Run Value} (t : Ty) → Halts limit (Good t) p → Halts limit (Mild t) p
  good_mild {p} t h = mild_halts limit (Good t) (Mild t) (λ v g _. (g.typed, formed_of v g.formed)) p h

  at_type : (t u : Ty) (p : Run Value) → t ≡ u → Halts limit (Mild u) p → Halts limit (Mild t) p
  at_type t u p e h = subst (λ x. Halts limit (Mild x) p) (sym e) h

  -- behind the values that are done
  abbrev Behind : List Value → List Ty → List Value → Type 0
  Behind done ts vs = (ws : List Value) × (vs ≡ done ++ ws) × AreGoodValues ts ws

  values_from : (code : Program) (seen : ℕ) (env : Env) (es : List Expr) (ts : List Ty) → PartsHalt code seen env es ts → (done : List Value)
      → Halts limit (Behind done ts) (values_behind meaning done code seen env es)
  values_from code seen env [] [] k done = pure_halts limit (Behind done []) done ([], sym (append-nil done), tt)
  values_from code seen env [] (t ∷ ts) k done = absurd k
  values_from code seen env (e ∷ es) [] k done = absurd k
  values_from code seen env (e ∷ es) (t ∷ ts) k done =
      then_halts limit (Good t) (Behind done (t ∷ ts)) _ _ k.0 (λ v g.
      mild_halts limit (Behind (done ++ v ∷ []) ts) (Behind done (t ∷ ts)) (λ vs x. (v ∷ x.0, x.1 ∙ append_assoc done (v ∷ []) x.0, (g, x.2))) _
      (values_from code seen env es ts k.1 (done ++ v ∷ [])))

  values_good : (code : Program) (seen : ℕ) (env : Env) (es : List Expr) (ts : List Ty) → PartsHalt code seen env es ts → Halts limit (AreGoodValues ts) (values meaning code seen env es)
  unfolding values
  values_good code seen env es ts k =
      mild_halts limit (Behind [] ts) (AreGoodValues ts) (λ vs x. subst (λ xs. AreGoodValues ts xs) (sym x.1) x.2) _ (values_from code seen env es ts k [])

  applied_at_good : (code : Program) (o : Option ℕ) (at : ℕ) (P : Value → Type 0) (args : List Value) → o ≡ Some at → Halts limit P (entered_function meaning code at args) → Halts limit P (applied_at meaning code o args)
  applied_at_good code o at P args e h = subst (λ x. Halts limit P (applied_at meaning code x args)) (sym e) h

  applied_good : (code : Program) (seen : ℕ) (f : Name) (at : ℕ) (d : Fun) (args : List Value) → CallsHalt code seen → place_of f (take seen code.funs) ≡ Some at → slice_get code.funs at ≡ Some d
      → AreGoodValues (param_types d.params) args → Halts limit (Good d.result) (applied_function meaning code seen f args)
  unfolding applied_function
  applied_good code seen f at d args q e g k = applied_at_good code (place_of f (take seen code.funs)) at (Good d.result) args e (q at d args (place_below f code.funs seen at e) g k)

  by_prim : (code : Program) (seen : ℕ) (f : Name) (p : Primitive) (vs : List Value) (t : Ty) → prim_of f ≡ Some p → Fits t (rules.primitive p vs) → Keeps (rules.primitive p vs) → Halts limit (Mild t) (called_name meaning code seen f vs)
  unfolding called_name
  by_prim code seen f p vs t e h k = subst (λ o. Halts limit (Mild t) (called_by meaning o code seen f vs)) (sym e) (given_halts limit t _ h k)

  by_service : (code : Program) (seen : ℕ) (f : Name) (d : Svc) (vs : List Value) → prim_of f ≡ None → service_of f code.svcs ≡ Some d → AreGoodValues d.params vs → Halts limit (Good d.result) (called_name meaning code seen f vs)
  unfolding called_name
  by_service code seen f d vs e g h =
      subst (λ o. Halts limit (Good d.result) (called_by meaning o code seen f vs)) (sym e)
      (subst (λ o. Halts limit (Good d.result) (served_or meaning o code seen f vs)) (sym g) (serve_halts limit d vs h))

  by_function : (code : Program) (seen : ℕ) (f : Name) (at : ℕ) (d : Fun) (vs : List Value) → CallsHalt code seen → prim_of f ≡ None → service_of f code.svcs ≡ None → place_of f (take seen code.funs) ≡ Some at
      → slice_get code.funs at ≡ Some d → AreGoodValues (param_types d.params) vs → Halts limit (Good d.result) (called_name meaning code seen f vs)
  unfolding called_name
  by_function code seen f at d vs q e g p l h =
      subst (λ o. Halts limit (Good d.result) (called_by meaning o code seen f vs)) (sym e)
      (subst (λ o. Halts limit (Good d.result) (served_or meaning o code seen f vs)) (sym g) (applied_good code seen f at d vs q p l h))

  along_left : (code : Program) (seen : ℕ) (f : Name) (at : ℕ) (d : Fun) (t u : Ty) → CallsHalt code seen → place_of f (take seen code.funs) ≡ Some at → slice_get code.funs at ≡ Some d
      → param_types d.params ≡ t ∷ u ∷ [] → d.result ≡ t → (acc : Value) (xs : List Value) → Good t acc → AllGood u xs → Halts limit (Good t) (left_along meaning code seen f acc xs)
  along_left code seen f at d t u y p l e q acc [] g h = pure_halts limit (Good t) acc g
  along_left code seen f at d t u y p l e q acc (x ∷ xs) g h =
      then_halts limit (Good d.result) (Good t) _ _ (applied_good code seen f at d (acc ∷ x ∷ []) y p l (subst (λ ts. AreGoodValues ts (acc ∷ x ∷ [])) (sym e) (g, (h.0, tt))))
      (λ v k. along_left code seen f at d t u y p l e q v xs (subst (λ z. Good z v) q k) h.1)

  along_right : (code : Program) (seen : ℕ) (f : Name) (at : ℕ) (d : Fun) (t u : Ty) → CallsHalt code seen → place_of f (take seen code.funs) ≡ Some at → slice_get code.funs at ≡ Some d
      → param_types d.params ≡ u ∷ t ∷ [] → d.result ≡ t → (acc : Value) (xs : List Value) → Good t acc → AllGood u xs → Halts limit (Good t) (right_along meaning code seen f acc xs)
  along_right code seen f at d t u y p l e q acc [] g h = pure_halts limit (Good t) acc g
  along_right code seen f at d t u y p l e q acc (x ∷ xs) g h =
      then_halts limit (Good d.result) (Good t) _ _ (applied_good code seen f at d (x ∷ acc ∷ []) y p l (subst (λ ts. AreGoodValues ts (x ∷ acc ∷ [])) (sym e) (h.0, (g, tt))))
      (λ v k. along_right code seen f at d t u y p l e q v xs (subst (λ z. Good z v) q k) h.1)

  handled_good : (code : Program) (seen : ℕ) (env : Env) (ks : List Clause) (t : Ty) → ClausesHalt code seen env t ks → (x : Exn) → Halts limit (Mild t) (handled_exception meaning code seen env ks x)
  handled_good code seen env [] t h x = raise_halts limit (Mild t) x
  handled_good code seen env (k ∷ ks) t h x = cond_halts limit (Mild t) (catches k.name x) _ _ (good_mild t h.0) (handled_good code seen env ks t h.1 x)

  literal_good : (code : Program) (seen : ℕ) (env : Env) (l : ExprLayer) (t : Ty) → literal_type l ≡ Some t → FormedLevel l → Halts limit (Mild t) (opened_at meaning code seen env l)
  literal_good code seen env Expr-F.Unit t e w = let same : ty.Unit ≡ t = cc in pure_halts limit (Mild t) value.Unit (λ _. (unit value.outs-Unit (sym same), form.a_unit value.Unit value.outs-Unit))
  literal_good code seen env (Expr-F.Bool b) t e w = let same : ty.Bool ≡ t = cc in pure_halts limit (Mild t) (value.Bool b) (λ _. (bool b (value.outs-Bool b) (sym same), form.a_bool (value.Bool b) b (value.outs-Bool b)))
  literal_good code seen env (Expr-F.Int n) t e w = let same : ty.Int ≡ t = cc in pure_halts limit (Mild t) (value.Int n) (λ _. (int n (value.outs-Int n) (sym same), form.an_int (value.Int n) n (value.outs-Int n)))
  literal_good code seen env (Expr-F.Char n) t e w = let same : ty.Char ≡ t = cc in pure_halts limit (Mild t) (value.Char n) (λ _. (char n (value.outs-Char n) (sym same), form.a_char (value.Char n) n (value.outs-Char n) w))
  literal_good code seen env (Expr-F.Str s) t e w = let same : ty.Str ≡ t = cc in pure_halts limit (Mild t) (value.Str s) (λ _. (str s (value.outs-Str s) (sym same), form.a_str (value.Str s) s (value.outs-Str s) w))
  literal_good code seen env (Expr-F.Blob b) t e w = let same : ty.Blob ≡ t = cc in pure_halts limit (Mild t) (value.Blob b) (λ _. (blob b (value.outs-Blob b) (sym same), form.a_blob (value.Blob b) b (value.outs-Blob b) w))
  literal_good code seen env (Expr-F.Host n) t e w = let same : ty.Host ≡ t = cc in pure_halts limit (Mild t) (value.Host n) (λ _. (host n (value.outs-Host n) (sym same), form.a_host (value.Host n) n (value.outs-Host n)))
  literal_good code seen env (Expr-F.Dev d) t e w = let same : ty.Dev ≡ t = cc in pure_halts limit (Mild t) (value.Dev d) (λ _. (dev d (value.outs-Dev d) (sym same), form.a_dev (value.Dev d) d (value.outs-Dev d)))
  literal_good code seen env _ t e w = cc

  just_unit : Halts limit (Mild ty.Unit) (pure value.Unit)
  just_unit = unit_halts limit

  just_bool : (x : Bool) → Halts limit (Mild ty.Bool) (pure (value.Bool x))
  just_bool x = pure_halts limit (Mild ty.Bool) (value.Bool x) (λ _. (bool x (value.outs-Bool x) refl, form.a_bool (value.Bool x) x (value.outs-Bool x)))

  abbrev Any : Unit {0} → Type 0
  Any u = Unit {0}

  -- an expression whose level is known
  at_level : (code : Program) (seen : ℕ) (env : Env) (e : Expr) (l : ExprLayer) (t : Ty) → out-Expr e ≡ l → Halts limit (Mild t) (opened_at meaning code seen env l) → Halts limit (Mild t) (opened_expression meaning code seen env e)
  unfolding opened_expression
  at_level code seen env e l t o h = subst (λ x. Halts limit (Mild t) (opened_at meaning code seen env x)) (sym o) h

  module _ (code : Program) (seen : ℕ) (env : Env) (y : GoodCode code) where
    abbrev Does : Ty → Expr → Type 0
    Does t e = Halts limit (Good t) (meaning code seen env e)

    choice_good : (t : Ty) (a b d : Expr) → Does ty.Bool a → Does t b → Does t d → Halts limit (Mild t) (m.choice meaning code seen env a b d)
    unfolding m.choice
    choice_good t a b d i j k =
        then_halts limit (Good ty.Bool) (Mild t) _ _ i (λ v g.
        known_then_halts limit (Mild t) (as_bool v) (truth v g.typed).0 _ (truth v g.typed).1
        (cond_halts limit (Mild t) (truth v g.typed).0 _ _ (good_mild t j) (good_mild t k)))

    both_good : (a b : Expr) → Does ty.Bool a → Does ty.Bool b → Halts limit (Mild ty.Bool) (m.conjunction meaning code seen env a b)
    unfolding m.conjunction
    both_good a b i j =
        then_halts limit (Good ty.Bool) (Mild ty.Bool) _ _ i (λ v g.
        known_then_halts limit (Mild ty.Bool) (as_bool v) (truth v g.typed).0 _ (truth v g.typed).1
        (cond_halts limit (Mild ty.Bool) (truth v g.typed).0 _ _ (good_mild ty.Bool j) (just_bool false)))

    either_good : (a b : Expr) → Does ty.Bool a → Does ty.Bool b → Halts limit (Mild ty.Bool) (m.disjunction meaning code seen env a b)
    unfolding m.disjunction
    either_good a b i j =
        then_halts limit (Good ty.Bool) (Mild ty.Bool) _ _ i (λ v g.
        known_then_halts limit (Mild ty.Bool) (as_bool v) (truth v g.typed).0 _ (truth v g.typed).1
        (cond_halts limit (Mild ty.Bool) (truth v g.typed).0 _ _ (just_bool true) (good_mild ty.Bool j)))

    negation_good : (a : Expr) → Does ty.Bool a → Halts limit (Mild ty.Bool) (m.negation meaning code seen env a)
    unfolding m.negation
    negation_good a i =
        then_halts limit (Good ty.Bool) (Mild ty.Bool) _ _ i (λ v g.
        known_then_halts limit (Mild ty.Bool) (as_bool v) (truth v g.typed).0 _ (truth v g.typed).1 (just_bool (not (truth v g.typed).0)))

    binder_good : (t u : Ty) (x : Name) (a b : Expr) → Does u a → ((v : Value) → Good u v → Halts limit (Good t) (meaning code seen (env ++ m.binds x v ∷ []) b)) → Halts limit (Mild t) (m.binding meaning code seen env x a b)
    unfolding m.binding
    binder_good t u x a b i j =
        then_halts limit (Good u) (Mild t) _ _ i (λ v g.
        good_mild t (j v g))

    sequence_good : (t : Ty) (a b : Expr) → Does ty.Unit a → Does t b → Halts limit (Mild t) (m.sequence meaning code seen env a b)
    unfolding m.sequence
    sequence_good t a b i j = then_halts limit (Good ty.Unit) (Mild t) _ _ i (λ v g. good_mild t j)

    operation_good : (t u w : Ty) (o : Op) (a b : Expr) → Does u a → Does w b → ((p q : Value) → Good u p → Good w q → Fits t (rules.binary o p q) × Keeps (rules.binary o p q))
        → Halts limit (Mild t) (m.operation meaning code seen env o a b)
    unfolding m.operation
    operation_good t u w o a b i j k =
        then_halts limit (Good u) (Mild t) _ _ i (λ p g. then_halts limit (Good w) (Mild t) _ _ j (λ q f.
        given_halts limit t _ (k p q g f).0 (k p q g f).1))

    selection_good : (t : Ty) (i : ℕ) (a : Expr) (ts : List Ty) → Does (ty.Tuple ts) a → part_of i ts ≡ Some t → Halts limit (Mild t) (m.selection meaning code seen env i a)
    unfolding m.selection
    selection_good t i a ts j e = then_halts limit (Good (ty.Tuple ts)) (Mild t) _ _ j (λ v g. given_halts limit t _ (given.selection_fits i v ts t g.typed e) (keeps.selection_keeps i v ts g.typed (formed_of v g.formed)))

    tuple_good : (es : List Expr) (ts : List Ty) → length es ≡ length ts → PartsHalt code seen env es ts → has_from_to 2 8 es ≡ true → IsShallow (ty.Tuple ts) → Halts limit (Mild (ty.Tuple ts)) (m.tuple meaning code seen env es)
    unfolding m.tuple
    tuple_good es ts z i n s =
        then_halts limit (AreGoodValues ts) (Mild (ty.Tuple ts)) _ _ (values_good code seen env es ts i) (λ vs g.
        pure_halts limit (Mild (ty.Tuple ts)) (value.Tuple vs) (λ _. (
          typing.tuple vs ts (value.outs-Tuple vs) refl (typed_all ts vs g),
          form.a_tuple (value.Tuple vs) vs (value.outs-Tuple vs)
              (subst (λ x. (nat_le 2 x && nat_le x 8) ≡ true) (z ∙ values_count ts vs g) n) (form.shapes vs (formed_all ts vs g)) (form.tuple_depth vs ts (typed_all ts vs g) s),
        )))

    call_good : (t : Ty) (f : Name) (es : List Expr) (ts : List Ty) → PartsHalt code seen env es ts
        → ((vs : List Value) → AreGoodValues ts vs → Halts limit (Mild t) (called_name meaning code seen f vs)) → Halts limit (Mild t) (m.call meaning code seen env f es)
    unfolding m.call
    call_good t f es ts i k = then_halts limit (AreGoodValues ts) (Mild t) _ _ (values_good code seen env es ts i) k

    packed_good : (f : Name) (es : List Expr) (at : ℕ) (d : Fun) → length es ≡ length (param_types d.params) → place_of f code.funs ≡ Some at → slice_get code.funs at ≡ Some d
        → PartsHalt code seen env es (param_types d.params) → nat_le (length es) 8 ≡ true → Halts limit (Mild ty.Chunk) (m.packed_chunk meaning code seen env f es)
    unfolding m.packed_chunk
    packed_good f es at d z p g i n =
        then_halts limit (AreGoodValues (param_types d.params)) (Mild ty.Chunk) _ _ (values_good code seen env es _ i) (λ vs k.
        pure_halts limit (Mild ty.Chunk) _ (made_chunk (record { code = code; entry = f; args = vs }) at d y.typed p g (typed_all _ vs k)
        (form.made_chunk (record { code = code; entry = f; args = vs }) y.formed (leb-true (length vs) 8 (subst (λ x. nat_le x 8 ≡ true) (z ∙ values_count _ vs k) n)) (formed_all _ vs k))))

    attempt_good : (t : Ty) (a : Expr) (ks : List Clause) → Does t a → ClausesHalt code seen env t ks → Halts limit (Mild t) (m.attempt meaning code seen env a ks)
    unfolding m.attempt
    attempt_good t a ks i j = rescue_halts limit (Mild t) _ _ (good_mild t i) (handled_good code seen env ks t j)

    fold_left_good : (t u : Ty) (f : Name) (a l : Expr) (at : ℕ) (d : Fun) → CallsHalt code seen → place_of f (take seen code.funs) ≡ Some at → slice_get code.funs at ≡ Some d → param_types d.params ≡ t ∷ u ∷ [] → d.result ≡ t
        → Does t a → Does (ty.List u) l → Halts limit (Mild t) (m.fold_left meaning code seen env f a l)
    unfolding m.fold_left
    fold_left_good t u f a l at d x p g e q i j =
        then_halts limit (Good t) (Mild t) _ _ i (λ acc k. then_halts limit (Good (ty.List u)) (Mild t) _ _ j (λ v w.
        known_then_halts limit (Mild t) (as_items v) (items u v w).0 _ (items u v w).1 (good_mild t (along_left code seen f at d t u x p g e q acc (items u v w).0 k (items u v w).2))))

    fold_right_good : (t u : Ty) (f : Name) (a l : Expr) (at : ℕ) (d : Fun) → CallsHalt code seen → place_of f (take seen code.funs) ≡ Some at → slice_get code.funs at ≡ Some d → param_types d.params ≡ u ∷ t ∷ [] → d.result ≡ t
        → Does t a → Does (ty.List u) l → Halts limit (Mild t) (m.fold_right meaning code seen env f a l)
    unfolding m.fold_right
    fold_right_good t u f a l at d x p g e q i j =
        then_halts limit (Good t) (Mild t) _ _ i (λ acc k. then_halts limit (Good (ty.List u)) (Mild t) _ _ j (λ v w.
        known_then_halts limit (Mild t) (as_items v) (items u v w).0 _ (items u v w).1
        (good_mild t (along_right code seen f at d t u x p g e q acc (reverse (items u v w).0) k (all_reversed u (items u v w).0 (items u v w).2)))))

    evaluation_good : (a : Expr) → EvalsHalt → Does ty.Chunk a → Halts limit (Mild ty.Unit) (m.evaluation meaning code seen env a)
    unfolding m.evaluation
    evaluation_good a q i =
        then_halts limit (Good ty.Chunk) (Mild ty.Unit) _ _ i (λ v g. let k = a_chunk v g in
        known_then_halts limit (Mild ty.Unit) (as_chunk v) k.0 _ k.1 (paid_halts limit (Mild ty.Unit) (visited_chunk meaning k.0 >> pure value.Unit) (λ c l.
        then_halts c {A = Value} (λ _. Unit {0}) (Mild ty.Unit) (visited_chunk meaning k.0) (λ _. pure value.Unit) (q c l k.0 k.2) (λ _ _. unit_halts c))))

    remote_good : (a b n : Expr) (route : Name) → Does ty.Chunk a → Does ty.Host b → Does ty.Int n → Halts limit (Mild ty.Unit) (m.remote meaning code seen env a b n route)
    unfolding m.remote
    remote_good a b n route i j k =
        then_halts limit (Good ty.Chunk) (Mild ty.Unit) _ _ i (λ v g. let ch = a_chunk v g in
        known_then_halts limit (Mild ty.Unit) (as_chunk v) ch.0 _ ch.1 (then_halts limit (Good ty.Host) (Mild ty.Unit) _ _ j (λ w g2. let ho = a_host w g2.typed in
        known_then_halts limit (Mild ty.Unit) (as_host w) ho.0 _ ho.1 (then_halts limit (Good ty.Int) (Mild ty.Unit) _ _ k (λ u g3. let nu = number u g3.typed in
        known_then_halts limit (Mild ty.Unit) (as_int u) nu.0 _ nu.1 (then_halts limit Any (Mild ty.Unit) _ _ (remote_halts limit ch.0 ho.0 nu.0 route ch.2) (λ _ _. just_unit)))))))

    neighbour_good : (a b n d : Expr) → Does ty.Chunk a → Does ty.Host b → Does ty.Int n → Does ty.Dev d → Halts limit (Mild ty.Unit) (m.neighbour meaning code seen env a b n d)
    unfolding m.neighbour
    neighbour_good a b n d i j k l =
        then_halts limit (Good ty.Chunk) (Mild ty.Unit) _ _ i (λ v g. let ch = a_chunk v g in
        known_then_halts limit (Mild ty.Unit) (as_chunk v) ch.0 _ ch.1 (then_halts limit (Good ty.Host) (Mild ty.Unit) _ _ j (λ w g2. let ho = a_host w g2.typed in
        known_then_halts limit (Mild ty.Unit) (as_host w) ho.0 _ ho.1 (then_halts limit (Good ty.Int) (Mild ty.Unit) _ _ k (λ u g3. let nu = number u g3.typed in
        known_then_halts limit (Mild ty.Unit) (as_int u) nu.0 _ nu.1 (then_halts limit (Good ty.Dev) (Mild ty.Unit) _ _ l (λ x g4. let de = a_dev x g4.typed in
        known_then_halts limit (Mild ty.Unit) (as_dev x) de.0 _ de.1 (then_halts limit Any (Mild ty.Unit) _ _ (neighbour_halts limit ch.0 ho.0 nu.0 de.0 ch.2) (λ _ _. just_unit)))))))))

    one_item : (f : Name) (p : Primitive) (u t : Ty) → prim_of f ≡ Some p → of_list p u ≡ Some t → (vs : List Value) → AreGoodValues (ty.List u ∷ []) vs → Halts limit (Mild t) (called_name meaning code seen f vs)
    one_item f p u t i q [] g = absurd g
    one_item f p u t i q (v ∷ []) g = by_prim code seen f p (v ∷ []) t i (given.of_items p u t v g.0.typed q) (keeps.of_items p u t v g.0.typed (formed_of v g.0.formed) q)
    one_item f p u t i q (v ∷ w ∷ vs) g = absurd g.1

  -- an expression by its outermost level
  halts_by_level : (code : Program) (seen : ℕ) (env : Env) (e : Expr) (l : ExprLayer) (t : Ty) → out-Expr e ≡ l → Halts limit (Mild t) (opened_at meaning code seen env l) → Halts limit (Good t) (meaning code seen env e)
  unfolding node opened_expression
  halts_by_level code seen env e l t o h =
      subst (λ p. Halts limit (Good t) p) (λ i s. sym (meaning_is_fixed code seen env e s) i)
      (whole_halts limit t _ (subst (λ x. Halts limit (Mild t) (opened_at meaning code seen env x)) (sym o) h))

  -- tests of parts
  two_formed : (x y : Expr) → (formed_expr x && formed_expr y) ≡ true → (formed_expr x ≡ true) × (formed_expr y ≡ true)
  two_formed x y w = both_true (formed_expr x) (formed_expr y) w

  three_formed : (x y z : Expr) → (formed_expr x && (formed_expr y && formed_expr z)) ≡ true → (formed_expr x ≡ true) × (formed_expr y ≡ true) × (formed_expr z ≡ true)
  three_formed x y z w = let k = both_true (formed_expr x) (formed_expr y && formed_expr z) w in let l = both_true (formed_expr y) (formed_expr z) k.1 in (k.0, l.0, l.1)

  module _ (code : Program) (y : GoodCode code) (evals : EvalsHalt) where
    mutual
      pub expr_halts : {seen : ℕ} {c : List Param} {e : Expr} {t : Ty} → HasTy code seen c e t → formed_expr e ≡ true → CallsHalt code seen → (env : Env) → HasEnv c env → Halts limit (Good t) (meaning code seen env e)
      expr_halts {seen = seen} {e = e} {t = t} (literal o) w q env h = halts_by_level code seen env e _ t refl (literal_good code seen env (out-Expr e) t o (level_formed e (out-Expr e) refl w))
      expr_halts {seen = seen} {c = c} {e = e} {t = t} (variable x o k) w q env h =
          let n = agreed_value_good t (binding x c) (value_of x env) k (bindings_agree x c env h) in
          halts_by_level code seen env e _ t o (known_halts limit (Mild t) (value_of x env) n.0 n.1 (λ _. (n.2.typed, formed_of n.0 n.2.formed)))
      expr_halts {seen = seen} {e = e} {t = t} (empty u o k s) w q env h =
          halts_by_level code seen env e _ t o (pure_halts limit (Mild t) (value.List u []) (λ _. (list u [] (value.outs-List u []) k no_items, form.empty_list u t k s (level_formed e (Expr-F.Nil (Some u)) o w))))
      expr_halts {seen = seen} {e = e} {t = t} (raising x o i s) w q env h = halts_by_level code seen env e _ t o (raise_halts limit (Mild t) (m.named_exception x))
      expr_halts {seen = seen} {e = e} {t = t} (tuple es ts o k n s) w q env h =
          let z = level_formed e (Expr-F.Tuple es) o w in
          halts_by_level code seen env e _ t o
          (at_type t _ _ n
          (tuple_good code seen env y es ts (types_count k) (parts_halt k (and_right (has_from_to 2 8 es) (list_all formed_expr es) z) q env h)
          (and_left (has_from_to 2 8 es) (list_all formed_expr es) z) (subst IsShallow n s)))
      expr_halts {seen = seen} {e = e} {t = t} (part i a ts o k n) w q env h =
          halts_by_level code seen env e _ t o (selection_good code seen env y t i a ts (expr_halts k (and_right (nat_le 1 i && nat_le i 8) (formed_expr a) (level_formed e (Expr-F.Part i a) o w)) q env h) n)
      expr_halts {seen = seen} {e = e} {t = t} (of_items f a p u o i k n) w q env h =
          let z = and_right (nat_le (length (a ∷ [])) 8) (list_all formed_expr (a ∷ [])) (level_formed e (Expr-F.Call f (a ∷ [])) o w) in
          halts_by_level code seen env e _ t o (call_good code seen env y t f (a ∷ []) (ty.List u ∷ []) (expr_halts k (and_left (formed_expr a) true z) q env h, tt) (λ vs g. one_item code seen env y f p u t i n vs g))
      expr_halts {seen = seen} {e = e} {t = t} (primitive f es p ts o i k l n) w q env h =
          let z = and_right (nat_le (length es) 8) (list_all formed_expr es) (level_formed e (Expr-F.Call f es) o w) in
          halts_by_level code seen env e _ t o (at_type t _ _ n (call_good code seen env y (makes p) f es ts (parts_halt l z q env h) (λ vs g.
          let x = given.of_values p ts vs k (typed_all ts vs g) in by_prim code seen f p vs (makes p) i x (keeps.of_values p ts vs k x))))
      expr_halts {seen = seen} {e = e} {t = t} (serving f es d o i k l n) w q env h =
          let z = and_right (nat_le (length es) 8) (list_all formed_expr es) (level_formed e (Expr-F.Call f es) o w) in
          halts_by_level code seen env e _ t o (at_type t _ _ n (call_good code seen env y d.result f es d.params (parts_halt l z q env h) (λ vs g. good_mild d.result (by_service code seen f d vs i k g))))
      expr_halts {seen = seen} {e = e} {t = t} (call f es at d o i j k l n p) w q env h =
          let z = and_right (nat_le (length es) 8) (list_all formed_expr es) (level_formed e (Expr-F.Call f es) o w) in
          halts_by_level code seen env e _ t o (at_type t _ _ p (call_good code seen env y d.result f es (param_types d.params) (parts_halt n z q env h) (λ vs g. good_mild d.result (by_function code seen f at d vs q i j k l g))))
      expr_halts {seen = seen} {e = e} {t = t} (choice x z d o i j k) w q env h =
          let n = three_formed x z d (level_formed e (Expr-F.If x z d) o w) in
          halts_by_level code seen env e _ t o (choice_good code seen env y t x z d (expr_halts i n.0 q env h) (expr_halts j n.1 q env h) (expr_halts k n.2 q env h))
      expr_halts {seen = seen} {c = c} {e = e} {t = t} (binder x u a z o i j) w q env h =
          let n = two_formed a z (and_right (well_formed_type u) (formed_expr a && formed_expr z) (level_formed e (Expr-F.Let x u a z) o w)) in
          halts_by_level code seen env e _ t o (binder_good code seen env y t u x a z (expr_halts i n.0 q env h) (λ v g. expr_halts j n.1 q (env ++ m.binds x v ∷ []) (env_behind c env (record { name = x; ty = u }) v h g)))
      expr_halts {seen = seen} {e = e} {t = t} (sequence a z o i j) w q env h =
          let n = two_formed a z (level_formed e (Expr-F.Then a z) o w) in halts_by_level code seen env e _ t o (sequence_good code seen env y t a z (expr_halts i n.0 q env h) (expr_halts j n.1 q env h))
      expr_halts {seen = seen} {e = e} {t = t} (both a z o i j k) w q env h =
          let n = two_formed a z (level_formed e (Expr-F.And a z) o w) in halts_by_level code seen env e _ t o (at_type t _ _ k (both_good code seen env y a z (expr_halts i n.0 q env h) (expr_halts j n.1 q env h)))
      expr_halts {seen = seen} {e = e} {t = t} (either a z o i j k) w q env h =
          let n = two_formed a z (level_formed e (Expr-F.Or a z) o w) in halts_by_level code seen env e _ t o (at_type t _ _ k (either_good code seen env y a z (expr_halts i n.0 q env h) (expr_halts j n.1 q env h)))
      expr_halts {seen = seen} {e = e} {t = t} (negation a o i k) w q env h =
          halts_by_level code seen env e _ t o (at_type t _ _ k (negation_good code seen env y a (expr_halts i (level_formed e (Expr-F.Not a) o w) q env h)))
      expr_halts {seen = seen} {e = e} {t = t} (calculation op a z o k i j l) w q env h =
          let n = two_formed a z (level_formed e (Expr-F.Binary op a z) o w) in
          halts_by_level code seen env e _ t o (at_type t _ _ l (operation_good code seen env y ty.Int ty.Int ty.Int op a z (expr_halts i n.0 q env h) (expr_halts j n.1 q env h) (λ v u f g.
          let x = given.calculation_fits op v u k f.typed g.typed in (x, keeps.plain ty.Int Ty-F.Int ty.outs-Int refl _ x))))
      expr_halts {seen = seen} {e = e} {t = t} (join op a z o k i l j) w q env h =
          let n = two_formed a z (level_formed e (Expr-F.Binary op a z) o w) in
          halts_by_level code seen env e _ t o (operation_good code seen env y t t t op a z (expr_halts i n.0 q env h) (expr_halts j n.1 q env h) (λ v u f g.
          let x = given.concatenation_fits op v u t k l f.typed g.typed in (x, keeps.concatenation_keeps op v u t k l f.typed g.typed (formed_of v f.formed) (formed_of u g.formed) x)))
      expr_halts {seen = seen} {e = e} {t = t} (comparison op a z u o k i j l) w q env h =
          let n = two_formed a z (level_formed e (Expr-F.Binary op a z) o w) in
          halts_by_level code seen env e _ t o (at_type t _ _ l (operation_good code seen env y ty.Bool u u op a z (expr_halts i n.0 q env h) (expr_halts j n.1 q env h) (λ v r f g.
          let x = given.comparison_fits op v r k in (x, keeps.plain ty.Bool Ty-F.Bool ty.outs-Bool refl _ x))))
      expr_halts {seen = seen} {e = e} {t = t} (order op a z u o k i p j l) w q env h =
          let n = two_formed a z (level_formed e (Expr-F.Binary op a z) o w) in
          halts_by_level code seen env e _ t o (at_type t _ _ l (operation_good code seen env y ty.Bool u u op a z (expr_halts i n.0 q env h) (expr_halts j n.1 q env h) (λ v r f g.
          let x = given.order_fits op v r u k p f.typed g.typed in (x, keeps.plain ty.Bool Ty-F.Bool ty.outs-Bool refl _ x))))
      expr_halts {seen = seen} {e = e} {t = t} (prefix op a z u o k i j l s) w q env h =
          let n = two_formed a z (level_formed e (Expr-F.Binary op a z) o w) in
          halts_by_level code seen env e _ t o (at_type t _ _ l (operation_good code seen env y (ty.List u) u (ty.List u) op a z (expr_halts i n.0 q env h) (expr_halts j n.1 q env h) (λ v r f g.
          (given.put op v r u k f.typed g.typed, keeps.put op v r u k g.typed (formed_of v f.formed) (formed_of r g.formed) (form.item_depth v u t f.typed l s)))))
      expr_halts {seen = seen} {e = e} {t = t} (handling a ks o i j) w q env h =
          let z = both_true (formed_expr a) ((has_from_to 1 8 ks && names_all_but_last (λ k. is_some k.name) ks) && list_all (λ k. formed_expr k.body) ks) (level_formed e (Expr-F.Try a ks) o w) in
          halts_by_level code seen env e _ t o (attempt_good code seen env y t a ks (expr_halts i z.0 q env h)
          (clauses_halt j (and_right (has_from_to 1 8 ks && names_all_but_last (λ k. is_some k.name) ks) (list_all (λ k. formed_expr k.body) ks) z.1) q env h))
      expr_halts {seen = seen} {e = e} {t = t} (fold_left f a l at d u o p g k r i j) w q env h =
          let n = two_formed a l (level_formed e (Expr-F.Foldl f a l) o w) in
          halts_by_level code seen env e _ t o (fold_left_good code seen env y t u f a l at d q p g k r (expr_halts i n.0 q env h) (expr_halts j n.1 q env h))
      expr_halts {seen = seen} {e = e} {t = t} (fold_right f a l at d u o p g k r i j) w q env h =
          let n = two_formed a l (level_formed e (Expr-F.Foldr f a l) o w) in
          halts_by_level code seen env e _ t o (fold_right_good code seen env y t u f a l at d q p g k r (expr_halts i n.0 q env h) (expr_halts j n.1 q env h))
      expr_halts {seen = seen} {e = e} {t = t} (packing f es at d o p g k r) w q env h =
          let z = level_formed e (Expr-F.ChunkOf f es) o w in
          halts_by_level code seen env e _ t o
          (at_type t _ _ r
          (packed_good code seen env y f es at d (types_count k) p g (parts_halt k (and_right (nat_le (length es) 8) (list_all formed_expr es) z) q env h)
          (and_left (nat_le (length es) 8) (list_all formed_expr es) z)))
      expr_halts {seen = seen} {e = e} {t = t} (evaluation a o i k) w q env h =
          halts_by_level code seen env e _ t o (at_type t _ _ k (evaluation_good code seen env y a evals (expr_halts i (level_formed e (Expr-F.Eval a) o w) q env h)))
      expr_halts {seen = seen} {e = e} {t = t} (remote a x z r o i j k l) w q env h =
          let n = three_formed a x z (level_formed e (Expr-F.OnRemote a x z r) o w) in
          halts_by_level code seen env e _ t o (at_type t _ _ l (remote_good code seen env y a x z r (expr_halts i n.0 q env h) (expr_halts j n.1 q env h) (expr_halts k n.2 q env h)))
      expr_halts {seen = seen} {e = e} {t = t} (neighbour a x z d o i j k l p) w q env h =
          let n = both_true (formed_expr a && formed_expr x) (formed_expr z && formed_expr d) (level_formed e (Expr-F.OnNeighbor a x z d) o w) in
          let front = two_formed a x n.0 in
          let last = two_formed z d n.1 in
          halts_by_level code seen env e _ t o (at_type t _ _ p (neighbour_good code seen env y a x z d (expr_halts i front.0 q env h) (expr_halts j front.1 q env h) (expr_halts k last.0 q env h) (expr_halts l last.1 q env h)))

      parts_halt : {seen : ℕ} {c : List Param} {es : List Expr} {ts : List Ty} → HaveTys code seen c es ts → list_all formed_expr es ≡ true → CallsHalt code seen → (env : Env) → HasEnv c env → PartsHalt code seen env es ts
      parts_halt no_parts w q env h = tt
      parts_halt (and_part {e = e} {es = es} k l) w q env h = (expr_halts k (and_left (formed_expr e) (list_all formed_expr es) w) q env h, parts_halt l (and_right (formed_expr e) (list_all formed_expr es) w) q env h)

      clauses_halt : {seen : ℕ} {c : List Param} {ks : List Clause} {t : Ty} → ClausesHaveTy code seen c ks t → list_all (λ k. formed_expr k.body) ks ≡ true → CallsHalt code seen → (env : Env) → HasEnv c env → ClausesHalt code seen env t ks
      clauses_halt no_clauses w q env h = tt
      clauses_halt (and_clause {k = k} {ks = ks} a d l) w q env h = (
        expr_halts d (and_left (formed_expr k.body) (list_all (λ j. formed_expr j.body) ks) w) q env h,
        clauses_halt l (and_right (formed_expr k.body) (list_all (λ j. formed_expr j.body) ks) w) q env h,
      )

    entered_halts : (at : ℕ) (d : Fun) (args : List Value) → slice_get code.funs at ≡ Some d → AreGoodValues (param_types d.params) args → CallsHalt code at → Halts limit (Good d.result) (entered_function meaning code at args)
    unfolding entered_function bound
    entered_halts at d args g k q =
        let n = bound_good [] [] d.params args tt k in
        known_then_halts limit (Good d.result) (slice_get code.funs at) d _ g (known_then_halts limit (Good d.result) (bound_behind [] d.params args) n.0 _ n.1
        (expr_halts (y.typed.bodies at d g) (form.body_formed code at d y.formed g) q n.0 n.2))

    -- the functions before a place, in turn
    pub calls_halt : (n : ℕ) → CallsHalt code n
    calls_halt zero at d args l g k = absurd (not-suc-le-zero l)
    calls_halt (suc n) at d args l g k = entered_halts at d args g k (λ at' d' args' l'. calls_halt n at' d' args' (omega arith))

  chunk_args_good : (k : Chunk) (d : Fun) → HaveTypes k.args (param_types d.params) → formed_chunk k ≡ true → 1 + chunk_weight k ≤ 16384 → chunk_nesting k ≤ 4 → AreGoodValues (param_types d.params) k.args
  chunk_args_good k d h o w n = good_all h (form.chunk_args k o) (args_weight k w) (args_nesting k n)

  -- a chunk at its entry, where chunks with a lower purse halt
  chunk_halts : EvalsHalt → (k : Chunk) → IsTypedChunk k → formed_chunk k ≡ true → (at : ℕ) (d : Fun) → place_of k.entry k.code.funs ≡ Some at → slice_get k.code.funs at ≡ Some d → Halts limit (Good d.result) (visited_chunk meaning k)
  unfolding visited_chunk
  chunk_halts q k (within at' d' t p g h n w) o at d e l =
      let same_place : at' ≡ at = let x : Some at' ≡ Some at = sym p ∙ e in cc in
      let same_fun : d' ≡ d = let x : Some d' ≡ Some d = sym g ∙ ap (λ i. slice_get k.code.funs i) same_place ∙ l in cc in
      let code : GoodCode k.code = record { typed = t; formed = form.chunk_code k o } in
      subst (λ f. Halts limit (Good f.result) (applied_at meaning k.code (place_of k.entry k.code.funs) k.args)) same_fun
      (applied_at_good k.code (place_of k.entry k.code.funs) at' (Good d'.result) k.args p (calls_halt k.code code q (suc at') at' d' k.args (omega arith) g (chunk_args_good k d' h o w n)))

-- chunks with a purse below a number halt
entry_halts : (b : ℕ) → EvalsHalt b → (k : Chunk) → IsTypedChunk k → formed_chunk k ≡ true → Halts b {A = Value} (λ _. Unit {0}) (visited_chunk meaning k)
entry_halts b q k (within at d t p g h n w) o = mild_halts b (Good d.result) (λ _. Unit {0}) (λ _ _. tt) _ (chunk_halts b q k (within at d t p g h n w) o at d p g)

evals_halt : (n : ℕ) → EvalsHalt n
evals_halt zero c l k g = absurd (not-suc-le-zero l)
evals_halt (suc n) c l k g = entry_halts c (λ c' l'. evals_halt n c' (omega arith)) k g.typed (form.formed_of_chunk k g.formed)

means_halt : (b : ℕ) (code : Program) (seen : ℕ) (c : List Param) (env : Env) (e : Expr) (t : Ty) → Typed code → IsWellFormedProgram code → HasTy code seen c e t → IsWellFormedExpr e → HasEnv c env
    → Halts b (Good t) (meaning code seen env e)
means_halt b code seen c env e t y f k w h =
    let good : GoodCode code = record { typed = y; formed = f } in
    expr_halts b code good (evals_halt b) k (form.expr_formed e w) (calls_halt b code good (evals_halt b) seen) env h

visit_halts : (b : ℕ) (k : Chunk) (at : ℕ) (d : Fun) → IsGoodChunk k → place_of k.entry k.code.funs ≡ Some at → slice_get k.code.funs at ≡ Some d → Halts b (Good d.result) (visited_chunk meaning k)
visit_halts b k at d g = chunk_halts b (evals_halt b) k g.typed (form.formed_of_chunk k g.formed) at d

at_purse : (s : VisitState) → IsGoodState s → Inv s.ctx.purse s
at_purse s g = record { good = g; purse = omega arith }

pub soundness : (code : Program) (seen : ℕ) (c : List Param) (env : Env) (e : Expr) (t : Ty) → Typed code → IsWellFormedProgram code → HasTy code seen c e t → IsWellFormedExpr e → HasEnv c env → Yields (Good t) (meaning code seen env e)
soundness code seen c env e t y f k w h s g = (means_halt s.ctx.purse code seen c env e t y f k w h s (at_purse s g)).right

pub visit_soundness : (k : Chunk) (at : ℕ) (d : Fun) → IsGoodChunk k → place_of k.entry k.code.funs ≡ Some at → slice_get k.code.funs at ≡ Some d → Yields (Good d.result) (visited_chunk meaning k)
visit_soundness k at d g p l s i = (visit_halts s.ctx.purse k at d g p l s (at_purse s i)).right

pub ends : (code : Program) (seen : ℕ) (c : List Param) (env : Env) (e : Expr) (t : Ty) → Typed code → IsWellFormedProgram code → HasTy code seen c e t → IsWellFormedExpr e → HasEnv c env
    → (s : VisitState) → IsGoodState s → EndsFrom (meaning code seen env e) s
ends code seen c env e t y f k w h s g = (means_halt s.ctx.purse code seen c env e t y f k w h s (at_purse s g)).ends

entry_ends : (k : Chunk) → IsTypedChunk k → formed_chunk k ≡ true → (s : VisitState) → IsGoodState s → EndsFrom (visited_chunk meaning k) s
entry_ends k t o s g = (entry_halts s.ctx.purse (evals_halt s.ctx.purse) k t o s (at_purse s g)).ends

pub visit_ends : (k : Chunk) → IsGoodChunk k → (s : VisitState) → IsGoodState s → EndsFrom (visited_chunk meaning k) s
visit_ends k g s i = entry_ends k g.typed (form.formed_of_chunk k g.formed) s i
