-- What forms make of the values of their operands, over plain variables.
use Rattle.std.proofs.Common.{◌≡◌, ◌≢◌, ◌<◌, ◌≤◌, ℕ, zero, suc, ◌+◌, ℤ, arith, Bool, not, List, [], ◌∷◌, ◌++◌, length, length-append, reverse, take, Option, Some, None, Result, Ok, Err, refl, sym, ap, ◌∙◌, subst}
use Rattle.containers.proofs.Options.{none-some, some-same}
use Rattle.plan_base.specs.declared.name.Name.{Name}
use Rattle.plan_base.specs.declared.prim.Primitive.{Primitive}
use Rattle.plan_base.specs.declared.tree.Svc.{Svc}
use Rattle.plan_base.specs.declared.tree.Expr.{Expr, Expr-F}
use Rattle.plan_base.specs.declared.tree.Op.{Op}
use Rattle.plan_base.specs.declared.tree.Value.{Value}
use Rattle.plan_base.specs.declared.tree.Value as value
use Rattle.plan_base.specs.declared.tree.Program.{Program}
use Rattle.plan_base.specs.Trees.{ExprLayer}
use Rattle.plan_types_spec.specs.TypingNames.{prim_of}
use Rattle.plan_types_spec.specs.Rules.{Given, gives, binary, part, primitive}
use Rattle.service_api.specs.Services.{ServiceState}
use Rattle.plan_meaning.specs.declared.stop.EvalStop.{EvalStop}
use Rattle.plan_meaning.specs.declared.stop.EvalStop.TheVariants.{Raised, WorkSpent, Wrong, NoMemory}
use Rattle.plan_meaning.specs.State.{VisitState, joined_state}
use Rattle.plan_meaning.specs.Run.{RunStep, gave, stopped, «next», and_then, ◌>>=◌, pure, given_value, serve, weighed_value}
use Rattle.plan_meaning.specs.Meaning.{as_bool, called_name}
use Rattle.plan_meaning.specs.Safe.{IsSafe}
use Rattle.visit_state.specs.Meets.{Meets, MeetsGiven}
use Rattle.plan_eval_state.specs.declared.progress.Progress.{Progress}
use Rattle.plan_eval_state.specs.declared.progress.Progress.TheVariants as came
use Rattle.plan_eval_state.specs.declared.run.Run.{Run}
use Rattle.plan_eval_state.specs.Forms.{operands}
use Rattle.plan_eval_state.specs.Spots.{Spot, layer}
use Rattle.plan_eval_state.specs.Flow.{now, Flows}
use Rattle.plan_eval_state.specs.Laws.{makes}
use Rattle.plan_eval_state.proofs.Ending.{flows_same}
use Rattle.plan_eval_made.specs.Makes.{Stays}
use Rattle.plan_eval_made.proofs.Rows.{fronts}

-- what ended over the stack that is left, from a state that stays, ended so for the whole
pub ended_under : (s : Spot) (old mid : Run) (pre : List Value) (want : VisitState → RunStep Value) (other : RunStep Value) (p : Progress) (new : Run) (n : ServiceState)
    → Stays old mid → mid.stack ≡ pre → p ≢ came.Wait → (want (now mid n)).after ≡ other.after → Flows s mid.stack other p new n → Flows s pre (want (now old n)) p new n
ended_under s old mid pre want other p new n stays left settled same h =
    let state : now mid n ≡ now old n = ap (λ o. joined_state o n) stays.state in
    subst (λ (st : VisitState). Flows s pre (want st) p new n) state
    (subst (λ (l : List Value). Flows s l (want (now mid n)) p new n) left (flows_same s mid.stack (want (now mid n)) other p new n settled same h))

-- ---- as many values as operands

pub one_held : (held : List Value) → length held ≡ 1 → (v : Value) × (held ≡ v ∷ [])
one_held [] h = absurd (omega (arith, h))
one_held (v ∷ []) h = (v, refl)
one_held (v ∷ w ∷ more) h = absurd (omega (arith, h))

pub two_held : (held : List Value) → length held ≡ 2 → (w : Value) × (v : Value) × (held ≡ w ∷ v ∷ [])
two_held [] h = absurd (omega (arith, h))
two_held (w ∷ []) h = absurd (omega (arith, h))
two_held (w ∷ v ∷ []) h = (w, v, refl)
two_held (w ∷ v ∷ u ∷ more) h = absurd (omega (arith, h))

module _ (s : Spot) (st : VisitState) where
  pub tuple_makes : (es : List Expr) (vs row : List Value) → layer s ≡ Expr-F.Tuple es → row ≡ vs → (makes s vs st).after ≡ (weighed_value (value.Tuple row) st).after
  tuple_makes es vs row form is = rw (form, is) refl

  pub chunk_makes : (f : Name) (es : List Expr) (code : Program) (vs row : List Value) → layer s ≡ Expr-F.ChunkOf f es → s.code ≡ code → row ≡ vs
      → (makes s vs st).after ≡ (weighed_value (value.Chunk (record { code = code; entry = f; args = row })) st).after
  chunk_makes f es code vs row form same is = rw (form, same, is) refl

  pub primitive_makes : (f : Name) (es : List Expr) (p : Primitive) (vs row : List Value) → layer s ≡ Expr-F.Call f es → prim_of f ≡ Some p → row ≡ vs
      → (makes s vs st).after ≡ (and_then (given_value (primitive p row) st) weighed_value).after
  unfolding called_name
  primitive_makes f es p vs row form prim is = rw (form, prim, is) refl

  pub binary_makes : (o : Op) (a b : Expr) (x y : Value) → layer s ≡ Expr-F.Binary o a b → (makes s (x ∷ y ∷ []) st).after ≡ (and_then (given_value (binary o x y) st) weighed_value).after
  binary_makes o a b x y form = rw form refl

  pub not_makes : (a : Expr) (v : Value) (b : Bool) → layer s ≡ Expr-F.Not a → as_bool v ≡ Some b → (makes s (v ∷ []) st).after ≡ (weighed_value (value.Bool (not b)) st).after
  not_makes a v b form is = rw (form, is) refl

  pub part_makes : (i : ℕ) (a : Expr) (v : Value) → layer s ≡ Expr-F.Part i a → (makes s (v ∷ []) st).after ≡ (and_then (given_value (part i v) st) weighed_value).after
  part_makes i a v form = rw form refl

-- so many operands
pub many_of : (l : ExprLayer) (es : List Expr) (held : List Value) (n : ℕ) → operands l ≡ es → length es ≡ n → length held ≡ length (operands l) → length held ≡ n
many_of l es held n is many all = all ∙ ap length is ∙ many

-- what was taken off is what was held
pub one_under : (stack rest held pre : List Value) (x : Value) → stack ≡ x ∷ rest → stack ≡ held ++ pre → length held ≡ 1 → (held ≡ x ∷ []) × (rest ≡ pre)
one_under stack rest held pre x is all many =
    let same = fronts (x ∷ []) rest held pre (sym is ∙ all) (sym many) in
    (sym same.0, same.1)

pub two_under : (stack mid rest held pre : List Value) (y x : Value) → stack ≡ y ∷ mid → mid ≡ x ∷ rest → stack ≡ held ++ pre → length held ≡ 2 → (held ≡ y ∷ x ∷ []) × (rest ≡ pre)
two_under stack mid rest held pre y x is next all many =
    let same = fronts (y ∷ x ∷ []) rest held pre (sym (is ∙ ap (λ l. y ∷ l) next) ∙ all) (sym many) in
    (sym same.0, same.1)

pub none_under : (stack held pre : List Value) (n : ℕ) → stack ≡ [] → stack ≡ held ++ pre → length held ≡ suc n → ⊥
none_under stack held pre n is all many =
    let same : length (held ++ pre) ≡ 0 = ap length (sym all ∙ is) in
    omega (arith, same, length-append held pre, many)

pub one_alone : (stack mid held pre : List Value) (y : Value) (n : ℕ) → stack ≡ y ∷ mid → mid ≡ [] → stack ≡ held ++ pre → length held ≡ suc (suc n) → ⊥
one_alone stack mid held pre y n is next all many =
    let same : length (held ++ pre) ≡ 1 = ap length (sym all ∙ is ∙ ap (λ l. y ∷ l) next) in
    omega (arith, same, length-append held pre, many)

-- what ended over what is left of the stack ended so for what was held
pub ended_held : (s : Spot) (rest pre held vs : List Value) (st : VisitState) (other : RunStep Value) (p : Progress) (new : Run) (n : ServiceState)
    → rest ≡ pre → reverse held ≡ vs → p ≢ came.Wait → (makes s vs st).after ≡ other.after → Flows s rest other p new n → Flows s pre (makes s (reverse held) st) p new n
ended_held s rest pre held vs st other p new n left turned settled same h =
    subst (λ (l : List Value). Flows s pre (makes s l st) p new n) (sym turned)
    (subst (λ (l : List Value). Flows s l (makes s vs st) p new n) left (flows_same s rest (makes s vs st) other p new n settled same h))

pub as_many_as : (l m : ExprLayer) (held : List Value) → l ≡ m → length held ≡ length (operands l) → length held ≡ length (operands m)
as_many_as l m held form all = all ∙ ap (λ k. length (operands k)) form

-- ---- what an operator or a primitive gives

pub meets_given : (g : Given) (r : Result Value EvalStop) (st : VisitState) → MeetsGiven g r → Meets (given_value g st) r st
meets_given g (Ok v) st h = rw h refl
meets_given g (Err (Raised x)) st h = λ other. rw h refl
meets_given g (Err Wrong) st h = λ other. rw h refl
meets_given g (Err NoMemory) st h = λ other. absurd (other refl)
meets_given g (Err WorkSpent) st h = absurd h

pub given_ends : (g : Given) (v : Value) (st : VisitState) → g ≡ gives v → (and_then (given_value g st) weighed_value).after ≡ (weighed_value v st).after
given_ends g v st h = rw h refl

pub not_wrong : (s : Spot) (a : Expr) (held : List Value) (v : Value) (st : VisitState) → layer s ≡ Expr-F.Not a → held ≡ v ∷ [] → as_bool v ≡ None → (makes s (reverse held) st).after ≡ stopped Wrong st
not_wrong s a held v st form is none = rw (form, is, none) refl

-- so many are on the stack
pub safe_taken : (d : Svc) (stack row : List Value) (n : ℕ) (st : VisitState) → row ≡ reverse (take n stack) → IsSafe (serve d (reverse (take n stack)) st).asks → IsSafe (serve d row st).asks
safe_taken d stack row n st is safe = subst (λ (l : List Value). IsSafe (serve d l st).asks) (sym is) safe

pub turned_one : (s : Spot) (held : List Value) (v : Value) (st : VisitState) → held ≡ v ∷ [] → (makes s (reverse held) st).after ≡ (makes s (v ∷ []) st).after
turned_one s held v st is = ap (λ l. (makes s (reverse l) st).after) is

pub stays_wrong : (s : Spot) (want : VisitState → RunStep Value) (old mid : Run) (n : ServiceState) → Stays old mid → (want (now mid n)).after ≡ stopped Wrong (now mid n)
    → (want (now old n)).after ≡ stopped Wrong (now mid n)
stays_wrong s want old mid n stays is = ap (λ o. (want (joined_state o n)).after) (sym stays.state) ∙ is

pub both_numbers : (o : Op) (x y : Value) (m n : ℤ) (st : VisitState) → x ≡ value.Int m → y ≡ value.Int n
    → (and_then (given_value (binary o x y) st) weighed_value).after ≡ (and_then (given_value (binary o (value.Int m) (value.Int n)) st) weighed_value).after
both_numbers o x y m n st left right = rw (left, right) refl

pub same_operands : (o : Op) (x y v w : Value) (st : VisitState) → v ≡ x → w ≡ y
    → (and_then (given_value (binary o v w) st) weighed_value).after ≡ (and_then (given_value (binary o x y) st) weighed_value).after
same_operands o x y v w st left right = rw (left, right) refl

-- ---- services

pub safe_served : (d : Svc) (args row all : List Value) (st u : VisitState) → args ≡ row → row ≡ all → st ≡ u → IsSafe (serve d all u).asks → IsSafe (serve d args st).asks
safe_served d args row all st u is there same safe =
    subst (λ (t : VisitState). IsSafe (serve d args t).asks) (sym same) (subst (λ (l : List Value). IsSafe (serve d l u).asks) (sym (is ∙ there)) safe)

-- what a service answered ends the expression so
pub served_so : (d : Svc) (args row all : List Value) (st u : VisitState) → args ≡ row → row ≡ all → st ≡ u
    → (and_then (serve d all u) weighed_value).after ≡ (and_then (serve d args st) weighed_value).after
served_so d args row all st u is there same =
    sym (ap (λ (t : VisitState). (and_then (serve d args t) weighed_value).after) same ∙ ap (λ (l : List Value). (and_then (serve d l u) weighed_value).after) (is ∙ there))

-- ---- sends

pub sent_gives : (want : RunStep (Unit {0})) (given : Result (Unit {0}) EvalStop) (u : Unit {0}) (w : Value) (st : VisitState) → given ≡ Ok u → w ≡ value.Unit → Meets want given st
    → (and_then (and_then want (λ _. pure value.Unit)) weighed_value).after ≡ (weighed_value w st).after
sent_gives want given u w st is same meets =
    let there : want.after ≡ gave u st = subst (λ (r : Result (Unit {0}) EvalStop). Meets want r st) is meets in
    ap (λ a. («next» («next» a (λ _. pure value.Unit)).after weighed_value).after) there ∙ ap (λ v. (weighed_value v st).after) (sym same)

pub unsent : (want : RunStep (Unit {0})) (given : Result (Unit {0}) EvalStop) (e : EvalStop) (st : VisitState) → given ≡ Err e → Meets want given st → e ≢ NoMemory
    → (and_then (and_then want (λ _. pure value.Unit)) weighed_value).after ≡ stopped e st
unsent want given e st is meets other =
    let there : e ≢ NoMemory → want.after ≡ stopped e st = subst (λ (r : Result (Unit {0}) EvalStop). Meets want r st) is meets in
    ap (λ a. («next» («next» a (λ _. pure value.Unit)).after weighed_value).after) (there other)
