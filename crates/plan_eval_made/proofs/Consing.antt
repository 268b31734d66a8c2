-- An item before a list: what it weighs, and where it passes the limits.
use Rattle.std.proofs.Common.{◌≡◌, ◌≢◌, ◌<◌, ◌≤◌, ℕ, ◌+◌, arith, min, max, Bool, true, false, if◌then◌else◌, List, ◌∷◌, Result, Ok, Err, refl, sym, ap, ◌∙◌}
use Rattle.std.specs.Prelude.{nat_lt}
use Rattle.std.proofs.lemmas.Bool.{lt-ltb, le-ltb}
use Rattle.std.specs.List.{sum_by}
use Rattle.std.proofs.lemmas.List.Sums.{sum_by-cons}
use Rattle.plan_base.specs.declared.tree.Op.TheVariants as op
use Rattle.plan_base.specs.declared.tree.Ty.{Ty}
use Rattle.plan_base.specs.declared.tree.Value.{Value, Value-F, out-Value}
use Rattle.plan_base.specs.declared.tree.Value as value
use Rattle.plan_base.specs.Sizes.{weight, nesting, type_size, largest_by, weight_level, chunk_weight, nesting_level, chunk_nesting}
use Rattle.plan_base.proofs.SizeLaws.{weight_out, nesting_out}
use Rattle.plan_base.specs.Trees.{ValueLayer, trees}
use Rattle.plan_types_spec.specs.Rules.{Given, gives, raises, unfit, too_large, limited_value, put_first, binary}
use Rattle.plan_meaning.specs.declared.stop.EvalStop.{EvalStop}
use Rattle.plan_meaning.specs.declared.stop.EvalStop.TheVariants.{Raised, WorkSpent, Wrong, NoMemory}
use Rattle.plan_meaning.specs.State.{VisitState}
use Rattle.plan_meaning.specs.Run.{RunStep, gave, stopped, and_then, given_value, weighed_value}
use Rattle.visit_state.specs.Meets.{MeetsUnweighed}
use Rattle.plan_eval_made.proofs.Rows.{largest_cons}

cons_is : (x xs : Value) → binary op.Cons x xs ≡ put_first x (out-Value xs)
unfolding binary
cons_is x xs = refl

out_list : (t : Ty) (vs : List Value) → out-Value (value.List t vs) ≡ Value-F.List t vs
out_list t vs = grind (arith, trees)

never_unfit : (b : Bool) (v : Value) → unfit ≡ (if b then raises too_large else gives v) → ⊥
never_unfit true v h = cc
never_unfit false v h = cc

limited_so : (v : Value) → limited_value v ≡ (if nat_lt 16384 (weight v) then raises too_large else gives v)
unfolding limited_value
limited_so v = refl

-- it is a list
list_of : (l : ValueLayer) (x v : Value) → put_first x l ≡ limited_value v → (t : Ty) × (vs : List Value) × (l ≡ Value-F.List t vs)
list_of (Value-F.List t vs) x v h = (t, vs, refl)
list_of _ x v h = absurd (never_unfit (nat_lt 16384 (weight v)) v (h ∙ limited_so v))

weight_list : (xs : Value) (t : Ty) (vs : List Value) → out-Value xs ≡ Value-F.List t vs → weight xs ≡ 3 + type_size t + sum_by weight vs
weight_list xs t vs is = weight_out xs ∙ ap (weight_level weight chunk_weight) is

nesting_list : (xs : Value) (t : Ty) (vs : List Value) → out-Value xs ≡ Value-F.List t vs → nesting xs ≡ largest_by nesting vs
nesting_list xs t vs is = nesting_out xs ∙ ap (nesting_level nesting chunk_nesting) is

module _ (x xs v : Value) (made : put_first x (out-Value xs) ≡ limited_value v) where
  abbrev ty : Ty
  ty = (list_of (out-Value xs) x v made).0

  abbrev items : List Value
  items = (list_of (out-Value xs) x v made).1

  abbrev whole : Value
  whole = value.List ty (x ∷ items)

  is_list : out-Value xs ≡ Value-F.List ty items
  is_list = (list_of (out-Value xs) x v made).2

  first_is : put_first x (out-Value xs) ≡ limited_value whole
  first_is = ap (put_first x) is_list

  weight_is : weight whole ≡ weight x + weight xs
  weight_is =
      let more : sum_by weight (x ∷ items) ≡ weight x + sum_by weight items = sum_by-cons weight x items in
      omega (arith, weight_list whole ty (x ∷ items) (out_list ty (x ∷ items)), weight_list xs ty items is_list, more)

  nesting_is : nesting whole ≡ max (nesting x) (nesting xs)
  nesting_is = nesting_list whole ty (x ∷ items) (out_list ty (x ∷ items)) ∙ largest_cons nesting x items ∙ ap (max (nesting x)) (sym (nesting_list xs ty items is_list))

  over : 16384 < weight whole → limited_value whole ≡ raises too_large
  over h = limited_so whole ∙ ap (λ b. (if b then raises too_large else gives whole)) (lt-ltb 16384 (weight whole) h)

  within : weight whole ≤ 16384 → limited_value whole ≡ gives whole
  within h = limited_so whole ∙ ap (λ b. (if b then raises too_large else gives whole)) (le-ltb 16384 (weight whole) h)

  either_given : (b : Bool) (w : Value) → gives w ≡ (if b then raises too_large else gives v) → w ≡ v
  either_given true w h = cc
  either_given false w h = cc

  small_is : weight whole ≤ 16384 → whole ≡ v
  small_is h = either_given (nat_lt 16384 (weight v)) whole (sym (within h) ∙ sym first_is ∙ made ∙ limited_so v)

  -- both weights in sum, each of them and the sum up to a limit
  module _ (a b t m : ℕ) (wx : a ≡ min (weight x) m) (wxs : b ≡ min (weight xs) m) (sum : t ≡ min (a + b) m) (high : 16384 < m) where
    pub too_heavy : 16384 < t → (st : VisitState) → (and_then (given_value (binary op.Cons x xs) st) weighed_value).after ≡ stopped (Raised too_large) st
    too_heavy h st =
        let heavy : 16384 < weight whole = omega (arith, weight_is, wx, wxs, sum, h, high) in
        rw (cons_is x xs ∙ first_is ∙ over heavy) refl

    light : t ≤ 16384 → weight whole ≤ 16384
    light h = omega (arith, weight_is, wx, wxs, sum, h, high)

    pub weight_of : t ≤ 16384 → t ≡ min (weight v) m
    weight_of h =
        let w : weight v ≡ weight x + weight xs = sym (ap weight (small_is (light h))) ∙ weight_is in
        omega (arith, w, wx, wxs, sum)

    pub nesting_of : t ≤ 16384 → (c d u k : ℕ) → c ≡ min (nesting x) k → d ≡ min (nesting xs) k → u ≡ max c d → u ≡ min (nesting v) k
    nesting_of h c d u k nx nxs most =
        let w : nesting v ≡ max (nesting x) (nesting xs) = sym (ap nesting (small_is (light h))) ∙ nesting_is in
        omega (arith, w, nx, nxs, most)

    pub light_ends : t ≤ 16384 → (st : VisitState) → (and_then (given_value (binary op.Cons x xs) st) weighed_value).after ≡ (weighed_value v st).after
    light_ends h st = rw (cons_is x xs ∙ first_is ∙ within (light h) ∙ ap gives (small_is (light h))) refl

-- what isn't a list stops
pub cons_stops : (x xs : Value) (e : EvalStop) (st : VisitState) → MeetsUnweighed (put_first x (out-Value xs)) (Err e) → e ≢ NoMemory
    → (and_then (given_value (binary op.Cons x xs) st) weighed_value).after ≡ stopped e st
cons_stops x xs (Raised y) st h other = rw (cons_is x xs ∙ h) refl
cons_stops x xs Wrong st h other = rw (cons_is x xs ∙ h) refl
cons_stops x xs NoMemory st h other = absurd (other refl)
cons_stops x xs WorkSpent st h other = absurd h
