-- How bodies end, and what a name gives, over plain variables.
use Rattle.std.proofs.Common.{◌≡◌, ◌<◌, ◌≤◌, ℕ, zero, suc, ◌+◌, ◌-◌, ℤ, arith, List, [], ◌∷◌, ◌++◌, length, length-append, take, drop, Option, Some, None, IfSome, refl, sym, ap, ◌∙◌, subst}
use Rattle.std.proofs.lemmas.List.{take-append-drop, append_assoc}
use Rattle.plan_base.specs.declared.name.Name.{Name}
use Rattle.plan_base.specs.declared.tree.Expr.{Expr, Expr-F, out-Expr}
use Rattle.plan_base.specs.declared.tree.Value.{Value, Value-F, out-Value}
use Rattle.plan_base.specs.declared.tree.Value as value
use Rattle.plan_base.specs.Trees.{ValueLayer, trees}
use Rattle.containers.proofs.Options.{none-some, some-same}
use Rattle.service_api.specs.Services.{ServiceState}
use Rattle.plan_meaning.specs.declared.stop.EvalStop.TheVariants.{Wrong}
use Rattle.plan_meaning.specs.State.{VisitState}
use Rattle.plan_meaning.specs.Run.{RunStep, gave, stopped, «next», or_wrong, and_then, weighed_value}
use Rattle.plan_meaning.specs.Meaning.{value_of, int_at, as_int}
use Rattle.plan_eval_state.specs.Places.{at_place}
use Rattle.plan_eval_state.specs.Spots.{Spot, layer, begins}
use Rattle.plan_eval_state.specs.Loop.{place_named}
use Rattle.plan_eval_state.proofs.Named.{names_stand, no_name_stands}
use Rattle.plan_eval_made.specs.declared.here.Here.{Here}
use Rattle.plan_eval_made.specs.Where.{names_here, places_here, bound_at, spot, AreBelow}
use Rattle.plan_eval_made.specs.Makes.{IsNumber}
use Rattle.plan_eval_made.proofs.Weighing.{name_number}
use Rattle.plan_eval_made.proofs.Standing.{names_bound, as_many, env_stands}

length_drop : {A : Type 0} (n : ℕ) (xs : List A) → n ≤ length xs → length (drop n xs) ≡ length xs - n
length_drop zero xs h = omega arith
length_drop (suc n) [] h = absurd (omega (arith, h))
length_drop (suc n) (x ∷ xs) h = let same : length (drop n xs) ≡ length xs - n = length_drop n xs (omega (arith, h)) in omega (arith, same)

-- a stack that is higher than a place has a last value over what stands below that place
pub last_over : {A : Type 0} (stack : List A) (base : ℕ) → base < length stack → (x : A) × (held : List A) × (pre : List A) × (stack ≡ x ∷ (held ++ pre)) × (base ≡ length pre)
last_over [] base h = absurd (omega (arith, h))
last_over (x ∷ rest) base h =
    let n : length rest - base ≤ length rest = omega arith in
    let low : length (drop (length rest - base) rest) ≡ length rest - (length rest - base) = length_drop (length rest - base) rest n in (
      x,
      take (length rest - base) rest,
      drop (length rest - base) rest,
      ap (λ l. x ∷ l) (sym (take-append-drop (length rest - base) rest)),
      omega (arith, low, h),
    )

pub has_one : {A : Type 0} (stack rest : List A) (x : A) → stack ≡ x ∷ rest → 0 < length stack
has_one stack rest x is = let e : length stack ≡ suc (length rest) = ap length is in omega (arith, e)

-- ---- names

module _ (here : Here) (e : Expr) (stack : List Value) (x : Name) (h : AreBelow (places_here here) (length stack)) where
  -- the value of a name stands at its place
  pub value_stands : (i : ℕ) → Some i ≡ place_named x (names_here here) (places_here here) → value_of x (spot here e stack).env ≡ at_place stack i
  value_stands i is =
      names_stand x (spot here e stack).env (places_here here) stack i (env_stands (names_here here) (places_here here) stack (as_many here) h)
      (ap (λ (l : List Name). place_named x l (places_here here)) (names_bound (names_here here) (places_here here) stack (as_many here)) ∙ sym is)

  pub no_value_stands : None ≡ place_named x (names_here here) (places_here here) → value_of x (spot here e stack).env ≡ None
  no_value_stands is =
      no_name_stands x (spot here e stack).env (places_here here) stack (env_stands (names_here here) (places_here here) stack (as_many here) h)
      (ap (λ (l : List Name). place_named x l (places_here here)) (names_bound (names_here here) (places_here here) stack (as_many here)) ∙ sym is)

-- a name gives its value, weighed
pub name_gives : (s : Spot) (x : Name) (v : Value) (st : VisitState) → layer s ≡ Expr-F.Var x → value_of x s.env ≡ Some v → (begins s st).after ≡ (weighed_value v st).after
name_gives s x v st form is = rw (form, is) refl

pub name_missing : (s : Spot) (x : Name) (st : VisitState) → layer s ≡ Expr-F.Var x → value_of x s.env ≡ None → (begins s st).after ≡ stopped Wrong st
name_missing s x st form is = rw (form, is) refl

-- ---- numbers

int_of_layer : (l : ValueLayer) (n : ℤ) → int_at l ≡ Some n → l ≡ Value-F.Int n
int_of_layer (Value-F.Int m) n h = ap Value-F.Int (some-same h)
int_of_layer _ n h = absurd (none-some h)

int_of : (v : Value) (n : ℤ) → out-Value v ≡ Value-F.Int n → v ≡ value.Int n
int_of v n h = grind (arith, trees)

pub int_is : (v : Value) (n : ℤ) → as_int v ≡ Some n → v ≡ value.Int n
unfolding as_int
int_is v n h = int_of v n (int_of_layer (out-Value v) n h)

-- a number that stands at the place of a name
pub number_named : (here : Here) (stack : List Value) (x : Name) (i : ℕ) (v : Value) (r : Option ℤ) → AreBelow (places_here here) (length stack)
    → Some i ≡ place_named x (names_here here) (places_here here) → at_place stack i ≡ Some v → r ≡ as_int v
    → IfSome r (λ n. (e : Expr) → out-Expr e ≡ Expr-F.Var x → IsNumber (spot here e stack) n)
number_named here stack x i v (Some n) h is there number =
    λ e form. name_number (spot here e stack) x n form (value_stands here e stack x h i is ∙ there ∙ ap Some (int_is v n (sym number)))
number_named here stack x i v None h is there number = tt
