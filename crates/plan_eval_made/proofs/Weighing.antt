-- What numbers and truth values weigh, and expressions that give a number at once.
use Rattle.std.proofs.Common.{◌≡◌, arith, ◌+◌, Bool, ℤ, [], ◌∷◌, slice_get, Some, None, refl, ap, ◌∙◌, subst}
use Rattle.plan_base.specs.declared.name.Name.{Name}
use Rattle.plan_base.specs.declared.tree.Expr.{Expr, Expr-F}
use Rattle.plan_base.specs.declared.tree.Op.{Op}
use Rattle.plan_base.specs.declared.tree.Value.{Value}
use Rattle.plan_base.specs.declared.tree.Value as value
use Rattle.plan_base.specs.Sizes.{weight, nesting}
use Rattle.plan_base.proofs.SizeLaws.{weight_out, nesting_out}
use Rattle.plan_base.specs.Trees.{trees}
use Rattle.plan_meaning.specs.declared.stop.EvalStop.{EvalStop}
use Rattle.plan_meaning.specs.declared.stop.EvalStop.TheVariants.{WorkSpent}
use Rattle.plan_meaning.specs.State.{VisitState}
use Rattle.plan_meaning.specs.Run.{RunStep, gave, stopped, quiet, pure, «next», ◌>>=◌, given_value, spend, weighed_value, is_too_large}
use Rattle.plan_meaning.specs.Meaning.{value_of}
use Rattle.plan_meaning.specs.Safe.{IsSafe}
use Rattle.plan_types_spec.specs.Rules.{binary}
use Rattle.plan_eval_state.specs.Leads.{Leads}
use Rattle.plan_eval_state.specs.declared.continuation.Continuation.TheVariants.{Part}
use Rattle.plan_eval_state.specs.Spots.{Spot, layer, means, begins, resume}
use Rattle.plan_eval_state.specs.Laws.{at_part, makes}
use Rattle.plan_eval_state.proofs.Leading.{onward, given_on, settled}
use Rattle.plan_eval_state.specs.Forms.{IsOperation, operands}
use Rattle.plan_eval_state.proofs.Going.{begun, resumed_along}
use Rattle.plan_eval_state.proofs.Flowing.{safe_inside}
use Rattle.plan_eval_state.proofs.Lawful.{begins_first, goes_on, makes_last, stops}
use Rattle.plan_eval_made.specs.Comes.{pending}
use Rattle.plan_eval_made.specs.Makes.{IsNumber}

weight_bool : (b : Bool) → weight (value.Bool b) ≡ 2
weight_bool b = grind (arith, weight_out, trees)

nesting_bool : (b : Bool) → nesting (value.Bool b) ≡ 0
nesting_bool b = grind (arith, nesting_out, trees)

weight_int : (n : ℤ) → weight (value.Int n) ≡ 9
weight_int n = grind (arith, weight_out, trees)

nesting_int : (n : ℤ) → nesting (value.Int n) ≡ 0
nesting_int n = grind (arith, nesting_out, trees)

module _ (b : Bool) (s s1 : VisitState) where
  pub weighs_two : (spend 2 s).after ≡ gave tt s1 → (weighed_value (value.Bool b) s).after ≡ gave (value.Bool b) s1
  unfolding weighed_value is_too_large
  weighs_two h = rw (weight_bool b, nesting_bool b) (ap (λ r. («next» r (λ _. pure (value.Bool b))).after) h)

  pub stops_two : (x : EvalStop) → (spend 2 s).after ≡ stopped x s1 → (weighed_value (value.Bool b) s).after ≡ stopped x s1
  unfolding weighed_value is_too_large
  stops_two x h = rw (weight_bool b, nesting_bool b) (ap (λ r. («next» r (λ _. pure (value.Bool b))).after) h)

module _ (n : ℤ) (s s1 : VisitState) where
  pub weighs_nine : (spend 9 s).after ≡ gave tt s1 → (weighed_value (value.Int n) s).after ≡ gave (value.Int n) s1
  unfolding weighed_value is_too_large
  weighs_nine h = rw (weight_int n, nesting_int n) (ap (λ r. («next» r (λ _. pure (value.Int n))).after) h)

  pub stops_nine : (x : EvalStop) → (spend 9 s).after ≡ stopped x s1 → (weighed_value (value.Int n) s).after ≡ stopped x s1
  unfolding weighed_value is_too_large
  stops_nine x h = rw (weight_int n, nesting_int n) (ap (λ r. («next» r (λ _. pure (value.Int n))).after) h)

-- ---- an expression that gives a number at once

module _ (s : Spot) (i : ℤ) (is : IsNumber s i) (st t : VisitState) (safe : IsSafe (means s st).asks) where
  pub number_comes : (u : VisitState) → (spend 1 st).after ≡ gave tt t → (spend 9 t).after ≡ gave tt u → (means s st).after ≡ gave (value.Int i) u
  number_comes u one nine = let b = begun s st t one in b.same safe ∙ (is t).same (b.safe safe) ∙ weighs_nine i t u nine

  pub number_unweighed : (u : VisitState) → (spend 1 st).after ≡ gave tt t → (spend 9 t).after ≡ stopped WorkSpent u → (means s st).after ≡ stopped WorkSpent u
  number_unweighed u one nine = let b = begun s st t one in b.same safe ∙ (is t).same (b.safe safe) ∙ stops_nine i t u WorkSpent nine

-- what a name or a numeral gives
pub name_number : (s : Spot) (x : Name) (n : ℤ) → layer s ≡ Expr-F.Var x → value_of x s.env ≡ Some (value.Int n) → IsNumber s n
name_number s x n form is = λ st. rw (form, is) (given_on (value.Int n) st weighed_value)

pub numeral_number : (s : Spot) (n : ℤ) → layer s ≡ Expr-F.Int n → IsNumber s n
numeral_number s n form = λ st. rw form (given_on (value.Int n) st weighed_value)

-- ---- an operator whose numbers are at hand

module _ (s : Spot) (o : Op) (a b : Expr) (form : layer s ≡ Expr-F.Binary o a b) where
  first_there : slice_get (operands (layer s)) 0 ≡ Some a
  first_there = rw form refl

  second_there : slice_get (operands (layer s)) (0 + 1) ≡ Some b
  second_there = rw form refl

  none_left : slice_get (operands (layer s)) (1 + 1) ≡ None
  none_left = rw form refl

  is_operation : IsOperation (layer s)
  is_operation = rw form tt

  -- what is made of both values
  pub operator_made : (x y : Value) (st : VisitState) → makes s (x ∷ y ∷ []) st ≡ (given_value (binary o x y) >>= weighed_value) st
  operator_made x y st = rw form refl

  left_leads : (st : VisitState) → Leads (begins s st) (resume s (Part 0) [] (means (at_part s a) st))
  left_leads st = begins_first s st a is_operation first_there

  pub left_safe : (st : VisitState) → IsSafe (begins s st).asks → IsSafe (means (at_part s a) st).asks
  left_safe st safe = safe_inside s (Part 0) [] (means (at_part s a) st) ((left_leads st).safe safe)

  pub left_spent : (st t : VisitState) → IsSafe (begins s st).asks → (means (at_part s a) st).after ≡ stopped WorkSpent t → (begins s st).after ≡ stopped WorkSpent t
  left_spent st t safe spent = (left_leads st).same safe ∙ stops s (Part 0) [] (means (at_part s a) st) WorkSpent t tt spent

  -- behind the first value comes the second operand
  right_leads : (v : Value) (st : VisitState) → Leads (pending s (v ∷ []) st) (resume s (Part 1) (v ∷ []) (means (at_part s b) st))
  right_leads v st = goes_on s st 0 [] v b second_there

  pub right_safe : (v : Value) (st : VisitState) → IsSafe (pending s (v ∷ []) st).asks → IsSafe (means (at_part s b) st).asks
  right_safe v st safe = safe_inside s (Part 1) (v ∷ []) (means (at_part s b) st) ((right_leads v st).safe safe)

  pub right_spent : (v : Value) (st t : VisitState) → IsSafe (pending s (v ∷ []) st).asks → (means (at_part s b) st).after ≡ stopped WorkSpent t
      → (pending s (v ∷ []) st).after ≡ stopped WorkSpent t
  right_spent v st t safe spent = (right_leads v st).same safe ∙ stops s (Part 1) (v ∷ []) (means (at_part s b) st) WorkSpent t tt spent

  pub left_came : (v : Value) (st t : VisitState) → (means (at_part s a) st).after ≡ gave v t → Leads (begins s st) (pending s (v ∷ []) t)
  left_came v st t came = onward _ _ _ (left_leads st) (resumed_along s (Part 0) [] _ _ (settled _ (gave v t) came))

  pub right_came : (v w : Value) (st t : VisitState) → (means (at_part s b) st).after ≡ gave w t
      → Leads (pending s (v ∷ []) st) ((given_value (binary o v w) >>= weighed_value) t)
  right_came v w st t came =
      onward _ _ _ (right_leads v st) (onward _ _ _ (resumed_along s (Part 1) (v ∷ []) _ _ (settled _ (gave w t) came))
      (subst (λ (r : RunStep Value). Leads (resume s (Part 1) (v ∷ []) (quiet (gave w t))) r) (operator_made v w t) (makes_last s t 1 (v ∷ []) w none_left)))
