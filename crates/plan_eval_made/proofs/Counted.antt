-- Operators of two values that are numbers.
use Rattle.std.proofs.Common.{◌≡◌, ℤ, refl, arith}
use Rattle.std.specs.Prelude.{int_lt, not}
use Rattle.plan_base.specs.declared.tree.Op.{Op}
use Rattle.plan_base.specs.declared.tree.Op.TheVariants as op
use Rattle.plan_base.specs.declared.tree.Value.{Value, Value-F, out-Value}
use Rattle.plan_base.specs.declared.tree.Value as value
use Rattle.plan_base.specs.Trees.{trees}
use Rattle.plan_types_spec.specs.Rules.{gives, unfit, binary, computed_number}

out_int : (n : ℤ) → out-Value (value.Int n) ≡ Value-F.Int n
out_int n = grind (arith, trees)

no_value : {v : Value} → unfit ≡ gives v → ⊥
no_value h = cc

pub by_numbers : (o : Op) (a b n : ℤ) → computed_number o a b ≡ gives (value.Int n) → binary o (value.Int a) (value.Int b) ≡ gives (value.Int n)
unfolding binary
by_numbers op.Add a b n h = rw (out_int a, out_int b) h
by_numbers op.Sub a b n h = rw (out_int a, out_int b) h
by_numbers op.Mul a b n h = rw (out_int a, out_int b) h
by_numbers op.Div a b n h = rw (out_int a, out_int b) h
by_numbers op.Mod a b n h = rw (out_int a, out_int b) h
by_numbers _ a b n h = absurd (no_value h)

-- tests of the order of two numbers
module _ (a b : ℤ) where
  pub lt_is : binary op.Lt (value.Int a) (value.Int b) ≡ gives (value.Bool (int_lt a b))
  unfolding binary
  lt_is = rw (out_int a, out_int b) refl

  pub le_is : binary op.Le (value.Int a) (value.Int b) ≡ gives (value.Bool (not (int_lt b a)))
  unfolding binary
  le_is = rw (out_int a, out_int b) refl

  pub gt_is : binary op.Gt (value.Int a) (value.Int b) ≡ gives (value.Bool (int_lt b a))
  unfolding binary
  gt_is = rw (out_int a, out_int b) refl

  pub ge_is : binary op.Ge (value.Int a) (value.Int b) ≡ gives (value.Bool (not (int_lt a b)))
  unfolding binary
  ge_is = rw (out_int a, out_int b) refl
