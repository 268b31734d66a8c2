-- The test for equal values is true exactly where they are equal.
use Rattle.std.proofs.Common.{◌≡◌, true, Decides, refl, ap, subst}
use Rattle.std.proofs.lemmas.Bool.{eqb-true, eq-eqb, false≢true}
use Rattle.std.specs.Cmp.Derive.{both_true}
use Rattle.containers.proofs.Bools.{and_left, and_right}
use base.Stored.{Gv, gnil, gnum, gcons, Coded}
use Rattle.plan_base.specs.declared.tree.Value.{Value}
use Rattle.plan_base.specs.contracts.tree.Value as value
use Rattle.plan_types_spec.specs.Code.{same_code}
use Rattle.plan_types_spec.specs.Same.{same_value}

equal : (x y : Gv) → same_code x y ≡ true → x ≡ y
equal gnil gnil e = refl
equal (gnum m) (gnum n) e = ap gnum (eqb-true m n e)
equal (gcons a b) (gcons c d) e = λ i. gcons (equal a c (and_left _ _ e) i) (equal b d (and_right (same_code a c) _ e) i)
equal gnil (gnum n) e = absurd (false≢true e)
equal gnil (gcons c d) e = absurd (false≢true e)
equal (gnum m) gnil e = absurd (false≢true e)
equal (gnum m) (gcons c d) e = absurd (false≢true e)
equal (gcons a b) gnil e = absurd (false≢true e)
equal (gcons a b) (gnum n) e = absurd (false≢true e)

itself : (x : Gv) → same_code x x ≡ true
itself gnil = refl
itself (gnum n) = eq-eqb n n refl
itself (gcons a b) = both_true (itself a) (itself b)

decides : {A : Type 0} (c : Coded A) (a b : A) → Decides (same_code (c.code a) (c.code b)) (a ≡ b)
decides c a b = (λ e. c.inj a b (equal _ _ e), λ e. subst (λ x. same_code (c.code a) (c.code x) ≡ true) e (itself (c.code a)))

pub same_value_decides : (a b : Value) → Decides (same_value a b) (a ≡ b)
unfolding same_value
same_value_decides a b = decides value.the_row.coded a b
