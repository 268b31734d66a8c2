-- Whether an eval is paid.
use Rattle.std.proofs.Common.{◌≡◌, ℕ, true, false, ◌==◌, arith}
use Rattle.std.specs.Prelude.{pos}
use Rattle.std.proofs.lemmas.Bool.Decides.{nat_tests}
use Rattle.plan_meaning.specs.Meaning.{is_paid}

pub eval_is_paid : (purse : ℕ) → is_paid (pos 1) purse ≡ true → (purse == 0) ≡ false
eval_is_paid purse h = grind (arith, nat_tests)

pub eval_is_unpaid : (purse : ℕ) → is_paid (pos 1) purse ≡ false → (purse == 0) ≡ true
eval_is_unpaid purse h = grind (arith, nat_tests)
