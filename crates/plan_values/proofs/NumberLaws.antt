-- Numbers of 64 bits, and the quotients and remainders of them.
use Rattle.std.proofs.Common.{◌≡◌, ◌≢◌, ℕ, zero, suc, ◌<◌, true, false, ℤ, pos, negsuc, FitsSigned, w64, refl, arith}
use Rattle.std.specs.Prelude.{int_div, int_rem}
use Rattle.std.specs.Int.{cast_unsigned, CanDivide}
use Rattle.std.proofs.lemmas.Bool.{le-leb, lt-leb}
use Rattle.std.proofs.lemmas.Bool.Decides.{nat_tests}
use Rattle.plan_base.specs.declared.tree.Value.TheVariants as value
use Rattle.plan_types_spec.specs.Rules.{is_zero, bounded_number, divided_number, remainder, gives, raises, overflow, division_by_zero}

pub bounded_in : (z : ℤ) → FitsSigned w64 z → bounded_number z ≡ gives (value.Int z)
unfolding bounded_number
bounded_in (pos n) h = let l : n < 9223372036854775808 = h.sfits in rw (le-leb n 9223372036854775807 (omega arith)) refl
bounded_in (negsuc n) h = let l : n < 9223372036854775808 = h.sfits in rw (le-leb n 9223372036854775807 (omega arith)) refl

over : (n : ℕ) → ¬ (n < 9223372036854775808) → 9223372036854775807 < n
over n h = omega arith

pub bounded_out : (z : ℤ) → ¬ (FitsSigned w64 z) → bounded_number z ≡ raises overflow
unfolding bounded_number
bounded_out (pos n) h = rw (lt-leb n 9223372036854775807 (over n (λ l. h (record { sfits = l })))) refl
bounded_out (negsuc n) h = rw (lt-leb n 9223372036854775807 (over n (λ l. h (record { sfits = l })))) refl

pub ruleset bounds = (bounded_in, bounded_out)

zero_tested : (b : ℤ) → b ≡ pos 0 → is_zero b ≡ true
zero_tested b e = rw e refl

other_tested : (b : ℤ) → b ≢ pos 0 → is_zero b ≡ false
other_tested (pos zero) h = absurd (h refl)
other_tested (pos (suc n)) h = grind (arith, nat_tests)
other_tested (negsuc n) h = refl

pub other_bits : (b : ℤ) → FitsSigned w64 b → b ≢ pos 0 → 0 < cast_unsigned w64 b
other_bits (pos zero) f h = absurd (h refl)
other_bits (pos (suc n)) f h = omega arith
other_bits (negsuc n) f h = let l : n < 9223372036854775808 = f.sfits in omega arith

pub divided_by_zero : (a b : ℤ) → b ≡ pos 0 → divided_number a b ≡ raises division_by_zero
unfolding divided_number
divided_by_zero a b e = rw (zero_tested b e) refl

pub divided_in : (a b : ℤ) → b ≢ pos 0 → FitsSigned w64 (int_div a b) → divided_number a b ≡ gives (value.Int (int_div a b))
unfolding divided_number
divided_in a b h f = rw (other_tested b h) (bounded_in (int_div a b) f)

pub divided_out : (a b : ℤ) → b ≢ pos 0 → FitsSigned w64 b → ¬ (CanDivide w64 a b) → divided_number a b ≡ raises overflow
unfolding divided_number
divided_out a b h f n = rw (other_tested b h) (bounded_out (int_div a b) (λ g. n (other_bits b f h, g)))

pub remainder_by_zero : (a b : ℤ) → b ≡ pos 0 → remainder a b ≡ raises division_by_zero
unfolding remainder
remainder_by_zero a b e = rw (zero_tested b e) refl

pub remainder_in : (a b : ℤ) → b ≢ pos 0 → FitsSigned w64 (int_rem a b) → remainder a b ≡ gives (value.Int (int_rem a b))
unfolding remainder
remainder_in a b h f = rw (other_tested b h) (bounded_in (int_rem a b) f)

pub ruleset quotients = (divided_by_zero, divided_in, divided_out, other_bits)

pub ruleset remainders = (remainder_by_zero, remainder_in, other_bits)
