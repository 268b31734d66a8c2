-- Whether a bound is paid, by natural numbers.
use Rattle.std.proofs.Common.{◌≡◌, ℕ, zero, suc, ◌≤◌, ◌<◌, true, if◌then◌else◌, Some, None, refl, arith}
use Rattle.std.specs.Prelude.{ℤ, pos, negsuc, ◌<ℤ◌, ◌≤ℤ◌, unsigned_abs}
use Rattle.std.proofs.lemmas.Bool.{le-leb, lt-leb}
use Rattle.std.proofs.lemmas.Bool.Decides.{nat_tests}
use Rattle.std.proofs.lemmas.Int.{ints}
use Rattle.plan_meaning.specs.Meaning.{is_paid, bound_of}

pub paid_below : (n : ℤ) (purse : ℕ) → n <ℤ pos 1 → (if is_paid n purse then Some (bound_of n) else None) ≡ None
paid_below (pos zero) purse h = refl
paid_below (pos (suc n)) purse h = absurd (omega (arith, ints))
paid_below (negsuc n) purse h = refl

pub paid_above : (n : ℤ) (purse : ℕ) → pos 1 ≤ℤ n → purse < unsigned_abs n → (if is_paid n purse then Some (bound_of n) else None) ≡ None
paid_above (pos zero) purse g h = refl
paid_above (pos (suc n)) purse g h = rw (le-leb 1 (suc n) (omega arith), lt-leb (suc n) purse h) refl
paid_above (negsuc n) purse g h = refl

pub paid_within : (n : ℤ) (purse : ℕ) → pos 1 ≤ℤ n → unsigned_abs n ≤ purse → (if is_paid n purse then Some (bound_of n) else None) ≡ Some (unsigned_abs n)
paid_within (pos zero) purse g h = absurd (omega (arith, g))
paid_within (pos (suc n)) purse g h = rw (le-leb 1 (suc n) (omega arith), le-leb (suc n) purse h) refl
paid_within (negsuc n) purse g h = absurd (omega (arith, g))

pub ruleset paying = (paid_below, paid_above, paid_within)

-- a bound that is paid is in the purse
pub is_within : (n : ℤ) (purse : ℕ) → is_paid n purse ≡ true → bound_of n ≤ purse
is_within (pos n) purse h = grind (arith, nat_tests)
is_within (negsuc n) purse h = absurd cc
