-- Numbers that grow digit by digit.
use Rattle.std.proofs.Common.{◌≡◌, ℕ, ◌+◌, ◌*◌, ◌-◌, ◌^◌, ◌<◌, ◌≤◌, Bool, true, false, cond, List, [], ◌∷◌, length, get_or, drop, leb, ◌&&◌, Option, Some, None, refl, sym, ap, subst, ◌∙◌, arith}
use Rattle.std.proofs.lemmas.Bool.{le-leb, lt-leb, leb-false}
use Rattle.std.proofs.lemmas.List.{at_drop_more, at_drop_all}
use Rattle.line_reader.specs.Numbers.{digits_from, spelled_number, within, number_in}

grows : (ds : List ℕ) (n : ℕ) → n ≤ digits_from n ds
grows [] n = omega arith
grows (d ∷ ds) n = omega (arith, grows ds (n * 10 + (d - 48)))

abbrev none : Option ℕ
none = None

from_zero : (top n : ℕ) → within 0 top (Some n) ≡ cond (leb n top) (Some n) None
from_zero top n = rw (le-leb 0 n (omega arith)) refl

too_wide : (n : ℕ) → 2 ^ 64 ≤ n → within 0 18446744073709551615 (Some n) ≡ none
too_wide n le = from_zero 18446744073709551615 n ∙ ap (λ t. cond t (Some n) none) (lt-leb n 18446744073709551615 (omega (arith, le)))

fits_wide : (n : ℕ) → n < 2 ^ 64 → within 0 18446744073709551615 (Some n) ≡ Some n
fits_wide n lt = from_zero 18446744073709551615 n ∙ ap (λ t. cond t (Some n) none) (le-leb n 18446744073709551615 (omega (arith, lt)))

-- one more digit
pub digit_more : (ds : List ℕ) (i n total : ℕ) → i < length ds → digits_from n (drop i ds) ≡ total → digits_from (n * 10 + (get_or ds i 0 - 48)) (drop (i + 1) ds) ≡ total
digit_more ds i n total lt e = sym (at_drop_more (digits_from n) ds i 0 lt) ∙ e

-- no more digit
pub digit_done : (ds : List ℕ) (i n total : ℕ) → length ds ≤ i → n < 2 ^ 64 → digits_from n (drop i ds) ≡ total → Some n ≡ within 0 18446744073709551615 (Some total)
digit_done ds i n total le fits e =
    let is : n ≡ total = sym (at_drop_all (digits_from n) ds i le) ∙ e in
    subst (λ t. Some n ≡ within 0 18446744073709551615 (Some t)) is (sym (fits_wide n fits))

-- a digit that makes the number too wide
pub digit_over : (ds : List ℕ) (i n total : ℕ) → i < length ds → digits_from n (drop i ds) ≡ total → 2 ^ 64 ≤ n * 10 + (get_or ds i 0 - 48) → None ≡ within 0 18446744073709551615 (Some total)
digit_over ds i n total lt e wide =
    let next = digit_more ds i n total lt e in
    sym (too_wide total (omega (arith, wide, grows (drop (i + 1) ds) (n * 10 + (get_or ds i 0 - 48)), next)))

no_range : (t : Bool) (n : ℕ) → cond (t && false) (Some n) none ≡ none
no_range true n = refl
no_range false n = refl

within_all : (t : Bool) (low high top n : ℕ) → high ≤ top → leb n top ≡ t → within low high (cond t (Some n) None) ≡ within low high (Some n)
within_all true low high top n h e = refl
within_all false low high top n h e =
    let over : leb n high ≡ false = lt-leb n high (omega (arith, h, leb-false n top e)) in
    sym (ap (λ u. cond (leb low n && u) (Some n) none) over ∙ no_range (leb low n) n)

-- a range is not changed by what is over it
pub within_narrow : (low high : ℕ) (word : List ℕ) → high ≤ 18446744073709551615 → within low high (number_in 0 18446744073709551615 word) ≡ number_in low high word
within_narrow low high word h = by (spelled_number word)
  where
    by : (o : Option ℕ) → within low high (within 0 18446744073709551615 o) ≡ within low high o
    by None = refl
    by (Some n) = ap (within low high) (from_zero 18446744073709551615 n) ∙ within_all (leb n 18446744073709551615) low high 18446744073709551615 n h refl

-- ---- a word of one byte

pub one_digit : (d : ℕ) → 48 ≤ d → d ≤ 57 → number_in 0 18446744073709551615 (d ∷ []) ≡ Some (d - 48)
one_digit d low high =
    let at : 0 * 10 + (d - 48) ≡ d - 48 = omega arith in
    rw (le-leb 48 d low) (rw (le-leb d 57 high) (fits_wide (0 * 10 + (d - 48)) (omega (arith, high)) ∙ ap (λ (n : ℕ). Some n) at))

pub below_digits : (d : ℕ) → d < 48 → number_in 0 18446744073709551615 (d ∷ []) ≡ none
below_digits d low = rw (lt-leb 48 d low) refl

pub above_digits : (d : ℕ) → 57 < d → number_in 0 18446744073709551615 (d ∷ []) ≡ none
above_digits d high = rw (lt-leb d 57 high) (by (leb 48 d))
  where
    by : (t : Bool) → within 0 18446744073709551615 (cond ((t && false) && true) (Some (digits_from 0 (d ∷ []))) None) ≡ none
    by true = refl
    by false = refl
