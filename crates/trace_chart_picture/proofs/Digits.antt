-- Numbers that are written are read again.
use Rattle.std.proofs.Common.{◌≡◌, ℕ, ◌+◌, ◌*◌, ◌-◌, ◌/◌, ◌%◌, ◌^◌, ◌<◌, ◌≤◌, Bool, true, false, not, ◌||◌, eqb, ltb, if◌then◌else◌, List, [], ◌∷◌, ◌++◌, refl, ap, ◌∙◌, arith, ne_eqb, le-ltb}
use Rattle.std.specs.Fmt.{decimal}
use Rattle.std.proofs.lemmas.Fmt.{decimal_by_steps}
use Rattle.containers.proofs.Bools.{both_true, and_both}
use Rattle.plan_base.specs.declared.ids.Family.{Family}
use Rattle.trace_chart_picture.specs.Cuts.{capped, number_from, long, short, has_blank}
use Rattle.trace_chart_picture.specs.Lines.{family_text}
use Rattle.trace_chart_picture.specs.Reads.{lacks, IsShort, IsLong, IsFamily}

pub lacks-append : (sign : ℕ) (xs ys : List ℕ) → lacks sign xs ≡ true → lacks sign ys ≡ true → lacks sign (xs ++ ys) ≡ true
lacks-append sign [] ys a b = b
lacks-append sign (x ∷ xs) ys a b =
    let k = both_true (not (eqb x sign)) (lacks sign xs) a in
    and_both (not (eqb x sign)) (lacks sign (xs ++ ys)) k.0 (lacks-append sign xs ys k.1 b)

number_from-append : (n : ℕ) (xs : List ℕ) (d : ℕ) → number_from n (xs ++ d ∷ []) ≡ capped (capped (number_from n xs * 10) + (d - 48))
number_from-append n [] d = refl
number_from-append n (x ∷ xs) d = number_from-append (capped (capped (n * 10) + (x - 48))) xs d

-- it begins with a digit
abbrev pub Starts : List ℕ → Type 0
Starts [] = ⊥
Starts (d ∷ ds) = (48 ≤ d) × (d ≤ 57)

-- a text that spells this number
pub record Spells (n : ℕ) (ds : List ℕ) : Type 0 where
  pub starts : Starts ds
  pub lacks : (sign : ℕ) → sign < 48 → lacks sign ds ≡ true
  pub value : n < 2 ^ 64 → number_from 0 ds ≡ n

not_digit : (d sign : ℕ) → sign < 48 → 48 ≤ d → not (eqb d sign) ≡ true
not_digit d sign a b = ap not (ne_eqb d sign (λ e. omega (arith, a, b, e)))

one_lacks : (d sign : ℕ) → sign < 48 → 48 ≤ d → lacks sign (d ∷ []) ≡ true
one_lacks d sign a b = and_both (not (eqb d sign)) true (not_digit d sign a b) refl

one : (n : ℕ) → n < 10 → Spells n ((48 + n) ∷ [])
one n h = record {
  starts = (omega (arith, h), omega (arith, h));
  lacks = λ sign k. one_lacks (48 + n) sign k (omega arith);
  value = λ p. omega (arith, h, p);
}

starts-append : (ds more : List ℕ) → Starts ds → Starts (ds ++ more)
starts-append [] more k = absurd k
starts-append (d ∷ ds) more k = k

last_digit : (n m : ℕ) → m ≡ n / 10 → n < 2 ^ 64 → capped (capped (m * 10) + (48 + n % 10 - 48)) ≡ n
last_digit n m e h = omega (arith, e, h)

more : (n : ℕ) (ds : List ℕ) → 10 ≤ n → Spells (n / 10) ds → Spells n (ds ++ ((48 + n % 10) ∷ []))
more n ds h s = record {
  starts = starts-append ds ((48 + n % 10) ∷ []) s.starts;
  lacks = λ sign k. lacks-append sign ds ((48 + n % 10) ∷ []) (s.lacks sign k) (one_lacks (48 + n % 10) sign k (omega arith));
  value = λ p. number_from-append 0 ds (48 + n % 10) ∙ last_digit n (number_from 0 ds) (s.value (omega (arith, p))) p;
}

pub spells : (n : ℕ) → IsLong n → Spells n (decimal n)
spells n h = decimal_by_steps Spells one more n h

pub long_again : (n : ℕ) → IsLong n → long (decimal n) ≡ n
long_again n h = (spells n h).value h

short_is : (m n : ℕ) → m ≡ n → IsShort n → (if ltb 4294967295 m then 0 else m) ≡ n
short_is m n e h = rw (le-ltb 4294967295 m (omega (arith, e, h))) e

pub long_of : (n : ℕ) → IsShort n → IsLong n
long_of n h = omega (arith, h)

pub short_again : (n : ℕ) → IsShort n → short (decimal n) ≡ n
short_again n h = short_is (long (decimal n)) n (long_again n (long_of n h)) h

-- a number has no blank, no dot and no line feed
pub number_lacks : (sign n : ℕ) → sign < 48 → IsLong n → lacks sign (decimal n) ≡ true
number_lacks sign n k h = (spells n h).lacks sign k

pub short_lacks : (sign n : ℕ) → sign < 48 → IsShort n → lacks sign (decimal n) ≡ true
short_lacks sign n k h = number_lacks sign n k (long_of n h)

-- nor has a family, but for its dot
pub family_lacks : (sign : ℕ) (f : Family) → sign < 46 → IsFamily f → lacks sign (family_text f) ≡ true
family_lacks sign f k h =
    lacks-append sign (decimal f.source.0) (46 ∷ decimal f.serial) (short_lacks sign f.source.0 (omega (arith, k)) h.0)
    (and_both (not (eqb 46 sign)) (lacks sign (decimal f.serial)) (ap not (ne_eqb 46 sign (λ e. omega (arith, k, e)))) (number_lacks sign f.serial (omega (arith, k)) h.1))

pub family_starts : (f : Family) → IsFamily f → Starts (family_text f)
family_starts f h = starts-append (decimal f.source.0) (46 ∷ decimal f.serial) (spells f.source.0 (long_of f.source.0 h.0)).starts

pub blank_none : (text : List ℕ) → lacks 32 text ≡ true → has_blank text ≡ false
blank_none [] k = refl
blank_none (b ∷ bs) k =
    let both = both_true (not (eqb b 32)) (lacks 32 bs) k in
    or_none (eqb b 32) (has_blank bs) both.0 (blank_none bs both.1)
  where
    or_none : (x y : Bool) → not x ≡ true → y ≡ false → (x || y) ≡ false
    or_none true y a e = absurd cc
    or_none false y a e = e
