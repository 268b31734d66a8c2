-- The first place of a byte is how many bytes stand before it.
use Rattle.std.proofs.Common.{◌≡◌, ℕ, zero, suc, ◌+◌, ◌<◌, Bool, true, false, cond, eqb, not, List, [], ◌∷◌, length, get_or, refl, ◌∙◌, arith}
use Rattle.std.specs.List.{position_or_len}
use Rattle.memchr.specs.Find.{Passes, is_byte, NoneBefore, Nowhere}

-- how many stand before the first b
abbrev place : ℕ → List ℕ → ℕ
place b xs = position_or_len (λ x. eqb x b) xs

-- b stands at none of the first n places
abbrev NoneOf : ℕ → List ℕ → ℕ → Type 0
NoneOf b xs n = (k : ℕ) → k < n → ¬ (eqb (get_or xs k 0) b ≡ true)

here_is : (t : Bool) (b x : ℕ) (xs : List ℕ) → eqb x b ≡ t → t ≡ true → 0 ≡ cond (not t) (1 + place b xs) 0
here_is true b x xs e is = refl
here_is false b x xs e is = absurd cc

passed_is : (t : Bool) (b n : ℕ) (xs : List ℕ) → ¬ (t ≡ true) → n ≡ place b xs → suc n ≡ cond (not t) (1 + place b xs) 0
passed_is true b n xs differs e = absurd (differs refl)
passed_is false b n xs differs e = omega (arith, e)

first_at : (b n : ℕ) (xs : List ℕ) → n < length xs → NoneOf b xs n → eqb (get_or xs n 0) b ≡ true → n ≡ place b xs
first_at b n [] lt none is = absurd (omega (arith, lt))
first_at b zero (x ∷ xs) lt none is = here_is (eqb x b) b x xs refl is
first_at b (suc n) (x ∷ xs) lt none is =
    passed_is (eqb x b) b n xs (none 0 (omega arith)) (first_at b n xs (omega (arith, lt)) (λ k h. none (suc k) (omega (arith, h))) is)

all_passed : (b : ℕ) (xs : List ℕ) → NoneOf b xs (length xs) → length xs ≡ place b xs
all_passed b [] none = refl
all_passed b (x ∷ xs) none =
    passed_is (eqb x b) b (length xs) xs (none 0 (omega arith)) (all_passed b xs (λ k h. none (suc k) (omega (arith, h))))

-- the first place is how many bytes stand before it
pub first_is : (b n : ℕ) (xs : List ℕ) → NoneBefore (Passes (is_byte b) xs) 0 (length xs) n → Passes (is_byte b) xs n → n ≡ position_or_len (λ x. eqb x b) xs
first_is b n xs before is = first_at b n xs before.high (λ k h. before.before k (omega arith) h) is

-- where it is nowhere, all stand before it
pub none_is : (b n : ℕ) (xs : List ℕ) → Nowhere (Passes (is_byte b) xs) 0 (length xs) → n ≡ length xs → n ≡ position_or_len (λ x. eqb x b) xs
none_is b n xs none e = e ∙ all_passed b xs (λ k h. none k (omega arith) h)
