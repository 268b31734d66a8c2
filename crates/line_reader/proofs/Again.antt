-- What is written is read again: lines, words and numbers.
use Rattle.std.proofs.Common.{◌≡◌, ◌≢◌, ℕ, ◌+◌, ◌*◌, ◌-◌, ◌/◌, ◌%◌, ◌^◌, ◌<◌, ◌≤◌, Bool, true, false, not, eqb, List, [], ◌∷◌, ◌++◌, length, get_or, Some, refl, sym, ap, ◌∙◌, arith}
use Rattle.std.specs.List.{list_all}
use Rattle.std.specs.Fmt.{decimal}
use Rattle.std.proofs.lemmas.Bool.{le-leb, not-true, ne_eqb}
use Rattle.std.proofs.lemmas.Bool.Decides.{nat_tests}
use Rattle.std.proofs.lemmas.Fmt.{decimal_by_steps}
use Rattle.containers.proofs.Bools.{both_true, and_both}
use Rattle.line_reader.specs.Lines.{lines, words}
use Rattle.line_reader.specs.Numbers.{is_digit, digits_from, is_padded, spelled_number, within, number_in}

-- no byte is this one
abbrev pub without : ℕ → List ℕ → Bool
without sep xs = list_all (λ b. not (eqb b sep)) xs

-- a line in front of others
pub line_first : (line more : List ℕ) → without 10 line ≡ true → lines (line ++ 10 ∷ more) ≡ line ∷ lines more
unfolding lines
line_first [] more e = refl
line_first (b ∷ bs) more e =
    let k = both_true (not (eqb b 10)) (without 10 bs) e in
    rw (not-true (eqb b 10) k.0, line_first bs more k.1) refl

-- a word in front of others
pub word_first : (word more : List ℕ) → without 32 word ≡ true → words (word ++ 32 ∷ more) ≡ word ∷ words more
unfolding words
word_first [] more e = refl
word_first (b ∷ bs) more e =
    let k = both_true (not (eqb b 32)) (without 32 bs) e in
    rw (not-true (eqb b 32) k.0, word_first bs more k.1) refl

-- a word alone
pub word_alone : (word : List ℕ) → without 32 word ≡ true → words word ≡ word ∷ []
unfolding words
word_alone [] e = refl
word_alone (b ∷ bs) e =
    let k = both_true (not (eqb b 32)) (without 32 bs) e in
    rw (not-true (eqb b 32) k.0, word_alone bs k.1) refl

pub without-append : (sep : ℕ) (xs ys : List ℕ) → without sep xs ≡ true → without sep ys ≡ true → without sep (xs ++ ys) ≡ true
without-append sep [] ys a b = b
without-append sep (x ∷ xs) ys a b =
    let k = both_true (not (eqb x sep)) (without sep xs) a in
    and_both (not (eqb x sep)) (without sep (xs ++ ys)) k.0 (without-append sep xs ys k.1 b)

-- ---- numbers

digits_from-append : (n : ℕ) (xs : List ℕ) (d : ℕ) → digits_from n (xs ++ d ∷ []) ≡ digits_from n xs * 10 + (d - 48)
digits_from-append n [] d = refl
digits_from-append n (x ∷ xs) d = digits_from-append (n * 10 + (x - 48)) xs d

all_digits-append : (xs : List ℕ) (d : ℕ) → list_all is_digit xs ≡ true → is_digit d ≡ true → list_all is_digit (xs ++ d ∷ []) ≡ true
all_digits-append [] d a b = and_both (is_digit d) true b refl
all_digits-append (x ∷ xs) d a b =
    let k = both_true (is_digit x) (list_all is_digit xs) a in
    and_both (is_digit x) (list_all is_digit (xs ++ d ∷ [])) k.0 (all_digits-append xs d k.1 b)

-- digits that spell a number without a zero in front
record Spells (n : ℕ) (ds : List ℕ) : Type 0 where
  some : 0 < length ds
  digits : list_all is_digit ds ≡ true
  value : digits_from 0 ds ≡ n
  first : 0 < n → get_or ds 0 0 ≢ 48
  long : 1 < length ds → 10 ≤ n

one_digit : (d : ℕ) → d < 10 → is_digit (48 + d) ≡ true
one_digit d h = grind (arith, nat_tests)

one : (n : ℕ) → n < 10 → Spells n ((48 + n) ∷ [])
one n h = record {
  some = omega arith;
  digits = and_both (is_digit (48 + n)) true (one_digit n h) refl;
  value = omega arith;
  first = λ p e. omega (arith, p, e);
  long = λ p. omega (arith, p);
}

first_stays : (ds : List ℕ) (d : ℕ) → 0 < length ds → get_or (ds ++ d ∷ []) 0 0 ≡ get_or ds 0 0
first_stays [] d h = absurd (omega (arith, h))
first_stays (x ∷ xs) d h = refl

more : (n : ℕ) (ds : List ℕ) → 10 ≤ n → Spells (n / 10) ds → Spells n (ds ++ ((48 + n % 10) ∷ []))
more n ds h s = record {
  some = longer ds;
  digits = all_digits-append ds (48 + n % 10) s.digits (one_digit (n % 10) (omega arith));
  value = digits_from-append 0 ds (48 + n % 10) ∙ omega (arith, s.value);
  first = λ p e. s.first (omega (arith, h)) (sym (first_stays ds (48 + n % 10) s.some) ∙ e);
  long = λ p. h;
}
  where
    longer : (xs : List ℕ) → 0 < length (xs ++ ((48 + n % 10) ∷ []))
    longer [] = omega arith
    longer (x ∷ xs) = omega arith

spells_decimal : (n : ℕ) → n < 2 ^ 64 → Spells n (decimal n)
spells_decimal n h = decimal_by_steps Spells one more n h

not_padded : (ds : List ℕ) (n : ℕ) → Spells n ds → is_padded ds ≡ false
not_padded [] n s = absurd (omega (arith, s.some))
not_padded (d ∷ []) n s = refl
not_padded (d ∷ e ∷ ds) n s = ne_eqb d 48 (s.first (omega (arith, s.long (omega arith))))

spelled_is : (n : ℕ) (ds : List ℕ) → Spells n ds → spelled_number ds ≡ Some n
spelled_is n ds s = rw (not_padded ds n s, s.digits) (ap Some s.value)

within_is : (low high n : ℕ) → low ≤ n → n ≤ high → within low high (Some n) ≡ Some n
within_is low high n a b = rw (le-leb low n a, le-leb n high b) refl

-- a number that is written is read again
pub number_again : (low high n : ℕ) → n < 2 ^ 64 → low ≤ n → n ≤ high → number_in low high (decimal n) ≡ Some n
number_again low high n small a b = ap (within low high) (spelled_is n (decimal n) (spells_decimal n small)) ∙ within_is low high n a b

digit_not : (sep : ℕ) → sep < 48 → (b : ℕ) → is_digit b ≡ true → not (eqb b sep) ≡ true
digit_not sep h b e = grind (arith, nat_tests)

digits_without : (sep : ℕ) → sep < 48 → (ds : List ℕ) → list_all is_digit ds ≡ true → without sep ds ≡ true
digits_without sep h [] e = refl
digits_without sep h (d ∷ ds) e =
    let k = both_true (is_digit d) (list_all is_digit ds) e in
    and_both (not (eqb d sep)) (without sep ds) (digit_not sep h d k.0) (digits_without sep h ds k.1)

-- a number has no space and no line feed
pub number_without : (sep n : ℕ) → sep < 48 → n < 2 ^ 64 → without sep (decimal n) ≡ true
number_without sep n h small = digits_without sep h (decimal n) (spells_decimal n small).digits
