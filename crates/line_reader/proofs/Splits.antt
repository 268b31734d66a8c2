-- How lines and words stand in their bytes.
use Rattle.std.proofs.Common.{◌≡◌, ℕ, suc, ◌+◌, ◌<◌, Bool, true, false, cond, eqb, not, List, [], ◌∷◌, ◌++◌, length, take, drop, Ok, Err, refl, sym, ap, subst, ◌∙◌, arith}
use Rattle.std.specs.List.{position_or_len}
use Rattle.std.proofs.lemmas.Bool.{eqb-true}
use Rattle.std.proofs.lemmas.List.{take_all, drop_all}
use Rattle.line_reader.specs.declared.fault.LineReason.TheVariants.{BadWord}
use Rattle.line_reader.specs.Lines.{begin_with, lines, words, words_left, behind}
use Rattle.line_reader.specs.Reads.{word_at, rest_at, end_at, has_word, allowed_or_reason}

abbrev is_byte : ℕ → ℕ → Bool
is_byte sep x = eqb x sep

-- a splitting at one byte
abbrev Splits : (List ℕ → List (List ℕ)) → ℕ → Type 0
Splits F sep = (b : ℕ) (bs : List ℕ) → F (b ∷ bs) ≡ cond (eqb b sep) ([] ∷ F bs) (begin_with b (F bs))

words_split : Splits words 32
unfolding words
words_split b bs = refl

lines_split : Splits lines 10
unfolding lines
lines_split b bs = refl

more_step : (F : List ℕ → List (List ℕ)) (sep : ℕ) (t : Bool) (b : ℕ) (bs : List ℕ) (n : ℕ)
    → ((m : ℕ) → position_or_len (is_byte sep) bs ≡ m → m < length bs → F bs ≡ take m bs ∷ F (drop (m + 1) bs))
    → cond (not t) (1 + position_or_len (is_byte sep) bs) 0 ≡ n → n < length (b ∷ bs)
    → cond t ([] ∷ F bs) (begin_with b (F bs)) ≡ take n (b ∷ bs) ∷ F (drop (n + 1) (b ∷ bs))
more_step F sep true b bs n again e lt = subst (λ (k : ℕ). [] ∷ F bs ≡ take k (b ∷ bs) ∷ F (drop (k + 1) (b ∷ bs))) e refl
more_step F sep false b bs n again e lt =
    let m : ℕ = position_or_len (is_byte sep) bs in
    let is : n ≡ suc m = omega (arith, e) in
    let next : n + 1 ≡ suc (m + 1) = omega (arith, e) in
    let below : m < length bs = omega (arith, e, lt) in
    rw (next, is, again m refl below) refl

split_more : (F : List ℕ → List (List ℕ)) (sep : ℕ) → Splits F sep → (xs : List ℕ) (n : ℕ) → position_or_len (is_byte sep) xs ≡ n → n < length xs → F xs ≡ take n xs ∷ F (drop (n + 1) xs)
split_more F sep is [] n e lt = absurd (omega (arith, lt))
split_more F sep is (b ∷ bs) n e lt = is b bs ∙ more_step F sep (eqb b sep) b bs n (λ m. split_more F sep is bs m) e lt

last_step : (F : List ℕ → List (List ℕ)) (sep : ℕ) (t : Bool) (b : ℕ) (bs : List ℕ) → (position_or_len (is_byte sep) bs ≡ length bs → begin_with b (F bs) ≡ (b ∷ bs) ∷ [])
    → cond (not t) (1 + position_or_len (is_byte sep) bs) 0 ≡ length (b ∷ bs) → cond t ([] ∷ F bs) (begin_with b (F bs)) ≡ (b ∷ bs) ∷ []
last_step F sep true b bs again e = absurd (omega (arith, e))
last_step F sep false b bs again e = again (omega (arith, e))

split_last : (F : List ℕ → List (List ℕ)) (sep : ℕ) → Splits F sep → ((b : ℕ) → begin_with b (F []) ≡ (b ∷ []) ∷ []) → (b : ℕ) (bs : List ℕ) → position_or_len (is_byte sep) (b ∷ bs) ≡ length (b ∷ bs) → F (b ∷ bs) ≡ (b ∷ bs) ∷ []
split_last F sep is base b [] e = is b [] ∙ last_step F sep (eqb b sep) b [] (λ h. base b) e
split_last F sep is base b (c ∷ cs) e = is b (c ∷ cs) ∙ last_step F sep (eqb b sep) b (c ∷ cs) (λ h. ap (begin_with b) (split_last F sep is base c cs h)) e

words_base : (b : ℕ) → begin_with b (words []) ≡ (b ∷ []) ∷ []
unfolding words
words_base b = refl

lines_base : (b : ℕ) → begin_with b (lines []) ≡ (b ∷ []) ∷ []
unfolding lines
lines_base b = refl

line_all : (xs : List ℕ) → 0 < length xs → position_or_len (λ x. eqb x 10) xs ≡ length xs → lines xs ≡ xs ∷ lines []
unfolding lines
line_all [] long e = absurd (omega (arith, long))
line_all (b ∷ bs) long e = split_last lines 10 lines_split lines_base b bs e

-- the last line of a file
pub line_last : (xs : List ℕ) (n : ℕ) → 0 < length xs → position_or_len (λ x. eqb x 10) xs ≡ n → n ≡ length xs → lines xs ≡ take n xs ∷ lines (drop n xs)
line_last xs n long e all = rw (all, take_all (length xs) xs (omega arith), drop_all (length xs) xs (omega arith)) (line_all xs long (e ∙ all))

-- a line with others behind it
pub line_more : (xs : List ℕ) (n : ℕ) → position_or_len (λ x. eqb x 10) xs ≡ n → n < length xs → lines xs ≡ take n xs ∷ lines (drop (n + 1) xs)
line_more xs n e lt = split_more lines 10 lines_split xs n e lt

words_last : (xs : List ℕ) → position_or_len (λ x. eqb x 32) xs ≡ length xs → words xs ≡ xs ∷ []
unfolding words
words_last [] e = refl
words_last (b ∷ bs) e = split_last words 32 words_split words_base b bs e

-- the last word of a line
pub word_last : (xs : List ℕ) → position_or_len (λ x. eqb x 32) xs ≡ length xs → word_at (words xs) ≡ Ok (xs, [])
word_last xs e = rw (words_last xs e) refl

-- a word with others behind it
pub word_more : (xs : List ℕ) (n : ℕ) → position_or_len (λ x. eqb x 32) xs ≡ n → n < length xs → word_at (words xs) ≡ Ok (take n xs, words (drop (n + 1) xs))
word_more xs n e lt = rw (split_more words 32 words_split xs n e lt) refl

-- a line that goes on has a word
record AWord (xs : List ℕ) : Type 0 where
  first : List ℕ
  others : List (List ℕ)
  is : words xs ≡ first ∷ others
  joined : first ++ behind others ≡ xs

a_word_step : (t : Bool) (b : ℕ) (bs : List ℕ) → eqb b 32 ≡ t → AWord bs → AWord (b ∷ bs)
a_word_step true b bs e w = record {
  first = [];
  others = words bs;
  is = words_split b bs ∙ rw e refl;
  joined = rw (w.is, eqb-true b 32 e, w.joined) refl;
}
a_word_step false b bs e w = record {
  first = b ∷ w.first;
  others = w.others;
  is = words_split b bs ∙ rw (e, w.is) refl;
  joined = ap (λ (x : List ℕ). b ∷ x) w.joined;
}

a_word : (xs : List ℕ) → AWord xs
unfolding words
a_word [] = record { first = []; others = []; is = refl; joined = refl }
a_word (b ∷ bs) = a_word_step (eqb b 32) b bs refl (a_word bs)

-- the rest of a line that goes on
pub rest_all : (xs : List ℕ) → rest_at (words xs) ≡ Ok xs
rest_all xs = let w = a_word xs in rw (w.is) (ap (λ (x : List ℕ). Ok x) w.joined)

-- a line that goes on has not ended
pub not_ended : (xs : List ℕ) → end_at (words xs) ≡ Err BadWord
not_ended xs = let w = a_word xs in rw (w.is) refl

pub goes_on_is : (more : Bool) (xs : List ℕ) → more ≡ has_word (words_left more xs)
goes_on_is true xs = let w = a_word xs in rw (w.is) refl
goes_on_is false xs = refl

pub ended_is : (more : Bool) (xs : List ℕ) → allowed_or_reason (not more) BadWord ≡ end_at (words_left more xs)
ended_is true xs = sym (not_ended xs)
ended_is false xs = refl
