-- Words and lines that are written are read again.
use Rattle.std.proofs.Common.{◌≡◌, ℕ, ◌^◌, ◌<◌, Bool, true, not, eqb, List, [], ◌∷◌, ◌++◌, refl, ap, ◌∙◌, arith, append-nil}
use Rattle.std.specs.List.{AllPass, list_all}
use Rattle.std.specs.Char.{is_ascii_alphabetic}
use Rattle.std.specs.Fmt.{decimal}
use Rattle.std.proofs.lemmas.Bool.Decides.{nat_tests}
use Rattle.std.proofs.lemmas.List.Elements.{All-head, All-tail}
use Rattle.containers.proofs.Bools.{both_true, and_both}
use Rattle.hex.specs.Hex.{is_hex_digit, encode_lower, IsBytes}
use Rattle.hex.proofs.HexLemmas.{decode_of-encode_lower, decode_of-ok}
use Rattle.plan_base.specs.Words.{is_word_byte, is_word, is_name}
use Rattle.line_reader.specs.Lines.{lines, words, spaced_words, behind}
use Rattle.line_reader.proofs.Again.{without, line_first, word_first, word_alone, without-append, number_without}
use Rattle.schedule_text.specs.Written.{spread}

-- this byte is in none of the words
abbrev pub Free : ℕ → List (List ℕ) → Type 0
Free sep [] = Unit {0}
Free sep (w ∷ ws) = (without sep w ≡ true) × Free sep ws

pub free-append : (sep : ℕ) (xs ys : List (List ℕ)) → Free sep xs → Free sep ys → Free sep (xs ++ ys)
free-append sep [] ys a b = b
free-append sep (x ∷ xs) ys a b = (a.0, free-append sep xs ys a.1 b)

-- ---- lines

-- the lines of a text are those that it was made of
pub spread_lines : (ls : List (List ℕ)) → Free 10 ls → lines (spread ls) ≡ ls
unfolding lines spread
spread_lines [] k = refl
spread_lines (l ∷ ls) k = line_first l (spread ls) k.0 ∙ ap (λ z. l ∷ z) (spread_lines ls k.1)

-- ---- words of a line

-- the words of a line are those that it was made of
pub words_are : (w : List ℕ) (ws : List (List ℕ)) → Free 32 (w ∷ ws) → words (spaced_words (w ∷ ws)) ≡ w ∷ ws
words_are w [] k = ap words (append-nil w) ∙ word_alone w k.0
words_are w (v ∷ vs) k = word_first w (spaced_words (v ∷ vs)) k.0 ∙ ap (λ z. w ∷ z) (words_are v vs k.1)

-- and behind them any rest
pub words_rest : (w : List ℕ) (ws : List (List ℕ)) (rest : List ℕ) → Free 32 (w ∷ ws) → words (spaced_words ((w ∷ ws) ++ rest ∷ [])) ≡ (w ∷ ws) ++ words rest
words_rest w [] rest k = word_first w (rest ++ []) k.0 ∙ ap (λ z. w ∷ words z) (append-nil rest)
words_rest w (v ∷ vs) rest k = word_first w (spaced_words ((v ∷ vs) ++ rest ∷ [])) k.0 ∙ ap (λ z. w ∷ z) (words_rest v vs rest k.1)

behind_line : (ws : List (List ℕ)) → Free 10 ws → without 10 (behind ws) ≡ true
behind_line [] k = refl
behind_line (w ∷ ws) k = without-append 10 w (behind ws) k.0 (behind_line ws k.1)

-- a line of words has no line feed
pub line_is : (ws : List (List ℕ)) → Free 10 ws → without 10 (spaced_words ws) ≡ true
line_is [] k = refl
line_is (w ∷ ws) k = without-append 10 w (behind ws) k.0 (behind_line ws k.1)

-- ---- numbers, names and hex

abbrev pub IsFree : List ℕ → Type 0
IsFree w = (without 32 w ≡ true) × (without 10 w ≡ true)

pub number_free : (n : ℕ) → n < 2 ^ 64 → IsFree (decimal n)
number_free n h = (number_without 32 n (omega arith) h, number_without 10 n (omega arith) h)

all_free : (p : ℕ → Bool) (sep : ℕ) → ((b : ℕ) → p b ≡ true → not (eqb b sep) ≡ true) → (xs : List ℕ) → list_all p xs ≡ true → without sep xs ≡ true
all_free p sep h [] e = refl
all_free p sep h (x ∷ xs) e =
    let k = both_true (p x) (list_all p xs) e in
    and_both (not (eqb x sep)) (without sep xs) (h x k.0) (all_free p sep h xs k.1)

word_byte_not : (sep : ℕ) → sep < 48 → (b : ℕ) → is_word_byte b ≡ true → not (eqb b sep) ≡ true
word_byte_not sep h b e = grind (arith, nat_tests)

letter_is : (b : ℕ) → is_ascii_alphabetic b ≡ true → is_word_byte b ≡ true
letter_is b e = grind (arith, nat_tests)

word_bytes : (w : List ℕ) → is_word w ≡ true → list_all is_word_byte w ≡ true
unfolding is_word
word_bytes [] e = absurd cc
word_bytes (b ∷ bs) e =
    let k = both_true (is_ascii_alphabetic b) (list_all is_word_byte bs) e in
    and_both (is_word_byte b) (list_all is_word_byte bs) (letter_is b k.0) k.1

name_word : (w : List ℕ) → is_name w ≡ true → is_word w ≡ true
unfolding is_name
name_word w e = (both_true (is_word w) _ e).0

-- a name has no space and no line feed
pub name_free : (w : List ℕ) → is_name w ≡ true → IsFree w
name_free w e =
    let all = word_bytes w (name_word w e) in
    (all_free is_word_byte 32 (word_byte_not 32 (omega arith)) w all, all_free is_word_byte 10 (word_byte_not 10 (omega arith)) w all)

digit_not : (sep : ℕ) → sep < 48 → (b : ℕ) → is_hex_digit b ≡ true → not (eqb b sep) ≡ true
digit_not sep h b e = grind (arith, nat_tests)

passes_free : (p : ℕ → Bool) (sep : ℕ) → ((b : ℕ) → p b ≡ true → not (eqb b sep) ≡ true) → (xs : List ℕ) → AllPass p xs → without sep xs ≡ true
passes_free p sep h [] k = refl
passes_free p sep h (x ∷ xs) k = and_both (not (eqb x sep)) (without sep xs) (h x (All-head (λ y. p y ≡ true) x xs k)) (passes_free p sep h xs (All-tail (λ y. p y ≡ true) x xs k))

-- hex has no space and no line feed
pub hex_free : (bytes : List ℕ) → IsBytes bytes → IsFree (encode_lower bytes)
hex_free bytes h =
    let digits = (decode_of-ok (encode_lower bytes) bytes (decode_of-encode_lower bytes h)).1 in
    (passes_free is_hex_digit 32 (digit_not 32 (omega arith)) (encode_lower bytes) digits, passes_free is_hex_digit 10 (digit_not 10 (omega arith)) (encode_lower bytes) digits)
