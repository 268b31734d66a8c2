-- What spells a token is read as that token, whatever its kind.
use Rattle.std.proofs.Common.{◌≡◌, ◌≢◌, ℕ, suc, ◌+◌, ◌^◌, ◌<◌, ◌≤◌, Bool, true, false, ◌&&◌, List, [], ◌∷◌, ◌++◌, length, get_or, not, nat_le, Some, Ok, pos, neg_ℤ, refl, sym, ap, ◌∙◌, arith, append_assoc, length-append}
use Rattle.std.proofs.lemmas.Bool.Decides.{nat_tests}
use Rattle.std.specs.Char.{is_ascii_digit, is_ascii_alphabetic}
use Rattle.std.specs.List.{list_all}
use Rattle.containers.proofs.Bools.{and_left, and_right}
use Rattle.plan_base.specs.Words.{is_word_byte, is_word, is_name, IsName, is_reserved}
use Rattle.plan_base.proofs.WordLaws.{is_word_cons, is_word_none}
use Rattle.plan_lexer.specs.Quoted.{string_at}
use Rattle.plan_lexer.specs.Hexed.{blob_at}
use Rattle.plan_lexer.specs.Numerals.{number_of}
use Rattle.plan_lexer.specs.Tables.{key_text, symbol_text, symbol_at}
use Rattle.plan_lexer.specs.WordTokens.{word_kind, word_at, kind_by}
use Rattle.plan_lexer.specs.Scanning.{int_at, negative_at, host_at, dev_at, part_at, hash_at, symbol_by, signed_at, token_at}
use Rattle.plan_lexer.specs.TokenForms.{IsDigits, SpellsItem, SpellsItems, SpellsPairs, Spells, name, key, int, negative, host, dev, part, char, string, blob, symbol, EndsBefore}
use Rattle.plan_lexer.proofs.TableLemmas.{key_of-text, is_word-key, short_key, symbol_first, key_of-none}
use Rattle.plan_lexer.proofs.WordLemmas.{letter_of_word, and_both}
use Rattle.plan_lexer.proofs.ReadLemmas.{front_len, take_front, number_reads, number_behind_reads, string_reads, char_reads, blob_reads}
use Rattle.plan_lexer.specs.declared.token.Key.{Key}
use Rattle.plan_lexer.specs.declared.token.Symbol.{Symbol}
use Rattle.plan_lexer.specs.declared.token.TokenKind.{TokenKind}
use Rattle.plan_lexer.specs.declared.token.TokenKind.TheVariants as kind

-- which reading the first byte asks for
pub first_word : (at : ℕ) (text : List ℕ) → is_ascii_alphabetic (get_or text 0 0) ≡ true → token_at at text ≡ word_at at text
unfolding token_at
first_word at text e = rw e refl

pub first_digit : (at : ℕ) (text : List ℕ) → is_ascii_alphabetic (get_or text 0 0) ≡ false → is_ascii_digit (get_or text 0 0) ≡ true → token_at at text ≡ int_at at text
unfolding token_at
first_digit at text e f = rw (e, f) refl

pub digit_no_letter : (b : ℕ) → is_ascii_digit b ≡ true → is_ascii_alphabetic b ≡ false
digit_no_letter b e = grind (arith, nat_tests)

pub digits_first : (ds rest : List ℕ) → IsDigits ds → is_ascii_digit (get_or (ds ++ rest) 0 0) ≡ true
digits_first [] rest h = absurd (omega (arith, h.some))
digits_first (d ∷ ds) rest h = and_left (is_ascii_digit d) (list_all is_ascii_digit ds) h.all

reads_int : (at : ℕ) (ds rest : List ℕ) → IsDigits ds → number_of ds < 2 ^ 63 → is_ascii_digit (get_or rest 0 0) ≡ false → token_at at (ds ++ rest) ≡ Ok (kind.Int (pos (number_of ds)), at + length ds)
unfolding int_at
reads_int at ds rest h small other =
    let d = digits_first ds rest h in
    first_digit at (ds ++ rest) (digit_no_letter (get_or (ds ++ rest) 0 0) d) d ∙ rw (number_reads at 0x7fff_ffff_ffff_ffff ds rest h other (omega arith)) refl

reads_negative : (at : ℕ) (ds rest : List ℕ) → IsDigits ds → number_of ds ≤ 2 ^ 63 → is_ascii_digit (get_or rest 0 0) ≡ false → token_at at (126 ∷ ds ++ rest) ≡ Ok (kind.Int (neg_ℤ (pos (number_of ds))), at + suc (length ds))
unfolding token_at signed_at negative_at
reads_negative at ds rest h small other = rw (number_behind_reads at 0x8000_0000_0000_0000 ds rest h other small) (ap (λ n. Ok (kind.Int (neg_ℤ (pos (number_of ds))), n)) (omega arith))

reads_host : (at : ℕ) (ds rest : List ℕ) → IsDigits ds → number_of ds < 2 ^ 32 → is_ascii_digit (get_or rest 0 0) ≡ false → token_at at (64 ∷ ds ++ rest) ≡ Ok (kind.Host (number_of ds), at + suc (length ds))
unfolding token_at signed_at host_at
reads_host at ds rest h small other = rw (number_behind_reads at 0xffff_ffff ds rest h other (omega arith)) (ap (λ n. Ok (kind.Host (number_of ds), n)) (omega arith))

reads_dev : (at : ℕ) (ds rest : List ℕ) → IsDigits ds → number_of ds < 2 ^ 32 → is_ascii_digit (get_or rest 0 0) ≡ false → token_at at (37 ∷ ds ++ rest) ≡ Ok (kind.Dev (number_of ds), at + suc (length ds))
unfolding token_at signed_at dev_at
reads_dev at ds rest h small other = rw (number_behind_reads at 0xffff_ffff ds rest h other (omega arith)) (ap (λ n. Ok (kind.Dev (number_of ds), n)) (omega arith))

pub digit_no_quote : (b : ℕ) → is_ascii_digit b ≡ true → b ≢ 34
digit_no_quote b e = grind (arith, nat_tests)

reads_part : (at : ℕ) (ds rest : List ℕ) → IsDigits ds → 1 ≤ number_of ds → number_of ds ≤ 8 → is_ascii_digit (get_or rest 0 0) ≡ false → token_at at (35 ∷ ds ++ rest) ≡ Ok (kind.Part (number_of ds), at + suc (length ds))
unfolding token_at signed_at hash_at part_at
reads_part at ds rest h one small other =
    let e = number_behind_reads at 8 ds rest h other small in
    let q = digit_no_quote (get_or (ds ++ rest) 0 0) (digits_first ds rest h) in
    grind (arith, nat_tests)

quoted_length : (at : ℕ) (items : List ℕ) → at + 1 + length items + 1 ≡ at + length (34 ∷ items ++ 34 ∷ [])
quoted_length at items = simp length-append (omega arith)

string_of : (at : ℕ) (items bytes rest : List ℕ) → SpellsItems 34 items bytes → token_at at (34 ∷ (items ++ 34 ∷ rest)) ≡ Ok (kind.Str bytes, at + 1 + length items + 1)
unfolding token_at string_at
string_of at items bytes rest h = rw (string_reads items bytes h at (at + 1) rest) refl

pub reads_string : (at : ℕ) (items bytes rest : List ℕ) → SpellsItems 34 items bytes → token_at at ((34 ∷ items ++ 34 ∷ []) ++ rest) ≡ Ok (kind.Str bytes, at + length (34 ∷ items ++ 34 ∷ []))
reads_string at items bytes rest h = ap (λ bs. token_at at (34 ∷ bs)) (append_assoc items (34 ∷ []) rest) ∙ string_of at items bytes rest h ∙ ap (λ n. Ok (kind.Str bytes, n)) (quoted_length at items)

char_of : (at : ℕ) (item : List ℕ) (c : ℕ) (rest : List ℕ) → SpellsItem 39 item c → token_at at (39 ∷ (item ++ 39 ∷ rest)) ≡ Ok (kind.Char c, at + length item + 2)
unfolding token_at
char_of at item c rest h = rw (char_reads item c h at rest) refl

pub reads_char : (at : ℕ) (item : List ℕ) (c : ℕ) (rest : List ℕ) → SpellsItem 39 item c → token_at at ((39 ∷ item ++ 39 ∷ []) ++ rest) ≡ Ok (kind.Char c, at + length (39 ∷ item ++ 39 ∷ []))
reads_char at item c rest h = ap (λ bs. token_at at (39 ∷ bs)) (append_assoc item (39 ∷ []) rest) ∙ char_of at item c rest h ∙ ap (λ n. Ok (kind.Char c, n)) (simp length-append (omega arith))

blob_of : (at : ℕ) (pairs bytes rest : List ℕ) → SpellsPairs pairs bytes → token_at at (35 ∷ 34 ∷ (pairs ++ 34 ∷ rest)) ≡ Ok (kind.Blob bytes, at + 2 + length pairs + 1)
unfolding token_at signed_at hash_at blob_at
blob_of at pairs bytes rest h = rw (blob_reads pairs bytes h at (at + 2) rest) refl

pub reads_blob : (at : ℕ) (pairs bytes rest : List ℕ) → SpellsPairs pairs bytes → token_at at ((35 ∷ 34 ∷ pairs ++ 34 ∷ []) ++ rest) ≡ Ok (kind.Blob bytes, at + length (35 ∷ 34 ∷ pairs ++ 34 ∷ []))
reads_blob at pairs bytes rest h = ap (λ bs. token_at at (35 ∷ 34 ∷ bs)) (append_assoc pairs (34 ∷ []) rest) ∙ blob_of at pairs bytes rest h ∙ ap (λ n. Ok (kind.Blob bytes, n)) (simp length-append (omega arith))

-- words
pub is_name_word : (w : List ℕ) → IsName w → is_word w ≡ true
unfolding is_name
is_name_word w h = and_left (is_word w) (nat_le (length w) 32 && not (is_reserved w)) h

is_name_short : (w : List ℕ) → IsName w → length w ≤ 32
unfolding is_name
is_name_short w h = let e = and_left (nat_le (length w) 32) (not (is_reserved w)) (and_right (is_word w) (nat_le (length w) 32 && not (is_reserved w)) h) in grind (arith, nat_tests)

pub word_first : (w rest : List ℕ) → is_word w ≡ true → is_ascii_alphabetic (get_or (w ++ rest) 0 0) ≡ true
word_first [] rest h = absurd (none_word h)
  where
    none_word : is_word [] ≡ true → ⊥
    none_word e = let f = is_word_none [] (omega arith) in cc
word_first (b ∷ bs) rest h = and_left (is_ascii_alphabetic b) (list_all is_word_byte bs) (sym (is_word_cons b bs) ∙ h)

pub word_bytes : (w : List ℕ) → is_word w ≡ true → list_all is_word_byte w ≡ true
word_bytes [] h = refl
word_bytes (b ∷ bs) h =
    let e = sym (is_word_cons b bs) ∙ h in
    and_both (is_word_byte b) (list_all is_word_byte bs) (letter_of_word b (and_left (is_ascii_alphabetic b) (list_all is_word_byte bs) e)) (and_right (is_ascii_alphabetic b) (list_all is_word_byte bs) e)

reads_word : (at : ℕ) (w rest : List ℕ) → is_word w ≡ true → length w ≤ 32 → is_word_byte (get_or rest 0 0) ≡ false → token_at at (w ++ rest) ≡ Ok (word_kind w, at + length w)
unfolding word_at
reads_word at w rest h short other =
    first_word at (w ++ rest) (word_first w rest h) ∙ rw (front_len is_word_byte w rest (word_bytes w h) other, take_front w rest) (grind (arith, nat_tests))

not_true : (b : Bool) → not b ≡ true → b ≡ false
not_true true e = absurd (false_true e)
  where
    false_true : false ≡ true → ⊥
    false_true e = cc
not_true false e = refl

is_name_free : (w : List ℕ) → IsName w → is_reserved w ≡ false
unfolding is_name
is_name_free w h = not_true (is_reserved w) (and_right (nat_le (length w) 32) (not (is_reserved w)) (and_right (is_word w) (nat_le (length w) 32 && not (is_reserved w)) h))

kind_of_name : (w : List ℕ) → IsName w → word_kind w ≡ kind.Word w
unfolding word_kind
kind_of_name w h = ap (kind_by w) (key_of-none w (is_name_free w h))

kind_of_key : (k : Key) → word_kind (key_text k) ≡ kind.Key k
unfolding word_kind
kind_of_key k = ap (kind_by (key_text k)) (key_of-text k)

reads_symbol : (at : ℕ) (s : Symbol) (rest : List ℕ) → symbol_at (symbol_text s ++ rest) ≡ Some s → token_at at (symbol_text s ++ rest) ≡ Ok (kind.Symbol s, at + length (symbol_text s))
reads_symbol at s rest e = symbol_first at s rest ∙ ap (symbol_by at) e

-- what spells a token is read as it, where what follows isn't taken for more of it
pub spells_read : (at : ℕ) (k : TokenKind) (front rest : List ℕ) → Spells k front → EndsBefore k rest → token_at at (front ++ rest) ≡ Ok (k, at + length front)
spells_read at _ _ rest (name w h) other = reads_word at w rest (is_name_word w h) (is_name_short w h) other ∙ ap (λ k. Ok (k, at + length w)) (kind_of_name w h)
spells_read at _ _ rest (key k) other = reads_word at (key_text k) rest (is_word-key k) (short_key k) other ∙ ap (λ v. Ok (v, at + length (key_text k))) (kind_of_key k)
spells_read at _ _ rest (int ds h small) other = reads_int at ds rest h small other
spells_read at _ _ rest (negative ds h small) other = reads_negative at ds rest h small other
spells_read at _ _ rest (host ds h small) other = reads_host at ds rest h small other
spells_read at _ _ rest (dev ds h small) other = reads_dev at ds rest h small other
spells_read at _ _ rest (part ds h one small) other = reads_part at ds rest h one small other
spells_read at _ _ rest (char item c h) other = reads_char at item c rest h
spells_read at _ _ rest (string items bytes h) other = reads_string at items bytes rest h
spells_read at _ _ rest (blob pairs bytes h) other = reads_blob at pairs bytes rest h
spells_read at _ _ rest (symbol s) other = reads_symbol at s rest other
