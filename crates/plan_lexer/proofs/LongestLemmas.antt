-- A reading takes every prefix of the text that has the form of a token.
use Rattle.std.proofs.Common.{◌≡◌, ℕ, suc, ◌+◌, ◌<◌, ◌≤◌, Bool, true, false, cond, List, [], ◌∷◌, ◌++◌, length, get_or, take, Option, Some, None, Result, Ok, Err, pos, neg_ℤ, refl, sym, subst, arith, nat_lt, ◌==◌, inl, inr}
use Rattle.std.proofs.lemmas.Bool.Decides.{nat_tests}
use Rattle.std.specs.Char.{is_ascii_digit}
use Rattle.std.specs.List.{list_all, prefix_len}
use Rattle.containers.proofs.Bools.{and_left, and_right}
use Rattle.plan_base.specs.Words.{is_word_byte, is_word}
use Rattle.plan_lexer.specs.Faults.{◌>>=◌}
use Rattle.plan_lexer.specs.Numerals.{digits_len, number_of, number_at, number_behind}
use Rattle.plan_lexer.specs.Tables.{symbol_text, symbol_at}
use Rattle.plan_lexer.specs.WordTokens.{word_len, word_kind, word_at}
use Rattle.plan_lexer.specs.Scanning.{int_at, negative_at, host_at, dev_at, part_at, hash_at, symbol_by, signed_at, token_at}
use Rattle.plan_lexer.specs.TokenForms.{IsDigits, IsSign, HasForm, a_word, a_number, a_signed, a_char, a_string, a_blob, a_symbol, TakesAtLeast}
use Rattle.plan_lexer.proofs.SpellLemmas.{first_word, first_digit, digit_no_letter, digits_first, digit_no_quote, word_first, word_bytes, reads_string, reads_char, reads_blob}
use Rattle.plan_lexer.proofs.TableLemmas.{symbol_first}
use Rattle.plan_lexer.specs.declared.fault.LexFault.{LexFault}
use Rattle.plan_lexer.specs.declared.fault.LexFault.TheVariants.{LongName, NumberTooLarge}
use Rattle.plan_lexer.specs.declared.token.Symbol.{Symbol}
use Rattle.plan_lexer.specs.declared.token.Symbol.TheVariants as symbol
use Rattle.plan_lexer.specs.declared.token.TokenKind.{TokenKind}
use Rattle.plan_lexer.specs.declared.token.TokenKind.TheVariants as kind

-- items that pass are among those that a list begins with
passes_within : (p : ℕ → Bool) (front rest : List ℕ) → list_all p front ≡ true → length front ≤ prefix_len p (front ++ rest)
passes_within p [] rest h = omega arith
passes_within p (b ∷ front) rest h =
    let e = passes_within p front rest (and_right (p b) (list_all p front) h) in
    rw (and_left (p b) (list_all p front) h) (omega (arith, e))

same_reading : (at n : ℕ) (a b : Result (TokenKind × ℕ) LexFault) → a ≡ b → TakesAtLeast at n b → TakesAtLeast at n a
same_reading at n a b e h = subst (TakesAtLeast at n) (sym e) h

word_least : (at n : ℕ) (text : List ℕ) → n ≤ word_len text → TakesAtLeast at n (word_at at text)
unfolding word_at
word_least at n text h = by_test (nat_lt 32 (word_len text))
  where
    by_test : (t : Bool) → TakesAtLeast at n (cond t (Err (LongName at)) (Ok (word_kind (take (word_len text) text), at + word_len text)))
    by_test true = inl refl
    by_test false = omega arith

-- a number that is judged by its size
abbrev judged_number : ℕ → Bool → ℕ → ℕ → Result (ℕ × ℕ) LexFault
judged_number at large value len = cond large (Err (NumberTooLarge at)) (Ok (value, len))

number_least : (at most n base : ℕ) (text : List ℕ) (make : ℕ → TokenKind) → at + n ≤ base + digits_len text → TakesAtLeast at n (number_at at most text >>= λ v. Ok (make v.0, base + v.1))
unfolding number_at
number_least at most n base text make h = by_test (nat_lt most (number_of (take (digits_len text) text)))
  where
    by_test : (t : Bool) → TakesAtLeast at n (judged_number at t (number_of (take (digits_len text) text)) (digits_len text) >>= λ v. Ok (make v.0, base + v.1))
    by_test true = inr refl
    by_test false = h

behind_same : (at most : ℕ) (text : List ℕ) → 0 < digits_len text → number_behind at most text ≡ number_at at most text
unfolding number_behind
behind_same at most text h = grind (arith, nat_tests)

part_by_zero : (at n value len : ℕ) → at + n ≤ at + 1 + len → (z : Bool) → TakesAtLeast at n (cond z (Err (NumberTooLarge at)) (Ok (kind.Part value, at + 1 + len)))
part_by_zero at n value len h true = inr refl
part_by_zero at n value len h false = h

part_by_size : (at n value len : ℕ) → at + n ≤ at + 1 + len → (t : Bool) → TakesAtLeast at n (judged_number at t value len >>= λ v. cond (v.0 == 0) (Err (NumberTooLarge at)) (Ok (kind.Part v.0, at + 1 + v.1)))
part_by_size at n value len h true = inr refl
part_by_size at n value len h false = part_by_zero at n value len h (value == 0)

part_least : (at n : ℕ) (text : List ℕ) → at + n ≤ at + 1 + digits_len text → 0 < digits_len text → TakesAtLeast at n (part_at at text)
unfolding part_at number_at
part_least at n text h some = rw (behind_same at 8 text some) (part_by_size at n (number_of (take (digits_len text) text)) (digits_len text) h (nat_lt 8 (number_of (take (digits_len text) text))))

digits_within : (ds rest : List ℕ) → IsDigits ds → length ds ≤ digits_len (ds ++ rest)
digits_within ds rest h = passes_within is_ascii_digit ds rest h.all

word_form : (at : ℕ) (w rest : List ℕ) → is_word w ≡ true → TakesAtLeast at (length w) (token_at at (w ++ rest))
word_form at w rest h = same_reading at (length w) (token_at at (w ++ rest)) (word_at at (w ++ rest)) (first_word at (w ++ rest) (word_first w rest h))
    (word_least at (length w) (w ++ rest) (passes_within is_word_byte w rest (word_bytes w h)))

number_form : (at : ℕ) (ds rest : List ℕ) → IsDigits ds → TakesAtLeast at (length ds) (token_at at (ds ++ rest))
unfolding int_at
number_form at ds rest h =
    let d = digits_first ds rest h in
    same_reading at (length ds) (token_at at (ds ++ rest)) (int_at at (ds ++ rest)) (first_digit at (ds ++ rest) (digit_no_letter (get_or (ds ++ rest) 0 0) d) d)
    (number_least at 0x7fff_ffff_ffff_ffff (length ds) at (ds ++ rest) (λ n. kind.Int (pos n)) (omega (arith, digits_within ds rest h)))

module _ (at : ℕ) (ds rest : List ℕ) (h : IsDigits ds) where
  within : length ds ≤ digits_len (ds ++ rest)
  within = digits_within ds rest h

  some : 0 < digits_len (ds ++ rest)
  some = let w = within in omega (arith, w, h.some)

  negative_form : TakesAtLeast at (suc (length ds)) (token_at at (126 ∷ ds ++ rest))
  unfolding token_at signed_at negative_at
  negative_form = rw (behind_same at 0x8000_0000_0000_0000 (ds ++ rest) some) (number_least at 0x8000_0000_0000_0000 (suc (length ds)) (at + 1) (ds ++ rest) (λ n. kind.Int (neg_ℤ (pos n))) (omega (arith, within)))

  host_form : TakesAtLeast at (suc (length ds)) (token_at at (64 ∷ ds ++ rest))
  unfolding token_at signed_at host_at
  host_form = rw (behind_same at 0xffff_ffff (ds ++ rest) some) (number_least at 0xffff_ffff (suc (length ds)) (at + 1) (ds ++ rest) (λ n. kind.Host n) (omega (arith, within)))

  dev_form : TakesAtLeast at (suc (length ds)) (token_at at (37 ∷ ds ++ rest))
  unfolding token_at signed_at dev_at
  dev_form = rw (behind_same at 0xffff_ffff (ds ++ rest) some) (number_least at 0xffff_ffff (suc (length ds)) (at + 1) (ds ++ rest) (λ n. kind.Dev n) (omega (arith, within)))

  hash_same : hash_at at (ds ++ rest) ≡ part_at at (ds ++ rest)
  unfolding hash_at
  hash_same = let q = digit_no_quote (get_or (ds ++ rest) 0 0) (digits_first ds rest h) in grind (arith, nat_tests)

  part_form : TakesAtLeast at (suc (length ds)) (token_at at (35 ∷ ds ++ rest))
  unfolding token_at signed_at
  part_form = rw hash_same (part_least at (suc (length ds)) (ds ++ rest) (omega (arith, within)) some)

  signed_form : (sign : ℕ) → IsSign sign → TakesAtLeast at (suc (length ds)) (token_at at (sign ∷ ds ++ rest))
  signed_form sign (inl e) = rw e negative_form
  signed_form sign (inr (inl e)) = rw e host_form
  signed_form sign (inr (inr (inl e))) = rw e dev_form
  signed_form sign (inr (inr (inr e))) = rw e part_form

pub symbol_some : (s : Symbol) → 1 ≤ length (symbol_text s)
unfolding symbol_text
symbol_some symbol.ParenOpen = omega arith
symbol_some symbol.ParenClose = omega arith
symbol_some symbol.BracketOpen = omega arith
symbol_some symbol.BracketClose = omega arith
symbol_some symbol.Comma = omega arith
symbol_some symbol.Semicolon = omega arith
symbol_some symbol.Colon = omega arith
symbol_some symbol.DoubleColon = omega arith
symbol_some symbol.Equal = omega arith
symbol_some symbol.NotEqual = omega arith
symbol_some symbol.Less = omega arith
symbol_some symbol.LessEqual = omega arith
symbol_some symbol.Greater = omega arith
symbol_some symbol.GreaterEqual = omega arith
symbol_some symbol.Plus = omega arith
symbol_some symbol.Minus = omega arith
symbol_some symbol.Star = omega arith
symbol_some symbol.Slash = omega arith
symbol_some symbol.Caret = omega arith
symbol_some symbol.Arrow = omega arith
symbol_some symbol.FatArrow = omega arith
symbol_some symbol.Bar = omega arith
symbol_some symbol.Underscore = omega arith

-- the symbol that is read is no shorter than one that the text begins with
AsLong : ℕ → Option Symbol → Type 0
AsLong n None = ⊥
AsLong n (Some t) = n ≤ length (symbol_text t)

either_long : (t : Bool) (a b : Symbol) → AsLong 1 (cond t (Some a) (Some b))
unfolding AsLong
either_long true a b = symbol_some a
either_long false a b = symbol_some b

one_of_long : (t u : Bool) (a b c : Symbol) → AsLong 1 (cond t (Some a) (cond u (Some b) (Some c)))
unfolding AsLong
one_of_long true u a b c = symbol_some a
one_of_long false true a b c = symbol_some b
one_of_long false false a b c = symbol_some c

symbol_least : (s : Symbol) (rest : List ℕ) → AsLong (length (symbol_text s)) (symbol_at (symbol_text s ++ rest))
unfolding AsLong symbol_at symbol_text
symbol_least symbol.ParenOpen rest = omega arith
symbol_least symbol.ParenClose rest = omega arith
symbol_least symbol.BracketOpen rest = omega arith
symbol_least symbol.BracketClose rest = omega arith
symbol_least symbol.Comma rest = omega arith
symbol_least symbol.Semicolon rest = omega arith
symbol_least symbol.Colon rest = either_long _ symbol.DoubleColon symbol.Colon
symbol_least symbol.DoubleColon rest = omega arith
symbol_least symbol.Equal rest = either_long _ symbol.FatArrow symbol.Equal
symbol_least symbol.NotEqual rest = omega arith
symbol_least symbol.Less rest = one_of_long _ _ symbol.NotEqual symbol.LessEqual symbol.Less
symbol_least symbol.LessEqual rest = omega arith
symbol_least symbol.Greater rest = either_long _ symbol.GreaterEqual symbol.Greater
symbol_least symbol.GreaterEqual rest = omega arith
symbol_least symbol.Plus rest = omega arith
symbol_least symbol.Minus rest = either_long _ symbol.Arrow symbol.Minus
symbol_least symbol.Star rest = omega arith
symbol_least symbol.Slash rest = omega arith
symbol_least symbol.Caret rest = omega arith
symbol_least symbol.Arrow rest = omega arith
symbol_least symbol.FatArrow rest = omega arith
symbol_least symbol.Bar rest = omega arith
symbol_least symbol.Underscore rest = omega arith

symbol_form : (at : ℕ) (s : Symbol) (rest : List ℕ) → TakesAtLeast at (length (symbol_text s)) (token_at at (symbol_text s ++ rest))
unfolding AsLong
symbol_form at s rest = same_reading at (length (symbol_text s)) (token_at at (symbol_text s ++ rest)) (symbol_by at (symbol_at (symbol_text s ++ rest))) (symbol_first at s rest)
    (by_found (symbol_at (symbol_text s ++ rest)) (symbol_least s rest))
  where
    by_found : (o : Option Symbol) → AsLong (length (symbol_text s)) o → TakesAtLeast at (length (symbol_text s)) (symbol_by at o)
    by_found None h = absurd h
    by_found (Some t) h = omega (arith, h)

exactly : (at n : ℕ) (r : Result (TokenKind × ℕ) LexFault) (k : TokenKind) → r ≡ Ok (k, at + n) → TakesAtLeast at n r
exactly at n r k e = subst (TakesAtLeast at n) (sym e) (omega arith)

-- whatever the text begins with that has the form of a token, no less is taken
pub form_least : (at : ℕ) (longer rest : List ℕ) → HasForm longer → TakesAtLeast at (length longer) (token_at at (longer ++ rest))
form_least at _ rest (a_word w h) = word_form at w rest h
form_least at _ rest (a_number ds h) = number_form at ds rest h
form_least at _ rest (a_signed sign ds s h) = signed_form at ds rest h sign s
form_least at _ rest (a_char item c h) = exactly at (length (39 ∷ item ++ 39 ∷ [])) _ _ (reads_char at item c rest h)
form_least at _ rest (a_string items bytes h) = exactly at (length (34 ∷ items ++ 34 ∷ [])) _ _ (reads_string at items bytes rest h)
form_least at _ rest (a_blob pairs bytes h) = exactly at (length (35 ∷ 34 ∷ pairs ++ 34 ∷ [])) _ _ (reads_blob at pairs bytes rest h)
form_least at _ rest (a_symbol s) = symbol_form at s rest
