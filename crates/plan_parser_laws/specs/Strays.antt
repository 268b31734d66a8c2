-- What is refused at a front that is no token, by the written forms of words and numbers alone.
use Rattle.std.specs.Prelude.{◌≡◌, ◌≢◌, ℕ, ◌<◌, ◌≤◌, ◌^◌, ◌==◌, ◌&&◌, false, List, ◌∷◌, ◌++◌, length, get_or, IsTrue}
use Rattle.std.specs.Char.{is_ascii_digit}
use Rattle.plan_base.specs.Words.{is_word}
use Rattle.plan_lexer.specs.Gaps.{is_blank}
use Rattle.plan_lexer.specs.Numerals.{number_of}
use Rattle.plan_lexer.specs.TokenForms.{IsDigits, HasForm}
use Rattle.plan_lexer.specs.declared.fault.LexFault.{LexFault}
use Rattle.plan_lexer.specs.declared.fault.LexFault.TheVariants.{BadChar, NumberTooLarge, LongName}

-- the text begins with no blank, no comment and no quote
pub record IsStray (text : List ℕ) : Type 0 where
  pub no_blank : is_blank (get_or text 0 0) ≡ false
  pub no_comment : ((get_or text 0 0 == 40) && (get_or text 1 0 == 42)) ≡ false
  pub no_string : get_or text 0 0 ≢ 34
  pub no_char : get_or text 0 0 ≢ 39
  pub no_blob : ((get_or text 0 0 == 35) && (get_or text 1 0 == 34)) ≡ false

-- A word of more than 32 bytes; an int, a negative one, a host, a device or a part out of range; or nothing that has the form
-- of a token. A part is 0 only where no more digits follow.
pub data StrayFault (e : LexFault) (at : ℕ) (text : List ℕ) : Type 0 where
  long_word : (w rest : List ℕ) → text ≡ w ++ rest → IsTrue (is_word w) → 32 < length w → e ≡ LongName at → StrayFault e at text
  large_int : (ds rest : List ℕ) → text ≡ ds ++ rest → IsDigits ds → 2 ^ 63 ≤ number_of ds → e ≡ NumberTooLarge at → StrayFault e at text
  large_negative : (ds rest : List ℕ) → text ≡ 126 ∷ ds ++ rest → IsDigits ds → 2 ^ 63 < number_of ds → e ≡ NumberTooLarge at → StrayFault e at text
  large_host : (ds rest : List ℕ) → text ≡ 64 ∷ ds ++ rest → IsDigits ds → 2 ^ 32 ≤ number_of ds → e ≡ NumberTooLarge at → StrayFault e at text
  large_dev : (ds rest : List ℕ) → text ≡ 37 ∷ ds ++ rest → IsDigits ds → 2 ^ 32 ≤ number_of ds → e ≡ NumberTooLarge at → StrayFault e at text
  large_part : (ds rest : List ℕ) → text ≡ 35 ∷ ds ++ rest → IsDigits ds → 8 < number_of ds → e ≡ NumberTooLarge at → StrayFault e at text
  no_part : (ds rest : List ℕ) → text ≡ 35 ∷ ds ++ rest → IsDigits ds → number_of ds ≡ 0 → is_ascii_digit (get_or rest 0 0) ≡ false → e ≡ NumberTooLarge at
      → StrayFault e at text
  no_token : ((front rest : List ℕ) → text ≡ front ++ rest → HasForm front → ⊥) → e ≡ BadChar at → StrayFault e at text
