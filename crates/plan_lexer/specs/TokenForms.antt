-- What a token of each kind is, apart from how one is found in a text.
use Rattle.std.specs.Prelude.{◌≡◌, ◌≢◌, ℕ, ◌+◌, ◌*◌, ◌^◌, ◌<◌, ◌≤◌, ◌⊎◌, true, false, List, [], ◌∷◌, ◌++◌, length, get_or, Some, Result, Ok}
use Rattle.std.specs.Prelude.{Err, pos, neg_ℤ, IsTrue, encode_utf8}
use Rattle.std.specs.Char.{IsScalar, is_ascii_digit}
use Rattle.std.specs.List.{list_all}
use Rattle.plan_base.specs.Words.{is_word_byte, is_word, IsName}
use Rattle.plan_lexer.specs.CharItems.{escaped_character, hex_value}
use Rattle.plan_lexer.specs.Numerals.{number_of}
use Rattle.plan_lexer.specs.Tables.{key_text, symbol_text, symbol_at}
use Rattle.plan_lexer.specs.declared.fault.LexFault.{LexFault}
use Rattle.plan_lexer.specs.declared.fault.LexFault.TheVariants.{LongName, NumberTooLarge}
use Rattle.plan_lexer.specs.declared.token.Key.{Key}
use Rattle.plan_lexer.specs.declared.token.Symbol.{Symbol}
use Rattle.plan_lexer.specs.declared.token.TokenKind.{TokenKind}
use Rattle.plan_lexer.specs.declared.token.TokenKind.TheVariants as kind

-- one digit or more
pub record IsDigits (digits : List ℕ) : Type 0 where
  pub some : 0 < length digits
  pub all : list_all is_ascii_digit digits ≡ true

-- bytes that stand for a character between such quotes
pub data SpellsItem (quote : ℕ) : List ℕ → ℕ → Type 0 where
  plain : (c : ℕ) → 32 ≤ c → c < 127 → c ≢ 92 → c ≢ quote → SpellsItem quote (c ∷ []) c
  wide : (c : ℕ) → 128 ≤ c → IsScalar c → SpellsItem quote (encode_utf8 c) c
  letter : (l c : ℕ) → escaped_character l ≡ Some c → SpellsItem quote (92 ∷ l ∷ []) c
  digits : (h l high low : ℕ) → hex_value h ≡ Some high → hex_value l ≡ Some low → high < 8 → SpellsItem quote (92 ∷ 120 ∷ h ∷ l ∷ []) (16 * high + low)

-- bytes that stand for a text between such quotes
pub data SpellsItems (quote : ℕ) : List ℕ → List ℕ → Type 0 where
  no_items : SpellsItems quote [] []
  an_item : (front rest : List ℕ) (c : ℕ) (bytes : List ℕ) → SpellsItem quote front c → SpellsItems quote rest bytes
      → SpellsItems quote (front ++ rest) (encode_utf8 c ++ bytes)

-- pairs of hex digits that stand for bytes
pub data SpellsPairs : List ℕ → List ℕ → Type 0 where
  no_pairs : SpellsPairs [] []
  a_pair : (h l high low : ℕ) (rest bytes : List ℕ) → hex_value h ≡ Some high → hex_value l ≡ Some low → SpellsPairs rest bytes
      → SpellsPairs (h ∷ l ∷ rest) ((16 * high + low) ∷ bytes)

-- a token with what it stands for
pub data Spells : TokenKind → List ℕ → Type 0 where
  name : (w : List ℕ) → IsName w → Spells (kind.Word w) w
  key : (k : Key) → Spells (kind.Key k) (key_text k)
  int : (ds : List ℕ) → IsDigits ds → number_of ds < 2 ^ 63 → Spells (kind.Int (pos (number_of ds))) ds
  negative : (ds : List ℕ) → IsDigits ds → number_of ds ≤ 2 ^ 63 → Spells (kind.Int (neg_ℤ (pos (number_of ds)))) (126 ∷ ds)
  host : (ds : List ℕ) → IsDigits ds → number_of ds < 2 ^ 32 → Spells (kind.Host (number_of ds)) (64 ∷ ds)
  dev : (ds : List ℕ) → IsDigits ds → number_of ds < 2 ^ 32 → Spells (kind.Dev (number_of ds)) (37 ∷ ds)
  part : (ds : List ℕ) → IsDigits ds → 1 ≤ number_of ds → number_of ds ≤ 8 → Spells (kind.Part (number_of ds)) (35 ∷ ds)
  char : (item : List ℕ) (c : ℕ) → SpellsItem 39 item c → Spells (kind.Char c) (39 ∷ item ++ 39 ∷ [])
  string : (items bytes : List ℕ) → SpellsItems 34 items bytes → Spells (kind.Str bytes) (34 ∷ items ++ 34 ∷ [])
  blob : (pairs bytes : List ℕ) → SpellsPairs pairs bytes → Spells (kind.Blob bytes) (35 ∷ 34 ∷ pairs ++ 34 ∷ [])
  symbol : (s : Symbol) → Spells (kind.Symbol s) (symbol_text s)

-- the signs before digits
abbrev pub IsSign : ℕ → Type 0
IsSign b = (b ≡ 126) ⊎ ((b ≡ 64) ⊎ ((b ≡ 37) ⊎ (b ≡ 35)))

-- the form of a token, whatever the length of a word or the size of a number
pub data HasForm : List ℕ → Type 0 where
  a_word : (w : List ℕ) → IsTrue (is_word w) → HasForm w
  a_number : (ds : List ℕ) → IsDigits ds → HasForm ds
  a_signed : (sign : ℕ) (ds : List ℕ) → IsSign sign → IsDigits ds → HasForm (sign ∷ ds)
  a_char : (item : List ℕ) (c : ℕ) → SpellsItem 39 item c → HasForm (39 ∷ item ++ 39 ∷ [])
  a_string : (items bytes : List ℕ) → SpellsItems 34 items bytes → HasForm (34 ∷ items ++ 34 ∷ [])
  a_blob : (pairs bytes : List ℕ) → SpellsPairs pairs bytes → HasForm (35 ∷ 34 ∷ pairs ++ 34 ∷ [])
  a_symbol : (s : Symbol) → HasForm (symbol_text s)

-- a reading at a place took so many bytes at least, or was refused for the length of a word or the size of a number
abbrev pub TakesAtLeast : ℕ → ℕ → Result (TokenKind × ℕ) LexFault → Type 0
TakesAtLeast at len (Ok read) = at + len ≤ read.1
TakesAtLeast at len (Err e) = (e ≡ LongName at) ⊎ (e ≡ NumberTooLarge at)

-- the token of a text at a place ends here: it is a prefix of the text that spells this kind
pub record IsFront (text : List ℕ) (at : ℕ) (k : TokenKind) (next : ℕ) : Type 0 where
  pub front : List ℕ
  pub rest : List ℕ
  pub splits : text ≡ front ++ rest
  pub spells : Spells k front
  pub place : next ≡ at + length front

-- what may follow a token without being taken for more of it
abbrev pub EndsBefore : TokenKind → List ℕ → Type 0
EndsBefore (kind.Word w) rest = is_word_byte (get_or rest 0 0) ≡ false
EndsBefore (kind.Key k) rest = is_word_byte (get_or rest 0 0) ≡ false
EndsBefore (kind.Int z) rest = is_ascii_digit (get_or rest 0 0) ≡ false
EndsBefore (kind.Host n) rest = is_ascii_digit (get_or rest 0 0) ≡ false
EndsBefore (kind.Dev n) rest = is_ascii_digit (get_or rest 0 0) ≡ false
EndsBefore (kind.Part n) rest = is_ascii_digit (get_or rest 0 0) ≡ false
EndsBefore (kind.Char c) rest = Unit {0}
EndsBefore (kind.Str bytes) rest = Unit {0}
EndsBefore (kind.Blob bytes) rest = Unit {0}
EndsBefore (kind.Symbol s) rest = symbol_at (symbol_text s ++ rest) ≡ Some s
