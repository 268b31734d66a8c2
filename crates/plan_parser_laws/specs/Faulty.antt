-- What is refused behind the opening quote of a string, a char and a blob, by the written forms of their items alone.
use Rattle.std.specs.Prelude.{◌≡◌, ◌≢◌, ℕ, ◌+◌, List, [], ◌∷◌, ◌++◌, length, Some, None}
use Rattle.plan_lexer.specs.CharItems.{hex_value}
use Rattle.plan_lexer.specs.TokenForms.{SpellsItem, SpellsItems, SpellsPairs}
use Rattle.plan_lexer.specs.declared.fault.LexFault.{LexFault}
use Rattle.plan_lexer.specs.declared.fault.LexFault.TheVariants.{BadChar, OpenString}

-- the line or the text ends here
pub data EndsLine : List ℕ → Type 0 where
  end_of_text : EndsLine []
  end_of_line : (more : List ℕ) → EndsLine (10 ∷ more)

-- a byte stands here that is neither the closing quote nor the first of an item
pub record NoItem (quote : ℕ) (text : List ℕ) : Type 0 where
  pub first : ℕ
  pub more : List ℕ
  pub is : text ≡ first ∷ more
  pub no_end : first ≢ 10
  pub no_quote : first ≢ quote
  pub no_item : (front rest : List ℕ) (c : ℕ) → text ≡ front ++ rest → SpellsItem quote front c → ⊥

-- behind items and before the closing quote of a string that begins at the place `start`, with its first item at `at`,
-- the line ends, or no item stands where one must
pub data StringFault (e : LexFault) (start at : ℕ) (text : List ℕ) : Type 0 where
  open_string : (items bytes rest : List ℕ) → text ≡ items ++ rest → SpellsItems 34 items bytes → EndsLine rest → e ≡ OpenString start
      → StringFault e start at text
  wrong_item : (items bytes rest : List ℕ) → text ≡ items ++ rest → SpellsItems 34 items bytes → NoItem 34 rest
      → e ≡ BadChar (at + length items) → StringFault e start at text

-- no item with a closing quote stands behind the quote at that place
pub record CharFault (e : LexFault) (start : ℕ) (text : List ℕ) : Type 0 where
  pub none : (item rest : List ℕ) (c : ℕ) → text ≡ item ++ 39 ∷ rest → SpellsItem 39 item c → ⊥
  pub is : e ≡ BadChar start

-- behind pairs of digits and before the closing quote of a blob that begins at the place `start`, with its first pair at
-- `at`, the line ends, maybe behind one digit, or no digit stands where one must; the quote is no second digit
pub data BlobFault (e : LexFault) (start at : ℕ) (text : List ℕ) : Type 0 where
  open_blob : (pairs bytes rest : List ℕ) → text ≡ pairs ++ rest → SpellsPairs pairs bytes → EndsLine rest → e ≡ OpenString start → BlobFault e start at text
  open_half : (pairs bytes rest : List ℕ) (h high : ℕ) → text ≡ pairs ++ h ∷ rest → SpellsPairs pairs bytes → hex_value h ≡ Some high
      → EndsLine rest → e ≡ OpenString start → BlobFault e start at text
  no_digit : (pairs bytes more : List ℕ) (b : ℕ) → text ≡ pairs ++ b ∷ more → SpellsPairs pairs bytes → b ≢ 10 → b ≢ 34 → hex_value b ≡ None
      → e ≡ BadChar (at + length pairs) → BlobFault e start at text
  no_second : (pairs bytes more : List ℕ) (h high b : ℕ) → text ≡ pairs ++ h ∷ b ∷ more → SpellsPairs pairs bytes → hex_value h ≡ Some high
      → b ≢ 10 → hex_value b ≡ None → e ≡ BadChar (at + length pairs + 1) → BlobFault e start at text
