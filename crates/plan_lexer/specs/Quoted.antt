-- Strings and chars.
use Rattle.std.specs.Prelude.{ℕ, zero, suc, ◌+◌, ◌-◌, List, [], ◌∷◌, ◌++◌, get_or, Result, Ok, Err, encode_utf8, ◌==◌, if◌then◌else◌}
use Rattle.plan_lexer.specs.CharItems.{item_at}
use Rattle.plan_lexer.specs.declared.item.CharItem.{CharItem}
use Rattle.plan_lexer.specs.declared.item.CharItem.TheVariants.{Closes, Open, Wrong, Code}
use Rattle.plan_lexer.specs.declared.fault.LexFault.{LexFault}
use Rattle.plan_lexer.specs.declared.fault.LexFault.TheVariants.{BadChar, OpenString}

-- bytes put in front of what is read
abbrev pub with_front : List ℕ → Result (List ℕ × ℕ) LexFault → Result (List ℕ × ℕ) LexFault
with_front front (Ok read) = Ok (front ++ read.0, read.1)
with_front front (Err e) = Err e

-- the rest of the string from `start`, by the item at `at` that is next; `behind` reads what follows when so many more bytes are passed
abbrev pub string_by : ℕ → ℕ → (ℕ → Result (List ℕ × ℕ) LexFault) → CharItem → Result (List ℕ × ℕ) LexFault
string_by start at behind Closes = Ok ([], at + 1)
string_by start at behind Open = Err (OpenString start)
string_by start at behind Wrong = Err (BadChar at)
string_by start at behind (Code code width) = with_front (encode_utf8 code) (behind (width - 1))

-- the bytes of the rest of a string that begins at `start`, and the place behind its closing quote; `passed` bytes at `at` belong to the item before
abbrev pub string_from : ℕ → ℕ → ℕ → List ℕ → Result (List ℕ × ℕ) LexFault
string_from start at passed [] = Err (OpenString start)
string_from start at zero (b ∷ more) = string_by start at (λ passed. string_from start (at + 1) passed more) (item_at 34 (b ∷ more))
string_from start at (suc passed) (b ∷ more) = string_from start (at + 1) passed more

-- the bytes of a string whose opening quote stands at `start` before the text, and the place behind its closing quote
unfoldable pub string_at : ℕ → List ℕ → Result (List ℕ × ℕ) LexFault
string_at start text = string_from start (start + 1) 0 text

-- a char's code and the bytes of its item, if its closing quote follows
unfoldable pub char_by : ℕ → List ℕ → CharItem → Result (ℕ × ℕ) LexFault
char_by start text (Code code width) = if get_or text width 0 == 39 then Ok (code, start + width + 2) else Err (BadChar start)
char_by start text Closes = Err (BadChar start)
char_by start text Open = Err (BadChar start)
char_by start text Wrong = Err (BadChar start)

-- the code of a char whose opening quote stands at `start` before the text, and the place behind its closing quote
unfoldable pub char_at : ℕ → List ℕ → Result (ℕ × ℕ) LexFault
char_at start text = char_by start text (item_at 39 text)
