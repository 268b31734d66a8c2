-- The items between the quotes of strings and chars.
use Rattle.std.specs.Prelude.{◌<◌, ◌≤◌, ℕ, ◌+◌, ◌-◌, ◌*◌, List, length, get_or, Option, Some, None, nat_lt, ◌==◌, if◌then◌else◌}
use lib.Utf8.{scalar}
use Rattle.plan_lexer.specs.declared.item.CharItem.{CharItem}
use Rattle.plan_lexer.specs.declared.item.CharItem.TheVariants.{Closes, Open, Wrong, Code}

infixl 10 ◌>>=◌
abbrev ◌>>=◌ : {A B : Type 0} → Option A → (A → Option B) → Option B
Some x >>= next = next x
None >>= next = None

-- the six bits of a byte that continues a character
unfoldable pub continuation : ℕ → Option ℕ
continuation b = if nat_lt b 128 then None else (if nat_lt b 192 then Some (b - 128) else None)

-- a character with the bytes it takes, where it is a scalar value that shorter bytes don't give
unfoldable pub shortest : ℕ → ℕ → ℕ → Option (ℕ × ℕ)
shortest least code width = if nat_lt code least then None else (if scalar code then Some (code, width) else None)

-- the character of two, three or four bytes that a text begins with, with how many they are
unfoldable pub two_bytes : List ℕ → Option (ℕ × ℕ)
two_bytes text = do
  b ← continuation (get_or text 1 0)
  shortest 128 ((get_or text 0 0 - 192) * 64 + b) 2

unfoldable pub three_bytes : List ℕ → Option (ℕ × ℕ)
three_bytes text = do
  b ← continuation (get_or text 1 0)
  c ← continuation (get_or text 2 0)
  shortest 2048 (((get_or text 0 0 - 224) * 64 + b) * 64 + c) 3

unfoldable pub four_bytes : List ℕ → Option (ℕ × ℕ)
four_bytes text = do
  b ← continuation (get_or text 1 0)
  c ← continuation (get_or text 2 0)
  d ← continuation (get_or text 3 0)
  shortest 65536 ((((get_or text 0 0 - 240) * 64 + b) * 64 + c) * 64 + d) 4

-- the character of more than one byte that a text begins with
unfoldable pub wide_at : List ℕ → Option (ℕ × ℕ)
wide_at text =
    if nat_lt (get_or text 0 0) 192 then None else
    (if nat_lt (get_or text 0 0) 224 then two_bytes text else
    (if nat_lt (get_or text 0 0) 240 then three_bytes text else
    (if nat_lt (get_or text 0 0) 248 then four_bytes text else None)))

-- the value of a hex digit of either case
unfoldable pub hex_value : ℕ → Option ℕ
hex_value b =
    if nat_lt b 48 then None else (if nat_lt b 58 then Some (b - 48) else
    (if nat_lt b 65 then None else (if nat_lt b 71 then Some (b - 55) else
    (if nat_lt b 97 then None else (if nat_lt b 103 then Some (b - 87) else None)))))

-- the byte of two digits, if both are
abbrev pub pair_of : Option ℕ → Option ℕ → Option ℕ
pair_of None low = None
pair_of (Some high) None = None
pair_of (Some high) (Some low) = Some (16 * high + low)

unfoldable pub pair_value : ℕ → ℕ → Option ℕ
pair_value high low = pair_of (hex_value high) (hex_value low)

-- the character that a letter stands for behind a backslash
unfoldable pub escaped_character : ℕ → Option ℕ
escaped_character b =
    if b == 110 then Some 10 else (if b == 116 then Some 9 else (if b == 114 then Some 13 else
    (if b == 34 then Some 34 else (if b == 39 then Some 39 else (if b == 92 then Some 92 else None)))))

-- the character below 80 hex that two hex digits behind a backslash and an x give
unfoldable pub hex_escape : List ℕ → Option (ℕ × ℕ)
hex_escape text = do
  high ← hex_value (get_or text 2 0)
  low ← hex_value (get_or text 3 0)
  if nat_lt high 8 then Some (16 * high + low, 4) else None

-- the character that a text begins with, by an escape
unfoldable pub escape_at : List ℕ → Option (ℕ × ℕ)
escape_at text = if get_or text 1 0 == 120 then hex_escape text else (escaped_character (get_or text 1 0) >>= λ c. Some (c, 2))

-- the character that a text begins with, in a string or char
unfoldable pub code_at : List ℕ → Option (ℕ × ℕ)
code_at text =
    if get_or text 0 0 == 92 then escape_at text else
    (if nat_lt (get_or text 0 0) 32 then None else
    (if nat_lt (get_or text 0 0) 127 then Some (get_or text 0 0, 1) else wide_at text))

-- the item that a character makes, if there is one
abbrev pub item_from : Option (ℕ × ℕ) → CharItem
item_from None = Wrong
item_from (Some c) = Code c.0 c.1

-- what stands at the front of a text before the closing quote: an item, the quote, or the end of the line or the text
unfoldable pub item_at : ℕ → List ℕ → CharItem
item_at quote text =
    if length text == 0 then Open else
    (if get_or text 0 0 == 10 then Open else
    (if get_or text 0 0 == quote then Closes else item_from (code_at text)))

-- an item takes a byte at least, and no more than there are
abbrev pub ItemFits : CharItem → ℕ → Type 0
ItemFits (Code code width) len = (0 < width) × (width ≤ len)
ItemFits Closes len = 0 < len
ItemFits Open len = Unit {0}
ItemFits Wrong len = Unit {0}
