-- The printed form of numbers, strings, chars, blobs, hosts and devices. `decimal` has no leading zeros.
use Rattle.std.specs.Prelude.{ℕ, ◌+◌, ◌/◌, ◌%◌, ◌||◌, List, [], ◌∷◌, ◌++◌, ℤ, pos, negsuc, encode_utf8, nat_lt, ◌==◌, if◌then◌else◌}
use Rattle.std.specs.Fmt.{decimal}
use Rattle.std.specs.List.{flat_map}

-- a number with its sign
unfoldable pub int_text : ℤ → List ℕ
int_text (pos n) = decimal n
int_text (negsuc n) = 126 ∷ decimal (n + 1)

unfoldable pub host_text : ℕ → List ℕ
host_text n = 64 ∷ decimal n

unfoldable pub dev_text : ℕ → List ℕ
dev_text n = 37 ∷ decimal n

unfoldable pub part_text : ℕ → List ℕ
part_text n = 35 ∷ decimal n

-- a hex digit in lower case
abbrev pub hex_digit : ℕ → ℕ
hex_digit v = if nat_lt v 10 then 48 + v else 87 + v

-- the two hex digits of a byte
abbrev pub hex_pair : ℕ → List ℕ
hex_pair b = hex_digit (b / 16) ∷ hex_digit (b % 16) ∷ []

-- a byte of a text between such quotes
unfoldable pub byte_text : ℕ → ℕ → List ℕ
byte_text quote b =
    if (b == quote) || (b == 92) then 92 ∷ b ∷ [] else
    (if b == 10 then 92 ∷ 110 ∷ [] else (if b == 9 then 92 ∷ 116 ∷ [] else (if b == 13 then 92 ∷ 114 ∷ [] else
    (if nat_lt b 32 || (b == 127) then 92 ∷ 120 ∷ hex_pair b else b ∷ []))))

-- a string of these bytes in UTF-8
unfoldable pub string_text : List ℕ → List ℕ
string_text bytes = 34 ∷ flat_map (byte_text 34) bytes ++ 34 ∷ []

-- a char by its scalar value
unfoldable pub char_text : ℕ → List ℕ
char_text c = 39 ∷ flat_map (byte_text 39) (encode_utf8 c) ++ 39 ∷ []

-- a blob of these bytes
unfoldable pub blob_text : List ℕ → List ℕ
blob_text bytes = 35 ∷ 34 ∷ flat_map hex_pair bytes ++ 34 ∷ []
