use Rattle.std.specs.Prelude.{◌≡◌, ℕ, ◌+◌, ◌<◌, List, length, take, drop, Result, Ok, Err, nat_lt, if◌then◌else◌, get_or, ℤ}
use Rattle.std.specs.Int.{Width, w64, byte_len, from_be_bytes, cast_signed}

-- what a cursor is: a place, and the bytes from there on
pub record Front : Type 0 where
  pub at : ℕ
  pub rest : List ℕ

-- what an output is: the bytes put so far, and how many more have room
pub record Page : Type 0 where
  pub bytes : List ℕ
  pub room : ℕ

-- each item is a byte
abbrev pub IsBytes : List ℕ → Type 0
IsBytes bytes = (i : ℕ) → get_or bytes i 0 < 256

-- what stands n bytes further on
abbrev pub after : ℕ → Front → Front
after n f = record { at = f.at + n; rest = drop n f.rest }

-- the next n bytes and what follows, or the place of a field that isn't whole
abbrev pub bytes_at : ℕ → Front → Result (List ℕ × Front) ℕ
bytes_at n f = if nat_lt (length f.rest) n then Err f.at else Ok (take n f.rest, after n f)

-- the next big-endian number of that width
abbrev pub number_at : Width → Front → Result (ℕ × Front) ℕ
number_at w f = if nat_lt (length f.rest) (byte_len w) then Err f.at else Ok (from_be_bytes w (take (byte_len w) f.rest), after (byte_len w) f)

-- the next number of 64 bits with sign
abbrev pub int_at : Front → Result (ℤ × Front) ℕ
int_at f = if nat_lt (length f.rest) 8 then Err f.at else Ok (cast_signed w64 (from_be_bytes w64 (take 8 f.rest)), after 8 f)

-- a call answered what a reading gives: its value with the cursor behind it, or the place with the cursor where it was
abbrev pub Reads : {X Y E : Type 0} → (X → Y) → (E → ℕ) → Result X E → Front → Front → Result (Y × Front) ℕ → Type 0
Reads view place (Ok x) old new read = read ≡ Ok (view x, new)
Reads view place (Err e) old new read = (read ≡ Err (place e)) × (new ≡ old)
