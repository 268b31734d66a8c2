-- Bytes as words of hex digits.
use Rattle.std.specs.Prelude.{ℕ, ◌&&◌, nat_le, List, length, Option, Some, None, if◌then◌else◌, Result, Ok, Err}
use Rattle.std.specs.Option.{ok_or}
use Rattle.hex.specs.Hex.{decode_of}
use Rattle.hex.specs.declared.error.FromHexError.{FromHexError}
use Rattle.line_reader.specs.declared.fault.LineReason.TheVariants.{BadArgument}
use Rattle.line_reader.specs.Reads.{◌>>=◌, Part, word_at}

-- the bytes that were decoded, if any were
abbrev pub hex_of : Result (List ℕ) FromHexError → Option (List ℕ)
hex_of (Ok bytes) = Some bytes
hex_of (Err e) = None

-- bytes of which there are from one number to another
abbrev pub within_size : ℕ → ℕ → Option (List ℕ) → Option (List ℕ)
within_size low high None = None
within_size low high (Some bytes) = if nat_le low (length bytes) && nat_le (length bytes) high then Some bytes else None

-- the next word as so many bytes in hex digits of either case
unfoldable pub hex_at : ℕ → ℕ → List (List ℕ) → Part (List ℕ)
hex_at low high ws = do
  w ← word_at ws
  bytes ← ok_or (within_size low high (hex_of (decode_of w.0))) BadArgument
  Ok (bytes, w.1)
