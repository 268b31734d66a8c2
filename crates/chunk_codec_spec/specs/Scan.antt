-- Fields of a spelling, read one after another. A field that isn't whole is cut off at its first byte.
use Rattle.std.specs.Prelude.{ℕ, ◌-◌, List, [], ◌∷◌, Bool, true, false, Option, Some, None, Result, Ok, Err, nat_lt, nat_le, if◌then◌else◌, slice_get, ℤ}
use Rattle.std.specs.Int.{Width, w8, w16, w32}
use Rattle.std.specs.Str.{is_utf8}
use lib.Utf8.{scalar}
use Rattle.plan_base.specs.Words.{is_name}
use Rattle.wire_bytes.specs.Fields.{Front, bytes_at, number_at, int_at}
use Rattle.containers.specs.Reading.{◌>>=◌}
use Rattle.plan_base.specs.declared.limit.Limit.{Limit}
use Rattle.plan_base.specs.declared.tree.Op.{Op}
use Rattle.chunk_codec_spec.specs.declared.fault.SpellFault.{SpellFault}
use Rattle.chunk_codec_spec.specs.declared.fault.SpellFault.TheVariants.{Truncated, BadTag, BadName, BadUtf8, OverLimit}
use Rattle.chunk_codec_spec.specs.declared.tags.TheConstants.{OPERATORS}

-- where a reading stands: the bytes from there on, and how many expressions of the program were read
pub record Scan : Type 0 where
  pub front : Front
  pub nodes : ℕ

-- a reading from some place on: what was read and where it came to, or the fault
abbrev pub Reader : Type 0 → Type 0
Reader A = Scan → Result (A × Scan) SpellFault

-- a field that isn't whole is cut off
abbrev pub whole : {A : Type 0} → Result (A × Front) ℕ → Scan → Result (A × Scan) SpellFault
whole (Ok x) s = Ok (x.0, record s { front = x.1 })
whole (Err at) s = Err (Truncated at)

-- the next number
unfoldable pub number_field : Width → Reader ℕ
number_field w s = whole (number_at w s.front) s

-- the next number with sign
unfoldable pub int_field : Reader ℤ
int_field s = whole (int_at s.front) s

-- the next n bytes
unfoldable pub bytes_field : ℕ → Reader (List ℕ)
bytes_field n s = whole (bytes_at n s.front) s

-- what was read may stand there, or else is the fault
abbrev pub allowed_or_fault : {A : Type 0} → Bool → SpellFault → A × Scan → Result (A × Scan) SpellFault
allowed_or_fault true e x = Ok x
allowed_or_fault false e x = Err e

-- the tag with that number, where the first of the table has the number base
abbrev pub tag_of : {T : Type 0} → ℕ → List T → ℕ → Option T
tag_of base tags byte = if nat_lt byte base then None else slice_get tags (byte - base)

-- a byte of the table, or a wrong tag
abbrev pub known_tag : {T : Type 0} → Option T → ℕ → Scan → Result (T × Scan) SpellFault
known_tag (Some t) at s = Ok (t, s)
known_tag None at s = Err (BadTag at)

-- the next byte as one of a table
unfoldable pub table_field : {T : Type 0} → ℕ → List T → Reader T
table_field base tags s = do
  byte ← number_field w8 s
  known_tag (tag_of base tags byte.0) s.front.at byte.1

-- a truth value: 0 or 1
abbrev pub flags : List Bool
flags = false ∷ true ∷ []

unfoldable pub flag_field : Reader Bool
flag_field s = table_field 0 flags s

-- whether a number is a Unicode scalar
abbrev pub is_scalar : ℕ → Bool
is_scalar c = scalar c

-- a Unicode scalar in four bytes
unfoldable pub char_field : Reader ℕ
char_field s = do
  code ← number_field w32 s
  allowed_or_fault (is_scalar code.0) (BadUtf8 s.front.at) code

-- bytes behind their length in two bytes
unfoldable pub blob_field : Reader (List ℕ)
blob_field s = do
  size ← number_field w16 s
  bytes_field size.0 size.1

-- the same, in UTF-8
unfoldable pub text_field : Reader (List ℕ)
text_field s = do
  size ← number_field w16 s
  text ← bytes_field size.0 size.1
  allowed_or_fault (is_utf8 text.0) (BadUtf8 size.1.front.at) text

-- a count in one byte, from least to most
unfoldable pub count_field : Limit → ℕ → ℕ → Reader ℕ
count_field limit least most s = do
  count ← number_field w8 s
  enough ← allowed_or_fault (nat_le least count.0) (BadTag s.front.at) count
  allowed_or_fault (nat_le enough.0 most) (OverLimit limit s.front.at) enough

-- a name: its length, at least 1 and at most 32, and its bytes, which are a word that isn't reserved
unfoldable pub name_field : Reader (List ℕ)
name_field s = do
  size ← number_field w8 s
  longer ← allowed_or_fault (nat_le 1 size.0) (BadName s.front.at) size
  fits ← allowed_or_fault (nat_le longer.0 32) (BadName s.front.at) longer
  name ← bytes_field fits.0 fits.1
  allowed_or_fault (is_name name.0) (BadName s.front.at) name

-- an operator by its number
unfoldable pub operator_field : Reader Op
operator_field s = table_field 0 OPERATORS s
