-- The parts of a spelling that are fields of their own.
use Rattle.std.specs.Prelude.{ℕ, ◌≤◌, ◌<◌, ◌^◌, List, [], ◌∷◌, ◌++◌, length, Bool, true, false, ℤ, FitsSigned}
use Rattle.std.specs.Char.{IsScalar}
use Rattle.std.specs.Str.{IsUtf8}
use Rattle.std.specs.Int.{w16, w32, w64, to_be_bytes, cast_unsigned}
use Rattle.plan_base.specs.Words.{IsName}
use Rattle.plan_base.specs.declared.limit.Limit.{Limit}
use Rattle.plan_base.specs.declared.tree.Op.{Op}
use Rattle.chunk_codec_spec.specs.Items.{a_flag, an_int, a_word, a_char, a_text, a_blob, a_name, an_operator, a_part_number}
use Rattle.chunk_codec_spec.specs.Scan.{number_field, int_field, flag_field, char_field, text_field, blob_field, name_field, operator_field, count_field}
use Rattle.chunk_codec_spec.specs.Parts.{Part}

-- the byte of a truth value
abbrev pub flag_byte : Bool → ℕ
flag_byte false = 0
flag_byte true = 1

abbrev pub flag_part : Part Bool
flag_part = record { item = a_flag; read = flag_field; bytes = λ b. flag_byte b ∷ []; Fits = λ _. Unit {0}; nodes = λ _. 0 }

abbrev pub int_part : Part ℤ
int_part = record { item = an_int; read = int_field; bytes = λ z. to_be_bytes w64 (cast_unsigned w64 z); Fits = FitsSigned w64; nodes = λ _. 0 }

abbrev pub word_part : Part ℕ
word_part = record { item = a_word; read = number_field w32; bytes = to_be_bytes w32; Fits = λ n. n < 2 ^ 32; nodes = λ _. 0 }

abbrev pub char_part : Part ℕ
char_part = record { item = a_char; read = char_field; bytes = to_be_bytes w32; Fits = λ c. IsScalar c × (c < 2 ^ 32); nodes = λ _. 0 }

-- a length in two bytes, and the bytes
abbrev pub sized_bytes : List ℕ → List ℕ
sized_bytes bs = to_be_bytes w16 (length bs) ++ bs

abbrev pub text_part : Part (List ℕ)
text_part = record { item = a_text; read = text_field; bytes = sized_bytes; Fits = λ bs. IsUtf8 bs × (length bs < 2 ^ 16); nodes = λ _. 0 }

abbrev pub blob_part : Part (List ℕ)
blob_part = record { item = a_blob; read = blob_field; bytes = sized_bytes; Fits = λ bs. length bs < 2 ^ 16; nodes = λ _. 0 }

-- a length in one byte, and the bytes
abbrev pub name_bytes : List ℕ → List ℕ
name_bytes n = length n ∷ n

abbrev pub name_part : Part (List ℕ)
name_part = record { item = a_name; read = name_field; bytes = name_bytes; Fits = IsName; nodes = λ _. 0 }

-- the number of each operator
abbrev pub op_byte : Op → ℕ
op_byte Op.Add = 0
op_byte Op.Sub = 1
op_byte Op.Mul = 2
op_byte Op.Div = 3
op_byte Op.Mod = 4
op_byte Op.Cat = 5
op_byte Op.Eq = 6
op_byte Op.Ne = 7
op_byte Op.Lt = 8
op_byte Op.Le = 9
op_byte Op.Gt = 10
op_byte Op.Ge = 11
op_byte Op.Cons = 12

abbrev pub op_part : Part Op
op_part = record { item = an_operator; read = operator_field; bytes = λ o. op_byte o ∷ []; Fits = λ _. Unit {0}; nodes = λ _. 0 }

-- the number of a part, from 1 to 8
abbrev pub part_number_part : Part ℕ
part_number_part = record { item = a_part_number; read = count_field Limit.Parts 1 8; bytes = λ i. i ∷ []; Fits = λ i. (1 ≤ i) × (i ≤ 8); nodes = λ _. 0 }
