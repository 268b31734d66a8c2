-- How a value and a chunk are spelled.
use Rattle.std.specs.Prelude.{ℕ, zero, suc, ◌+◌, ◌-◌, ◌==◌, List, [], ◌∷◌, ◌++◌, length, Bool, true, Option, Some, Result, Err, nat_lt}
use Rattle.std.specs.Prelude.{nat_le, if◌then◌else◌, IsTrue}
use Rattle.std.specs.List.{flat_map}
use Rattle.std.specs.Int.{w16, w32, w64, to_be_bytes, cast_unsigned}
use Rattle.containers.specs.Reading.{◌>>=◌}
use Rattle.plan_base.specs.declared.limit.Limit.{Limit}
use Rattle.plan_base.specs.declared.tree.Value.{Value, Value-F, fold-Value, out-Value}
use Rattle.plan_base.specs.declared.tree.Value.TheVariants as value
use Rattle.plan_base.specs.declared.tree.Chunk.{Chunk, Chunk-F}
use Rattle.chunk_codec_spec.specs.declared.fault.SpellFault.{SpellFault}
use Rattle.chunk_codec_spec.specs.declared.fault.SpellFault.TheVariants.{OverLimit}
use Rattle.chunk_codec_spec.specs.declared.tags.ValueTag.{ValueTag}
use Rattle.chunk_codec_spec.specs.declared.tags.TheConstants.{VALUE_TAGS}
use Rattle.chunk_codec_spec.specs.Items.{a_value, a_chunk}
use Rattle.chunk_codec_spec.specs.Scan.{Scan, Reader, table_field, allowed_or_fault}
use Rattle.chunk_codec_spec.specs.Parts.{Part, Core, Parts, done, ◌&◌, PartValues, AllFit, FormFits, reads, several, list_of, tagged_at}
use Rattle.chunk_codec_spec.specs.Fields.{flag_byte, flag_part, int_part, word_part, char_part, text_part, blob_part, sized_bytes, name_bytes, name_part}
use Rattle.chunk_codec_spec.specs.Types.{type_bytes, type_part}
use Rattle.chunk_codec_spec.specs.Programs.{program_bytes, program_part}

-- a value's bytes, by those of its parts and of its chunk
abbrev pub value_bytes_level : {X Y : Type 0} → (X → List ℕ) → (Y → List ℕ) → Value-F X Y → List ℕ
value_bytes_level bytes chunk Value-F.Unit = 0x10 ∷ []
value_bytes_level bytes chunk (Value-F.Bool b) = 0x11 ∷ flag_byte b ∷ []
value_bytes_level bytes chunk (Value-F.Int z) = 0x12 ∷ to_be_bytes w64 (cast_unsigned w64 z)
value_bytes_level bytes chunk (Value-F.Char c) = 0x13 ∷ to_be_bytes w32 c
value_bytes_level bytes chunk (Value-F.Str s) = 0x14 ∷ sized_bytes s
value_bytes_level bytes chunk (Value-F.Blob s) = 0x15 ∷ sized_bytes s
value_bytes_level bytes chunk (Value-F.Host h) = 0x16 ∷ to_be_bytes w32 h.0
value_bytes_level bytes chunk (Value-F.Dev d) = 0x17 ∷ to_be_bytes w32 d.0
value_bytes_level bytes chunk (Value-F.Chunk c) = 0x18 ∷ chunk c
value_bytes_level bytes chunk (Value-F.List t vs) = 0x19 ∷ (type_bytes t ++ ((to_be_bytes w16 (length vs) ++ flat_map bytes vs)))
value_bytes_level bytes chunk (Value-F.Tuple es) = 0x1a ∷ length es ∷ flat_map bytes es

-- a chunk's bytes: its program, its entry, a count and its arguments
abbrev pub chunk_bytes_level : {X Y : Type 0} → (X → List ℕ) → Chunk-F X Y → List ℕ
chunk_bytes_level bytes c = program_bytes c.code ++ (name_bytes c.entry ++ (length c.args ∷ flat_map bytes c.args))

-- the spelling of a value
unfoldable pub value_bytes : Value → List ℕ
value_bytes = fold-Value (List ℕ) (List ℕ) (value_bytes_level (λ bs. bs) (λ bs. bs)) (chunk_bytes_level (λ bs. bs))

-- the spelling of a chunk
abbrev pub chunk_bytes : Chunk → List ℕ
chunk_bytes c = program_bytes c.code ++ (name_bytes c.entry ++ (length c.args ∷ flat_map value_bytes c.args))

-- whether a value of that form may stand inside so many chunks, and where so many levels of lists and tuples may be opened
abbrev pub may_open : ℕ → ℕ → ValueTag → Bool
may_open nest room ValueTag.Chunk = nat_lt 0 nest
may_open nest room ValueTag.List = nat_lt 0 room
may_open nest room ValueTag.Tuple = nat_lt 0 room
may_open nest room _ = true

abbrev pub opening_limit : ValueTag → Limit
opening_limit ValueTag.Chunk = Limit.Nesting
opening_limit _ = Limit.Depth

-- a value's tag
unfoldable pub value_tag_at : ℕ → ℕ → Reader ValueTag
value_tag_at nest room s = do
  tag ← table_field 0x10 VALUE_TAGS s
  allowed_or_fault (may_open nest room tag.0) (OverLimit (opening_limit tag.0) s.front.at) tag

-- what stands behind each tag
abbrev pub value_forms : Part Value → Part Chunk → ValueTag → Parts
value_forms inner chunk ValueTag.Bool = flag_part & done
value_forms inner chunk ValueTag.Int = int_part & done
value_forms inner chunk ValueTag.Char = char_part & done
value_forms inner chunk ValueTag.Str = text_part & done
value_forms inner chunk ValueTag.Blob = blob_part & done
value_forms inner chunk ValueTag.Host = word_part & done
value_forms inner chunk ValueTag.Dev = word_part & done
value_forms inner chunk ValueTag.Chunk = chunk & done
value_forms inner chunk ValueTag.List = type_part 7 & list_of inner & done
value_forms inner chunk ValueTag.Tuple = several Limit.Parts 2 8 inner & done
value_forms inner chunk _ = done

abbrev pub value_of_parts : (inner : Part Value) (chunk : Part Chunk) (tag : ValueTag) → PartValues (value_forms inner chunk tag) → Value
value_of_parts inner chunk ValueTag.Unit xs = value.Unit
value_of_parts inner chunk ValueTag.Bool xs = value.Bool xs.0
value_of_parts inner chunk ValueTag.Int xs = value.Int xs.0
value_of_parts inner chunk ValueTag.Char xs = value.Char xs.0
value_of_parts inner chunk ValueTag.Str xs = value.Str xs.0
value_of_parts inner chunk ValueTag.Blob xs = value.Blob xs.0
value_of_parts inner chunk ValueTag.Host xs = value.Host (record { 0 = xs.0 })
value_of_parts inner chunk ValueTag.Dev xs = value.Dev (record { 0 = xs.0 })
value_of_parts inner chunk ValueTag.Chunk xs = value.Chunk xs.0
value_of_parts inner chunk ValueTag.List xs = value.List xs.0 xs.1.0
value_of_parts inner chunk ValueTag.Tuple xs = value.Tuple xs.0

abbrev pub value_parts : (inner : Part Value) (chunk : Part Chunk) → Value-F Value Chunk → Option ((tag : ValueTag) × PartValues (value_forms inner chunk tag))
value_parts inner chunk Value-F.Unit = Some (ValueTag.Unit, tt)
value_parts inner chunk (Value-F.Bool b) = Some (ValueTag.Bool, (b, tt))
value_parts inner chunk (Value-F.Int z) = Some (ValueTag.Int, (z, tt))
value_parts inner chunk (Value-F.Char c) = Some (ValueTag.Char, (c, tt))
value_parts inner chunk (Value-F.Str s) = Some (ValueTag.Str, (s, tt))
value_parts inner chunk (Value-F.Blob s) = Some (ValueTag.Blob, (s, tt))
value_parts inner chunk (Value-F.Host h) = Some (ValueTag.Host, (h.0, tt))
value_parts inner chunk (Value-F.Dev d) = Some (ValueTag.Dev, (d.0, tt))
value_parts inner chunk (Value-F.Chunk c) = Some (ValueTag.Chunk, (c, tt))
value_parts inner chunk (Value-F.List t vs) = Some (ValueTag.List, (t, (vs, tt)))
value_parts inner chunk (Value-F.Tuple es) = Some (ValueTag.Tuple, (es, tt))

-- a part that is a value
abbrev pub value_from : ℕ → ℕ → Core Value → Part Value
value_from nest room core = record { item = a_value nest room; read = core.read; bytes = value_bytes; Fits = core.Fits; nodes = λ _. 0 }

-- a part that is a chunk
abbrev pub chunk_from : ℕ → Core Chunk → Part Chunk
chunk_from nest core = record { item = a_chunk nest; read = core.read; bytes = chunk_bytes; Fits = core.Fits; nodes = λ _. 0 }

-- a value at its tag, by the chunks that may stand in it and the values one level deeper
abbrev pub value_within : ℕ → ℕ → Part Chunk → Part Value → Core Value
value_within nest room chunk inner = record {
  read = tagged_at (value_tag_at nest room) (value_forms inner chunk) (value_of_parts inner chunk);
  Fits = λ v. FormFits (λ tag. IsTrue (may_open nest room tag)) (value_forms inner chunk) (value_parts inner chunk (out-Value v));
}

-- no value may stand there
abbrev pub no_value : Core Value
no_value = record { read = λ s. Err (OverLimit Limit.Depth s.front.at); Fits = λ _. ⊥ }

-- no chunk may stand there
abbrev pub no_chunk : Core Chunk
no_chunk = record { read = λ s. Err (OverLimit Limit.Nesting s.front.at); Fits = λ _. ⊥ }

-- the values of each depth
unfoldable pub values_within : ℕ → Part Chunk → ℕ → Core Value
values_within nest chunk zero = value_within nest 0 chunk (value_from nest 0 no_value)
values_within nest chunk (suc room) = value_within nest (suc room) chunk (value_from nest room (values_within nest chunk room))

abbrev pub chunk_forms : Part Value → Parts
chunk_forms value = program_part & name_part & several Limit.Arguments 0 8 value & done

abbrev pub chunk_of_parts : (value : Part Value) → PartValues (chunk_forms value) → Chunk
chunk_of_parts value xs = record { code = xs.0; entry = xs.1.0; args = xs.1.1.0 }

abbrev pub chunk_parts : (value : Part Value) → Chunk → PartValues (chunk_forms value)
chunk_parts value c = (c.code, (c.entry, (c.args, tt)))

-- an outermost chunk, inside which three more may stand, and a tag weigh at most 16,384 bytes
abbrev pub light : ℕ → ℕ → Bool
light nest size = if nest == 3 then nat_le (size + 1) 16384 else true

abbrev pub judged_weight : {A : Type 0} → ℕ → ℕ → A × Scan → Result (A × Scan) SpellFault
judged_weight nest start x = allowed_or_fault (light nest (x.1.front.at - start)) (OverLimit Limit.Weight start) x

unfoldable pub chunk_at : ℕ → Part Value → Reader Chunk
chunk_at nest value s = do
  c ← reads (chunk_forms value) (chunk_of_parts value) s
  judged_weight nest s.front.at c

-- a chunk may be spelled: each part, and an outermost one isn't too heavy
pub record ChunkFits (nest : ℕ) (value : Part Value) (c : Chunk) : Type 0 where
  pub parts : AllFit (chunk_forms value) (chunk_parts value c)
  pub weighs : IsTrue (light nest (length (chunk_bytes c)))

-- a chunk inside which so many more may stand, by its arguments
abbrev pub chunk_with : ℕ → Part Value → Core Chunk
chunk_with nest value = record { read = chunk_at nest value; Fits = ChunkFits nest value }

-- the values inside which nest chunks may stand inside each other, and room lists and tuples; a chunk begins the depth anew
unfoldable pub value_core : ℕ → ℕ → Core Value
value_core zero room = values_within 0 (chunk_from 0 no_chunk) room
value_core (suc nest) room = values_within (suc nest) (chunk_from nest (chunk_with nest (value_from nest 8 (value_core nest 8)))) room

-- a value inside which nest chunks and room lists and tuples may stand
abbrev pub value_part : ℕ → ℕ → Part Value
value_part nest room = value_from nest room (value_core nest room)

-- a chunk inside which nest more may stand inside each other
abbrev pub chunk_part : ℕ → Part Chunk
chunk_part nest = chunk_from nest (chunk_with nest (value_part nest 8))

-- the chunk that may stand in such a value
abbrev pub chunk_inner : ℕ → Part Chunk
chunk_inner zero = chunk_from 0 no_chunk
chunk_inner (suc nest) = chunk_part nest

-- the values one level deeper
abbrev pub value_inner : ℕ → ℕ → Part Value
value_inner nest zero = value_from nest 0 no_value
value_inner nest (suc room) = value_part nest room
