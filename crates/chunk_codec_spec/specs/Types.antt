-- How a type is spelled: its tag, and a list's element type or a tuple's count and parts.
use Rattle.std.specs.Prelude.{ℕ, zero, suc, ◌<◌, List, [], ◌∷◌, length, Bool, Option, Some, Err, nat_lt}
use Rattle.std.specs.List.{flat_map}
use Rattle.containers.specs.Reading.{◌>>=◌}
use Rattle.plan_base.specs.declared.limit.Limit.{Limit}
use Rattle.plan_base.specs.declared.tree.Ty.{Ty, Ty-F, fold-Ty, out-Ty}
use Rattle.plan_base.specs.declared.tree.Ty.TheVariants as ty
use Rattle.chunk_codec_spec.specs.declared.fault.SpellFault.TheVariants.{OverLimit}
use Rattle.chunk_codec_spec.specs.declared.tags.TypeTag.{TypeTag}
use Rattle.chunk_codec_spec.specs.declared.tags.TheConstants.{TYPE_TAGS}
use Rattle.chunk_codec_spec.specs.Items.{a_type}
use Rattle.chunk_codec_spec.specs.Scan.{Reader, table_field, allowed_or_fault}
use Rattle.chunk_codec_spec.specs.Parts.{Part, Core, Parts, done, ◌&◌, PartValues, FormFits, several, tagged_at}

-- a type's bytes, by those of its parts
abbrev pub type_bytes_level : {X : Type 0} → (X → List ℕ) → Ty-F X → List ℕ
type_bytes_level bytes Ty-F.Unit = 0x00 ∷ []
type_bytes_level bytes Ty-F.Bool = 0x01 ∷ []
type_bytes_level bytes Ty-F.Int = 0x02 ∷ []
type_bytes_level bytes Ty-F.Char = 0x03 ∷ []
type_bytes_level bytes Ty-F.Str = 0x04 ∷ []
type_bytes_level bytes Ty-F.Blob = 0x05 ∷ []
type_bytes_level bytes Ty-F.Host = 0x06 ∷ []
type_bytes_level bytes Ty-F.Dev = 0x07 ∷ []
type_bytes_level bytes Ty-F.Chunk = 0x08 ∷ []
type_bytes_level bytes (Ty-F.List t) = 0x09 ∷ bytes t
type_bytes_level bytes (Ty-F.Tuple ts) = 0x0a ∷ length ts ∷ flat_map bytes ts

-- the spelling of a type
unfoldable pub type_bytes : Ty → List ℕ
type_bytes = fold-Ty (List ℕ) (type_bytes_level (λ bytes. bytes))

-- a type's tag, where so many levels may still be opened
unfoldable pub type_tag_at : ℕ → Reader TypeTag
type_tag_at room s = do
  tag ← table_field 0x00 TYPE_TAGS s
  allowed_or_fault (nat_lt 0 room) (OverLimit Limit.OfType s.front.at) tag

-- what stands behind each tag
abbrev pub type_forms : Part Ty → TypeTag → Parts
type_forms inner TypeTag.List = inner & done
type_forms inner TypeTag.Tuple = several Limit.Parts 2 8 inner & done
type_forms inner _ = done

abbrev pub type_of_parts : (inner : Part Ty) (tag : TypeTag) → PartValues (type_forms inner tag) → Ty
type_of_parts inner TypeTag.Unit xs = ty.Unit
type_of_parts inner TypeTag.Bool xs = ty.Bool
type_of_parts inner TypeTag.Int xs = ty.Int
type_of_parts inner TypeTag.Char xs = ty.Char
type_of_parts inner TypeTag.Str xs = ty.Str
type_of_parts inner TypeTag.Blob xs = ty.Blob
type_of_parts inner TypeTag.Host xs = ty.Host
type_of_parts inner TypeTag.Dev xs = ty.Dev
type_of_parts inner TypeTag.Chunk xs = ty.Chunk
type_of_parts inner TypeTag.List xs = ty.List xs.0
type_of_parts inner TypeTag.Tuple xs = ty.Tuple xs.0

abbrev pub type_parts : (inner : Part Ty) → Ty-F Ty → Option ((tag : TypeTag) × PartValues (type_forms inner tag))
type_parts inner Ty-F.Unit = Some (TypeTag.Unit, tt)
type_parts inner Ty-F.Bool = Some (TypeTag.Bool, tt)
type_parts inner Ty-F.Int = Some (TypeTag.Int, tt)
type_parts inner Ty-F.Char = Some (TypeTag.Char, tt)
type_parts inner Ty-F.Str = Some (TypeTag.Str, tt)
type_parts inner Ty-F.Blob = Some (TypeTag.Blob, tt)
type_parts inner Ty-F.Host = Some (TypeTag.Host, tt)
type_parts inner Ty-F.Dev = Some (TypeTag.Dev, tt)
type_parts inner Ty-F.Chunk = Some (TypeTag.Chunk, tt)
type_parts inner (Ty-F.List t) = Some (TypeTag.List, (t, tt))
type_parts inner (Ty-F.Tuple ts) = Some (TypeTag.Tuple, (ts, tt))

-- a part that is a type
abbrev pub type_from : ℕ → Core Ty → Part Ty
type_from room core = record { item = a_type room; read = core.read; bytes = type_bytes; Fits = core.Fits; nodes = λ _. 0 }

-- a type at its tag, with room levels to open, by the parts one level deeper
abbrev pub type_within : ℕ → Part Ty → Core Ty
type_within room inner = record {
  read = tagged_at (type_tag_at room) (type_forms inner) (type_of_parts inner);
  Fits = λ t. FormFits (λ _. 0 < room) (type_forms inner) (type_parts inner (out-Ty t));
}

-- no type may stand there
abbrev pub no_type : Core Ty
no_type = record { read = λ s. Err (OverLimit Limit.OfType s.front.at); Fits = λ _. ⊥ }

-- the types of depth at most room
unfoldable pub type_core : ℕ → Core Ty
type_core zero = type_within 0 (type_from 0 no_type)
type_core (suc room) = type_within (suc room) (type_from room (type_core room))

-- a type of depth at most room
abbrev pub type_part : ℕ → Part Ty
type_part room = type_from room (type_core room)

-- the parts of a type one level deeper
abbrev pub type_inner : ℕ → Part Ty
type_inner zero = type_from 0 no_type
type_inner (suc room) = type_part room
