-- When bytes spell something, and where the reading of it stops else.
use Rattle.std.specs.Prelude.{◌≡◌, ℕ, ◌+◌, List, [], ◌∷◌, ◌++◌, length}
use Rattle.wire_bytes.specs.Fields.{Front}
use Rattle.containers.specs.Agenda.{FirstFault}
use Rattle.plan_base.specs.declared.tree.Ty.{Ty}
use Rattle.plan_base.specs.declared.tree.Value.{Value}
use Rattle.plan_base.specs.declared.tree.Chunk.{Chunk}
use Rattle.chunk_codec_spec.specs.declared.fault.SpellFault.{SpellFault}
use Rattle.chunk_codec_spec.specs.Items.{ChunkItem}
use Rattle.chunk_codec_spec.specs.Scan.{Scan}
use Rattle.chunk_codec_spec.specs.Parts.{Part}
use Rattle.chunk_codec_spec.specs.Steps.{step}
use Rattle.chunk_codec_spec.specs.Types.{type_part}
use Rattle.chunk_codec_spec.specs.Values.{value_part, chunk_part}

-- the parts that are read and written whole: a type of depth at most 8, a program, a value and a chunk with at most
-- four chunks inside each other and lists and tuples to depth 8
abbrev pub a_whole_type : Part Ty
a_whole_type = type_part 8

abbrev pub a_whole_value : Part Value
a_whole_value = value_part 4 8

abbrev pub a_whole_chunk : Part Chunk
a_whole_chunk = chunk_part 3

-- these bytes are the spelling of x, which keeps the limits
pub record Spells {A : Type 0} (p : Part A) (bytes : List ℕ) (x : A) : Type 0 where
  pub fits : p.Fits x
  pub is : bytes ≡ p.bytes x

-- a spelling of x stands at f, and g is behind it
pub record SpelledAt {A : Type 0} (p : Part A) (f : Front) (x : A) (g : Front) : Type 0 where
  pub fits : p.Fits x
  pub splits : f.rest ≡ p.bytes x ++ g.rest
  pub place : g.at ≡ f.at + length (p.bytes x)

-- a reading that begins there, with no expression read
abbrev pub from_front : Front → Scan
from_front f = record { front = f; nodes = 0 }

-- the first fault of an agenda that begins with that item alone
abbrev pub FirstFaultAt : SpellFault → ChunkItem → Front → Type 0
FirstFaultAt e i f = FirstFault step e (i ∷ []) (from_front f)
