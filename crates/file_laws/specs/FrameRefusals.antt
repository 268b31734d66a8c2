-- The first thing that is wrong with bytes that are no typed frame, of either version, apart from their reader.
use Rattle.std.specs.Prelude.{◌≡◌, ◌≢◌, ℕ, List, Some, ◌⊎◌}
use Rattle.plan_base.specs.declared.stamp.Version.TheVariants.{Two}
use Rattle.plan_base.specs.declared.tree.Chunk.{Chunk}
use Rattle.chunk_codec_spec.specs.declared.fault.SpellFault.TheVariants as spelling
use Rattle.plan_types_chunks.specs.declared.fault.Ill.{Ill}
use Rattle.plan_types_chunks.specs.declared.fault.ChunkFault.TheVariants as causes
use Rattle.plan_parser_laws.specs.ChunkConditions.{conditions, FirstFailing}
use Rattle.plan_parser_laws.specs.Memory.{IllHoldsNoMemory}
use Rattle.packet_frame.specs.Frames.{SpellsFrame, carried_chunk}
use Rattle.packet_frame.specs.Stamped.{SpellsStamped, AcceptsBy}
use Rattle.packet_frame.specs.Typed.{Accepts, CarriesNoHandler}
use Rattle.packet_frame.specs.declared.fault.FrameFault.{FrameFault}
use Rattle.packet_frame.specs.declared.fault.FrameFault.TheVariants as faults
use Rattle.packet_frame.specs.declared.frame.PlainFrame.{PlainFrame}
use Rattle.packet_frame.specs.declared.frame.PlainStamped.{PlainStamped}
use Rattle.file_laws.specs.Flat.{FlatSpellingFault, FlatStampedFault}

-- the chunk that a frame carries isn't typed, for the first of its conditions
pub record CarriesFailing (x : PlainFrame) (i : Ill) : Type 0 where
  pub chunk : Chunk
  pub is_carried : carried_chunk x ≡ Some chunk
  pub fails : FirstFailing chunk (causes.Ill i) (conditions chunk)

-- the bytes spell no frame, for the first of their fields and items; or they spell one, whose chunk isn't typed
pub data FirstRefusal (bytes : List ℕ) : FrameFault → Type 0 where
  of_spelling : (e : FrameFault) → FlatSpellingFault e bytes → FirstRefusal bytes e
  of_types : (x : PlainFrame) (i : Ill) → SpellsFrame bytes x → CarriesFailing x i → FirstRefusal bytes (faults.IllTyped i)

-- of version 2, the same; or they spell a frame whose chunk is typed, and its handler is no function that may handle
pub data FirstStampedRefusal (bytes : List ℕ) : FrameFault → Type 0 where
  of_stamped_spelling : (e : FrameFault) → FlatStampedFault e bytes → FirstStampedRefusal bytes e
  of_stamped_types : (x : PlainStamped) (i : Ill) → SpellsStamped bytes x → CarriesFailing x.frame i → FirstStampedRefusal bytes (faults.IllTyped i)
  of_handler : (x : PlainStamped) (e : FrameFault) → SpellsStamped bytes x → CarriesNoHandler x.frame e → FirstStampedRefusal bytes e

abbrev pub IsFrameOrRefused : List ℕ → Type 0
IsFrameOrRefused bytes = ((x : PlainFrame) × Accepts bytes x) ⊎ ((e : FrameFault) × FirstRefusal bytes e)

abbrev pub IsStampedOrRefused : List ℕ → Type 0
IsStampedOrRefused bytes = ((x : PlainStamped) × AcceptsBy Two bytes x) ⊎ ((e : FrameFault) × FirstStampedRefusal bytes e)

-- a fault that is not `NoMemory`, and holds none
abbrev pub HoldsNoMemory : FrameFault → Type 0
HoldsNoMemory (faults.Spell e) = e ≢ spelling.NoMemory
HoldsNoMemory (faults.IllTyped i) = IllHoldsNoMemory i
HoldsNoMemory faults.NoMemory = ⊥
HoldsNoMemory _ = Unit {0}
