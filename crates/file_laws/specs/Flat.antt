-- The first fault of a frame by fields and items alone: no field of it is a whole chunk that is read.
use Rattle.std.specs.Prelude.{◌≡◌, ℕ, ◌≤◌, ◌<◌, Bool, true, false, List, ◌∷◌, length, Ok, Err}
use Rattle.wire_bytes.specs.Fields.{Front}
use Rattle.plan_base.specs.declared.tree.Chunk.{Chunk}
use Rattle.chunk_codec_spec.specs.declared.fault.SpellFault.{SpellFault}
use Rattle.chunk_codec_spec.specs.Items.{a_chunk}
use Rattle.chunk_codec_spec.specs.Spelling.{from_front, FirstFaultAt, SpelledAt, a_whole_chunk}
use Rattle.packet_frame.specs.declared.fault.FrameFault.{FrameFault}
use Rattle.packet_frame.specs.Faults.{of_spelling}
use Rattle.packet_frame.specs.Forms.{FrameItem, a_carried_chunk}
use Rattle.packet_frame.specs.Frames.{frame_step, a_frame}
use Rattle.packet_frame.specs.Stamped.{a_stamped_frame}

-- whether a field is the chunk
abbrev pub is_chunk : FrameItem → Bool
is_chunk a_carried_chunk = true
is_chunk _ = false

-- e is the first fault of the fields that are still to read: of a field of its own, or, inside the chunk, the first of the
-- chunk's items; behind a field of its own, or behind the bytes that spell a chunk
pub data FlatFault (e : FrameFault) : List FrameItem → Front → Type 0 where
  at_field : {i : FrameItem} {more : List FrameItem} {f : Front} → is_chunk i ≡ false → frame_step i more (from_front f) ≡ Err e → FlatFault e (i ∷ more) f
  behind_field : {i : FrameItem} {more next : List FrameItem} {f g : Front}
      → is_chunk i ≡ false → frame_step i more (from_front f) ≡ Ok (next, from_front g) → FlatFault e next g → FlatFault e (i ∷ more) f
  in_chunk : {more : List FrameItem} {f : Front} (d : SpellFault) → FirstFaultAt d (a_chunk 3) f → e ≡ of_spelling d → FlatFault e (a_carried_chunk ∷ more) f
  behind_chunk : {more : List FrameItem} {f g : Front} (c : Chunk) → SpelledAt a_whole_chunk f c g → FlatFault e more g → FlatFault e (a_carried_chunk ∷ more) f

-- the first fault of bytes of which all this is to read
pub data FlatFaultOf (all : List FrameItem) (e : FrameFault) (bytes : List ℕ) : Type 0 where
  too_long : 16512 < length bytes → e ≡ FrameFault.TooLong → FlatFaultOf all e bytes
  misspelled : length bytes ≤ 16512 → FlatFault e all (record { at = 0; rest = bytes }) → FlatFaultOf all e bytes

-- the first fault of bytes that spell no frame
abbrev pub FlatSpellingFault : FrameFault → List ℕ → Type 0
FlatSpellingFault = FlatFaultOf a_frame

-- the first fault of bytes that spell no frame of version 2
abbrev pub FlatStampedFault : FrameFault → List ℕ → Type 0
FlatStampedFault = FlatFaultOf a_stamped_frame
