-- When bytes are a frame whose chunk is typed, and the first fault of those that are none.
use Rattle.std.specs.Prelude.{◌≡◌, ℕ, List, Some}
use Rattle.plan_base.specs.declared.tree.Chunk.{Chunk}
use Rattle.plan_types_spec.specs.Typing.{IsTypedChunk}
use Rattle.plan_types_chunks.specs.declared.fault.Ill.{Ill}
use Rattle.plan_types_chunks.specs.Chunks.{illness}
use Rattle.plan_types_spec.specs.Handlers.{MayHandle}
use Rattle.packet_frame.specs.declared.fault.FrameFault.{FrameFault}
use Rattle.packet_frame.specs.declared.frame.PlainFrame.{PlainFrame}
use Rattle.packet_frame.specs.declared.checked.Frame.{Frame}
use Rattle.packet_frame.specs.Frames.{SpellsFrame, SpellingFault, carried_chunk}

-- what a frame spells
abbrev pub plain_of : Frame → PlainFrame
plain_of (Frame.Packet p) = PlainFrame.Packet p
plain_of (Frame.Advert a) = PlainFrame.Advert a
plain_of (Frame.Ask bound c) = PlainFrame.Ask bound c

-- the chunk that a frame carries, if it carries one, is typed
abbrev pub CarriesTyped : PlainFrame → Type 0
CarriesTyped (PlainFrame.Packet p) = IsTypedChunk p.chunk
CarriesTyped (PlainFrame.Advert a) = Unit {0}
CarriesTyped (PlainFrame.Ask bound c) = IsTypedChunk c

-- all the bytes spell the frame x, and its chunk is typed
pub record Accepts (bytes : List ℕ) (x : PlainFrame) : Type 0 where
  pub spells : SpellsFrame bytes x
  pub typed : CarriesTyped x

-- the handler of a packet, if it has one, is a function of its chunk's code that may handle
abbrev pub CarriesHandler : PlainFrame → Type 0
CarriesHandler (PlainFrame.Packet p) = MayHandle p.chunk p.handler
CarriesHandler _ = Unit {0}

-- what is wrong with the chunk that a frame carries
pub record CarriesIll (x : PlainFrame) (e : FrameFault) : Type 0 where
  pub chunk : Chunk
  pub ill : Ill
  pub is_carried : carried_chunk x ≡ Some chunk
  pub first : illness chunk ≡ Some ill
  pub is : e ≡ FrameFault.IllTyped ill

-- a frame whose chunk is typed has a handler that is none
pub record CarriesNoHandler (x : PlainFrame) (e : FrameFault) : Type 0 where
  pub typed : CarriesTyped x
  pub refused : CarriesHandler x → ⊥
  pub is : e ≡ FrameFault.IllHandler

-- the first fault of bytes that are no typed frame: that of their spelling, and then that of the chunk's types
pub data FrameFirst (e : FrameFault) (bytes : List ℕ) : Type 0 where
  misspelled : SpellingFault e bytes → FrameFirst e bytes
  ill_typed : (x : PlainFrame) → SpellsFrame bytes x → CarriesIll x e → FrameFirst e bytes
