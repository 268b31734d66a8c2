-- Frames with stamps: the bytes of version 2, and what a node of that version reads.
use Rattle.std.specs.Prelude.{◌≡◌, ℕ, ◌≤◌, ◌<◌, ◌^◌, List, [], ◌∷◌, ◌++◌, length, Option, Some, None}
use Rattle.std.specs.Int.{w32, w64, to_be_bytes}
use Rattle.plan_base.specs.declared.stamp.Stamp.{Stamp}
use Rattle.plan_base.specs.declared.stamp.Version.{Version}
use Rattle.plan_base.specs.declared.stamp.Version.TheVariants.{One, Two}
use Rattle.plan_base.specs.declared.name.Name.{Name}
use Rattle.plan_base.specs.declared.tree.Packet.{Packet}
use Rattle.plan_base.specs.Words.{IsName}
use Rattle.chunk_codec_spec.specs.Fields.{name_bytes}
use Rattle.chunk_codec_spec.specs.Values.{chunk_bytes}
use Rattle.packet_frame.specs.declared.fault.FrameFault.{FrameFault}
use Rattle.packet_frame.specs.declared.frame.PlainFrame.{PlainFrame}
use Rattle.packet_frame.specs.declared.frame.PlainStamped.{PlainStamped}
use Rattle.packet_frame.specs.Bytes.{letters, packet_bytes, rows_bytes, frame_bytes}
use Rattle.packet_frame.specs.Forms.{reads, FrameFits, IsPlain}
use Rattle.containers.specs.Agenda.{FirstFault}
use Rattle.packet_frame.specs.Forms.{FrameItem, the_magic, the_end, either_version}
use Rattle.packet_frame.specs.Frames.{frame_step, begins}
use Rattle.packet_frame.specs.Typed.{plain_of, CarriesTyped, CarriesHandler, CarriesIll, CarriesNoHandler}
use Rattle.packet_frame.specs.declared.checked.Stamped.{Stamped}

-- ---- spellings

-- what a frame of version 2 begins with
abbrev pub stamped_head : ℕ → Stamp → List ℕ
stamped_head kind s = (to_be_bytes w32 letters ++ (2 ∷ kind ∷ [])) ++ (to_be_bytes w64 s.boot ++ to_be_bytes w64 s.link)

-- what a packet with this handler has behind its stamp
abbrev pub handled_bytes : Packet → Name → List ℕ
handled_bytes p n =
    to_be_bytes w32 p.family.source.0
    ++ (to_be_bytes w64 p.family.serial ++
    (to_be_bytes w32 p.dest.0 ++ (to_be_bytes w32 p.bound ++ (name_bytes p.route ++ (name_bytes n ++ chunk_bytes p.chunk)))))

-- a packet is of kind 1 without a handler, and of kind 4 with one
abbrev pub packet_with : Stamp → Packet → Option Name → List ℕ
packet_with s p None = stamped_head 1 s ++ packet_bytes p
packet_with s p (Some n) = stamped_head 4 s ++ handled_bytes p n

-- the spelling of a frame with its stamp, and of one without, which is that of version 1
abbrev pub bytes_with : Option Stamp → PlainFrame → List ℕ
bytes_with None x = frame_bytes x
bytes_with (Some s) (PlainFrame.Packet p) = packet_with s p p.handler
bytes_with (Some s) (PlainFrame.Advert a) = stamped_head 2 s ++ (to_be_bytes w32 a.host.0 ++ rows_bytes a.rows)
bytes_with (Some s) (PlainFrame.Ask bound c) = frame_bytes (PlainFrame.Ask bound c)

unfoldable pub stamped_bytes : PlainStamped → List ℕ
stamped_bytes x = bytes_with x.stamp x.frame

-- the two numbers of a stamp
pub record StampFits (s : Stamp) : Type 0 where
  pub boot : s.boot < 2 ^ 64
  pub link : s.link < 2 ^ 64

-- a handler's name is one
abbrev pub HandlerFits : Option Name → Type 0
HandlerFits None = Unit {0}
HandlerFits (Some n) = IsName n

-- what bears a stamp: a packet or an advert, but no ask; a handler's name is one
abbrev pub BearsStamp : PlainFrame → Type 0
BearsStamp (PlainFrame.Packet p) = HandlerFits p.handler
BearsStamp (PlainFrame.Ask bound c) = ⊥
BearsStamp _ = Unit {0}

abbrev pub IsAsk : PlainFrame → Type 0
IsAsk (PlainFrame.Ask bound c) = Unit {0}
IsAsk _ = ⊥

-- what stands under version 2: an ask without a stamp, all else with one
abbrev pub IsOfTwo : Option Stamp → PlainFrame → Type 0
IsOfTwo None x = IsAsk x
IsOfTwo (Some s) x = BearsStamp x × StampFits s

-- what a node of a version reads: under version 1 frames without a stamp and without a handler
abbrev pub IsReadBy : Version → PlainStamped → Type 0
IsReadBy One x = (x.stamp ≡ None) × IsPlain x.frame
IsReadBy Two x = IsOfTwo x.stamp x.frame

-- the bytes spell the frame whole, as nodes of this version read its kind, and its chunk is typed
pub record AcceptsBy (v : Version) (bytes : List ℕ) (x : PlainStamped) : Type 0 where
  pub short : length bytes ≤ 16512
  pub fits : FrameFits x.frame
  pub read : IsReadBy v x
  pub is : bytes ≡ stamped_bytes x
  pub typed : CarriesTyped x.frame
  pub handler : CarriesHandler x.frame

-- ---- spellings alone

-- what is to read of a frame of version 2 at first
abbrev pub a_stamped_frame : List FrameItem
a_stamped_frame = the_magic ∷ either_version ∷ the_end ∷ []

-- a frame keeps the limits of its fields, with its stamp where it must have one
abbrev pub StampedFits : PlainStamped → Type 0
StampedFits x = FrameFits x.frame × IsOfTwo x.stamp x.frame

-- these bytes, at most 16,512, are the spelling of a frame that a node of version 2 reads
pub record SpellsStamped (bytes : List ℕ) (x : PlainStamped) : Type 0 where
  pub short : length bytes ≤ 16512
  pub fits : StampedFits x
  pub is : bytes ≡ stamped_bytes x

-- the first fault of bytes that spell none
pub data StampedFault (e : FrameFault) (bytes : List ℕ) : Type 0 where
  too_long : 16512 < length bytes → e ≡ FrameFault.TooLong → StampedFault e bytes
  misspelled : length bytes ≤ 16512 → FirstFault frame_step e a_stamped_frame (begins bytes) → StampedFault e bytes

-- ---- typed frames

-- what a frame of version 2 spells
abbrev pub stamped_plain : Stamped → PlainStamped
stamped_plain x = record { stamp = x.stamp; frame = plain_of x.frame }

-- the first fault of bytes that a node of version 2 doesn't read: that of their spelling, then that of the chunk's types, then that
-- of the handler
pub data StampedFirst (e : FrameFault) (bytes : List ℕ) : Type 0 where
  spells_none : StampedFault e bytes → StampedFirst e bytes
  ill_typed : (x : PlainStamped) → SpellsStamped bytes x → CarriesIll x.frame e → StampedFirst e bytes
  ill_handled : (x : PlainStamped) → SpellsStamped bytes x → CarriesNoHandler x.frame e → StampedFirst e bytes
