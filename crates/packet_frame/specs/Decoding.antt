-- The frame that bytes spell, or why they are none, as one answer.
use Rattle.std.specs.Prelude.{ℕ, Bool, true, nat_le, List, length, Option, Some, None, Result, Ok, Err, if◌then◌else◌}
use Rattle.chunk_codec_spec.specs.Scan.{Scan}
use Rattle.plan_types_chunks.specs.declared.fault.Ill.{Ill}
use Rattle.plan_types_chunks.specs.Chunks.{illness}
use Rattle.plan_base.specs.declared.name.Name.{Name}
use Rattle.plan_base.specs.declared.tree.Chunk.{Chunk}
use Rattle.plan_types_spec.specs.Handlers.{is_handler}
use Rattle.packet_frame.specs.declared.fault.FrameFault.{FrameFault}
use Rattle.plan_base.specs.declared.stamp.Version.{Version}
use Rattle.plan_base.specs.declared.stamp.Version.TheVariants.{One, Two}
use Rattle.packet_frame.specs.declared.frame.PlainFrame.{PlainFrame}
use Rattle.packet_frame.specs.declared.frame.PlainStamped.{PlainStamped}
use Rattle.packet_frame.specs.Versions.{stamped_at}
use Rattle.packet_frame.specs.Forms.{frame_at}
use Rattle.packet_frame.specs.Frames.{begins, carried_chunk}

-- nothing may be left behind what was read
abbrev pub all_read : ℕ → Result (PlainFrame × Scan) FrameFault → Result PlainFrame FrameFault
all_read count (Ok x) = if nat_le count x.1.front.at then Ok x.0 else Err (FrameFault.Trailing x.1.front.at)
all_read count (Err e) = Err e

-- the frame that the bytes spell, or the first fault of their spelling
abbrev pub spelled_of : List ℕ → Result PlainFrame FrameFault
spelled_of bytes = if nat_le (length bytes) 16512 then all_read (length bytes) (frame_at (begins bytes)) else Err FrameFault.TooLong

abbrev pub or_ill : PlainFrame → Option Ill → Result PlainFrame FrameFault
or_ill x None = Ok x
or_ill x (Some i) = Err (FrameFault.IllTyped i)

-- what is wrong with a chunk, if there is one
abbrev pub illness_in : Option Chunk → Option Ill
illness_in None = None
illness_in (Some c) = illness c

abbrev pub typed_of : Result PlainFrame FrameFault → Result PlainFrame FrameFault
typed_of (Ok x) = or_ill x (illness_in (carried_chunk x))
typed_of (Err f) = Err f

-- the frame that the bytes spell, whose chunk is typed, or the first refusal
unfoldable pub frame_of : List ℕ → Result PlainFrame FrameFault
frame_of bytes = typed_of (spelled_of bytes)

-- ---- by version

-- a frame without stamp
abbrev pub unstamped_frame : Result PlainFrame FrameFault → Result PlainStamped FrameFault
unstamped_frame (Ok x) = Ok (record { stamp = None; frame = x })
unstamped_frame (Err e) = Err e

-- nothing may be left behind what was read of version 2
abbrev pub all_stamped : ℕ → Result (PlainStamped × Scan) FrameFault → Result PlainStamped FrameFault
all_stamped count (Ok x) = if nat_le count x.1.front.at then Ok x.0 else Err (FrameFault.Trailing x.1.front.at)
all_stamped count (Err e) = Err e

abbrev pub stamped_spelled : List ℕ → Result PlainStamped FrameFault
stamped_spelled bytes = if nat_le (length bytes) 16512 then all_stamped (length bytes) (stamped_at (begins bytes)) else Err FrameFault.TooLong

-- whether the handler of a chunk's packet, if it has one, may handle
abbrev pub may_handle : Chunk → Option Name → Bool
may_handle c None = true
may_handle c (Some n) = is_handler c.code n

-- whether the handler that a frame carries, if it carries one, may handle
abbrev pub carries_handler : PlainFrame → Bool
carries_handler (PlainFrame.Packet p) = may_handle p.chunk p.handler
carries_handler _ = true

-- the types are judged first, and then the handler
abbrev pub stamped_or_ill : PlainStamped → Option Ill → Result PlainStamped FrameFault
stamped_or_ill x None = if carries_handler x.frame then Ok x else Err FrameFault.IllHandler
stamped_or_ill x (Some i) = Err (FrameFault.IllTyped i)

abbrev pub stamped_typed : Result PlainStamped FrameFault → Result PlainStamped FrameFault
stamped_typed (Ok x) = stamped_or_ill x (illness_in (carried_chunk x.frame))
stamped_typed (Err f) = Err f

-- what a node of version 2 reads
unfoldable pub stamped_of : List ℕ → Result PlainStamped FrameFault
stamped_of bytes = stamped_typed (stamped_spelled bytes)

-- what a node of a version reads: the frame that the bytes spell, or the first refusal
abbrev pub read_by : Version → List ℕ → Result PlainStamped FrameFault
read_by One bytes = unstamped_frame (frame_of bytes)
read_by Two bytes = stamped_of bytes
