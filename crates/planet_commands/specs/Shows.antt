-- The command `show`: what a frame in hex says to it.
use Rattle.std.specs.Prelude.{◌≡◌, ℕ, ◌-◌, ◌==◌, List, [], ◌∷◌, ◌++◌, length, take, get_or, codes, nat_eq, Some, Result, Ok, Err, if◌then◌else◌}
use Rattle.std.specs.List.{starts_with}
use Rattle.hex.specs.Hex.{decode_of}
use Rattle.hex.specs.declared.error.FromHexError.{FromHexError}
use Rattle.plan_base.specs.declared.stamp.Version.{Version}
use Rattle.plan_base.specs.declared.stamp.Version.TheVariants.{One, Two}
use Rattle.packet_frame.specs.declared.frame.PlainStamped.{PlainStamped}
use Rattle.packet_frame.specs.declared.fault.FrameFault.{FrameFault}
use Rattle.packet_frame.specs.Stamped.{AcceptsBy}
use Rattle.packet_frame_text.specs.Frames.{frame_text}
use Rattle.packet_frame.specs.Decoding.{read_by}
use Rattle.node_io.specs.FileMaps.{FileMap, file_at}
use Rattle.planet_commands.specs.declared.status.Refusal.TheVariants.{Frame, BadHex}
use Rattle.planet_commands.specs.Said.{Said, outside, says, said_in, said_then}

-- the most bytes of a frame in hex
abbrev pub frame_limit : ℕ
frame_limit = 33025

-- the text without the line feed that it may have at its end
abbrev pub without_feed : List ℕ → List ℕ
without_feed text = if get_or text (length text - 1) 0 == 10 then take (length text - 1) text else text

-- the bytes that hex digits stand for
abbrev pub bytes_said : Result (List ℕ) FromHexError → Said (List ℕ)
bytes_said (Ok bytes) = says bytes
bytes_said (Err e) = outside BadHex

-- the version by which bytes are read: the second where the magic stands at their beginning and then 2
abbrev pub version_shown : List ℕ → Version
version_shown bytes = if starts_with nat_eq bytes (codes "PLAN" ++ 2 ∷ []) then Two else One

-- what was read of bytes says
abbrev pub framed_said : Result PlainStamped FrameFault → Said (List ℕ)
framed_said (Ok x) = says (frame_text x)
framed_said (Err e) = outside (Frame e)

-- what bytes say that hex digits may stand for
abbrev pub decoded_said : Said (List ℕ) → Said (List ℕ)
decoded_said said = said_then said (λ bytes. framed_said (read_by (version_shown bytes) bytes))

-- what a frame in hex says, or its first refusal
unfoldable pub frame_said : List ℕ → Said (List ℕ)
frame_said text = decoded_said (bytes_said (decode_of (without_feed text)))

-- what the file of this name says to `show`
abbrev pub show_said : List ℕ → FileMap → Said (List ℕ)
show_said name files = said_in frame_limit frame_said name files

-- the file of this name is the hex of this frame, which a node of its version accepts
pub record HoldsFrame (files : FileMap) (file : List ℕ) (frame : PlainStamped) : Type 0 where
  pub text : List ℕ
  pub bytes : List ℕ
  pub there : file_at files file ≡ Some text
  pub decoded : decode_of (without_feed text) ≡ Ok bytes
  pub accepted : AcceptsBy (version_shown bytes) bytes frame
