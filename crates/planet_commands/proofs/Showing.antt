-- The hex of a frame says what the frame says to `show`, and nothing else says anything.
use Rattle.std.proofs.Common.{◌≡◌, ℕ, Bool, true, false, nat_lt, List, length, Option, Some, None, Result, Ok, Err, refl, ap, ◌∙◌}
use Rattle.std.specs.Prelude.{if◌then◌else◌}
use Rattle.hex.specs.Hex.{decode_of}
use Rattle.hex.specs.declared.error.FromHexError.{FromHexError}
use Rattle.hex.proofs.HexLemmas.{decode_of-ok}
use Rattle.node_io.specs.FileMaps.{FileMap, file_at}
use Rattle.packet_frame.specs.declared.frame.PlainStamped.{PlainStamped}
use Rattle.packet_frame.specs.declared.fault.FrameFault.{FrameFault}
use Rattle.packet_frame.specs.Stamped.{AcceptsBy}
use Rattle.packet_frame_text.specs.Frames.{frame_text}
use Rattle.packet_frame.specs.Decoding.{read_by}
use Rattle.packet_frame.proofs.Versions.{accepted_by, found_by}
use Rattle.planet_commands.specs.declared.status.Refusal.TheVariants.{TooLong}
use Rattle.planet_commands.specs.Said.{Said, outside, says, said_at, IsSaid}
use Rattle.planet_commands.specs.Shows.{frame_limit, without_feed, version_shown, bytes_said, framed_said, decoded_said, frame_said, show_said, HoldsFrame}
use Rattle.planet_commands.proofs.ShowLemmas.{short_hex}

text_said : (text bytes : List ℕ) (x : PlainStamped) → decode_of (without_feed text) ≡ Ok bytes → AcceptsBy (version_shown bytes) bytes x → frame_said text ≡ says (frame_text x)
unfolding frame_said
text_said text bytes x d a = ap (λ r. decoded_said (bytes_said r)) d ∙ ap framed_said (accepted_by (version_shown bytes) bytes x a)

-- the hex of a frame is shown whole: what the frame says
pub frame_shown : (files : FileMap) (file : List ℕ) (x : PlainStamped) → HoldsFrame files file x → show_said file files ≡ says (frame_text x)
frame_shown files file x h =
    ap (λ f. said_at frame_limit frame_said f) h.there
    ∙ ap (λ b. if b then outside TooLong else frame_said h.text) (short_hex h.text h.bytes h.decoded h.accepted.short)
    ∙ text_said h.text h.bytes x h.decoded h.accepted

-- ---- the other way

said_unless_long : (long : Bool) (s : Said (List ℕ)) → IsSaid (if long then outside TooLong else s) → IsSaid s
said_unless_long true s h = elim h [ ]
said_unless_long false s h = h

module _ (text : List ℕ) where
  frame_found : (bytes : List ℕ) → decode_of (without_feed text) ≡ Ok bytes → (r : Result PlainStamped FrameFault) → read_by (version_shown bytes) bytes ≡ r → IsSaid (framed_said r)
      → (x : PlainStamped) × AcceptsBy (version_shown bytes) bytes x
  frame_found bytes d (Ok x) e h = (x, found_by (version_shown bytes) bytes x (decode_of-ok (without_feed text) bytes d).3 e)
  frame_found bytes d (Err f) e h = elim h [ ]

  hex_found : (r : Result (List ℕ) FromHexError) → decode_of (without_feed text) ≡ r → IsSaid (decoded_said (bytes_said r))
      → (bytes : List ℕ) × (decode_of (without_feed text) ≡ Ok bytes) × ((x : PlainStamped) × AcceptsBy (version_shown bytes) bytes x)
  hex_found (Ok bytes) e h = (bytes, e, frame_found bytes e (read_by (version_shown bytes) bytes) refl h)
  hex_found (Err f) e h = elim h [ ]

  text_found : IsSaid (frame_said text) → (bytes : List ℕ) × (decode_of (without_feed text) ≡ Ok bytes) × ((x : PlainStamped) × AcceptsBy (version_shown bytes) bytes x)
  unfolding frame_said
  text_found h = hex_found (decode_of (without_feed text)) refl h

file_found : (files : FileMap) (file : List ℕ) (o : Option (List ℕ)) → file_at files file ≡ o → IsSaid (said_at frame_limit frame_said o) → (x : PlainStamped) × HoldsFrame files file x
file_found files file None e h = elim h [ ]
file_found files file (Some text) e h =
    let found = text_found text (said_unless_long (nat_lt frame_limit (length text)) (frame_said text) h) in
    (found.2.0, record { text = text; bytes = found.0; there = e; decoded = found.1; accepted = found.2.1 })

-- what says something is the hex of a frame
pub frame_is_found : (files : FileMap) (file : List ℕ) → IsSaid (show_said file files) → (x : PlainStamped) × HoldsFrame files file x
frame_is_found files file h = file_found files file (file_at files file) refl h
