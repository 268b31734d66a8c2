-- The laws of `show`.
use Rattle.std.proofs.Common.{◌≡◌, ℕ, IsTrue, List, Some, subst}
use Rattle.node_io.specs.Outsides.{Outside}
use Rattle.node_io.specs.Sinks.{SinkState, Writes}
use Rattle.packet_frame.specs.declared.frame.PlainStamped.{PlainStamped}
use Rattle.packet_frame_text.specs.Frames.{frame_text}
use Rattle.planet_commands.specs.declared.status.Cause.{Cause}
use Rattle.planet_commands.specs.declared.status.Cause.TheVariants.{Done}
use Rattle.planet_commands.specs.Said.{Said, nothing, outside, says, IsSaid}
use Rattle.planet_commands.specs.Shows.{show_said, HoldsFrame}
use Rattle.planet_commands.proofs.Showing.{frame_shown, frame_is_found}
use Rattle.planet_cli.specs.declared.kinds.Kind.TheVariants.{Show}
use Rattle.planet_cli.specs.Requests.{on_file}
use Rattle.planet_cli.specs.Calls.{Calls}
use Rattle.planet_cli.specs.Outcomes.{whole, outcome_by, IsAccepted, WritesOut}
use Rattle.planet_cli.proofs.Giving.{is_accepted, is_written}

said_so : (s : Said (List ℕ)) → IsAccepted (outcome_by whole s) → IsSaid s
said_so nothing h = elim h [ ]
said_so (outside r) h = elim h [ ]
said_so (says text) h = tt

module _ (file : List ℕ) (cause : Cause) (old new : Outside) (n m : SinkState) (call : Calls (Some (on_file Show file)) cause old new n m) (seen : IsTrue old.files.observable) where
  -- a show that is done is that of a frame
  pub show_found : cause ≡ Done → (x : PlainStamped) × HoldsFrame old.files.held file x
  show_found done = frame_is_found old.files.held file (said_so (show_said file old.files.held) (is_accepted (Some (on_file Show file)) cause old new n m call seen done))

  -- and wrote what the frame says
  pub show_written : (x : PlainStamped) → HoldsFrame old.files.held file x → cause ≡ Done → Writes old.out new.out (frame_text x)
  show_written x h done =
      subst (λ s. WritesOut (outcome_by whole s) old.out new.out) (frame_shown old.files.held file x h)
      (is_written (Some (on_file Show file)) cause old new n m call seen done)
