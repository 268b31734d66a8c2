use Rattle.file_laws.proofs.Parts.{part_own}
use Rattle.file_laws.proofs.WholeFrames.{frame_own, stamped_own}
use Rattle.file_laws.proofs.frames.frame_refusals_hold_no_memory.Goals as goal

pub returns : goal.returns
returns c = record { parts = part_own; frames = λ bytes e are. frame_own bytes are e; stamped = stamped_own }
