use Rattle.std.proofs.Common.{subst}
use Rattle.packet_frame.specs.declared.frame.PlainFrame.{PlainFrame}
use Rattle.packet_frame.specs.Forms.{FrameFits}
use Rattle.packet_frame.proofs.checked.checked_frame.Goals as goal

pub checked_packet-requires-clause-fits : goal.checked_packet-requires-clause-fits
checked_packet-requires-clause-fits c = let P : PlainFrame → Type 0 = λ x. FrameFits x in let q = subst P c.in-Packet.is c.requires in q.1.1.1.1.1.0

pub checked_packet-requires-clause-bound : goal.checked_packet-requires-clause-bound
checked_packet-requires-clause-bound c = let P : PlainFrame → Type 0 = λ x. FrameFits x in let q = subst P c.in-Packet.is c.requires in q.1.1.1.0

pub typed_chunk-requires : goal.typed_chunk-requires
typed_chunk-requires c = let P : PlainFrame → Type 0 = λ x. FrameFits x in let q = subst P c.in-Ask.is c.requires in q.1.0
