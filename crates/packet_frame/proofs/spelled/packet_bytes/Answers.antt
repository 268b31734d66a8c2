use Rattle.std.proofs.Common.{ℕ, subst}
use Rattle.std.specs.Prelude.{IfOk}
use Rattle.packet_frame.specs.declared.frame.PlainFrame.{PlainFrame}
use Rattle.packet_frame.specs.Stamped.{AcceptsBy}
use Rattle.packet_frame.specs.Spelled.{version_of, packet_frame}
use Rattle.packet_frame.proofs.Reading.{none_accepted}
use Rattle.packet_frame.proofs.spelled.packet_bytes.Goals as goal

pub returns-in-None : goal.returns-in-None
returns-in-None c =
    let p = c.args.packet.now in
    subst (λ (n : ℕ). IfOk c.put_packet.result (λ b. AcceptsBy (version_of c.args.mark) b (packet_frame c.args.mark p n))) c.bound.ensures.value
    (none_accepted c.args.mark (PlainFrame.Packet (record p { bound = c.bound.result })) c.put_packet.result c.in-None.is c.chunk-typed.ensures.kept.typed c.put_packet.ensures)
