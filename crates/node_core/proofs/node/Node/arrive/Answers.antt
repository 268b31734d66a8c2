use Rattle.std.proofs.Common.{sym, subst}
use Rattle.packet_frame.specs.Typed.{plain_of}
use Rattle.packet_frame.specs.Stamped.{stamped_plain}
use Rattle.node_core_parts.specs.Carried.{MayBear, MayGoOn}
use Rattle.node_core.proofs.StepLaws.{read_arrives}
use Rattle.node_core.proofs.node.Node.arrive.Goals as goal

pub arrive_stamped-requires-clause-borne : goal.arrive_stamped-requires-clause-borne
arrive_stamped-requires-clause-borne g c = subst (λ v. MayBear v c.in-Ok.stamped.stamp) (sym c.remember.ensures.same) c.in-Ok.ensures.borne

pub arrive_stamped-requires-clause-carried : goal.arrive_stamped-requires-clause-carried
arrive_stamped-requires-clause-carried g c = subst (λ m. MayGoOn m (plain_of c.in-Ok.stamped.frame)) (sym c.remember.ensures.mark) (c.in-Ok.ensures.carried c.args.self.now.boot)

pub returns-in-Ok : goal.returns-in-Ok
returns-in-Ok g c =
    read_arrives _ c.args.dev c.args.bytes.now (stamped_plain c.in-Ok.stamped) c.args.self.now c.remember.new.self c.arrive_stamped.new.self c.arrive_stamped.result
    c.in-Ok.ensures.found c.remember.ensures.stands c.remember.ensures.same c.arrive_stamped.ensures
