use Rattle.std.proofs.Common.{sym, ap, ◌∙◌, subst, arith}
use Rattle.std.specs.Prelude.{map}
use Rattle.network_config.specs.Rules.{KeepsNetwork}
use Rattle.net_world_spec.proofs.Opening.{opening_version}
use Rattle.net_world_spec.specs.World.{opening, opening_services}
use Rattle.net_world.specs.Stands.{WorldStands}
use Rattle.net_world.proofs.RunLaws.{opening_made}
use Rattle.reliable_ports_world.specs.Networks.{two_hosts}
use Rattle.reliable_ports_world.proofs.HostRules.{two_keep}
use Rattle.reliable_ports_world.proofs.ports.Ports.begin.Goals as goal

pub new-requires-clause-rules : goal.new-requires-clause-rules
new-requires-clause-rules g c = subst KeepsNetwork (sym c.in_ok-topology.ensures) two_keep

pub new-requires-clause-services : goal.new-requires-clause-services
new-requires-clause-services g c = c.requires.services ∙ ap (λ t. map opening_services t.hosts) (sym c.in_ok-topology.ensures)

pub returns-clause-stands : goal.returns-clause-stands
returns-clause-stands g c = record {
  world = subst (λ t. WorldStands g.S.Services.stands c.in_ok-world.world (opening t)) c.in_ok-topology.ensures c.in_ok-world.ensures;
  version = opening_version two_hosts;
  sender = c.in_ok-sender.ensures;
  receiver = c.in_ok-receiver.ensures;
  first = c.of.ensures;
  second = c.of-2.ensures;
}

pub returns-clause-cost : goal.returns-clause-cost
returns-clause-cost g c =
    let world = subst (λ t. WorldStands g.S.Services.stands c.in_ok-world.world (opening t)) c.in_ok-topology.ensures c.in_ok-world.ensures in
    let none = world.is.made ∙ opening_made two_hosts in
    let purse = c.of-2.ensures in
    omega (arith, none, purse)
