use Rattle.std.proofs.Common.{sym, ap, ◌∙◌, subst}
use Rattle.std.specs.Prelude.{map, IfOk}
use Rattle.network_config.specs.Rules.{KeepsNetwork}
use Rattle.net_world_spec.specs.World.{opening, opening_services}
use Rattle.net_world.specs.Stands.{WorldStands}
use Rattle.grow_run.proofs.RingRules.{ring_keeps}
use Rattle.grow_run.proofs.growth.ring_world.Goals as goal

pub new-requires-clause-rules : goal.new-requires-clause-rules
new-requires-clause-rules g c = subst KeepsNetwork (sym c.in_ok-topology.ensures) ring_keeps

pub new-requires-clause-services : goal.new-requires-clause-services
new-requires-clause-services g c = c.requires ∙ ap (λ t. map opening_services t.hosts) (sym c.in_ok-topology.ensures)

pub returns : goal.returns
returns g c = subst (λ t. IfOk c.new.result (λ w. WorldStands g.S.Services.stands w (opening t))) c.in_ok-topology.ensures c.new.ensures
