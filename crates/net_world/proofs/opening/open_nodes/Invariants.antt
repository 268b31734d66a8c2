use Rattle.net_world.proofs.OpeningLaws.{Left}
use Rattle.net_world.proofs.opening.open_nodes.Given as goal

abbrev pub invariant-loop-own : goal.invariant-loop-own
invariant-loop-own g l = Left g.S.Services.stands l.topology l.nodes l.own-iterator.rest.items
