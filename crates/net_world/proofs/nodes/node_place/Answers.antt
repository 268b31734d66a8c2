use Rattle.std.proofs.Common.{◌∙◌}
use Rattle.net_world.proofs.StandLaws.{place_is}
use Rattle.net_world.proofs.nodes.node_place.Goals as goal

pub returns-clause-place : goal.returns-clause-place
returns-clause-place g c = λ states h. c.host_place.ensures.place ∙ place_is _ c.args.host c.args.nodes.now states h
