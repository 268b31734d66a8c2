use Rattle.std.proofs.Common.{ap, ◌∙◌}
use Rattle.node_core.specs.Stands.{version_of}
use Rattle.net_world.proofs.StandLaws.{version_is}
use Rattle.net_world.proofs.nodes.version_at.Goals as goal

pub returns : goal.returns
returns g c = λ states s a there.
    c.version.ensures ∙ ap version_of c.index-nodes-at.is ∙ version_is _ c.args.nodes.now states c.args.at c.index-nodes-at.result s c.requires a there
