use Rattle.std.proofs.Common.{sym, subst}
use Rattle.node_core_spec.specs.Fits.{ConfigFits}
use Rattle.node_log.proofs.Beginning.{may_begin}
use Rattle.node_log.proofs.BeginningAgain.{begins_as}
use Rattle.node_log.proofs.replay.begin_node.Goals as goal

pub new-requires-clause-config : goal.new-requires-clause-config
new-requires-clause-config g c = subst ConfigFits (sym c.in_ok-config.ensures) (may_begin c.args.config.now c.requires.keeps)

pub returns : goal.returns
returns g c = begins_as g.S.Services.stands c.args.config.now c.in_ok-config.config (g.S.Services.stands c.args.services) c.new.result c.in_ok-config.ensures c.new.ensures.stands c.new.ensures.version
