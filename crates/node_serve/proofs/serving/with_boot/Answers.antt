use Rattle.std.proofs.Common.{◌∙◌}
use Rattle.node_serve.proofs.Moments.{booted_so}
use Rattle.node_serve.proofs.serving.with_boot.Goals as goal

pub returns-clause-keeps : goal.returns-clause-keeps
returns-clause-keeps c = booted_so c.args.cfg.now c.args.boot c.in_ok-node.node _ _ _ _ c.in_ok-node.ensures c.in_ok-missing.ensures.missing c.in_ok-missing.ensures.log c.in_ok-missing.ensures.devs
    (c.in_ok-at.ensures ∙ c.as_slice.ensures) c.requires.two c.ranges.boot.fits c.requires.keeps
