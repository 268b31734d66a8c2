use Rattle.std.proofs.Common.{subst, sym}
use Rattle.replay_window.specs.Stands.{WindowStands}
use Rattle.node_core_parts.proofs.WindowLaws.{windows_judge, not_judged}
use Rattle.node_core_parts.proofs.windows.judge.Goals as goal

pub returns-in-None : goal.returns-in-None
returns-in-None c = λ seen a. not_judged seen c.args.windows.now c.args.dev.0 c.args.s a c.in-None.ensures.lookup.0

pub returns-in-Some : goal.returns-in-Some
returns-in-Some c = λ seen a. windows_judge seen c.args.windows.now c.args.dev.0 _ c.args.s c.judge.result a c.in-Some.ensures.lookup.0
    (λ t h. c.judge.ensures t (subst (WindowStands t) (sym c.in-Some.ensures.lookup.1) h))
