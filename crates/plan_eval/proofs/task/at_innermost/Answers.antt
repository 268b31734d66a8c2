use Rattle.std.proofs.Common.{sym}
use Rattle.plan_eval_state.specs.Loop.{bare}
use Rattle.plan_eval.proofs.Walks.{no_program}
use Rattle.plan_eval.proofs.task.at_innermost.Goals as goal

pub returns-in_default : goal.returns-in_default
returns-in_default g c = λ s inner.
    absurd (no_program c.args.run.now.codes c.args.first c.args.conts.now c.nearest-near.result.0 c.nearest-near.result.1 (bare s) c.nearest-near.ensures (sym c.in_default.ensures.value) inner.found)
