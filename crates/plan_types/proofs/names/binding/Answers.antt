use Rattle.std.proofs.Common.{◌∙◌, sym, arith}
use Rattle.plan_types.proofs.Loops.{bound_at, bound_before}
use Rattle.plan_types.proofs.names.binding.Goals as goal

pub returns-then-is : goal.returns-then-is
returns-then-is c =
    bound_at c.args.name.now c.args.ctx.now c.loop-left.left c.index-ctx-left.result c.index-ctx-left-then-is.result c.loop-left-test.true c.loop-left.invariant.1 (sym c.is.ensures.tested ∙ c.if-is.true)
    ∙ sym c.loop-left.invariant.0

pub loop-left-preserved : goal.loop-left-preserved
loop-left-preserved c =
    let within = c.loop-left.invariant.1 in
    (c.loop-left.invariant.0 ∙ bound_before c.args.name.now c.args.ctx.now c.loop-left.left c.index-ctx-left.result c.loop-left-test.true c.loop-left.invariant.1 (sym c.is.ensures.tested ∙ c.if-is.false), omega arith)
