use Rattle.std.proofs.Common.{arith, ◌∙◌}
use Rattle.plan_eval_made.proofs.Rows.{row_taken}
use Rattle.plan_eval_made.proofs.row.take_row.Goals as goal

pub returns-clause-row : goal.returns-clause-row
returns-clause-row c = λ held pre is many.
    (row_taken c.loop-left.row held c.loop-left.run.stack pre c.args.n (c.loop-left.invariant.stacked ∙ is) (omega (arith, c.loop-left.invariant.many, c.loop-left-test.false)) many).0

pub returns-clause-left : goal.returns-clause-left
returns-clause-left c = λ held pre is many.
    (row_taken c.loop-left.row held c.loop-left.run.stack pre c.args.n (c.loop-left.invariant.stacked ∙ is) (omega (arith, c.loop-left.invariant.many, c.loop-left-test.false)) many).1
