use Rattle.std.proofs.Common.{◌≡◌, ◌+◌, ◌++◌, length, reverse}
use Rattle.plan_eval_made.proofs.row.take_row.Given as goal

abbrev pub invariant-loop-left : goal.invariant-loop-left
invariant-loop-left l = record {
  stacked : reverse l.row ++ l.run.stack ≡ l.fn.run.stack;
  many : length l.row + l.left ≡ l.n;
  state : l.run.state ≡ l.fn.run.state;
  codes : l.run.codes ≡ l.fn.run.codes;
  paused : l.run.paused ≡ l.fn.run.paused;
}

abbrev pub decreases-loop-left : goal.decreases-loop-left
decreases-loop-left l = l.left
