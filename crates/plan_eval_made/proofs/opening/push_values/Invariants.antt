use Rattle.std.proofs.Common.{◌≡◌, ◌++◌, length, reverse}
use Rattle.plan_eval_made.proofs.opening.push_values.Given as goal

abbrev pub invariant-loop-v : goal.invariant-loop-v
invariant-loop-v l = record {
  stacked : l.turned.items ++ l.run.stack ≡ reverse l.fn.values ++ l.fn.run.stack;
  state : l.run.state ≡ l.fn.run.state;
  codes : l.run.codes ≡ l.fn.run.codes;
  paused : l.run.paused ≡ l.fn.run.paused;
}

abbrev pub decreases-loop-v : goal.decreases-loop-v
decreases-loop-v l = length l.turned.items
