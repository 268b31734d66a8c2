use Rattle.std.proofs.Common.{◌≡◌, length}
use Rattle.plan_eval_state.specs.Loop.{onto}
use Rattle.plan_eval_state.proofs.run.move_over.Given as goal

abbrev pub invariant-loop-k : goal.invariant-loop-k
invariant-loop-k l = record {
  moved : onto l.run.paused l.conts ≡ onto l.fn.run.paused l.fn.conts;
  stack : l.run.stack ≡ l.fn.run.stack;
  state : l.run.state ≡ l.fn.run.state;
  codes : l.run.codes ≡ l.fn.run.codes;
}

abbrev pub decreases-loop-k : goal.decreases-loop-k
decreases-loop-k l = length l.run.paused
