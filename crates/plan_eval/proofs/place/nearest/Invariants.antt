use Rattle.std.proofs.Common.{◌≡◌, ◌≤◌, ℕ, length, Some, None}
use Rattle.plan_eval_state.specs.declared.continuation.Continuation.{Continuation}
use Rattle.plan_eval_state.specs.Places.{at_place}
use Rattle.plan_eval.specs.Walk.{activation_of}
use Rattle.plan_eval.proofs.place.nearest.Given as goal

abbrev pub invariant-loop-i : goal.invariant-loop-i
invariant-loop-i l = record {
  within : l.i ≤ length l.conts;
  inside : (j : ℕ) (k : Continuation) → l.i ≤ j → at_place l.conts j ≡ Some k → activation_of k ≡ None;
}

abbrev pub decreases-loop-i : goal.decreases-loop-i
decreases-loop-i l = l.i
