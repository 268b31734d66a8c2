use Rattle.std.proofs.Common.{◌≡◌, ◌≤◌, ◌-◌, List, length, Some}
use Rattle.plan_base.specs.declared.tree.Fun.{Fun}
use Rattle.plan_base.specs.declared.tree.Program.{Program}
use Rattle.plan_eval_state.specs.declared.continuation.Activation.{Activation}
use Rattle.plan_eval.specs.Walk.{IsNearest, IsBody, innermost, outermost, site_of}
use Rattle.plan_eval.proofs.place.walk.Given as goal

abbrev pub invariant-loop-i : goal.invariant-loop-i
invariant-loop-i l = record {
  within : l.from ≤ l.i;
  found : (codes : List Program) (first a : Activation) (f : Fun) → IsNearest first l.conts a l.from → IsBody codes a f → f.body ≡ l.body
      → innermost codes first (outermost l.i l.conts) ≡ Some (site_of a f l.place);
}

abbrev pub decreases-loop-i : goal.decreases-loop-i
decreases-loop-i l = length l.conts - l.i
