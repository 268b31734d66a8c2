use Rattle.std.proofs.Common.{◌≡◌, ◌≤◌, length, map, take}
use Rattle.plan_base.specs.declared.tree.Param.{Param}
use Rattle.plan_eval_state.specs.Spots.{counted}
use Rattle.plan_eval_state.specs.Loop.{place_named}
use Rattle.plan_eval_made.proofs.names.argument_place.Given as goal

abbrev pub invariant-loop-left : goal.invariant-loop-left
invariant-loop-left l = record {
  within : l.left ≤ length l.params;
  rest : place_named l.name (map (λ (p : Param). p.name) l.params) (counted l.base l.params)
      ≡ place_named l.name (take l.left (map (λ (p : Param). p.name) l.params)) (take l.left (counted l.base l.params));
}

abbrev pub decreases-loop-left : goal.decreases-loop-left
decreases-loop-left l = l.left
