use Rattle.std.proofs.Common.{◌≡◌, ◌≤◌, length, map, take}
use Rattle.plan_eval_state.specs.Loop.{place_named}
use Rattle.plan_eval_made.specs.declared.here.Binding.{Binding}
use Rattle.plan_eval_made.proofs.names.bound_place.Given as goal

abbrev pub invariant-loop-left : goal.invariant-loop-left
invariant-loop-left l = record {
  within : l.left ≤ length l.bindings;
  rest : place_named l.name (map (λ (b : Binding). b.name.now) l.bindings) (map (λ (b : Binding). b.at) l.bindings)
      ≡ place_named l.name (take l.left (map (λ (b : Binding). b.name.now) l.bindings)) (take l.left (map (λ (b : Binding). b.at) l.bindings));
}

abbrev pub decreases-loop-left : goal.decreases-loop-left
decreases-loop-left l = l.left
