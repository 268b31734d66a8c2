use Rattle.std.proofs.Common.{◌≡◌, ◌≤◌, length, take}
use Rattle.plan_types_spec.specs.TypingNames.{binding}
use Rattle.plan_types.proofs.names.binding.Given as goal

abbrev pub invariant-loop-left : goal.invariant-loop-left
invariant-loop-left l = (binding l.name l.ctx ≡ binding l.name (take l.left l.ctx)) × (l.left ≤ length l.ctx)

abbrev pub decreases-loop-left : goal.decreases-loop-left
decreases-loop-left l = l.left
