use Rattle.std.proofs.Common.{◌≡◌, [], length}
use Rattle.plan_types_spec.specs.Typing.{param_names}
use Rattle.plan_types_spec.specs.TypingNames.{are_new}
use Rattle.plan_types.proofs.program.differ.Given as goal

abbrev pub invariant-loop-all : goal.invariant-loop-all
invariant-loop-all l = are_new [] (param_names l.fn.all) ≡ are_new l.taken (param_names l.all)

abbrev pub decreases-loop-all : goal.decreases-loop-all
decreases-loop-all l = length l.all
