use Rattle.std.proofs.Common.{◌≡◌, take}
use Rattle.plan_types_spec.specs.TypingNames.{param_types}
use Rattle.plan_types.proofs.call.param_types.Given as goal

abbrev pub invariant-loop-param : goal.invariant-loop-param
invariant-loop-param l = l.types ≡ param_types (take l.param-index l.params)
