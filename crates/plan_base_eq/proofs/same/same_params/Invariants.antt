use Rattle.std.proofs.Common.{◌≡◌, take}
use Rattle.plan_base_eq.proofs.same.same_params.Given as goal

abbrev pub invariant-loop-i : goal.invariant-loop-i
invariant-loop-i l = take l.i l.a ≡ take l.i l.b
