use Rattle.std.proofs.Common.{◌≡◌}
use Rattle.std.specs.Prelude.{map}
use Rattle.plan_eval_settle.specs.Settles.{handed_packet}
use Rattle.plan_eval_settle.proofs.settling.all_handed.Given as goal

abbrev pub invariant-loop-sent : goal.invariant-loop-sent
invariant-loop-sent l = l.sends ≡ map (handed_packet l.handler) l.yielded
