use Rattle.std.proofs.Common.{◌≡◌, ◌-◌}
use Rattle.plan_parser_exprs.specs.Types.{lists_of}
use Rattle.plan_parser_exprs.proofs.types.lists_of.Given as goal

abbrev pub invariant-loop : goal.invariant-loop
invariant-loop l = lists_of l.fn.count l.fn.t ≡ lists_of (l.fn.count - l.counter) l.t
