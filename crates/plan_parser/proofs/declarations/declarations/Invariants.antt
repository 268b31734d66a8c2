use Rattle.std.proofs.Common.{◌≡◌, ◌-◌, length}
use Rattle.plan_parser.specs.Programs.{declarations, nothing}
use Rattle.plan_parser.proofs.declarations.declarations.Given as goal

abbrev pub invariant-loop : goal.invariant-loop
invariant-loop l = declarations (length l.fn.tokens) nothing (record { tokens = l.fn.tokens; end = l.fn.end }) ≡ declarations (length l.fn.tokens - l.counter) l.gathered l.ahead
