use Rattle.std.proofs.Common.{◌≡◌, ◌-◌, []}
use Rattle.plan_parser_exprs.specs.Exprs.{clauses_from, expr_to}
use Rattle.plan_parser_exprs.proofs.reader.ExprReader.clauses.Given as goal

abbrev pub invariant-loop : goal.invariant-loop
invariant-loop g l = clauses_from (expr_to l.self.room) l.self.room 8 [] l.fn.ahead ≡ clauses_from (expr_to l.self.room) l.self.room (8 - l.counter) l.clauses l.ahead
