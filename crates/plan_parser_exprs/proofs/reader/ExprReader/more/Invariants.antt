use Rattle.std.proofs.Common.{◌≡◌, ◌-◌, ◌≤◌, length}
use Rattle.plan_lexer.specs.declared.token.Symbol.TheVariants as symbols
use Rattle.plan_parser_exprs.specs.declared.level.Level.TheVariants as levels
use Rattle.plan_parser_exprs.specs.Exprs.{expr_to}
use Rattle.plan_parser_exprs.specs.declared.fault.Wanted.TheVariants as wanted
use Rattle.plan_parser_exprs.specs.Begins.{begins_expr}
use Rattle.plan_parser_exprs.specs.Types.{more}
use Rattle.plan_parser_exprs.proofs.reader.ExprReader.more.Given as goal

abbrev pub invariant-loop-limit : goal.invariant-loop-limit
invariant-loop-limit g l = (more (expr_to l.self.room levels.Whole) begins_expr symbols.Comma l.limit wanted.AnExpr (l.most - length l.fn.nodes) l.fn.nodes l.fn.ahead
    ≡ more (expr_to l.self.room levels.Whole) begins_expr symbols.Comma l.limit wanted.AnExpr (l.most - length l.nodes) l.nodes l.ahead)
    × (length l.nodes ≤ l.most)

abbrev pub decreases-loop-limit : goal.decreases-loop-limit
decreases-loop-limit g l = l.most - length l.nodes
