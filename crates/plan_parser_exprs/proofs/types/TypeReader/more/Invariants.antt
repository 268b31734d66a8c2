use Rattle.std.proofs.Common.{◌≡◌, ◌-◌, ◌≤◌, length}
use Rattle.plan_parser_exprs.specs.declared.fault.Wanted.TheVariants as wanted
use Rattle.plan_parser_exprs.specs.Begins.{begins_type}
use Rattle.plan_parser_exprs.specs.Types.{more, type_to}
use Rattle.plan_parser_exprs.proofs.types.TypeReader.more.Given as goal

abbrev pub invariant-loop-separator : goal.invariant-loop-separator
invariant-loop-separator g l = (more (type_to l.self.room) begins_type l.separator l.limit wanted.AType (l.most - length l.fn.types) l.fn.types l.fn.ahead
    ≡ more (type_to l.self.room) begins_type l.separator l.limit wanted.AType (l.most - length l.types) l.types l.ahead)
    × (length l.types ≤ l.most)

abbrev pub decreases-loop-separator : goal.decreases-loop-separator
decreases-loop-separator g l = l.most - length l.types
