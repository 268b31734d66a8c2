use Rattle.std.proofs.Common.{◌≡◌, length}
use Rattle.std.specs.Option.{option_copied}
use Rattle.plan_types_spec.specs.TypingOrder.{parts_from}
use Rattle.plan_types.specs.Checks.{below}
use Rattle.plan_types.proofs.checker.Checker.add_parts.Given as goal

abbrev pub invariant-loop-all : goal.invariant-loop-all
invariant-loop-all g l =
    (parts_from l.scope.code.now l.scope.seen (below l.scope l.self.depth) l.fn.done l.fn.types l.fn.state.ctx (option_copied l.wants) l.fn.all l.fn.state.node ≡ parts_from l.scope.code.now
    l.scope.seen (below l.scope l.self.depth) l.done l.types l.state.ctx (option_copied l.wants) l.all l.state.node)
    × (l.state.ctx ≡ l.fn.state.ctx)

abbrev pub decreases-loop-all : goal.decreases-loop-all
decreases-loop-all g l = length l.all
