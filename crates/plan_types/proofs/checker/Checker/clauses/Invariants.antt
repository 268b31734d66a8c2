use Rattle.std.proofs.Common.{◌≡◌, [], length}
use Rattle.plan_types_spec.specs.TypingOrder.{clauses_from}
use Rattle.plan_types.specs.Checks.{below}
use Rattle.plan_types.proofs.checker.Checker.clauses.Given as goal

abbrev pub invariant-loop-all : goal.invariant-loop-all
invariant-loop-all g l =
    (clauses_from l.scope.code.now l.scope.seen (below l.scope l.self.depth) [] l.fn.state.ctx l.ty l.fn.all l.fn.state.node ≡ clauses_from l.scope.code.now l.scope.seen (below l.scope l.self.depth)
    l.done l.state.ctx l.ty l.all l.state.node)
    × (l.state.ctx ≡ l.fn.state.ctx)

abbrev pub decreases-loop-all : goal.decreases-loop-all
decreases-loop-all g l = length l.all
