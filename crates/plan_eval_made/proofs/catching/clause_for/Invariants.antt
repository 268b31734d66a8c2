use Rattle.std.proofs.Common.{◌≡◌, ◌+◌, length}
use Rattle.plan_eval_made.proofs.Clauses.{clause_from}
use Rattle.plan_eval_made.proofs.catching.clause_for.Given as goal

abbrev pub invariant-loop-rest : goal.invariant-loop-rest
invariant-loop-rest l = (clause_from 0 l.clauses l.x ≡ clause_from l.number l.rest l.x) × (l.number + length l.rest ≡ length l.clauses)

abbrev pub decreases-loop-rest : goal.decreases-loop-rest
decreases-loop-rest l = length l.rest
