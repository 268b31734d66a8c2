use Rattle.std.proofs.Common.{◌≡◌, ◌+◌, ◌*◌, ◌-◌}
use Rattle.containers.specs.Reading.{many}
use Rattle.containers.proofs.ReadingLists.{with_front}
use Rattle.chunk_codec_spec.specs.Exprs.{clauses_from}
use Rattle.chunk_codec.specs.Reading.{expr_at, clause_at}
use Rattle.chunk_codec.proofs.exprs.+exprs.Given as goal

abbrev pub decreases-expr_of : goal.decreases-expr_of
decreases-expr_of l = 5 * l.room

abbrev pub decreases-expr_with_tag : goal.decreases-expr_with_tag
decreases-expr_with_tag l = 5 * l.room - 1

abbrev pub decreases-tuple_behind : goal.decreases-tuple_behind
decreases-tuple_behind l = 5 * l.room - 2

abbrev pub decreases-choice_behind : goal.decreases-choice_behind
decreases-choice_behind l = 5 * l.room - 2

abbrev pub decreases-binding_behind : goal.decreases-binding_behind
decreases-binding_behind l = 5 * l.room - 2

abbrev pub decreases-pair_behind : goal.decreases-pair_behind
decreases-pair_behind l = 5 * l.room - 2

abbrev pub decreases-fold_behind : goal.decreases-fold_behind
decreases-fold_behind l = 5 * l.room - 2

abbrev pub decreases-applied_behind : goal.decreases-applied_behind
decreases-applied_behind l = 5 * l.room - 2

abbrev pub decreases-operation_behind : goal.decreases-operation_behind
decreases-operation_behind l = 5 * l.room - 2

abbrev pub decreases-part_behind : goal.decreases-part_behind
decreases-part_behind l = 5 * l.room - 2

abbrev pub decreases-handling_behind : goal.decreases-handling_behind
decreases-handling_behind l = 5 * l.room - 2

abbrev pub decreases-remote_behind : goal.decreases-remote_behind
decreases-remote_behind l = 5 * l.room - 2

abbrev pub decreases-neighbour_behind : goal.decreases-neighbour_behind
decreases-neighbour_behind l = 5 * l.room - 2

abbrev pub decreases-boxed_expr : goal.decreases-boxed_expr
decreases-boxed_expr l = 5 * l.room + 1

abbrev pub decreases-exprs_of : goal.decreases-exprs_of
decreases-exprs_of l = 5 * l.room + 1

abbrev pub decreases-clauses_of : goal.decreases-clauses_of
decreases-clauses_of l = 5 * l.room + 2

abbrev pub decreases-clause_of : goal.decreases-clause_of
decreases-clause_of l = 5 * l.room + 1

abbrev pub invariant-exprs_of-loop-i : goal.invariant-exprs_of-loop-i
invariant-exprs_of-loop-i l = with_front l.exprs (many (expr_at l.room) (l.count - l._i) l.s) ≡ many (expr_at l.room) l.count l.fn.s

abbrev pub invariant-clauses_of-loop-i : goal.invariant-clauses_of-loop-i
invariant-clauses_of-loop-i l = with_front l.clauses (clauses_from (clause_at (expr_at l.room)) (l.count - l.i) l.s) ≡ clauses_from (clause_at (expr_at l.room)) l.count l.fn.s
