use Rattle.std.proofs.lemmas.Result.{err_from_is_err_and}
use Rattle.containers.specs.Reading.{many}
use Rattle.chunk_codec_spec.specs.Exprs.{clauses_from}
use Rattle.chunk_codec.specs.Reading.{expr_at, clause_at}
use Rattle.chunk_codec.proofs.Loops.{loop_fails, loop_goes, loop_done}
use Rattle.chunk_codec.proofs.ExprSteps.{clauses_fail, clauses_go, clauses_done}
use Rattle.chunk_codec.proofs.exprs.+exprs.Goals as goal

pub exprs_of-returns-in_err-expr : goal.exprs_of-returns-in_err-expr
exprs_of-returns-in_err-expr t c =
    let p = err_from_is_err_and c.from_residual.result c.from_residual.ensures.1 in
    rw (p.1, p.2) (loop_fails (expr_at c.args.room) c.loop-i.exprs c.args.count c.loop-i._i c.loop-i.s (many (expr_at c.args.room) c.args.count c.args.s.now)
    c.in_err-expr.field-0.0 c.loop-i-test.true c.in_err-expr.ensures c.loop-i.invariant)

pub exprs_of-loop-i-preserved : goal.exprs_of-loop-i-preserved
exprs_of-loop-i-preserved t c =
    rw c.in_ok-add.ensures.ok (loop_goes (expr_at c.args.room) c.loop-i.exprs c.args.count c.loop-i._i c.loop-i.s (many (expr_at c.args.room) c.args.count c.args.s.now)
    c.in_ok-expr.expr c.expr_of.new.s c.loop-i-test.true c.in_ok-expr.ensures c.loop-i.invariant)

pub exprs_of-returns : goal.exprs_of-returns
exprs_of-returns t c =
    loop_done (expr_at c.args.room) c.loop-i.exprs c.args.count c.loop-i._i c.loop-i.s (many (expr_at c.args.room) c.args.count c.args.s.now) c.loop-i-test.false c.loop-i.invariant

pub clauses_of-returns-in_err-clause : goal.clauses_of-returns-in_err-clause
clauses_of-returns-in_err-clause t c =
    let p = err_from_is_err_and c.from_residual.result c.from_residual.ensures.1 in
    rw (p.1, p.2) (clauses_fail (clause_at (expr_at c.args.room)) c.loop-i.clauses c.args.count c.loop-i.i c.loop-i.s (clauses_from (clause_at (expr_at c.args.room)) c.args.count c.args.s.now)
    c.in_err-clause.field-0.0 c.loop-i-test.true c.in_err-clause.ensures c.loop-i.invariant)

pub clauses_of-loop-i-preserved : goal.clauses_of-loop-i-preserved
clauses_of-loop-i-preserved t c =
    rw c.in_ok-add.ensures.ok (clauses_go (clause_at (expr_at c.args.room)) c.loop-i.clauses c.args.count c.loop-i.i c.loop-i.s (clauses_from (clause_at (expr_at c.args.room)) c.args.count c.args.s.now)
    c.in_ok-clause.clause c.clause_of.new.s c.loop-i-test.true c.in_ok-clause.ensures c.loop-i.invariant)

pub clauses_of-returns : goal.clauses_of-returns
clauses_of-returns t c =
    clauses_done (clause_at (expr_at c.args.room)) c.loop-i.clauses c.args.count c.loop-i.i c.loop-i.s (clauses_from (clause_at (expr_at c.args.room)) c.args.count c.args.s.now) c.loop-i-test.false c.loop-i.invariant

pub expr_with_tag-returns-in-Raise : goal.expr_with_tag-returns-in-Raise
expr_with_tag-returns-in-Raise t c = rw c.in-Raise.is (c.raise_behind.ensures _ _)
