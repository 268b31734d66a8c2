use Rattle.std.proofs.lemmas.Result.{err_from_is_err_and}
use Rattle.containers.specs.Reading.{many}
use Rattle.chunk_codec.specs.Reading.{type_at}
use Rattle.chunk_codec.proofs.Loops.{loop_fails, loop_goes, loop_done}
use Rattle.chunk_codec.proofs.types.+types.Goals as goal

pub types_of-returns-in_err-t : goal.types_of-returns-in_err-t
types_of-returns-in_err-t t c =
    let p = err_from_is_err_and c.from_residual.result c.from_residual.ensures.1 in
    rw (p.1, p.2) (loop_fails (type_at c.args.room) c.loop-i.types c.args.count c.loop-i._i c.loop-i.s (many (type_at c.args.room) c.args.count c.args.s.now)
    c.in_err-t.field-0.0 c.loop-i-test.true c.in_err-t.ensures c.loop-i.invariant)

pub types_of-loop-i-preserved : goal.types_of-loop-i-preserved
types_of-loop-i-preserved t c =
    rw c.in_ok-add.ensures.ok (loop_goes (type_at c.args.room) c.loop-i.types c.args.count c.loop-i._i c.loop-i.s (many (type_at c.args.room) c.args.count c.args.s.now)
    c.in_ok-t.t c.type_of.new.s c.loop-i-test.true c.in_ok-t.ensures c.loop-i.invariant)

pub types_of-returns : goal.types_of-returns
types_of-returns t c =
    loop_done (type_at c.args.room) c.loop-i.types c.args.count c.loop-i._i c.loop-i.s (many (type_at c.args.room) c.args.count c.args.s.now) c.loop-i-test.false c.loop-i.invariant
