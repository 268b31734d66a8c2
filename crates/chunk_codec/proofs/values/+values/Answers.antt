use Rattle.std.proofs.lemmas.Result.{err_from_is_err_and}
use Rattle.containers.specs.Reading.{many}
use Rattle.chunk_codec.specs.Reading.{value_at}
use Rattle.chunk_codec.proofs.Loops.{loop_fails, loop_goes, loop_done}
use Rattle.chunk_codec.proofs.values.+values.Goals as goal

pub values_of-returns-in_err-value : goal.values_of-returns-in_err-value
values_of-returns-in_err-value t c =
    let p = err_from_is_err_and c.from_residual.result c.from_residual.ensures.1 in
    rw (p.1, p.2) (loop_fails (value_at c.args.nest c.args.room) c.loop-i.values c.args.count c.loop-i._i c.loop-i.s (many (value_at c.args.nest c.args.room) c.args.count c.args.s.now)
    c.in_err-value.field-0.0 c.loop-i-test.true c.in_err-value.ensures c.loop-i.invariant)

pub values_of-loop-i-preserved : goal.values_of-loop-i-preserved
values_of-loop-i-preserved t c =
    rw c.in_ok-add.ensures.ok (loop_goes (value_at c.args.nest c.args.room) c.loop-i.values c.args.count c.loop-i._i c.loop-i.s (many (value_at c.args.nest c.args.room) c.args.count c.args.s.now)
    c.in_ok-value.value c.value_of.new.s c.loop-i-test.true c.in_ok-value.ensures c.loop-i.invariant)

pub values_of-returns : goal.values_of-returns
values_of-returns t c =
    loop_done (value_at c.args.nest c.args.room) c.loop-i.values c.args.count c.loop-i._i c.loop-i.s (many (value_at c.args.nest c.args.room) c.args.count c.args.s.now) c.loop-i-test.false c.loop-i.invariant
