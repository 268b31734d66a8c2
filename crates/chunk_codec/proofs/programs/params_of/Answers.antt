use Rattle.std.proofs.lemmas.Result.{err_from_is_err_and}
use Rattle.containers.specs.Reading.{many}
use Rattle.chunk_codec.specs.Reading.{param_at}
use Rattle.chunk_codec.proofs.Loops.{loop_fails, loop_goes, loop_done}
use Rattle.chunk_codec.proofs.programs.params_of.Goals as goal

pub returns-in_err-param : goal.returns-in_err-param
returns-in_err-param c =
    let p = err_from_is_err_and c.from_residual.result c.from_residual.ensures.1 in
    rw (p.1, p.2) (loop_fails param_at c.loop-i.params c.args.count c.loop-i._i c.loop-i.s (many param_at c.args.count c.args.s.now)
    c.in_err-param.field-0.0 c.loop-i-test.true c.in_err-param.ensures c.loop-i.invariant)

pub loop-i-preserved : goal.loop-i-preserved
loop-i-preserved c =
    rw c.in_ok-add.ensures.ok (loop_goes param_at c.loop-i.params c.args.count c.loop-i._i c.loop-i.s (many param_at c.args.count c.args.s.now)
    c.in_ok-param.param c.param_of.new.s c.loop-i-test.true c.in_ok-param.ensures c.loop-i.invariant)

pub returns : goal.returns
returns c =
    loop_done param_at c.loop-i.params c.args.count c.loop-i._i c.loop-i.s (many param_at c.args.count c.args.s.now) c.loop-i-test.false c.loop-i.invariant
