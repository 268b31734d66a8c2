use Rattle.std.proofs.lemmas.Result.{err_from_is_err_and}
use Rattle.containers.specs.Reading.{many}
use Rattle.chunk_codec.specs.Reading.{service_at}
use Rattle.chunk_codec.proofs.Loops.{loop_fails, loop_goes, loop_done}
use Rattle.chunk_codec.proofs.programs.services_of.Goals as goal

pub returns-in_err-service : goal.returns-in_err-service
returns-in_err-service c =
    let p = err_from_is_err_and c.from_residual.result c.from_residual.ensures.1 in
    rw (p.1, p.2) (loop_fails service_at c.loop-i.services c.args.count c.loop-i._i c.loop-i.s (many service_at c.args.count c.args.s.now)
    c.in_err-service.field-0.0 c.loop-i-test.true c.in_err-service.ensures c.loop-i.invariant)

pub loop-i-preserved : goal.loop-i-preserved
loop-i-preserved c =
    rw c.in_ok-add.ensures.ok (loop_goes service_at c.loop-i.services c.args.count c.loop-i._i c.loop-i.s (many service_at c.args.count c.args.s.now)
    c.in_ok-service.service c.service_of.new.s c.loop-i-test.true c.in_ok-service.ensures c.loop-i.invariant)

pub returns : goal.returns
returns c =
    loop_done service_at c.loop-i.services c.args.count c.loop-i._i c.loop-i.s (many service_at c.args.count c.args.s.now) c.loop-i-test.false c.loop-i.invariant
