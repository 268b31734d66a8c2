use Rattle.std.proofs.lemmas.Result.{err_from_is_err_and}
use Rattle.containers.specs.Reading.{many}
use Rattle.chunk_codec_spec.specs.Scan.{name_field}
use Rattle.chunk_codec.proofs.Loops.{loop_fails, loop_goes, loop_done}
use Rattle.chunk_codec.proofs.programs.names_of.Goals as goal

pub returns-in_err-name : goal.returns-in_err-name
returns-in_err-name c =
    let p = err_from_is_err_and c.from_residual.result c.from_residual.ensures.1 in
    rw (p.1, p.2) (loop_fails name_field c.loop-i.names c.args.count c.loop-i._i c.loop-i.s (many name_field c.args.count c.args.s.now)
    c.in_err-name.field-0.0 c.loop-i-test.true c.in_err-name.ensures c.loop-i.invariant)

pub loop-i-preserved : goal.loop-i-preserved
loop-i-preserved c =
    rw c.in_ok-add.ensures.ok (loop_goes name_field c.loop-i.names c.args.count c.loop-i._i c.loop-i.s (many name_field c.args.count c.args.s.now)
    c.in_ok-name.name c.name.new.self c.loop-i-test.true c.in_ok-name.ensures c.loop-i.invariant)

pub returns : goal.returns
returns c =
    loop_done name_field c.loop-i.names c.args.count c.loop-i._i c.loop-i.s (many name_field c.args.count c.args.s.now) c.loop-i-test.false c.loop-i.invariant
