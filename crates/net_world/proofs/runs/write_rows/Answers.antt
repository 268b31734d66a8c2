use Rattle.std.proofs.Common.{◌<◌, length, arith}
use Rattle.net_world.proofs.RunLaws.{rows_none, rows_next, stopped_row, rows_all}
use Rattle.net_world.proofs.runs.write_rows.Goals as goal

pub loop-i-init : goal.loop-i-init
loop-i-init g c = (rows_none c.args.ledger.now c.args.text (g.K.Sink.state c.args.out.now), c.len-i-end.ensures.once)

pub loop-i-preserved : goal.loop-i-preserved
loop-i-preserved g c =
    let out = g.K.Sink.state in
    let within : c.loop-i.i < length c.args.ledger.now = omega (arith, c.loop-i-test.true, c.len-i-end.ensures.len) in (
      rows_next c.args.ledger.now c.loop-i.i c.at.result within c.at.ensures.row c.args.text (out c.args.out.now) (out c.loop-i.out) (out c.write_row.new.out) c.loop-i.waiting _ c.loop-i.invariant.0 c.in-Ok.ensures,
      c.loop-i.invariant.1,
    )

pub returns-in-Err-clause-rows : goal.returns-in-Err-clause-rows
returns-in-Err-clause-rows g c =
    let out = g.K.Sink.state in
    let within : c.loop-i.i < length c.args.ledger.now = omega (arith, c.loop-i-test.true, c.len-i-end.ensures.len) in
    stopped_row c.args.ledger.now c.loop-i.i c.at.result within c.at.ensures.row c.args.text c.in-Err.fault (out c.args.out.now) (out c.loop-i.out) (out c.write_row.new.out) c.loop-i.waiting c.loop-i.invariant.0 c.in-Err.ensures

pub returns-clause-rows : goal.returns-clause-rows
returns-clause-rows g c =
    let out = g.K.Sink.state in
    rows_all c.args.ledger.now c.loop-i.i c.args.text (out c.args.out.now) (out c.loop-i.out) c.loop-i.waiting (omega (arith, c.loop-i-test.false, c.len-i-end.ensures.len)) c.loop-i.invariant.0
