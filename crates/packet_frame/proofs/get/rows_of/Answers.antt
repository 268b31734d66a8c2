use Rattle.std.proofs.Common.{None}
use Rattle.std.proofs.lemmas.Result.{err_from_is_err_and}
use Rattle.chunk_codec_spec.specs.Spelling.{from_front}
use Rattle.packet_frame.specs.Fields.{rows_from}
use Rattle.packet_frame.proofs.Rows.{host_fails, cost_fails, rows_go_on, rows_done}
use Rattle.packet_frame.proofs.get.rows_of.Goals as goal

pub returns-in_err-host : goal.returns-in_err-host
returns-in_err-host c =
    let p = err_from_is_err_and c.from_residual.result c.from_residual.ensures.1 in
    rw (p.1, p.2) (host_fails c.loop-i.before c.loop-i.rows c.args.count c.loop-i._i (from_front c.loop-i.c) (rows_from None c.args.count (from_front c.args.c.now)) c.loop-i.invariant
    c.in_err-host.field-0.0 c.loop-i-test.true c.in_err-host.ensures)

pub returns-in_err-cost : goal.returns-in_err-cost
returns-in_err-cost c =
    let p = err_from_is_err_and c.from_residual-in_err-cost.result c.from_residual-in_err-cost.ensures.1 in
    rw (p.1, p.2) (cost_fails c.loop-i.before c.loop-i.rows c.args.count c.loop-i._i (from_front c.loop-i.c) (rows_from None c.args.count (from_front c.args.c.now)) c.loop-i.invariant
    c.in_err-cost.field-0.0 c.in_ok-host.host (from_front c.row_host_of.new.c) c.loop-i-test.true c.in_ok-host.ensures c.in_err-cost.ensures)

pub loop-i-preserved : goal.loop-i-preserved
loop-i-preserved c =
    rw c.in_ok-add.ensures.ok (rows_go_on c.loop-i.before c.loop-i.rows c.args.count c.loop-i._i (from_front c.loop-i.c) (rows_from None c.args.count (from_front c.args.c.now)) c.loop-i.invariant
    c.in_ok-host.host c.in_ok-cost.cost (from_front c.row_host_of.new.c) (from_front c.cost_of.new.c) c.loop-i-test.true c.in_ok-host.ensures c.in_ok-cost.ensures)

pub returns : goal.returns
returns c = rows_done c.loop-i.before c.loop-i.rows c.args.count c.loop-i._i (from_front c.loop-i.c) (rows_from None c.args.count (from_front c.args.c.now)) c.loop-i.invariant c.loop-i-test.false
