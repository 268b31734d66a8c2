use Rattle.std.proofs.Common.{◌-◌, ◌+◌, ◌*◌, ◌^◌, arith}
use Rattle.grow_run.proofs.Summing.{sums_none, sums_next, sums_all, sums_room_less, sums_room_next}
use Rattle.grow_run.proofs.sums.sum_rows.Goals as goal

pub loop-i-init : goal.loop-i-init
loop-i-init c = record {
  sums = sums_none c.args.ledger.now;
  once = c.len-i-end.ensures.once;
  room = (omega arith, omega arith, omega arith, omega arith, omega arith);
}

pub plus-sums-requires : goal.plus-sums-requires
plus-sums-requires c = sums_room_less c.loop-i.sums ((2 ^ 32 - c.loop-i.i) * 2 ^ 64) (2 ^ 64) (omega (arith, c.loop-i-test.true)) c.loop-i.invariant.room

pub loop-i-preserved : goal.loop-i-preserved
loop-i-preserved c = record {
  sums = sums_next c.args.ledger.now c.loop-i.i c.at.result c.loop-i.sums c.plus-sums.result (omega (arith, c.loop-i-test.true, c.len-i-end.ensures.len)) c.at.ensures.row c.loop-i.invariant.sums c.plus-sums.ensures;
  once = c.loop-i.invariant.once;
  room = sums_room_next c.loop-i.sums c.plus-sums.result c.at.result.1 ((2 ^ 32 - c.loop-i.i) * 2 ^ 64) ((2 ^ 32 - (c.loop-i.i + 1)) * 2 ^ 64) (omega (arith, c.loop-i-test.true)) (omega arith)
      (omega arith) (omega arith) (omega arith) (omega arith) c.plus-sums.ensures c.loop-i.invariant.room;
}

pub returns-clause-sums : goal.returns-clause-sums
returns-clause-sums c = sums_all c.args.ledger.now c.loop-i.i c.loop-i.sums (omega (arith, c.loop-i-test.false, c.len-i-end.ensures.len)) c.loop-i.invariant.sums
