use Rattle.std.proofs.Common.{◌∙◌, ◌+◌, length, arith}
use Rattle.grow_run.proofs.Summing.{summary_start, summary_next, summary_all, room_less}
use Rattle.grow_run.proofs.summary.Summary.count.Goals as goal

pub loop-line-init : goal.loop-line-init
loop-line-init c = record {
  room = λ n r. room_less c.args.self.now (n + 0) n (omega arith) r;
  counted = λ h n s. s ∙ summary_start h n c.args.lines.now;
}

pub with_line-requires : goal.with_line-requires
with_line-requires c =
    c.loop-line.invariant.room 1 (room_less c.args.self.now (length c.args.lines.now) (1 + c.loop-line.line-index) (omega (arith, c.loop-line-test.true)) c.requires)

pub loop-line-preserved : goal.loop-line-preserved
loop-line-preserved c = record {
  room = λ n r. c.with_line.ensures.room n (c.loop-line.invariant.room (n + 1) (room_less c.args.self.now (n + (c.loop-line.line-index + 1)) ((n + 1) + c.loop-line.line-index) (omega arith) r));
  counted = λ h n s. summary_next h n c.args.lines.now c.loop-line.line-index c.line-item.result c.loop-line.self c.with_line.result c.loop-line-test.true c.line-item.is (c.loop-line.invariant.counted h n s) c.with_line.ensures.counted;
}

pub returns-clause-counted : goal.returns-clause-counted
returns-clause-counted c = λ h n s. summary_all h n c.args.lines.now c.loop-line.line-index c.loop-line.self c.loop-line-test.false (c.loop-line.invariant.counted h n s)

pub returns-clause-room : goal.returns-clause-room
returns-clause-room c = λ n r. c.loop-line.invariant.room n (room_less c.args.self.now (n + length c.args.lines.now) (n + c.loop-line.line-index) (omega (arith, c.loop-line.auto.line-index-end)) r)
