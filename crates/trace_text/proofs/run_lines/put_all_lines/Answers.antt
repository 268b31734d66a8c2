use Rattle.trace_text.proofs.Printing.{lines_none, lines_next, lines_all}
use Rattle.trace_text.proofs.run_lines.put_all_lines.Goals as goal

pub loop-line-init : goal.loop-line-init
loop-line-init c = lines_none c.args.frames c.args.event c.args.lines.now c.args.out.now

pub loop-line-preserved : goal.loop-line-preserved
loop-line-preserved c =
    lines_next c.args.frames c.args.event c.args.lines.now c.loop-line.line-index c.line-item.result c.args.out.now c.loop-line.out c.put_line.new.out c.loop-line-test.true c.line-item.is c.loop-line.invariant
    c.in_ok-put_line.ensures

pub returns : goal.returns
returns c = lines_all c.args.frames c.args.event c.args.lines.now c.loop-line.line-index c.args.out.now c.loop-line.out c.loop-line-test.false c.loop-line.invariant
