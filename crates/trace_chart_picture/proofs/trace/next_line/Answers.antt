use Rattle.trace_chart_picture.proofs.Fronts.{next_of}
use Rattle.trace_chart_picture.proofs.trace.next_line.Goals as goal

pub returns-clause-next : goal.returns-clause-next
returns-clause-next c = next_of c.args.bytes.now c.before-line.result.now c.after.result.now c.before-line.ensures c.after.ensures c.if-line-bytes.false
