use Rattle.trace_chart_picture.proofs.Clean.{harmless_from}
use Rattle.trace_chart_picture.proofs.escape.put_escaped.Goals as goal

pub returns-clause-harmless : goal.returns-clause-harmless
returns-clause-harmless c = harmless_from 0 c.args.text.now
