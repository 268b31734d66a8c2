use Rattle.trace_chart_picture.proofs.Insides.{inside}
use Rattle.trace_chart_picture.proofs.laws.marks_lie_inside.Goals as goal

pub returns : goal.returns
returns c t = inside t
