use Rattle.trace_chart_picture.proofs.Agreeing.{agree}
use Rattle.trace_chart_picture.proofs.Crossing.{crossed}
use Rattle.trace_chart_picture.proofs.laws.strokes_agree.Goals as goal

pub returns-clause-kinds : goal.returns-clause-kinds
returns-clause-kinds c t = agree t

pub returns-clause-crosses : goal.returns-clause-crosses
returns-clause-crosses c t = crossed t
