use Rattle.grow_run.proofs.Summing.{summary_none}
use Rattle.grow_run.proofs.summary.Summary.before_events.Goals as goal

pub returns : goal.returns
returns c = summary_none
