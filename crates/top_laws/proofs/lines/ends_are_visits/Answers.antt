use Rattle.top_laws.proofs.Ends.{event_ends}
use Rattle.top_laws.proofs.lines.ends_are_visits.Goals as goal

pub returns : goal.returns
returns c = event_ends
