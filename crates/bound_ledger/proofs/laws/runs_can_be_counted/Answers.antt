use Rattle.bound_ledger.proofs.Runs.{event_fits_ledger}
use Rattle.bound_ledger.proofs.laws.runs_can_be_counted.Goals as goal

pub returns : goal.returns
returns c = event_fits_ledger
