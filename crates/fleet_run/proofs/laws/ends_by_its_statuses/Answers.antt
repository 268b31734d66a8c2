use Rattle.std.proofs.Common.{drop}
use Rattle.fleet_run.proofs.FleetLaws.{end_given}
use Rattle.fleet_run.proofs.laws.ends_by_its_statuses.Goals as goal

pub returns : goal.returns
returns c = λ kids old new a b end f seen. end_given kids (drop old.started old.statuses) f.statuses end f.did.0 (f.given seen) f.did.1
