use Rattle.service_registry_spec.proofs.Refusals.{refuses}
use Rattle.service_registry_spec.proofs.laws.others_are_refused.Goals as goal

pub returns : goal.returns
returns c = refuses
