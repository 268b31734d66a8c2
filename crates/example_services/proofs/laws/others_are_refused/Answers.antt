use Rattle.example_services.specs.Laws.{refuses}
use Rattle.example_services.proofs.laws.others_are_refused.Goals as goal

pub returns : goal.returns
returns c = refuses
