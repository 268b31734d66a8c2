use Rattle.service_registry_spec.proofs.Goods.{serve_good}
use Rattle.service_registry_spec.proofs.laws.answers_are_good.Goals as goal

pub returns : goal.returns
returns c = serve_good
