use Rattle.example_services.specs.Laws.{serve_good}
use Rattle.example_services.proofs.laws.answers_are_good.Goals as goal

pub returns : goal.returns
returns c = serve_good
