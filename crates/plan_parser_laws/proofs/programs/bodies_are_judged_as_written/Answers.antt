use Rattle.plan_parser_laws.proofs.WrittenTrees.{deep_is, many_is}
use Rattle.plan_parser_laws.proofs.programs.bodies_are_judged_as_written.Goals as goal

pub returns-clause-deep : goal.returns-clause-deep
returns-clause-deep c = λ f g n e ends. deep_is f g n e ends

pub returns-clause-many : goal.returns-clause-many
returns-clause-many c = λ f g n e ends k. many_is f g n e ends k
