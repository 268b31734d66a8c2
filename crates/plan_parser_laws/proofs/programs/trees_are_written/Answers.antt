use Rattle.plan_parser_laws.proofs.WrittenTrees.{expr_holds}
use Rattle.plan_parser_laws.proofs.programs.trees_are_written.Goals as goal

pub returns : goal.returns
returns c = λ r f g n e. expr_holds e
