use Rattle.plan_parser_laws.proofs.Strays.{strays}
use Rattle.plan_parser_laws.proofs.tokens.strays_are_refused.Goals as goal

pub returns : goal.returns
returns c = strays
