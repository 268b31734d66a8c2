use Rattle.plan_parser_laws.proofs.Quotes.{strings}
use Rattle.plan_parser_laws.proofs.tokens.strings_are_refused.Goals as goal

pub returns : goal.returns
returns c = strings
