use Rattle.plan_parser_laws.proofs.Quotes.{chars}
use Rattle.plan_parser_laws.proofs.tokens.chars_are_refused.Goals as goal

pub returns : goal.returns
returns c = chars
