use Rattle.plan_lexer.proofs.SpellLemmas.{spells_read}
use Rattle.plan_lexer.proofs.laws.spelled_tokens.Goals as goal

pub returns : goal.returns
returns c = spells_read
