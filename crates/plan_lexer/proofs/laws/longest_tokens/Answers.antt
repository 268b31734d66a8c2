use Rattle.plan_lexer.proofs.FrontLemmas.{token_sound}
use Rattle.plan_lexer.proofs.LawLemmas.{longest_read, form_refused}
use Rattle.plan_lexer.proofs.laws.longest_tokens.Goals as goal

pub returns : goal.returns
returns c = record { front = token_sound; longest = longest_read; refused = form_refused }
