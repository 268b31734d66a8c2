use Rattle.plan_lexer.proofs.LawLemmas.{tokens_or_refusal}
use Rattle.plan_lexer.proofs.ScanLemmas.{Toks-unique, Refuses-unique, Toks-refused}
use Rattle.plan_lexer.proofs.laws.one_answer.Goals as goal

pub returns : goal.returns
returns c = record { some = tokens_or_refusal; tokens = Toks-unique; refusal = Refuses-unique; apart = Toks-refused }
