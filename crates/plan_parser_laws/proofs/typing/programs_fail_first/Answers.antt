use Rattle.plan_parser_laws.proofs.ProgramReadings.{first_is, some_answer, not_both, one_refusal}
use Rattle.plan_parser_laws.proofs.typing.programs_fail_first.Goals as goal

pub returns-clause-first : goal.returns-clause-first
returns-clause-first c = λ p f w. first_is p w f

pub returns-clause-some : goal.returns-clause-some
returns-clause-some c = λ p w. some_answer p w

pub returns-clause-apart : goal.returns-clause-apart
returns-clause-apart c = λ p q f w h t r. not_both p w q f h t r

pub returns-clause-one : goal.returns-clause-one
returns-clause-one c = λ p f g h k. one_refusal p f g h k
