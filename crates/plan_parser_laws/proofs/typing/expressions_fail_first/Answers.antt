use Rattle.plan_parser_laws.proofs.Exprs.{first, some, apart, one}
use Rattle.plan_parser_laws.proofs.typing.expressions_fail_first.Goals as goal

pub returns-clause-first : goal.returns-clause-first
returns-clause-first c = λ code seen depth b want n e f h. first code seen depth b want n e f h

pub returns-clause-some : goal.returns-clause-some
returns-clause-some c = λ code seen b want n e. some code seen b want n e

pub returns-clause-apart : goal.returns-clause-apart
returns-clause-apart c = λ code seen b want n e d t f h r. apart code seen h r

pub returns-clause-one : goal.returns-clause-one
returns-clause-one c = λ code seen b want n e f g h k. one code seen h k
