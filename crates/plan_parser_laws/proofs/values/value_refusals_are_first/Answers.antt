use Rattle.plan_parser_laws.proofs.ValueTexts.{value_refused, args_refused, one_value, one_args}
use Rattle.plan_parser_laws.proofs.values.value_refusals_are_first.Goals as goal

pub returns-clause-values : goal.returns-clause-values
returns-clause-values c = λ tokens end e. value_refused tokens end e

pub returns-clause-args : goal.returns-clause-args
returns-clause-args c = λ tokens end e. args_refused tokens end e

pub returns-clause-one_value : goal.returns-clause-one_value
returns-clause-one_value c = λ tokens end d e h k. one_value tokens end d e h k

pub returns-clause-one_args : goal.returns-clause-one_args
returns-clause-one_args c = λ tokens end d e h k. one_args tokens end d e h k
