use Rattle.plan_parser_laws.proofs.ValueTexts.{value_or_refused, args_or_refused, values_apart, args_apart}
use Rattle.plan_parser_laws.proofs.values.values_have_one_answer.Goals as goal

pub returns-clause-value : goal.returns-clause-value
returns-clause-value c = λ tokens end. value_or_refused tokens end

pub returns-clause-arguments : goal.returns-clause-arguments
returns-clause-arguments c = λ tokens end. args_or_refused tokens end

pub returns-clause-apart_values : goal.returns-clause-apart_values
returns-clause-apart_values c = λ tokens end v e w h. values_apart tokens end v e w h

pub returns-clause-apart_args : goal.returns-clause-apart_args
returns-clause-apart_args c = λ tokens end vs e w h. args_apart tokens end vs e w h
