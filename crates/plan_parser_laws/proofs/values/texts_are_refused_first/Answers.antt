use Rattle.plan_parser.specs.Values.{value_of, args_of}
use Rattle.plan_parser_laws.specs.ValueRefusals.{FirstValueRefusal, FirstArgsRefusal}
use Rattle.plan_parser_laws.proofs.ValueTexts.{value_refused, args_refused, one_value, one_args, text_refused, one_text}
use Rattle.plan_parser_laws.proofs.values.texts_are_refused_first.Goals as goal

pub returns-clause-values : goal.returns-clause-values
returns-clause-values c = λ text e. text_refused value_of FirstValueRefusal value_refused text e

pub returns-clause-args : goal.returns-clause-args
returns-clause-args c = λ text e. text_refused args_of FirstArgsRefusal args_refused text e

pub returns-clause-one_value : goal.returns-clause-one_value
returns-clause-one_value c = λ text d e h k. one_text FirstValueRefusal one_value text d e h k

pub returns-clause-one_args : goal.returns-clause-one_args
returns-clause-one_args c = λ text d e h k. one_text FirstArgsRefusal one_args text d e h k
