use Rattle.plan_parser_laws.proofs.ValuesAre.{one_value, one_arguments}
use Rattle.plan_parser_laws.proofs.values.values_have_one_reading.Goals as goal

pub returns-clause-values : goal.returns-clause-values
returns-clause-values c = one_value

pub returns-clause-args : goal.returns-clause-args
returns-clause-args c = one_arguments
