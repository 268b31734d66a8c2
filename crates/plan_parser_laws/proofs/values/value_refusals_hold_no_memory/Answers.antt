use Rattle.plan_parser_laws.proofs.ValueOwn.{values_own, arguments_own}
use Rattle.plan_parser_laws.proofs.values.value_refusals_hold_no_memory.Goals as goal

pub returns : goal.returns
returns c = record { values = values_own; args = arguments_own }
