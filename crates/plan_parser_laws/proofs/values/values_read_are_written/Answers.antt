use Rattle.plan_parser_laws.proofs.ValuesRead.{value_written, args_written}
use Rattle.plan_parser_laws.proofs.ValuesAre.{value_read, args_read}
use Rattle.plan_parser_laws.proofs.values.values_read_are_written.Goals as goal

pub returns-clause-values : goal.returns-clause-values
returns-clause-values c = λ tokens end v. (λ h. value_written tokens end v h, λ d. value_read tokens end v d)

pub returns-clause-args : goal.returns-clause-args
returns-clause-args c = λ tokens end vs. (λ h. args_written tokens end vs h, λ d. args_read tokens end vs d)
