use Rattle.top_laws.proofs.ValuesRead.{value_again}
use Rattle.top_laws.proofs.again.printed_value_reads.Goals as goal

pub returns : goal.returns
returns c = λ v t ts end r k. value_again v t ts end r k
