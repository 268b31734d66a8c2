use Rattle.std.proofs.Common.{arith}
use Rattle.ledger_audit.proofs.PastLaws.{nothing_held}
use Rattle.ledger_audit.proofs.reckoning.nothing_reckoned.Goals as goal

pub returns : goal.returns
returns c = λ links. record { holds = nothing_held _ c.new-5.ensures c.new.ensures c.new-2.ensures c.new-3.ensures c.new-4.ensures; begin = tt; read = tt; few = omega arith; limits = tt }
