use Rattle.std.proofs.Common.{arith}
use Rattle.plan_values.proofs.Fit.{binary_fits}
use Rattle.plan_values.proofs.operators.binary.Goals as goal

pub returns-clause-fits : goal.returns-clause-fits
returns-clause-fits c = grind (arith, binary_fits)
