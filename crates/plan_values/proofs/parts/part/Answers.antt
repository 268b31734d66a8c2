use Rattle.std.proofs.Common.{arith}
use Rattle.plan_values.proofs.Fit.{part_fits}
use Rattle.plan_values.proofs.parts.part.Goals as goal

pub returns-clause-fits : goal.returns-clause-fits
returns-clause-fits c = grind (arith, part_fits)
