use Rattle.plan_values.proofs.Fit.{primitive_fits_in}
use Rattle.plan_values.proofs.primitives.primitive.Goals as goal

pub returns-clause-fits : goal.returns-clause-fits
returns-clause-fits c = primitive_fits_in c.args.p c.args.args.now c.apply_primitive.result c.apply_primitive.ensures
