use Rattle.plan_types_spec.proofs.Fitting.{operator_fits, selection_fits, primitive_fits}
use Rattle.plan_types_spec.proofs.operands.operands_fit.Goals as goal

pub returns : goal.returns
returns c = record { operators = operator_fits; parts = selection_fits; primitives = primitive_fits }
