use Rattle.plan_types_spec.proofs.Programs.{fills_itself, fills_full}
use Rattle.plan_types_spec.proofs.laws.full_programs_stay.Goals as goal

pub returns : goal.returns
returns c = record { same = fills_full; itself = fills_itself }
