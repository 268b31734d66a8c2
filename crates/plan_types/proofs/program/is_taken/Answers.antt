use Rattle.std.proofs.Common.{◌∙◌, sym}
use Rattle.plan_types.proofs.Loops.{built_taken, other_taken}
use Rattle.plan_types.proofs.program.is_taken.Goals as goal

pub returns-then-is_built_in : goal.returns-then-is_built_in
returns-then-is_built_in c = sym (built_taken c.args.taken.now c.args.name.now (sym c.is_built_in.ensures ∙ c.if-is_built_in.true))

pub returns : goal.returns
returns c = c.has_name.ensures ∙ sym (other_taken c.args.taken.now c.args.name.now (sym c.is_built_in.ensures ∙ c.if-is_built_in.false))
