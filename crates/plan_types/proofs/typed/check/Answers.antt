use Rattle.plan_types.proofs.Answered.{full_by}
use Rattle.plan_types.proofs.typed.check.Goals as goal

pub of-requires : goal.of-requires
of-requires c = rw c.in_ok-shared.ensures (full_by c.args.program c.in_ok-_filled._filled c.in_ok-_filled.ensures c.requires.formed c.requires.full)
