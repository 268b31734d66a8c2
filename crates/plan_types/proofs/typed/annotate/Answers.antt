use Rattle.std.proofs.Common.{Ok}
use Rattle.plan_types.proofs.Answered.{only_by, refused_only}
use Rattle.plan_types.proofs.typed.annotate.Goals as goal

pub returns-in_err-program-clause-only : goal.returns-in_err-program-clause-only
returns-in_err-program-clause-only c = λ p f t. refused_only c.args.draft.program p c.from_residual.result c.in_err-program.field-0.0 c.from_residual.ensures.1 c.in_err-program.ensures c.requires f t

pub returns-clause-only : goal.returns-clause-only
returns-clause-only c = λ p f t. rw (c.of.ensures, c.in_ok-shared.ensures) (only_by c.args.draft.program p (Ok c.in_ok-program.program) c.in_ok-program.ensures c.requires f t)
