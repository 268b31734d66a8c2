use Rattle.plan_parser_laws.proofs.TypingOwn.{program_own}
use Rattle.plan_parser_laws.proofs.typing.typing_refusals_hold_no_memory.Goals as goal

pub returns : goal.returns
returns c = program_own
