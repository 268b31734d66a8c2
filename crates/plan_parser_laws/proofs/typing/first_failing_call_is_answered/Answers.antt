use Rattle.plan_parser_laws.proofs.ChunkFirsts.{call_first}
use Rattle.plan_parser_laws.proofs.typing.first_failing_call_is_answered.Goals as goal

pub returns : goal.returns
returns c = call_first
