use Rattle.plan_parser_laws.proofs.ChunkFirsts.{first_is}
use Rattle.plan_parser_laws.proofs.typing.first_failing_is_answered.Goals as goal

pub returns : goal.returns
returns c = λ k i w f. first_is k w f i
