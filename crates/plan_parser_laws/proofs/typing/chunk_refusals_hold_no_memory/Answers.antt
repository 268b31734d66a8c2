use Rattle.plan_parser_laws.proofs.ChunkOwn.{illness_own, refusal_own}
use Rattle.plan_parser_laws.proofs.typing.chunk_refusals_hold_no_memory.Goals as goal

pub returns : goal.returns
returns c = record { chunks = illness_own; calls = refusal_own }
