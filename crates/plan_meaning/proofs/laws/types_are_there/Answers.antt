use Rattle.checked_chunks.proofs.Whole.{program_whole}
use Rattle.plan_meaning.proofs.Full.{full_value, full_chunk}
use Rattle.plan_meaning.proofs.laws.types_are_there.Goals as goal

pub returns : goal.returns
returns c = record { programs = program_whole; values = λ v t h. full_value h; chunks = λ k h. full_chunk h }
