use Rattle.std.proofs.Common.{◌≡◌, Option, Some, subst}
use Rattle.plan_base.specs.declared.tree.Chunk.{Chunk}
use Rattle.node_files.specs.ChunkWords.{if_typed}
use Rattle.node_files.proofs.ChunkLaws.{typed_is}
use Rattle.node_files.proofs.chunk_words.checked_chunk.Goals as goal

pub returns-in-Ok : goal.returns-in-Ok
returns-in-Ok c = subst (λ (d : Chunk). ◌≡◌ {A = Option Chunk} (Some c.in-Ok.chunk) (if_typed (Some d))) c.in-Ok.ensures.found.0 (typed_is c.in-Ok.chunk c.in-Ok.ensures.found.1)
