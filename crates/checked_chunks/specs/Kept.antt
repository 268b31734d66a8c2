-- What a program and a chunk that were checked keep.
use Rattle.std.specs.Prelude.{◌+◌, Bool, ◌&&◌, nat_le}
use Rattle.plan_base.specs.declared.tree.Program.{Program}
use Rattle.plan_base.specs.declared.tree.Chunk.{Chunk}
use Rattle.plan_base.specs.Sizes.{chunk_weight, chunk_nesting}
use Rattle.plan_base.specs.WellFormed.{IsWellFormedProgram, ProgramHasTypes, IsWellFormedChunk, ChunkHasTypes}
use Rattle.plan_types_spec.specs.Typing.{Typed, IsTypedChunk}

-- a program is typed and well formed, and no type is missing in it
pub record IsChecked (code : Program) : Type 0 where
  pub typed : Typed code
  pub formed : IsWellFormedProgram code
  pub full : ProgramHasTypes code

-- a chunk within the limits of size
abbrev pub is_small_chunk : Chunk → Bool
is_small_chunk c = nat_le (1 + chunk_weight c) 16384 && nat_le (chunk_nesting c) 4

-- a chunk is typed and well formed, and no type is missing in it
pub record IsCheckedChunk (c : Chunk) : Type 0 where
  pub typed : IsTypedChunk c
  pub formed : IsWellFormedChunk c
  pub full : ChunkHasTypes c
