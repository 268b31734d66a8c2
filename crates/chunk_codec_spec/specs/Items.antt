-- What can still be to read.
use Rattle.std.specs.Prelude.{ℕ, Bool}
use Rattle.plan_base.specs.declared.limit.Limit.{Limit}

-- A depth is how many levels may still be opened there; a nest is how many chunks.
pub data ChunkItem : Type 0 where
  a_flag : ChunkItem
  an_int : ChunkItem
  a_word : ChunkItem
  a_char : ChunkItem
  a_text : ChunkItem
  a_blob : ChunkItem
  a_name : ChunkItem
  an_operator : ChunkItem
  a_part_number : ChunkItem
  a_type : ℕ → ChunkItem
  an_expr : ℕ → ChunkItem
  -- the clauses of a `try`, with their count
  several_clauses : ℕ → ChunkItem
  -- one clause, and whether it is the last
  a_clause : Bool → ℕ → ChunkItem
  a_parameter : ChunkItem
  a_service : ChunkItem
  a_function : ChunkItem
  a_program : ChunkItem
  -- the judgement of a program's bytes: where it began, and how many expressions the code around it had so far
  code_end : ℕ → ℕ → ChunkItem
  a_value : ℕ → ℕ → ChunkItem
  a_chunk : ℕ → ChunkItem
  -- the judgement of a chunk's bytes, by its nest and where it began
  weight_end : ℕ → ℕ → ChunkItem
  -- a count in one byte within its limits, and so many items
  counted : Limit → ℕ → ℕ → ChunkItem → ChunkItem
  -- a count in two bytes, and so many items
  listed : ChunkItem → ChunkItem
