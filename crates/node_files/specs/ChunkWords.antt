-- Typed chunks as words of hex digits.
use Rattle.std.specs.Prelude.{ℕ, nat_le, if◌then◌else◌, List, length, Option, Some, None, is_some, Result, Ok, Err}
use Rattle.std.specs.Option.{ok_or}
use Rattle.plan_base.specs.declared.tree.Chunk.{Chunk}
use Rattle.plan_types_chunks.specs.Chunks.{illness}
use Rattle.chunk_codec_spec.specs.declared.fault.SpellFault.{SpellFault}
use Rattle.chunk_codec_spec.specs.Scan.{Scan}
use Rattle.chunk_codec_spec.specs.Spelling.{a_whole_chunk, from_front}
use Rattle.line_reader.specs.declared.fault.LineReason.TheVariants.{BadArgument}
use Rattle.line_reader.specs.Reads.{◌>>=◌, Part}
use Rattle.line_reader.specs.HexWords.{hex_at}

-- the chunk that was read, where it took all bytes
abbrev pub taking_all : List ℕ → Result (Chunk × Scan) SpellFault → Option Chunk
taking_all bytes (Ok x) = if nat_le (length bytes) x.1.front.at then Some x.0 else None
taking_all bytes (Err e) = None

-- the chunk that these bytes spell
unfoldable pub spelled_chunk : List ℕ → Option Chunk
spelled_chunk bytes = taking_all bytes (a_whole_chunk.read (from_front (record { at = 0; rest = bytes })))

-- a chunk, where it is typed
abbrev pub if_typed : Option Chunk → Option Chunk
if_typed None = None
if_typed (Some c) = if is_some (illness c) then None else Some c

-- the typed chunk that these bytes spell
abbrev pub typed_chunk : List ℕ → Option Chunk
typed_chunk bytes = if_typed (spelled_chunk bytes)

-- the next word as a typed chunk in hex; none takes more than 16,383 bytes
unfoldable pub chunk_at : List (List ℕ) → Part Chunk
chunk_at ws = do
  bytes ← hex_at 1 16383 ws
  c ← ok_or (typed_chunk bytes.0) BadArgument
  Ok (c, bytes.1)
