-- What lines inject.
use Rattle.std.specs.Prelude.{ℕ, List, Option, Result, Ok}
use Rattle.plan_base.specs.declared.name.Name.{Name}
use Rattle.plan_base.specs.declared.tree.Chunk.{Chunk}
use Rattle.plan_base.specs.declared.tree.Program.{Program}
use Rattle.plan_base.specs.declared.stamp.Version.{Version}
use Rattle.line_reader.specs.declared.fault.LineReason.{LineReason}
use Rattle.line_reader.specs.Reads.{◌>>=◌}
use Rattle.line_reader.specs.Numbers.{number_at}
use Rattle.line_reader.specs.Programs.{entry_at, args_at, chunk_with, typed_chunk}
use Rattle.line_reader.specs.Handlers.{handler_at}

-- `ENTRY BOUND ARGS` of a program, or under version 2 `ENTRY BOUND handler NAME ARGS`: a chunk, its bound and its handler
unfoldable pub injection_at : Version → Program → List (List ℕ) → Result (Chunk × ℕ × Option Name) LineReason
injection_at version program ws = do
  f ← entry_at program.funs ws
  bound ← number_at 0 65535 f.1
  handler ← handler_at version program bound.1
  args ← args_at handler.1
  chunk ← typed_chunk (chunk_with program f.0.name args)
  Ok (chunk, bound.0, handler.0)
