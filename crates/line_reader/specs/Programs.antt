-- The programs of a file of lines, and the chunks that are injected.
use Rattle.std.specs.Prelude.{ℕ, ◌+◌, Bool, not, nat_le, List, [], ◌∷◌, ◌++◌, length, is_some, if◌then◌else◌, Result, Ok, Err}
use Rattle.std.specs.List.{find}
use Rattle.std.specs.Option.{ok_or}
use Rattle.std.specs.Str.{bytes_eq}
use Rattle.plan_base.specs.declared.name.Name.{Name}
use Rattle.plan_base.specs.Words.{is_name}
use Rattle.plan_base.specs.declared.tree.Chunk.{Chunk}
use Rattle.plan_base.specs.declared.tree.Fun.{Fun}
use Rattle.plan_base.specs.declared.tree.Program.{Program}
use Rattle.plan_base.specs.declared.tree.Value.{Value}
use Rattle.plan_base.specs.Sizes.{chunk_weight}
use Rattle.plan_types_chunks.specs.Chunks.{refusal_of}
use Rattle.program_text.specs.declared.fault.TextFault.{TextFault}
use Rattle.program_text.specs.Texts.{program_of, args_of_text}
use Rattle.line_reader.specs.declared.fault.LineReason.{LineReason}
use Rattle.line_reader.specs.declared.fault.LineReason.TheVariants.{TooMany, ProgramRefused, BadArgument}
use Rattle.line_reader.specs.declared.programs.OpenProgram.{OpenProgram}
use Rattle.line_reader.specs.Reads.{◌>>=◌, Part, word_at, allowed_or_reason, rest_at}

-- a program without text, begun at a line
abbrev pub opened_program : ℕ → OpenProgram
opened_program number = record { line = number; text = [] }

-- a line more of a program
abbrev pub with_line : OpenProgram → List ℕ → OpenProgram
with_line begun line = record begun { text = begun.text ++ line ++ 10 ∷ [] }

-- a typed program, or its refusal as a reason
abbrev pub accepted_program : Result Program TextFault → Result Program LineReason
accepted_program (Ok program) = Ok program
accepted_program (Err why) = Err (ProgramRefused why)

-- the typed program of a text of at most 65,536 bytes
unfoldable pub program_in : List ℕ → Result Program LineReason
program_in text = do
  _ ← allowed_or_reason (nat_le (length text) 65536) TooMany
  accepted_program (program_of text)

-- a word as a name, or else a reason
abbrev pub named_word : List ℕ → LineReason → Result Name LineReason
named_word w reason = if is_name w then Ok w else Err reason

-- whether a function has a name
abbrev pub has_name : List ℕ → Fun → Bool
has_name name f = bytes_eq f.name name

-- the next word as a function's name
unfoldable pub entry_at : List Fun → List (List ℕ) → Part Fun
entry_at funs ws = do
  w ← word_at ws
  f ← ok_or (find (has_name w.0) funs) BadArgument
  Ok (f, w.1)

-- the rest of the line as arguments, in at most 65,536 bytes
unfoldable pub args_at : List (List ℕ) → Result (List Value) LineReason
args_at ws = do
  text ← rest_at ws
  _ ← allowed_or_reason (nat_le (length text) 65536) BadArgument
  ok_or (args_of_text text) BadArgument

-- a function of a program with arguments
abbrev pub chunk_with : Program → Name → List Value → Chunk
chunk_with program entry args = record { code = program; entry = entry; args = args }

-- a chunk that is typed and small
unfoldable pub typed_chunk : Chunk → Result Chunk LineReason
typed_chunk chunk = do
  _ ← allowed_or_reason (not (is_some (refusal_of chunk))) BadArgument
  Ok chunk

-- `ENTRY ARGS` of a program
unfoldable pub call_at : Program → List (List ℕ) → Result Chunk LineReason
call_at program ws = do
  f ← entry_at program.funs ws
  args ← args_at f.1
  typed_chunk (chunk_with program f.0.name args)

-- the weights of all injected chunks in sum, with one chunk more, whose tag as a value is counted
unfoldable pub weighed_sum : ℕ → Chunk → Result ℕ LineReason
weighed_sum sum chunk = do
  _ ← allowed_or_reason (nat_le (sum + (1 + chunk_weight chunk)) 16777216) TooMany
  Ok (sum + (1 + chunk_weight chunk))
