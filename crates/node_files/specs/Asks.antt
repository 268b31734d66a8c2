-- What a file of a request says: the request, or the first line that is outside the format.
use Rattle.std.specs.Prelude.{ℕ, if◌then◌else◌, List, [], Option, Some, None, Result, Ok, Err}
use Rattle.std.specs.Str.{bytes_eq}
use lib.Chars.{codes}
use Rattle.plan_base.specs.declared.tree.Program.{Program}
use Rattle.network_config.specs.declared.fleet.AskFile.{AskFile}
use Rattle.line_reader.specs.declared.fault.LineReason.{LineReason}
use Rattle.line_reader.specs.declared.fault.LineReason.TheVariants.{BadHeader, BadWord}
use Rattle.line_reader.specs.declared.fault.LineFault.{LineFault}
use Rattle.line_reader.specs.declared.fault.LineFault.TheVariants as faults
use Rattle.line_reader.specs.Lines.{words}
use Rattle.line_reader.specs.Files.{Format, at_line, file_of}
use Rattle.line_reader.specs.Reads.{◌>>=◌, word_at, end_at, rest_at}
use Rattle.line_reader.specs.Programs.{opened_program, with_line, program_in, call_at}
use Rattle.node_files.specs.declared.ask.AskWord.{AskWord}
use Rattle.node_files.specs.declared.ask.AskWord.TheVariants as word
use Rattle.node_files.specs.declared.ask.AskStage.{AskStage}
use Rattle.node_files.specs.declared.ask.AskStage.TheVariants as stages
use Rattle.node_files.specs.declared.ask.AskReading.{AskReading}
use Rattle.node_files.specs.Parts.{behind_word, last_number, header_line, usual_line}

-- `to P`: the port to which the request is sent
unfoldable pub to_line : List (List ℕ) → AskReading → Result AskReading LineReason
to_line ws s = do
  more ← behind_word (codes "to") ws
  p ← last_number 1 65535 more
  Ok (record s { stage = stages.Wants word.From; to = p })

-- `from P`: the port from which it is sent
unfoldable pub from_line : List (List ℕ) → AskReading → Result AskReading LineReason
from_line ws s = do
  more ← behind_word (codes "from") ws
  p ← last_number 1 65535 more
  Ok (record s { stage = stages.Wants word.Bound; from = p })

-- `bound N`
unfoldable pub bound_line : List (List ℕ) → AskReading → Result AskReading LineReason
bound_line ws s = do
  more ← behind_word (codes "bound") ws
  n ← last_number 0 65535 more
  Ok (record s { stage = stages.Wants word.Entry; bound = n })

-- `entry ENTRY ARGS`, which is kept until the program is there
unfoldable pub entry_line : ℕ → List (List ℕ) → AskReading → Result AskReading LineReason
entry_line number ws s = do
  more ← behind_word (codes "entry") ws
  text ← rest_at more
  w ← word_at more
  _ ← rest_at w.1
  Ok (record s { stage = stages.Wants word.Program; entry = text; entry_line = number })

-- `program`
unfoldable pub program_line : ℕ → List (List ℕ) → AskReading → Result AskReading LineReason
program_line number ws s = do
  more ← behind_word (codes "program") ws
  _ ← end_at more
  Ok (record s { stage = stages.Inside; program = opened_program number })

-- the line that must come next
unfoldable pub wanted_line : AskWord → ℕ → List (List ℕ) → AskReading → Result AskReading LineReason
wanted_line word.To number ws s = to_line ws s
wanted_line word.From number ws s = from_line ws s
wanted_line word.Bound number ws s = bound_line ws s
wanted_line word.Entry number ws s = entry_line number ws s
wanted_line word.Program number ws s = program_line number ws s

-- the end of the program's text
unfoldable pub close_program : AskReading → Result AskReading LineReason
close_program s = do
  p ← program_in s.program.text
  Ok (record s { stage = stages.Behind; checked = Some p })

-- a line of the program, or the line that ends it
abbrev pub inside_line : List ℕ → AskReading → Result AskReading LineFault
inside_line line s =
    if bytes_eq line (codes "end program") then at_line s.program.line (close_program s) else Ok
    (record s { program = with_line s.program line })

-- what a line adds where it stands
unfoldable pub ask_step_at : AskStage → ℕ → List ℕ → AskReading → Result AskReading LineFault
ask_step_at stages.Header number line s = header_line (codes "planet inject 1") number line (record s { stage = stages.Wants word.To })
ask_step_at (stages.Wants w) number line s = usual_line number line s (λ ws. wanted_line w number ws s)
ask_step_at stages.Inside number line s = inside_line line s
ask_step_at stages.Behind number line s = usual_line number line s (λ ws. Err BadWord)

-- what a file says that ends too early
abbrev pub early : AskStage → LineReason
early stages.Header = BadHeader
early _ = BadWord

-- the request; what is wrong with its entry or its arguments is judged last, at their line
unfoldable pub request_of : Program → AskReading → Result AskFile LineReason
request_of program s = do
  chunk ← call_at program (words s.entry)
  Ok (record { to = s.to; from = s.from; bound = s.bound; chunk = chunk })

-- what the lines so far say where the file ends in front of the line with a number
abbrev pub ask_end : Option Program → ℕ → AskReading → Result AskFile LineFault
ask_end None number s = Err (faults.Line number (early s.stage))
ask_end (Some program) number s = at_line s.entry_line (request_of program s)

abbrev pub ask_format : Format AskReading AskFile
ask_format = record { step = λ number line s. ask_step_at s.stage number line s; finish = λ number s. ask_end s.checked number s }

-- nothing read yet; a port is 1 until its line is read
abbrev pub nothing_asked : AskReading
nothing_asked = record { stage = stages.Header; to = 1; from = 1; bound = 0; entry = []; entry_line = 1; program = opened_program 1; checked = None }

-- what the bytes of a file say: a request, or the first line outside the format with the reason
abbrev pub ask_of : List ℕ → Result AskFile LineFault
ask_of bytes = file_of ask_format nothing_asked bytes
