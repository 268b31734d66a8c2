-- What a file of a message to be cut says: the message, or the first line that is outside the format.
use Rattle.std.specs.Prelude.{ℕ, ◌≤◌, List, [], Result, Ok, Err, codes}
use Rattle.network_config.specs.Hosts.{host_of}
use Rattle.line_reader.specs.declared.fault.LineReason.{LineReason}
use Rattle.line_reader.specs.declared.fault.LineReason.TheVariants.{BadHeader, BadWord}
use Rattle.line_reader.specs.declared.fault.LineFault.{LineFault}
use Rattle.line_reader.specs.declared.fault.LineFault.TheVariants as faults
use Rattle.line_reader.specs.Files.{Format, file_of}
use Rattle.line_reader.specs.Reads.{◌>>=◌, end_at}
use Rattle.line_reader.specs.Numbers.{number_at}
use Rattle.line_reader.specs.HexWords.{hex_at}
use Rattle.node_files.specs.Parts.{behind_word, header_line, usual_line}
use Rattle.frag_chunks.specs.Parts.{IsMessage}
use Rattle.command_files.specs.declared.cut.CutFile.{CutFile}
use Rattle.command_files.specs.declared.cut.CutWord.{CutWord}
use Rattle.command_files.specs.declared.cut.CutWord.TheVariants as word
use Rattle.command_files.specs.declared.cut.CutStage.{CutStage}
use Rattle.command_files.specs.declared.cut.CutStage.TheVariants as stages
use Rattle.command_files.specs.declared.cut.CutReading.{CutReading}

-- what a file's message keeps
pub record KeepsCut (m : CutFile) : Type 0 where
  pub port : m.port ≤ 65535
  pub key : m.key ≤ 9223372036854775807
  pub bound : (1 ≤ m.bound) × (m.bound ≤ 65535)
  pub bytes : IsMessage m.bytes

-- the first word of a line
abbrev pub first_word : CutWord → List ℕ
first_word word.Dest = codes "dest"
first_word word.Port = codes "port"
first_word word.Key = codes "key"
first_word word.Bound = codes "bound"
first_word word.Data = codes "data"

-- `dest N`: the host that gathers the parts
unfoldable pub dest_line : List (List ℕ) → CutReading → Result CutReading LineReason
dest_line ws s = do
  h ← number_at 0 4294967295 ws
  _ ← end_at h.1
  Ok (record s { stage = stages.Wants word.Port; dest = host_of h.0 })

-- `port P`: its port
unfoldable pub port_line : List (List ℕ) → CutReading → Result CutReading LineReason
port_line ws s = do
  p ← number_at 0 65535 ws
  _ ← end_at p.1
  Ok (record s { stage = stages.Wants word.Key; port = p.0 })

-- `key K`: the key, below 2^63
unfoldable pub key_line : List (List ℕ) → CutReading → Result CutReading LineReason
key_line ws s = do
  k ← number_at 0 9223372036854775807 ws
  _ ← end_at k.1
  Ok (record s { stage = stages.Wants word.Bound; key = k.0 })

-- `bound B`: the bound that the parts share
unfoldable pub bound_line : List (List ℕ) → CutReading → Result CutReading LineReason
bound_line ws s = do
  n ← number_at 1 65535 ws
  _ ← end_at n.1
  Ok (record s { stage = stages.Wants word.Data; bound = n.0 })

-- `data HEX`: the message
unfoldable pub data_line : List (List ℕ) → CutReading → Result CutReading LineReason
data_line ws s = do
  bytes ← hex_at 1 262144 ws
  _ ← end_at bytes.1
  Ok (record s { stage = stages.Behind; bytes = bytes.0 })

-- what stands behind the first word of a line
abbrev pub value_line : CutWord → List (List ℕ) → CutReading → Result CutReading LineReason
value_line word.Dest ws s = dest_line ws s
value_line word.Port ws s = port_line ws s
value_line word.Key ws s = key_line ws s
value_line word.Bound ws s = bound_line ws s
value_line word.Data ws s = data_line ws s

-- the line that must come next
unfoldable pub wanted_line : CutWord → List (List ℕ) → CutReading → Result CutReading LineReason
wanted_line w ws s = do
  more ← behind_word (first_word w) ws
  value_line w more s

-- what a line adds where it stands
unfoldable pub cut_step_at : CutStage → ℕ → List ℕ → CutReading → Result CutReading LineFault
cut_step_at stages.Header number line s = header_line (codes "planet cut 1") number line (record s { stage = stages.Wants word.Dest })
cut_step_at (stages.Wants w) number line s = usual_line number line s (λ ws. wanted_line w ws s)
cut_step_at stages.Behind number line s = usual_line number line s (λ ws. Err BadWord)

-- what the lines so far say where the file ends in front of the line with a number
abbrev pub cut_end : CutStage → ℕ → CutReading → Result CutFile LineFault
cut_end stages.Header number s = Err (faults.Line number BadHeader)
cut_end (stages.Wants w) number s = Err (faults.Line number BadWord)
cut_end stages.Behind number s = Ok (record { dest = s.dest; port = s.port; key = s.key; bound = s.bound; bytes = s.bytes })

abbrev pub cut_format : Format CutReading CutFile
cut_format = record { step = λ number line s. cut_step_at s.stage number line s; finish = λ number s. cut_end s.stage number s }

-- nothing read yet; the bound is 1 until its line is read
abbrev pub nothing_read : CutReading
nothing_read = record { stage = stages.Header; dest = host_of 0; port = 0; key = 0; bound = 1; bytes = [] }

-- what the bytes of a file say: a message, or the first line outside the format with the reason
abbrev pub cut_of : List ℕ → Result CutFile LineFault
cut_of bytes = file_of cut_format nothing_read bytes
