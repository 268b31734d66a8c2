-- What a file of two ends of a port says: their purses and events, or the first line that is outside the format.
use Rattle.std.specs.Prelude.{ℕ, Bool, ◌==◌, ◌||◌, if◌then◌else◌, nat_lt, List, [], ◌∷◌, ◌++◌, length, Option, Some, None, Result, Ok, Err}
use Rattle.std.specs.Option.{ok_or}
use Rattle.std.specs.Str.{bytes_eq}
use lib.Chars.{codes}
use Rattle.plan_base.specs.declared.ids.Host.{Host}
use Rattle.network_config.specs.Hosts.{host_of, dev_of}
use Rattle.line_reader.specs.declared.fault.LineReason.{LineReason}
use Rattle.line_reader.specs.declared.fault.LineReason.TheVariants.{BadHeader, BadWord, UnknownHost, TooMany}
use Rattle.line_reader.specs.declared.fault.LineFault.{LineFault}
use Rattle.line_reader.specs.declared.fault.LineFault.TheVariants as faults
use Rattle.line_reader.specs.Files.{Format, file_of}
use Rattle.line_reader.specs.Reads.{◌>>=◌, Part, word_at, end_at, allowed_or_reason}
use Rattle.line_reader.specs.Numbers.{number_at}
use Rattle.line_reader.specs.HexWords.{hex_at}
use Rattle.node_files.specs.Parts.{behind_word, header_line, usual_line}
use Rattle.command_files.specs.declared.port.PortEvent.{PortEvent}
use Rattle.command_files.specs.declared.port.PortEvent.TheVariants as event
use Rattle.command_files.specs.declared.port.PortFile.{PortFile}
use Rattle.command_files.specs.declared.port.PortWord.{PortWord}
use Rattle.command_files.specs.declared.port.PortWord.TheVariants as word
use Rattle.command_files.specs.declared.port.PortStage.{PortStage}
use Rattle.command_files.specs.declared.port.PortStage.TheVariants as stages
use Rattle.command_files.specs.declared.port.PortReading.{PortReading}

-- the first word of an event
abbrev pub event_word : List ℕ → Option PortWord
event_word w =
    if bytes_eq w (codes "offer") then Some word.Offer else
    (if bytes_eq w (codes "transmit") then Some word.Transmit else
    (if bytes_eq w (codes "send") then Some word.Send else
    (if bytes_eq w (codes "deliver") then Some word.Deliver else
    (if bytes_eq w (codes "lose") then Some word.Lose else
    (if bytes_eq w (codes "repeat") then Some word.Repeat else None)))))

-- whether a number is that of an end's host
abbrev pub is_end : ℕ → Bool
is_end n = (n == 1) || (n == 2)

-- the next word as the host of an end
unfoldable pub end_host : List (List ℕ) → Part Host
end_host ws = do
  n ← number_at 0 4294967295 ws
  _ ← allowed_or_reason (is_end n.0) UnknownHost
  Ok (host_of n.0, n.1)

-- the number of a frame, alone
unfoldable pub frame_at : List (List ℕ) → Result ℕ LineReason
frame_at ws = do
  k ← number_at 0 4294967295 ws
  _ ← end_at k.1
  Ok k.0

-- an event more
abbrev pub with_event : PortReading → PortEvent → PortReading
with_event s e = record s { events = s.events ++ e ∷ [] }

-- `offer HEX`: 1 to 4,096 bytes
unfoldable pub offer_line : List (List ℕ) → PortReading → Result PortReading LineReason
offer_line ws s = do
  body ← hex_at 1 4096 ws
  _ ← end_at body.1
  Ok (with_event s (event.Offer body.0))

-- `transmit I`
unfoldable pub transmit_line : List (List ℕ) → PortReading → Result PortReading LineReason
transmit_line ws s = do
  seq ← number_at 0 18446744073709551615 ws
  _ ← end_at seq.1
  Ok (with_event s (event.Transmit seq.0))

-- `send N D`
unfoldable pub send_line : List (List ℕ) → PortReading → Result PortReading LineReason
send_line ws s = do
  h ← end_host ws
  d ← number_at 0 8 h.1
  _ ← end_at d.1
  Ok (with_event s (event.Send h.0 (dev_of d.0)))

-- `deliver K`
unfoldable pub deliver_line : List (List ℕ) → PortReading → Result PortReading LineReason
deliver_line ws s = do
  k ← frame_at ws
  Ok (with_event s (event.Deliver k))

-- `lose K`
unfoldable pub lose_line : List (List ℕ) → PortReading → Result PortReading LineReason
lose_line ws s = do
  k ← frame_at ws
  Ok (with_event s (event.Lose k))

-- `repeat K`
unfoldable pub repeat_line : List (List ℕ) → PortReading → Result PortReading LineReason
repeat_line ws s = do
  k ← frame_at ws
  Ok (with_event s (event.Repeat k))

-- an event behind its first word
unfoldable pub event_rest : PortWord → List (List ℕ) → PortReading → Result PortReading LineReason
event_rest word.Offer ws s = offer_line ws s
event_rest word.Transmit ws s = transmit_line ws s
event_rest word.Send ws s = send_line ws s
event_rest word.Deliver ws s = deliver_line ws s
event_rest word.Lose ws s = lose_line ws s
event_rest word.Repeat ws s = repeat_line ws s

-- an event, of at most 50,000
unfoldable pub event_line : List (List ℕ) → PortReading → Result PortReading LineReason
event_line ws s = do
  w ← word_at ws
  k ← ok_or (event_word w.0) BadWord
  _ ← allowed_or_reason (nat_lt (length s.events) 50000) TooMany
  event_rest k w.1 s

-- `bound B C`: the purses
unfoldable pub purses_line : List (List ℕ) → PortReading → Result PortReading LineReason
purses_line ws s = do
  more ← behind_word (codes "bound") ws
  b ← number_at 0 65535 more
  c ← number_at 0 65535 b.1
  _ ← end_at c.1
  Ok (record s { stage = stages.Begin; first = b.0; second = c.0 })

-- `events`
unfoldable pub begin_line : List (List ℕ) → PortReading → Result PortReading LineReason
begin_line ws s = do
  more ← behind_word (codes "events") ws
  _ ← end_at more
  Ok (record s { stage = stages.Events })

-- what a line adds where it stands
unfoldable pub port_step_at : PortStage → ℕ → List ℕ → PortReading → Result PortReading LineFault
port_step_at stages.Header number line s = header_line (codes "planet port 1") number line (record s { stage = stages.Purses })
port_step_at stages.Purses number line s = usual_line number line s (λ ws. purses_line ws s)
port_step_at stages.Begin number line s = usual_line number line s (λ ws. begin_line ws s)
port_step_at stages.Events number line s = usual_line number line s (λ ws. event_line ws s)

-- what the lines so far say where the file ends in front of the line with a number
abbrev pub port_end : PortStage → ℕ → PortReading → Result PortFile LineFault
port_end stages.Header number s = Err (faults.Line number BadHeader)
port_end stages.Purses number s = Err (faults.Line number BadWord)
port_end stages.Begin number s = Err (faults.Line number BadWord)
port_end stages.Events number s = Ok (record { first = s.first; second = s.second; events = s.events })

-- such files as a format of files of lines
abbrev pub port_format : Format PortReading PortFile
port_format = record { step = λ number line s. port_step_at s.stage number line s; finish = λ number s. port_end s.stage number s }

-- nothing read yet
abbrev pub nothing_read : PortReading
nothing_read = record { stage = stages.Header; first = 0; second = 0; events = [] }

-- what the bytes of a file say: what two ends do, or the first line outside the format with the reason
abbrev pub port_of : List ℕ → Result PortFile LineFault
port_of bytes = file_of port_format nothing_read bytes
