-- What each line of a schedule says, and what a whole file says: a schedule, or the first line that is outside the format.
use Rattle.std.specs.Prelude.{ℕ, Bool, true, false, not, ◌&&◌, if◌then◌else◌, ◌==◌, nat_lt, List, [], ◌∷◌, ◌++◌, length, Option, Some, None, Result, Ok, Err}
use Rattle.std.specs.List.{list_any}
use Rattle.std.specs.Option.{ok_or}
use Rattle.std.specs.Str.{bytes_eq}
use lib.Chars.{codes}
use Rattle.plan_base.specs.declared.ids.Host.{Host}
use Rattle.plan_base.specs.declared.name.Name.{Name}
use Rattle.plan_base.specs.declared.tree.Chunk.{Chunk}
use Rattle.plan_base.specs.declared.tree.Program.{Program}
use Rattle.service_api.specs.declared.package.PackageName.{PackageName}
use Rattle.plan_base.specs.declared.stamp.Version.{Version}
use Rattle.plan_base.specs.declared.stamp.Version.TheVariants.{One, Two}
use Rattle.network_config.specs.declared.schedule.HostSpec.{HostSpec}
use Rattle.network_config.specs.declared.schedule.Schedule.{Schedule}
use Rattle.network_config.specs.declared.event.WorldEvent.{WorldEvent}
use Rattle.network_config.specs.declared.event.WorldEvent.TheVariants as happens
use Rattle.network_config.specs.Hosts.{host_of, has_host}
use Rattle.line_reader.specs.declared.fault.LineReason.{LineReason}
use Rattle.line_reader.specs.declared.fault.LineReason.TheVariants.{BadHeader, BadWord, TwiceNamed, TooMany, BadArgument}
use Rattle.line_reader.specs.declared.fault.LineFault.{LineFault}
use Rattle.line_reader.specs.declared.fault.LineFault.TheVariants as faults
use Rattle.line_reader.specs.Lines.{words}
use Rattle.line_reader.specs.Reads.{◌>>=◌, word_at, end_at, allowed_or_reason}
use Rattle.line_reader.specs.Files.{Format, is_skipped, at_line, file_of}
use Rattle.line_reader.specs.Numbers.{number_at}
use Rattle.line_reader.specs.Packages.{packages_at}
use Rattle.line_reader.specs.HexWords.{hex_at}
use Rattle.line_reader.specs.Programs.{opened_program, with_line, program_in, named_word, weighed_sum}
use Rattle.line_reader.specs.Headers.{version_line}
use Rattle.line_reader.specs.Injections.{injection_at}
use Rattle.schedule_text.specs.declared.reading.NamedProgram.{NamedProgram}
use Rattle.schedule_text.specs.declared.reading.Reading.{Reading}
use Rattle.schedule_text.specs.declared.reading.BegunProgram.{BegunProgram}
use Rattle.schedule_text.specs.declared.reading.Stage.{Stage}
use Rattle.schedule_text.specs.declared.reading.Stage.TheVariants as stages
use Rattle.schedule_text.specs.declared.reading.ScheduleFile.{ScheduleFile}
use Rattle.schedule_text.specs.declared.keyword.NetworkWord.{NetworkWord}
use Rattle.schedule_text.specs.declared.keyword.NetworkWord.TheVariants as network
use Rattle.schedule_text.specs.declared.keyword.EventWord.{EventWord}
use Rattle.schedule_text.specs.declared.keyword.EventWord.TheVariants as event
use Rattle.schedule_text.specs.Parts.{host_at, device_at, free_device_at, is_called, program_at}

-- the first word of a line of the network
abbrev pub network_word : List ℕ → Option NetworkWord
network_word w =
    if bytes_eq w (codes "frames") then Some network.Frames else
    (if bytes_eq w (codes "host") then Some network.Host else
    (if bytes_eq w (codes "link") then Some network.Link else
    (if bytes_eq w (codes "program") then Some network.Program else
    (if bytes_eq w (codes "events") then Some network.Events else None))))

-- whether a word is `repeat`, which version 2 alone knows
abbrev pub is_repeat : Version → List ℕ → Bool
is_repeat One w = false
is_repeat Two w = bytes_eq w (codes "repeat")

-- the first word of an event
abbrev pub event_word : Version → List ℕ → Option EventWord
event_word version w =
    if bytes_eq w (codes "inject") then Some event.Inject else
    (if bytes_eq w (codes "send") then Some event.Send else
    (if bytes_eq w (codes "deliver") then Some event.Deliver else
    (if bytes_eq w (codes "lose") then Some event.Lose else
    (if bytes_eq w (codes "tick") then Some event.Tick else
    (if bytes_eq w (codes "raw") then Some event.Raw else (if is_repeat version w then Some event.Repeat else None))))))

-- whether no line of the network was read; a link needs hosts
abbrev pub is_first : Reading → Bool
is_first s = not s.frames && (length s.hosts == 0 && length s.programs == 0)

-- `frames`, once and in front of the other lines of the network
unfoldable pub frames_line : List (List ℕ) → Reading → Result Reading LineReason
frames_line ws s = do
  _ ← allowed_or_reason (is_first s) BadWord
  _ ← end_at ws
  Ok (record s { frames = true })

-- a host that lacks packages
abbrev pub host_spec : ℕ → List PackageName → HostSpec
host_spec n missing = record { host = host_of n; missing = missing }

-- `host N`, then `without PACKAGE` any number of times
unfoldable pub host_line : List (List ℕ) → Reading → Result Reading LineReason
host_line ws s = do
  _ ← allowed_or_reason (nat_lt (length s.hosts) 32) TooMany
  n ← number_at 0 4294967295 ws
  _ ← allowed_or_reason (not (has_host (host_of n.0) s.hosts)) TwiceNamed
  missing ← packages_at [] n.1
  Ok (record s { hosts = s.hosts ++ host_spec n.0 missing ∷ [] })

-- `link N D M E`
unfoldable pub link_line : List (List ℕ) → Reading → Result Reading LineReason
link_line ws s = do
  n ← host_at s.hosts ws
  d ← free_device_at s.links n.0 n.1
  m ← host_at s.hosts d.1
  _ ← allowed_or_reason (not (m.0.0 == n.0.0)) BadArgument
  e ← free_device_at s.links m.0 m.1
  _ ← end_at e.1
  Ok (record s { links = s.links ++ (record { from = n.0; from_dev = d.0; to = m.0; to_dev = e.0 }) ∷ [] })

-- a program without text, begun at a line
abbrev pub begun_at : ℕ → Name → BegunProgram
begun_at number name = record { name = name; source = opened_program number }

-- `program NAME`
unfoldable pub program_line : ℕ → List (List ℕ) → Reading → Result BegunProgram LineReason
program_line number ws s = do
  _ ← allowed_or_reason (nat_lt (length s.programs) 64) TooMany
  w ← word_at ws
  name ← named_word w.0 BadWord
  _ ← allowed_or_reason (not (list_any (is_called w.0) s.programs)) TwiceNamed
  _ ← end_at w.1
  Ok (begun_at number name)

abbrev pub named_program : Name → Program → NamedProgram
named_program name program = record { name = name; program = program }

-- the end of a program's text
unfoldable pub close_program : BegunProgram → Reading → Result Reading LineReason
close_program begun s = do
  program ← program_in begun.source.text
  Ok (record s { programs = s.programs ++ named_program begun.name program ∷ [] })

-- a line of the network behind its first word, and what may come next
unfoldable pub network_rest : NetworkWord → ℕ → List (List ℕ) → Reading → Result (Stage × Reading) LineReason
network_rest network.Frames number ws s = do
  t ← frames_line ws s
  Ok (stages.Network, t)
network_rest network.Host number ws s = do
  t ← host_line ws s
  Ok (stages.Network, t)
network_rest network.Link number ws s = do
  t ← link_line ws s
  Ok (stages.Network, t)
network_rest network.Program number ws s = do
  begun ← program_line number ws s
  Ok (stages.Inside begun, s)
network_rest network.Events number ws s = do
  _ ← end_at ws
  Ok (stages.Events, s)

-- a line of the network
unfoldable pub network_line : ℕ → List (List ℕ) → Reading → Result (Stage × Reading) LineReason
network_line number ws s = do
  w ← word_at ws
  k ← ok_or (network_word w.0) BadWord
  network_rest k number w.1 s

-- an event more
abbrev pub with_event : Reading → WorldEvent → Reading
with_event s e = record s { events = s.events ++ e ∷ [] }

-- `inject N PROGRAM ENTRY BOUND ARGS` behind its first word: where, what, with which bound, and with which handler
unfoldable pub injected_at : Reading → List (List ℕ) → Result (Host × Chunk × ℕ × Option Name) LineReason
injected_at s ws = do
  h ← host_at s.hosts ws
  p ← program_at s.programs h.1
  i ← injection_at s.version p.0.program p.1
  Ok (h.0, i.0, i.1, i.2)

-- an injection, whose chunk is weighed last
unfoldable pub inject_line : List (List ℕ) → Reading → Result Reading LineReason
inject_line ws s = do
  i ← injected_at s ws
  total ← weighed_sum s.weight i.1
  Ok (record (with_event s (happens.Inject i.0 i.1 i.2 i.3)) { weight = total })

-- `send N D`
unfoldable pub send_line : List (List ℕ) → Reading → Result Reading LineReason
send_line ws s = do
  h ← host_at s.hosts ws
  d ← device_at h.1
  _ ← end_at d.1
  Ok (with_event s (happens.Send h.0 d.0))

-- the number of a frame, alone
unfoldable pub frame_at : List (List ℕ) → Result ℕ LineReason
frame_at ws = do
  k ← number_at 0 4294967295 ws
  _ ← end_at k.1
  Ok k.0

-- `deliver K`
unfoldable pub deliver_line : List (List ℕ) → Reading → Result Reading LineReason
deliver_line ws s = do
  k ← frame_at ws
  Ok (with_event s (happens.Deliver k))

-- `repeat K`
unfoldable pub repeat_line : List (List ℕ) → Reading → Result Reading LineReason
repeat_line ws s = do
  k ← frame_at ws
  Ok (with_event s (happens.Repeat k))

-- `lose K`
unfoldable pub lose_line : List (List ℕ) → Reading → Result Reading LineReason
lose_line ws s = do
  k ← frame_at ws
  Ok (with_event s (happens.Lose k))

-- `tick N`
unfoldable pub tick_line : List (List ℕ) → Reading → Result Reading LineReason
tick_line ws s = do
  h ← host_at s.hosts ws
  _ ← end_at h.1
  Ok (with_event s (happens.Tick h.0))

-- `raw N D HEX`
unfoldable pub raw_line : List (List ℕ) → Reading → Result Reading LineReason
raw_line ws s = do
  h ← host_at s.hosts ws
  d ← device_at h.1
  bytes ← hex_at 1 16513 d.1
  _ ← end_at bytes.1
  Ok (with_event s (happens.Raw h.0 d.0 bytes.0))

-- an event behind its first word
unfoldable pub event_rest : EventWord → List (List ℕ) → Reading → Result Reading LineReason
event_rest event.Inject ws s = inject_line ws s
event_rest event.Send ws s = send_line ws s
event_rest event.Deliver ws s = deliver_line ws s
event_rest event.Repeat ws s = repeat_line ws s
event_rest event.Lose ws s = lose_line ws s
event_rest event.Tick ws s = tick_line ws s
event_rest event.Raw ws s = raw_line ws s

-- an event
unfoldable pub event_line : List (List ℕ) → Reading → Result Reading LineReason
event_line ws s = do
  w ← word_at ws
  k ← ok_or (event_word s.version w.0) BadWord
  _ ← allowed_or_reason (nat_lt (length s.events) 50000) TooMany
  event_rest k w.1 s

-- a line more of a program
abbrev pub with_more : BegunProgram → List ℕ → BegunProgram
with_more begun line = record begun { source = with_line begun.source line }

-- a stage that stays, with what was read
abbrev pub staying : Stage → Result Reading LineReason → Result (Stage × Reading) LineReason
staying stage (Ok s) = Ok (stage, s)
staying stage (Err e) = Err e

-- what the header says
abbrev pub begun_by : Reading → Version → Stage × Reading
begun_by s version = (stages.Network, record s { version = version })

-- the header
abbrev pub header_step : ℕ → List ℕ → Reading → Result (Stage × Reading) LineFault
header_step number line s = version_line (codes "planet schedule ") number line (begun_by s)

-- a line of the network
abbrev pub network_step : ℕ → List ℕ → Reading → Result (Stage × Reading) LineFault
network_step number line s = if is_skipped line then Ok (stages.Network, s) else at_line number (network_line number (words line) s)

-- a line of a program, or the line that ends it
abbrev pub program_step : List ℕ → BegunProgram → Reading → Result (Stage × Reading) LineFault
program_step line begun s =
    if bytes_eq line (codes "end program") then at_line begun.source.line (staying stages.Network (close_program begun s)) else Ok
    (stages.Inside (with_more begun line), s)

-- an event
abbrev pub event_step : ℕ → List ℕ → Reading → Result (Stage × Reading) LineFault
event_step number line s = if is_skipped line then Ok (stages.Events, s) else at_line number (staying stages.Events (event_line (words line) s))

-- what a line adds to what the lines above it said
unfoldable pub step : ℕ → List ℕ → Stage → Reading → Result (Stage × Reading) LineFault
step number line stages.Header s = header_step number line s
step number line stages.Network s = network_step number line s
step number line (stages.Inside begun) s = program_step line begun s
step number line stages.Events s = event_step number line s

abbrev pub schedule_of_reading : Reading → Schedule
schedule_of_reading s = record { frames = s.frames; topology = record { hosts = s.hosts; links = s.links; version = s.version }; events = s.events }

-- what the lines so far say where the file ends in front of the line with a number
abbrev pub finish : ℕ → Stage → Reading → Result Schedule LineFault
finish number stages.Header s = Err (faults.Line number BadHeader)
finish number stages.Events s = Ok (schedule_of_reading s)
finish number _ s = Err (faults.Line number BadWord)

-- a file behind a line
abbrev pub file_after : Result (Stage × Reading) LineFault → Result ScheduleFile LineFault
file_after (Ok next) = Ok (record { stage = next.0; reading = next.1 })
file_after (Err e) = Err e

-- schedules as a format of files of lines
abbrev pub schedule_format : Format ScheduleFile Schedule
schedule_format = record { step = λ number line f. file_after (step number line f.stage f.reading); finish = λ number f. finish number f.stage f.reading }

-- nothing read yet
abbrev pub nothing_read : ScheduleFile
nothing_read = record {
  stage = stages.Header;
  reading = record { version = One; frames = false; hosts = []; links = []; programs = []; events = []; weight = 0 };
}

-- what a file says: its schedule, or its first line outside the format with the reason
unfoldable pub schedule_of : List ℕ → Result Schedule LineFault
schedule_of bytes = file_of schedule_format nothing_read bytes
