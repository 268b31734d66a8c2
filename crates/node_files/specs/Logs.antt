-- What the log of a node says: how it began and what happened to it, or the first line that is outside the format.
use Rattle.std.specs.Prelude.{ℕ, Bool, true, false, if◌then◌else◌, nat_lt, List, [], ◌∷◌, ◌++◌, length, Option, Some, None, Result, Ok, Err}
use Rattle.std.specs.Option.{ok_or}
use Rattle.std.specs.Str.{bytes_eq}
use lib.Chars.{codes}
use Rattle.plan_base.specs.declared.stamp.Version.{Version}
use Rattle.plan_base.specs.declared.stamp.Version.TheVariants.{One, Two}
use Rattle.network_config.specs.declared.event.Event.TheVariants as events
use Rattle.network_config.specs.declared.event.LogEvent.{LogEvent}
use Rattle.network_config.specs.declared.event.LogEvent.TheVariants as logged
use Rattle.network_config.specs.declared.node.Log.{Log}
use Rattle.network_config.specs.Hosts.{host_of, dev_of}
use Rattle.network_config.specs.NodeRules.{first_link}
use Rattle.line_reader.specs.declared.fault.LineReason.{LineReason}
use Rattle.line_reader.specs.declared.fault.LineReason.TheVariants.{BadHeader, BadWord, TooMany}
use Rattle.line_reader.specs.declared.fault.LineFault.{LineFault}
use Rattle.line_reader.specs.declared.fault.LineFault.TheVariants as faults
use Rattle.line_reader.specs.Files.{Format, file_of}
use Rattle.line_reader.specs.Reads.{◌>>=◌, word_at, end_at, allowed_or_reason}
use Rattle.line_reader.specs.Numbers.{number_at}
use Rattle.line_reader.specs.Packages.{package_at}
use Rattle.line_reader.specs.HexWords.{hex_at}
use Rattle.line_reader.specs.Headers.{version_line}
use Rattle.line_reader.specs.Handlers.{handler_at}
use Rattle.node_files.specs.declared.log.NodeWord.{NodeWord}
use Rattle.node_files.specs.declared.log.NodeWord.TheVariants as node
use Rattle.node_files.specs.declared.log.EntryWord.{EntryWord}
use Rattle.node_files.specs.declared.log.EntryWord.TheVariants as entry
use Rattle.node_files.specs.declared.log.LogStage.{LogStage}
use Rattle.node_files.specs.declared.log.LogStage.TheVariants as stages
use Rattle.node_files.specs.declared.log.LogReading.{LogReading}
use Rattle.node_files.specs.Parts.{behind_word, last_number, usual_line}
use Rattle.node_files.specs.Nodes.{host_line, hosts_line, neighbour_at, placed_items, device_of}
use Rattle.node_files.specs.ChunkWords.{chunk_at}

-- ---- how the node began

-- what comes behind the node's own host: under version 2 the moment at which it began
abbrev pub behind_host : Version → LogStage
behind_host One = stages.Hosts
behind_host Two = stages.Boot

-- the node's own host
unfoldable pub own_line : List (List ℕ) → LogReading → Result LogReading LineReason
own_line ws s = do
  here ← host_line ws
  Ok (record s { stage = behind_host s.version; here = here })

-- the moment at which it began
unfoldable pub boot_line : List (List ℕ) → LogReading → Result LogReading LineReason
boot_line ws s = do
  more ← behind_word (codes "boot") ws
  boot ← last_number 0 18446744073709551615 more
  Ok (record s { stage = stages.Hosts; boot = boot })

-- the hosts of its network
unfoldable pub network_line : List (List ℕ) → LogReading → Result LogReading LineReason
network_line ws s = do
  hosts ← hosts_line s.here ws
  Ok (record s { stage = stages.Node false; hosts = hosts })

-- the first word of a line behind them
abbrev pub node_word : List ℕ → Option NodeWord
node_word w =
    if bytes_eq w (codes "dev") then Some node.Dev else
    (if bytes_eq w (codes "without") then Some node.Without else (if bytes_eq w (codes "events") then Some node.Events else None))

-- whether a line may still come: no device behind a missing package
abbrev pub may_come : Bool → NodeWord → Bool
may_come true node.Dev = false
may_come _ _ = true

-- `dev D HOST` behind its first word
unfoldable pub device_line : List (List ℕ) → LogReading → Result LogReading LineReason
device_line ws s = do
  n ← neighbour_at s.here s.hosts s.neighbours ws
  _ ← end_at n.1
  Ok (record s { neighbours = placed_items device_of n.0 s.neighbours })

-- `without PACKAGE` behind its first word
unfoldable pub missing_line : List (List ℕ) → LogReading → Result LogReading LineReason
missing_line ws s = do
  missing ← package_at s.missing ws
  _ ← end_at missing.1
  Ok (record s { stage = stages.Node true; missing = missing.0 })

-- `events` behind its first word
unfoldable pub events_line : List (List ℕ) → LogReading → Result LogReading LineReason
events_line ws s = do
  _ ← end_at ws
  Ok (record s { stage = stages.Events })

-- a line behind its first word
unfoldable pub node_rest : NodeWord → List (List ℕ) → LogReading → Result LogReading LineReason
node_rest node.Dev ws s = device_line ws s
node_rest node.Without ws s = missing_line ws s
node_rest node.Events ws s = events_line ws s

-- a line between the hosts and the entries, where it is known whether a missing package was named
unfoldable pub node_line : Bool → List (List ℕ) → LogReading → Result LogReading LineReason
node_line lacks ws s = do
  w ← word_at ws
  k ← ok_or (node_word w.0) BadWord
  _ ← allowed_or_reason (may_come lacks k) BadWord
  node_rest k w.1 s

-- ---- what happened to it

-- the first word of an entry
abbrev pub entry_word : List ℕ → Option EntryWord
entry_word w =
    if bytes_eq w (codes "inject") then Some entry.Inject else
    (if bytes_eq w (codes "frame") then Some entry.Frame else
    (if bytes_eq w (codes "control") then Some entry.Control else
    (if bytes_eq w (codes "tick") then Some entry.Tick else
    (if bytes_eq w (codes "take") then Some entry.Take else
    (if bytes_eq w (codes "lost") then Some entry.Lost else None)))))

-- `inject BOUND HEX` behind its first word, under version 2 with a handler at its end or without
unfoldable pub inject_entry : Version → List (List ℕ) → Result LogEvent LineReason
inject_entry version ws = do
  bound ← number_at 0 65535 ws
  chunk ← chunk_at bound.1
  handler ← handler_at version chunk.0.code chunk.1
  _ ← end_at handler.1
  Ok (logged.Step (events.Inject chunk.0 bound.0 handler.0))

-- `frame D HEX` behind its first word: one byte more than the longest frame at most
unfoldable pub frame_entry : List (List ℕ) → Result LogEvent LineReason
frame_entry ws = do
  d ← number_at 0 8 ws
  bytes ← hex_at 1 16513 d.1
  _ ← end_at bytes.1
  Ok (logged.Step (events.Frame (dev_of d.0) bytes.0))

-- `control HEX` behind its first word
unfoldable pub control_entry : List (List ℕ) → Result LogEvent LineReason
control_entry ws = do
  bytes ← hex_at 1 16513 ws
  _ ← end_at bytes.1
  Ok (logged.Step (events.Control bytes.0))

-- `take D` behind its first word
unfoldable pub take_entry : List (List ℕ) → Result LogEvent LineReason
take_entry ws = do
  d ← last_number 0 8 ws
  Ok (logged.Step (events.Take (dev_of d)))

-- an entry behind its first word
unfoldable pub entry_rest : Version → EntryWord → List (List ℕ) → Result LogEvent LineReason
entry_rest version entry.Inject ws = inject_entry version ws
entry_rest version entry.Frame ws = frame_entry ws
entry_rest version entry.Control ws = control_entry ws
entry_rest version entry.Tick ws = do
  _ ← end_at ws
  Ok (logged.Step events.Tick)
entry_rest version entry.Take ws = take_entry ws
entry_rest version entry.Lost ws = do
  _ ← end_at ws
  Ok logged.Lost

-- an entry more, of at most 50,000
unfoldable pub entry_line : List (List ℕ) → LogReading → Result LogReading LineReason
entry_line ws s = do
  w ← word_at ws
  k ← ok_or (entry_word w.0) BadWord
  _ ← allowed_or_reason (nat_lt (length s.events) 50000) TooMany
  e ← entry_rest s.version k w.1
  Ok (record s { events = s.events ++ e ∷ [] })

-- ---- the whole file

-- what the header says
abbrev pub begun_by : LogReading → Version → LogReading
begun_by s version = record s { stage = stages.Host; version = version }

-- what a line adds where it stands
unfoldable pub log_step_at : LogStage → ℕ → List ℕ → LogReading → Result LogReading LineFault
log_step_at stages.Header number line s = version_line (codes "planet log ") number line (begun_by s)
log_step_at stages.Host number line s = usual_line number line s (λ ws. own_line ws s)
log_step_at stages.Boot number line s = usual_line number line s (λ ws. boot_line ws s)
log_step_at stages.Hosts number line s = usual_line number line s (λ ws. network_line ws s)
log_step_at (stages.Node lacks) number line s = usual_line number line s (λ ws. node_line lacks ws s)
log_step_at stages.Events number line s = usual_line number line s (λ ws. entry_line ws s)

-- the log, whose node began with serial number 1
abbrev pub log_said : LogReading → Log
log_said s =
    record {
      node = record {
        here = s.here;
        hosts = s.hosts;
        neighbours = s.neighbours;
        serial = 1;
        version = s.version;
        boot = s.boot;
        link = first_link s.version;
      };
      missing = s.missing;
      events = s.events;
    }

-- what the lines so far say where the file ends in front of the line with a number
abbrev pub log_end : LogStage → ℕ → LogReading → Result Log LineFault
log_end stages.Header number s = Err (faults.Line number BadHeader)
log_end stages.Host number s = Err (faults.Line number BadWord)
log_end stages.Boot number s = Err (faults.Line number BadWord)
log_end stages.Hosts number s = Err (faults.Line number BadWord)
log_end (stages.Node lacks) number s = Err (faults.Line number BadWord)
log_end stages.Events number s = Ok (log_said s)

abbrev pub log_format : Format LogReading Log
log_format = record { step = λ number line s. log_step_at s.stage number line s; finish = λ number s. log_end s.stage number s }

-- nothing read yet
abbrev pub nothing_logged : LogReading
nothing_logged = record { stage = stages.Header; version = One; boot = 0; here = host_of 0; hosts = []; neighbours = []; missing = []; events = [] }

-- what the bytes of a file say: a log, or the first line outside the format with the reason
abbrev pub log_of : List ℕ → Result Log LineFault
log_of bytes = file_of log_format nothing_logged bytes
