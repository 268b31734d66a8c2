-- What a configuration says: how a node serves, or the first line that is outside the format.
use Rattle.std.specs.Prelude.{ℕ, ◌==◌, Bool, true, false, not, ◌||◌, if◌then◌else◌, List, [], ◌∷◌, ◌++◌, Option, Some, None, Result, Ok, Err}
use Rattle.std.specs.List.{list_any}
use Rattle.std.specs.Option.{ok_or}
use Rattle.std.specs.Str.{bytes_eq}
use lib.Chars.{codes}
use Rattle.plan_base.specs.declared.ids.Host.{Host}
use Rattle.plan_base.specs.declared.ids.Dev.{Dev}
use Rattle.plan_base.specs.declared.stamp.Version.{Version}
use Rattle.plan_base.specs.declared.stamp.Version.TheVariants.{One}
use Rattle.network_config.specs.declared.serve.ServeConfig.{ServeConfig}
use Rattle.network_config.specs.Hosts.{host_of}
use Rattle.network_config.specs.NodeRules.{first_link}
use Rattle.line_reader.specs.declared.fault.LineReason.{LineReason}
use Rattle.line_reader.specs.declared.fault.LineReason.TheVariants.{BadHeader, BadWord, UnknownProgram, TwiceNamed}
use Rattle.line_reader.specs.declared.fault.LineFault.{LineFault}
use Rattle.line_reader.specs.declared.fault.LineFault.TheVariants as faults
use Rattle.line_reader.specs.Files.{Format, at_line, file_of}
use Rattle.line_reader.specs.Reads.{◌>>=◌, Part, word_at, end_at, allowed_or_reason}
use Rattle.line_reader.specs.Numbers.{number_at}
use Rattle.line_reader.specs.Packages.{package_at}
use Rattle.line_reader.specs.FileNames.{file_name_at}
use Rattle.line_reader.specs.Headers.{version_line}
use Rattle.line_reader.specs.Programs.{opened_program, with_line, program_in, weighed_sum}
use Rattle.line_reader.specs.Injections.{injection_at}
use Rattle.node_files.specs.declared.config.HeadWord.{HeadWord}
use Rattle.node_files.specs.declared.config.HeadWord.TheVariants as head
use Rattle.node_files.specs.declared.config.TailWord.{TailWord}
use Rattle.node_files.specs.declared.config.TailWord.TheVariants as tail
use Rattle.node_files.specs.declared.config.TailPart.{TailPart}
use Rattle.node_files.specs.declared.config.TailPart.TheVariants as parts
use Rattle.node_files.specs.declared.config.ConfigStage.{ConfigStage}
use Rattle.node_files.specs.declared.config.ConfigStage.TheVariants as stages
use Rattle.node_files.specs.declared.config.ConfigReading.{ConfigReading}
use Rattle.node_files.specs.Parts.{behind_word, last_number, usual_line}
use Rattle.node_files.specs.Nodes.{host_line, hosts_line, neighbour_at, placed_items, device_of, port_device}

-- ---- the lines in front of the devices, in their order

-- `port P`
unfoldable pub port_line : List (List ℕ) → ConfigReading → Result ConfigReading LineReason
port_line ws s = do
  more ← behind_word (codes "port") ws
  p ← last_number 1 65535 more
  Ok (record s { stage = stages.Wants head.Control; port = p })

-- whether a port is the node's own or its owner's, where 0 stands for one that wasn't read yet
abbrev pub is_own : ConfigReading → ℕ → Bool
is_own s p = s.port == p || s.control == p

-- whether a port is that of a neighbour
abbrev pub has_port : ℕ → List (Dev × ℕ) → Bool
has_port p devs = list_any (λ d. d.1 == p) devs

-- whether a port is used
abbrev pub is_used : ConfigReading → ℕ → Bool
is_used s p = is_own s p || has_port p s.devs

-- the next word as a port that isn't used yet
unfoldable pub free_port : ConfigReading → List (List ℕ) → Part ℕ
free_port s ws = do
  p ← number_at 1 65535 ws
  _ ← allowed_or_reason (not (is_used s p.0)) TwiceNamed
  Ok p

-- `control P`
unfoldable pub control_line : List (List ℕ) → ConfigReading → Result ConfigReading LineReason
control_line ws s = do
  more ← behind_word (codes "control") ws
  p ← free_port s more
  _ ← end_at p.1
  Ok (record s { stage = stages.Wants head.Period; control = p.0 })

-- `period MS`
unfoldable pub period_line : List (List ℕ) → ConfigReading → Result ConfigReading LineReason
period_line ws s = do
  more ← behind_word (codes "period") ws
  n ← last_number 1 60000 more
  Ok (record s { stage = stages.Wants head.Log; period = n })

-- `log FILE`
unfoldable pub log_line : List (List ℕ) → ConfigReading → Result ConfigReading LineReason
log_line ws s = do
  more ← behind_word (codes "log") ws
  file ← file_name_at more
  _ ← end_at file.1
  Ok (record s { stage = stages.Tail parts.Devices; log = file.0 })

-- the line that must come next
unfoldable pub wanted_line : HeadWord → List (List ℕ) → ConfigReading → Result ConfigReading LineReason
wanted_line head.Host ws s = do
  here ← host_line ws
  Ok (record s { stage = stages.Wants head.Hosts; here = here })
wanted_line head.Hosts ws s = do
  hosts ← hosts_line s.here ws
  Ok (record s { stage = stages.Wants head.Port; hosts = hosts })
wanted_line head.Port ws s = port_line ws s
wanted_line head.Control ws s = control_line ws s
wanted_line head.Period ws s = period_line ws s
wanted_line head.Log ws s = log_line ws s

-- ---- devices, missing packages, the program and what is injected

-- the first word of a line there
abbrev pub tail_word : List ℕ → Option TailWord
tail_word w =
    if bytes_eq w (codes "dev") then Some tail.Dev else
    (if bytes_eq w (codes "without") then Some tail.Without else
    (if bytes_eq w (codes "program") then Some tail.Program else (if bytes_eq w (codes "at") then Some tail.At else None)))

-- whether a line may still come: no device behind a missing package, and neither of them nor a program behind the program
abbrev pub may_come : TailPart → TailWord → Bool
may_come parts.Devices _ = true
may_come parts.Missing tail.Dev = false
may_come parts.Missing _ = true
may_come parts.Behind tail.At = true
may_come parts.Behind _ = false

-- a neighbour with its port more
abbrev pub with_device : ConfigReading → Host × Dev → ℕ → ConfigReading
with_device s n p = record s { neighbours = placed_items device_of n s.neighbours; devs = placed_items port_device (n.1, p) s.devs }

-- `dev D HOST PORT` behind its first word
unfoldable pub device_line : List (List ℕ) → ConfigReading → Result ConfigReading LineReason
device_line ws s = do
  n ← neighbour_at s.here s.hosts s.neighbours ws
  p ← free_port s n.1
  _ ← end_at p.1
  Ok (with_device s n.0 p.0)

-- `without PACKAGE` behind its first word
unfoldable pub missing_line : List (List ℕ) → ConfigReading → Result ConfigReading LineReason
missing_line ws s = do
  missing ← package_at s.missing ws
  _ ← end_at missing.1
  Ok (record s { stage = stages.Tail parts.Missing; missing = missing.0 })

-- `program` behind its first word
unfoldable pub program_line : ℕ → List (List ℕ) → ConfigReading → Result ConfigReading LineReason
program_line number ws s = do
  _ ← end_at ws
  Ok (record s { stage = stages.Inside; program = opened_program number })

-- `at TURN inject ENTRY BOUND ARGS` behind its first word, under version 2 with a handler or without
unfoldable pub inject_line : List (List ℕ) → ConfigReading → Result ConfigReading LineReason
inject_line ws s = do
  program ← ok_or s.checked UnknownProgram
  turn ← number_at 1 1000000 ws
  more ← behind_word (codes "inject") turn.1
  i ← injection_at s.version program more
  total ← weighed_sum s.weight i.0
  Ok (record s { at = s.at ++ (record { turn = turn.0; bound = i.1; chunk = i.0; handler = i.2 }) ∷ []; weight = total })

-- a line behind its first word
unfoldable pub tail_rest : TailWord → ℕ → List (List ℕ) → ConfigReading → Result ConfigReading LineReason
tail_rest tail.Dev number ws s = device_line ws s
tail_rest tail.Without number ws s = missing_line ws s
tail_rest tail.Program number ws s = program_line number ws s
tail_rest tail.At number ws s = inject_line ws s

-- a line behind the name of the log
unfoldable pub tail_line : TailPart → ℕ → List (List ℕ) → ConfigReading → Result ConfigReading LineReason
tail_line part number ws s = do
  w ← word_at ws
  k ← ok_or (tail_word w.0) BadWord
  _ ← allowed_or_reason (may_come part k) BadWord
  tail_rest k number w.1 s

-- the end of the program's text
unfoldable pub close_program : ConfigReading → Result ConfigReading LineReason
close_program s = do
  p ← program_in s.program.text
  Ok (record s { stage = stages.Tail parts.Behind; checked = Some p })

-- a line of the program, or the line that ends it
abbrev pub inside_line : List ℕ → ConfigReading → Result ConfigReading LineFault
inside_line line s =
    if bytes_eq line (codes "end program") then at_line s.program.line (close_program s) else Ok
    (record s { program = with_line s.program line })

-- ---- the whole file

-- what the header says
abbrev pub begun_by : ConfigReading → Version → ConfigReading
begun_by s version = record s { stage = stages.Wants head.Host; version = version }

-- what a line adds where it stands
unfoldable pub config_step_at : ConfigStage → ℕ → List ℕ → ConfigReading → Result ConfigReading LineFault
config_step_at stages.Header number line s = version_line (codes "planet node ") number line (begun_by s)
config_step_at (stages.Wants w) number line s = usual_line number line s (λ ws. wanted_line w ws s)
config_step_at (stages.Tail part) number line s = usual_line number line s (λ ws. tail_line part number ws s)
config_step_at stages.Inside number line s = inside_line line s

-- how the node serves, with serial number 1 and no moment yet
abbrev pub config_said : ConfigReading → ServeConfig
config_said s =
    record {
      node = record {
        here = s.here;
        hosts = s.hosts;
        neighbours = s.neighbours;
        serial = 1;
        version = s.version;
        boot = 0;
        link = first_link s.version;
      };
      missing = s.missing;
      port = s.port;
      control = s.control;
      period = s.period;
      log = s.log;
      devs = s.devs;
      at = s.at;
    }

-- what the lines so far say where the file ends in front of the line with a number
abbrev pub config_end : ConfigStage → ℕ → ConfigReading → Result ServeConfig LineFault
config_end stages.Header number s = Err (faults.Line number BadHeader)
config_end (stages.Wants w) number s = Err (faults.Line number BadWord)
config_end (stages.Tail part) number s = Ok (config_said s)
config_end stages.Inside number s = Err (faults.Line number BadWord)

abbrev pub config_format : Format ConfigReading ServeConfig
config_format = record { step = λ number line s. config_step_at s.stage number line s; finish = λ number s. config_end s.stage number s }

-- nothing read yet; a port is 0 until its line is read
abbrev pub nothing_read : ConfigReading
nothing_read = record {
  stage = stages.Header;
  version = One;
  here = host_of 0;
  hosts = [];
  port = 0;
  control = 0;
  period = 0;
  log = [];
  neighbours = [];
  devs = [];
  missing = [];
  program = opened_program 1;
  checked = None;
  at = [];
  weight = 0;
}

-- what the bytes of a file say: how a node serves, or the first line outside the format with the reason
abbrev pub config_of : List ℕ → Result ServeConfig LineFault
config_of bytes = file_of config_format nothing_read bytes
