-- The commands that read one file and write one text.
use Rattle.std.specs.Prelude.{ℕ, if◌then◌else◌, List, Option, Some, None}
use Rattle.std.specs.Str.{bytes_eq}
use lib.Chars.{codes}
use Rattle.node_io.specs.FileMaps.{FileMap}
use Rattle.planet_commands.specs.Said.{Said, said_in, line_limit}
use Rattle.planet_commands.specs.Checks.{program_limit, program_said}
use Rattle.planet_commands.specs.Shows.{frame_limit, frame_said}
use Rattle.planet_commands_run.specs.Schedules.{schedule_said}
use Rattle.planet_commands_fleet.specs.Messages.{parts_said, messages_said}
use Rattle.planet_commands_port.specs.Ports.{ends_said}
use Rattle.planet_cli.specs.declared.kinds.Kind.{Kind}
use Rattle.planet_cli.specs.declared.kinds.Kind.TheVariants.{Replay, Check, Show, Cut, Port, Gather}

-- the command of a name with no word but its file
abbrev pub kind_named : List ℕ → Option Kind
kind_named name = if bytes_eq name (codes "replay") then Some Replay
    else (if bytes_eq name (codes "check") then Some Check
    else (if bytes_eq name (codes "show") then Some Show
    else (if bytes_eq name (codes "cut") then Some Cut
    else (if bytes_eq name (codes "port") then Some Port
    else None))))

-- the most bytes of its file
abbrev pub limit_of : Kind → ℕ
limit_of Replay = line_limit
limit_of Check = program_limit
limit_of Show = frame_limit
limit_of Cut = line_limit
limit_of Port = line_limit
limit_of (Gather port) = line_limit

-- the text that bytes say to it, or their first refusal
abbrev pub text_said : Kind → List ℕ → Said (List ℕ)
text_said Replay = schedule_said
text_said Check = program_said
text_said Show = frame_said
text_said Cut = parts_said
text_said Port = ends_said
text_said (Gather port) = messages_said port

-- what the file of this name says to it
abbrev pub file_said : Kind → List ℕ → FileMap → Said (List ℕ)
file_said kind file files = said_in (limit_of kind) (text_said kind) file files
