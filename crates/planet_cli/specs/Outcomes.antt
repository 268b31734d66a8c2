-- What words and files make of a call, before any fault: one value by cases, of which laws over all commands speak.
use Rattle.std.specs.Prelude.{ℕ, ◌≡◌, List, Option, Some, None}
use Rattle.node_io.specs.FileMaps.{FileMap}
use Rattle.node_io.specs.Sinks.{SinkState, Writes, WritesPrefix}
use Rattle.fleet_run.specs.Asks.{ask_line}
use Rattle.planet_commands.specs.declared.status.Refusal.{Refusal}
use Rattle.planet_commands.specs.Said.{Said, nothing, outside, says}
use Rattle.planet_commands_fleet.specs.Audits.{audit_said}
use Rattle.planet_commands_fleet.specs.Asks.{ask_said}
use Rattle.planet_commands_fleet.specs.Fleets.{fleet_said}
use Rattle.planet_commands_fleet.specs.Nodes.{config_said}
use Rattle.planet_cli.specs.Kinds.{file_said}
use Rattle.planet_cli.specs.Requests.{Request, on_file, inject, fleet, audit, node, grow}

-- no command, a file that is missing, a file that is refused, the whole output, or a command that runs, whose output is defined apart
pub data Outcome : Type 0 where
  unasked : Outcome
  missing : Outcome
  refused : Refusal → Outcome
  whole : List ℕ → Outcome
  runs : Outcome

-- what a file makes of a call, where it says a value that makes this of it
abbrev pub outcome_by : {A : Type 0} → (A → Outcome) → Said A → Outcome
outcome_by made nothing = missing
outcome_by made (outside r) = refused r
outcome_by made (says v) = made v

-- what a request makes of the files
abbrev pub outcome_of : Option Request → FileMap → Outcome
outcome_of (Some (on_file kind file)) files = outcome_by whole (file_said kind file files)
outcome_of (Some (audit file)) files = outcome_by whole (audit_said file files)
outcome_of (Some (inject file)) files = outcome_by (λ a. whole (ask_line a)) (ask_said file files)
outcome_of (Some (fleet file)) files = outcome_by (λ f. runs) (fleet_said file files)
outcome_of (Some (node file turns)) files = outcome_by (λ cfg. runs) (config_said file files)
outcome_of (Some (grow seed n)) files = runs
outcome_of None files = unasked

-- the output is defined whole
abbrev pub IsWhole : Outcome → Type 0
IsWhole (whole text) = Unit {0}
IsWhole unasked = ⊥
IsWhole missing = ⊥
IsWhole (refused r) = ⊥
IsWhole runs = ⊥

-- the command does its work
abbrev pub IsAccepted : Outcome → Type 0
IsAccepted (whole text) = Unit {0}
IsAccepted runs = Unit {0}
IsAccepted unasked = ⊥
IsAccepted missing = ⊥
IsAccepted (refused r) = ⊥

-- the defined output was written, none where there is none, and nothing is said here of one that is defined apart
abbrev pub WritesOut : Outcome → SinkState → SinkState → Type 0
WritesOut (whole text) old new = Writes old new text
WritesOut runs old new = Unit {0}
WritesOut unasked old new = new ≡ old
WritesOut missing old new = new ≡ old
WritesOut (refused r) old new = new ≡ old

-- a prefix of it was written
abbrev pub BeginsOut : Outcome → SinkState → SinkState → Type 0
BeginsOut (whole text) old new = WritesPrefix old new text
BeginsOut runs old new = Unit {0}
BeginsOut unasked old new = new ≡ old
BeginsOut missing old new = new ≡ old
BeginsOut (refused r) old new = new ≡ old
