-- How each call of a serving node goes on from a run.
use Rattle.std.specs.Prelude.{◌≡◌, ℕ, ◌≤◌, ◌<◌, IsTrue, List, length, Result, MatchResult}
use Rattle.plan_base.specs.declared.ids.Dev.{Dev}
use Rattle.network_config.specs.declared.serve.ServeConfig.{ServeConfig}
use Rattle.network_config.specs.declared.event.Event.{Event}
use Rattle.network_config.specs.NodeRules.{KeepsServe}
use Rattle.node_io.specs.Clocks.{Tells}
use Rattle.node_io.specs.FileStates.{FilesState}
use Rattle.node_io.specs.Links.{LinkState, HasPeer, next_heard}
use Rattle.service_api.specs.Services.{ServiceState}
use Rattle.node_log.specs.Runs.{Running, Action, make, hear, turn, turns, peers_of}
use Rattle.node_serve.specs.Shown.{Start, Shows, Stopped, Leaves, UsesOne, UsesUpTo}
use Rattle.node_serve.specs.Stays.{StandsFor, Makes}
use Rattle.node_serve.specs.Desks.{Desk, Serving, desk_of, seen_at, IsSeen, KeepsDesk, Faults}
use Rattle.node_serve.specs.declared.server.Server.{Server}
use Rattle.node_serve.specs.declared.steps.StepOutcome.{StepOutcome}
use Rattle.node_serve.specs.declared.fault.ServeFault.{ServeFault}

-- the log is being written, and the link has the peers of the node
pub record IsServing (cfg : ServeConfig) (d : Desk) : Type 0 where
  pub writing : IsTrue d.files.writing
  pub bound : d.link.bound ≡ peers_of cfg

-- a device from 1 to 8
pub record IsOutward (d : Dev) : Type 0 where
  pub device : d.0 ≤ 8
  pub other : 0 < d.0

-- one on which the node has a peer
pub record IsToPeer (cfg : ServeConfig) (d : Dev) : Type 0 where
  pub outward : IsOutward d
  pub peer : HasPeer (peers_of cfg) d

-- turns can be made: the node is serving by its rules, and there is room for what its link hears
pub record CanTurn (cfg : ServeConfig) (files : FilesState) (link : LinkState) (buffer : List ℕ) : Type 0 where
  pub writing : IsTrue files.writing
  pub bound : link.bound ≡ peers_of cfg
  pub keeps : KeepsServe cfg
  pub room : length buffer ≡ 16513

-- a node can begin and make turns: it keeps its rules, and there is room for what its link hears
pub record CanServe (cfg : ServeConfig) (buffer : List ℕ) : Type 0 where
  pub keeps : KeepsServe cfg
  pub room : length buffer ≡ 16513

-- a call went on from a run as this action does
pub record Goes {S T : Type 0} (stands : S → ServiceState) (cfg : ServeConfig) (act : Action) (server after : Server S)
    (old new : Desk) (result : Result T ServeFault) : Type 0 where
  pub keeps : KeepsDesk old new
  pub faults : Faults old new result
  pub run : IsSeen old → (base : Start) (r : Running) → StandsFor stands server r → Shows cfg base (seen_at old) r
      → Leaves (StandsFor stands after) cfg base (seen_at new) r act result

-- a step was made and written, or a prefix of it
pub record MakesStep {S : Type 0} (stands : S → ServiceState) (cfg : ServeConfig) (e : Event) (server after : Server S)
    (old new : Desk) (result : Result StepOutcome ServeFault) : Type 0 where
  pub keeps : KeepsDesk old new
  pub faults : Faults old new result
  pub run : IsSeen old → (base : Start) (r : Running) → StandsFor stands server r → Shows cfg base (seen_at old) r
      → MatchResult result (λ made. Makes stands cfg base (seen_at new) r e made after) (λ _. Stopped cfg base (seen_at new) r (make e))

-- a call went on so, and heard nothing
pub record GoesUnheard {S T : Type 0} (stands : S → ServiceState) (cfg : ServeConfig) (act : Action) (server after : Server S)
    (old new : Desk) (result : Result T ServeFault) : Type 0 where
  pub goes : Goes stands cfg act server after old new result
  pub script : new.link.script ≡ old.link.script

-- what the link heard arrived; a call that failed may have used no arrival
pub record GoesHearing {S T : Type 0} (stands : S → ServiceState) (cfg : ServeConfig) (server after : Server S)
    (old new : Desk) (buffer buffer_new : List ℕ) (result : Result T ServeFault) : Type 0 where
  pub goes : Goes stands cfg (hear (next_heard (peers_of cfg) old.link.script)) server after old new result
  pub script : IsTrue old.link.observable → UsesOne old.link.script new.link.script result
  pub room : length buffer_new ≡ length buffer

-- a turn was made at the time that the clock told, with what the link heard; a failed one may have used no arrival
pub record GoesTurn {S T : Type 0} (stands : S → ServiceState) (cfg : ServeConfig) (number : ℕ) (server after : Server S)
    (old new : Serving) (result : Result T ServeFault) : Type 0 where
  pub time : ℕ
  pub told : Tells old.clock new.clock time
  pub goes : Goes stands cfg (turn cfg number time (next_heard (peers_of cfg) old.link.script)) server after (desk_of old) (desk_of new) result
  pub script : IsTrue old.link.observable → UsesOne old.link.script new.link.script result

-- a turn was made so, and there is as much room as before for what the link hears
pub record MakesTurn {S T : Type 0} (stands : S → ServiceState) (cfg : ServeConfig) (number : ℕ) (server after : Server S)
    (old new : Serving) (buffer buffer_new : List ℕ) (result : Result T ServeFault) : Type 0 where
  pub goes : GoesTurn stands cfg number server after old new result
  pub room : length buffer_new ≡ length buffer

-- so many turns were made, each with an arrival and an answer of the clock; where they failed, no more
pub record GoesTurns {S T : Type 0} (stands : S → ServiceState) (cfg : ServeConfig) (count : ℕ) (server after : Server S)
    (old new : Serving) (result : Result T ServeFault) : Type 0 where
  pub keeps : KeepsDesk (desk_of old) (desk_of new)
  pub faults : Faults (desk_of old) (desk_of new) result
  pub clock : new.clock.observable ≡ old.clock.observable
  pub goes : IsTrue old.clock.observable
      → Goes stands cfg (turns cfg old.link.script old.clock.last old.clock.answers count) server after (desk_of old) (desk_of new) result
  pub script : IsTrue old.link.observable → UsesUpTo count old.link.script new.link.script result
  pub answers : IsTrue old.clock.observable → UsesUpTo count old.clock.answers new.clock.answers result
