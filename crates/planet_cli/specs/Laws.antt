-- What laws say of some commands alone.
use Rattle.std.specs.Prelude.{ℕ, ◌≡◌, ◌⊎◌, IsTrue, List, ◌∷◌, [], ◌++◌, Option, Some, None, drop}
use Rattle.plan_base.specs.declared.ids.Host.{Host}
use Rattle.network_config.specs.declared.fleet.AskFile.{AskFile}
use Rattle.network_config.specs.declared.fleet.Fleet.{Fleet}
use Rattle.network_config.specs.declared.serve.ServeConfig.{ServeConfig}
use Rattle.node_io.specs.FileMaps.{MayName}
use Rattle.node_io.specs.Links.{LinkState}
use Rattle.node_io.specs.Outsides.{Outside}
use Rattle.node_io.specs.Sinks.{WritesPrefix}
use Rattle.fleet_run.specs.Asks.{ask_sent, MayBind}
use Rattle.fleet_run.specs.Fleets.{fleet_starts, fleet_text}
use Rattle.fleet_run.specs.Runs.{StartsPrefix}
use Rattle.fleet_run.specs.declared.reports.FleetEnd.{FleetEnd}
use Rattle.fleet_run.specs.declared.reports.FleetEnd.TheVariants.{Well, Failed}
use Rattle.node_serve.specs.Desks.{Serving}
use Rattle.node_serve.specs.Served.{Served, Begun}
use Rattle.planet_commands.specs.declared.status.Cause.{Cause}
use Rattle.planet_commands.specs.declared.status.Cause.TheVariants.{Done, NodesFailed}
use Rattle.planet_commands.specs.Said.{Said, nothing, outside, says}
use Rattle.planet_commands_fleet.specs.Audits.{MayNames}
use Rattle.planet_commands_fleet.specs.Nodes.{config_said, own_node, begun_config, begun_with}
use Rattle.planet_cli.specs.Requests.{Request, on_file, inject, fleet, audit, node, grow}

-- ---- by the request

-- a fact of all requests but those that use the link
abbrev pub UnlessLinked : Option Request → Type 0 → Type 0
UnlessLinked (Some (inject file)) P = Unit {0}
UnlessLinked (Some (node file turns)) P = Unit {0}
UnlessLinked request P = P

-- a fact of all requests but `fleet`, which alone uses children
abbrev pub UnlessFleet : Option Request → Type 0 → Type 0
UnlessFleet (Some (fleet file)) P = Unit {0}
UnlessFleet request P = P

-- a fact of all requests but `node`, which alone uses a clock and writes files
abbrev pub UnlessNode : Option Request → Type 0 → Type 0
UnlessNode (Some (node file turns)) P = Unit {0}
UnlessNode request P = P

-- a premise for `inject` alone
abbrev pub WhereInjected : Option Request → Type 0 → Type 0
WhereInjected (Some (inject file)) P = P
WhereInjected request P = Unit {0}

-- the names asked grew at most by the file of the request, once, and by none where it has none; those of an audit also by the logs
-- that its file names, in order, each once
abbrev pub AsksFor : Option Request → List (List ℕ) → List (List ℕ) → Type 0
AsksFor (Some (on_file kind file)) old new = MayName old new file
AsksFor (Some (inject file)) old new = MayName old new file
AsksFor (Some (fleet file)) old new = MayName old new file
AsksFor (Some (node file turns)) old new = MayName old new file
AsksFor (Some (grow seed n)) old new = new ≡ old
AsksFor (Some (audit file)) old new = (names : List (List ℕ)) × MayNames (file ∷ names) old new
AsksFor None old new = new ≡ old

-- ---- by the cause

-- a fact of the host and the status, where the cause is that of a failed child
abbrev pub IfNodesFailed : Cause → (Host → ℕ → Type 0) → Type 0
IfNodesFailed (NodesFailed h s) P = P h s
IfNodesFailed cause P = Unit {0}

-- a fact of how a fleet ended, where the cause is that of an end
abbrev pub IfEnded : Cause → (FleetEnd → Type 0) → Type 0
IfEnded Done P = P Well
IfEnded (NodesFailed h s) P = P (Failed h s)
IfEnded cause P = Unit {0}

-- the cause is that of an end
abbrev pub IsEnded : Cause → Type 0
IsEnded Done = Unit {0}
IsEnded (NodesFailed h s) = Unit {0}
IsEnded cause = ⊥

-- ---- by what a file says

-- at most the one frame was sent
abbrev pub MaySend : AskFile → LinkState → LinkState → Type 0
MaySend a old new = IsTrue old.observable → (new.sent ≡ old.sent) ⊎ (new.sent ≡ old.sent ++ ask_sent a ∷ [])

-- at most the one bind and the one frame, and none where the file says no request
abbrev pub AsksAtMost : Said AskFile → LinkState → LinkState → Type 0
AsksAtMost nothing old new = new ≡ old
AsksAtMost (outside r) old new = new ≡ old
AsksAtMost (says a) old new = MayBind a old new × MaySend a old new

-- prefixes of the starts of its children and of the lines of their statuses, and none where the file says no fleet
abbrev pub RunsAtMost : Said Fleet → Outside → Outside → Type 0
RunsAtMost nothing old new = (new.children ≡ old.children) × (new.out ≡ old.out)
RunsAtMost (outside r) old new = (new.children ≡ old.children) × (new.out ≡ old.out)
RunsAtMost (says f) old new =
    StartsPrefix (fleet_starts f.children) old.children new.children
    × WritesPrefix old.out new.out (fleet_text f.children (drop old.children.started old.children.statuses))

-- nothing but files was used, and they are as before
abbrev pub Untouched : Serving → Serving → Type 0
Untouched old new = (new ≡ record old { files = new.files }) × (new.files.held ≡ old.files.held)

-- the whole run of the node or a prefix of it, and nothing where the file says no configuration or wasn't taken
abbrev pub ServesAtMost : Said ServeConfig → ℕ → Serving → Serving → Type 0
ServesAtMost nothing turns old new = Untouched old new
ServesAtMost (outside r) turns old new = Untouched old new
ServesAtMost (says cfg) turns old new =
    Served (begun_config cfg old) (own_node (begun_config cfg old)) turns (begun_with cfg old) new
    ⊎ (Begun (begun_config cfg old) (own_node (begun_config cfg old)) turns (begun_with cfg old) new
    ⊎ Untouched old new)

-- the names made grew at most by the log of a configuration, once
abbrev pub LogsAtMost : Said ServeConfig → List (List ℕ) → List (List ℕ) → Type 0
LogsAtMost nothing old new = new ≡ old
LogsAtMost (outside r) old new = new ≡ old
LogsAtMost (says cfg) old new = MayName old new cfg.log

-- no command but `node` makes a file
abbrev pub MakesAtMost : Option Request → Outside → Outside → Type 0
MakesAtMost (Some (node file turns)) old new =
    IsTrue old.files.observable → LogsAtMost (config_said file old.files.held) old.files.made new.files.made
MakesAtMost request old new = new.files.made ≡ old.files.made
