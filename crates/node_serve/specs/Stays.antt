-- Which run a serving node has made so far.
use Rattle.std.specs.Prelude.{◌≡◌, false, length}
use Rattle.network_config.specs.declared.event.Event.{Event}
use Rattle.network_config.specs.declared.serve.ServeConfig.{ServeConfig}
use Rattle.service_api.specs.Services.{ServiceState}
use Rattle.node_core_spec.specs.Node.{node_step}
use Rattle.node_core.specs.Stands.{NodeStands}
use Rattle.node_log.specs.Runs.{Running, with_entry}
use Rattle.node_log.specs.Follow.{entry_of}
use Rattle.node_serve.specs.Shown.{Seen, Start, Sees}
use Rattle.node_serve.specs.declared.server.Server.{Server}
use Rattle.node_serve.specs.declared.steps.StepOutcome.{StepOutcome}
use Rattle.node_serve.specs.Steps.{was_lost, frame_of}

-- the node stands for that of the run, and all else is equal
pub record StandsFor {S : Type 0} (stands : S → ServiceState) (server : Server S) (r : Running) : Type 0 where
  pub node : NodeStands stands server.node r.node
  pub last : server.last ≡ r.last
  pub held : server.held ≡ r.held
  pub steps : server.steps ≡ length r.events

-- a step was made and written: it was refused, or gave this frame, which isn't sent yet
pub record Makes {S : Type 0} (stands : S → ServiceState) (cfg : ServeConfig) (base : Start) (seen : Seen) (r : Running) (e : Event)
    (made : StepOutcome) (server : Server S) : Type 0 where
  pub stands_for : StandsFor stands server (with_entry (entry_of (was_lost made) e) r)
  pub sees : Sees cfg base seen (with_entry (entry_of (was_lost made) e) r)
  pub frame : was_lost made ≡ false → frame_of made ≡ (node_step r.node e).frame
