-- What every run of one node keeps.
use Rattle.std.specs.Prelude.{ℕ, ◌≡◌, List, [], None, Some, Result, Ok, Err, take, slice_get}
use Rattle.std.specs.List.{All}
use Rattle.plan_base.specs.declared.ids.Family.{Family}
use Rattle.packet_frame.specs.declared.frame.PlainFrame.{PlainFrame}
use Rattle.packet_frame.specs.declared.frame.PlainStamped.{PlainStamped}
use Rattle.packet_frame.specs.declared.fault.FrameFault.{FrameFault}
use Rattle.packet_frame.specs.Decoding.{read_by}
use Rattle.network_config.specs.declared.event.Event.{Event}
use Rattle.network_config.specs.declared.event.Event.TheVariants as event
use Rattle.network_config.specs.declared.event.LogEvent.{LogEvent}
use Rattle.network_config.specs.declared.event.LogEvent.TheVariants.{Step}
use Rattle.node_core_spec.specs.State.{NodeState}
use Rattle.node_core_spec.specs.Node.{node_step}
use Rattle.node_core_spec.specs.Fits.{NodeFits}
use Rattle.node_core_spec.specs.Counts.{StepBalances, came, stale}
use Rattle.node_log.specs.Runs.{node_after}
use Rattle.net_world_spec.specs.Visits.{Visiting, chunk_visits, bytes_visits, EndsWell}

-- the node after so many entries of its log
abbrev pub node_at : NodeState → List LogEvent → ℕ → NodeState
node_at node es k = node_after node (take k es)

-- an ask is visited as an injection
abbrev pub asked_visits : PlainFrame → NodeState → List Visiting
asked_visits (PlainFrame.Ask bound chunk) node = chunk_visits chunk bound None node
asked_visits _ node = []

abbrev pub control_visits : Result PlainStamped FrameFault → NodeState → List Visiting
control_visits (Ok x) node = asked_visits x.frame node
control_visits (Err e) node = []

-- the visits that a node's step makes
abbrev pub step_visits : NodeState → Event → List Visiting
step_visits node (event.Inject chunk bound handler) = chunk_visits chunk bound handler node
step_visits node (event.Frame d bytes) = bytes_visits d bytes node
step_visits node (event.Control bytes) = control_visits (read_by node.version bytes) node
step_visits node _ = []

-- after every number of entries the node keeps its limits: queues have room, and the chunk of every packet and the value of every
-- row are typed; each step is in balance for each family, and each of its visits has a case at every step and would end
pub record KeepsNodeRun (node : NodeState) (es : List LogEvent) : Type 0 where
  pub fits : (k : ℕ) → NodeFits (node_at node es k)
  pub balance : (k : ℕ) (e : Event) (f : Family) → slice_get es k ≡ Some (Step e)
      → StepBalances f (came f (node_at node es k) e) (stale f (node_at node es k) e) (node_at node es k) (node_step (node_at node es k) e)
  pub visits : (k : ℕ) (e : Event) → slice_get es k ≡ Some (Step e) → All EndsWell (step_visits (node_at node es k) e)
