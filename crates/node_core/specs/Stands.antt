-- Which state of the definition a node stands for.
use Rattle.std.specs.Prelude.{◌≡◌, Option, Result, IfOk, OnErr}
use Rattle.plan_base.specs.declared.memory.NoMemory.{NoMemory}
use Rattle.plan_base.specs.declared.stamp.Stamp.{Stamp}
use Rattle.plan_base.specs.declared.stamp.Version.{Version}
use Rattle.packet_frame.specs.declared.frame.PlainFrame.{PlainFrame}
use Rattle.packet_frame.specs.declared.frame.PlainStamped.{PlainStamped}
use Rattle.service_api.specs.Services.{ServiceState}
use Rattle.dv_routing.specs.Stands.{Stands}
use Rattle.node_core_spec.specs.declared.acts.Acts.{Acts}
use Rattle.node_core_spec.specs.State.{NodeState, routing_of}
use Rattle.node_core_spec.specs.Node.{NodeStep, mark_of}
use Rattle.node_core_parts.specs.Windows.{SeenUnder}
use Rattle.node_core.specs.declared.node.Node.{Node}

-- the version of a node
abbrev pub version_of : {S : Type 0} → Node S → Version
version_of n = n.version

-- what the frames of a node bear
abbrev pub mark_on : {S : Type 0} → Node S → Option Stamp
mark_on n = mark_of n.version n.boot

-- a node stands for a state: its routes for the adverts heard, its queued bytes for the frames that they spell, its windows for
-- the numbers taken, its services for what they stand for; all else is equal
pub record NodeStands {S : Type 0} (stands : S → ServiceState) (n : Node S) (s : NodeState) : Type 0 where
  pub here : n.here ≡ s.here
  pub routes : Stands (routing_of s) n.routes
  pub neighbours : n.neighbours ≡ s.neighbours
  pub services : stands n.services ≡ s.services
  pub version : n.version ≡ s.version
  pub boot : n.boot ≡ s.boot
  pub queues : n.lanes.items ≡ s.queues
  pub windows : SeenUnder n.version s.seen n.windows.items
  pub serial : n.serial ≡ s.serial
  pub time : n.time ≡ s.now

-- the acts and the frame of a step are those of its definition, and the node stands for the state after it
pub record IsStep {S : Type 0} (stands : S → ServiceState) (step : NodeStep) (acts : Acts) (new : Node S) : Type 0 where
  pub list : acts.list ≡ step.acts
  pub frame : acts.frame ≡ step.frame
  pub node : NodeStands stands new step.node

-- what a call comes to that makes this step of a node: the step as it is defined for each state for which the node stands; where
-- an allocation fails, the node stands for what it stood for; and its version stays
pub record Steps {S : Type 0} (stands : S → ServiceState) (step : NodeState → NodeStep) (old : Node S) (r : Result Acts NoMemory) (new : Node S) : Type 0 where
  pub ok : (s : NodeState) → NodeStands stands old s → IfOk r (λ acts. IsStep stands (step s) acts new)
  pub err : (s : NodeState) → NodeStands stands old s → OnErr r (NodeStands stands new s)
  pub same : version_of new ≡ version_of old

-- the same for a step that is made at some states alone
pub record StepsWhere {S : Type 0} (stands : S → ServiceState) (may : NodeState → Type 0) (step : NodeState → NodeStep) (old : Node S)
    (r : Result Acts NoMemory) (new : Node S) : Type 0 where
  pub ok : (s : NodeState) → NodeStands stands old s → may s → IfOk r (λ acts. IsStep stands (step s) acts new)
  pub err : (s : NodeState) → NodeStands stands old s → OnErr r (NodeStands stands new s)
  pub same : version_of new ≡ version_of old

-- a frame with this stamp, or with none
abbrev pub with_stamp : Option Stamp → PlainFrame → PlainStamped
with_stamp m x = record { stamp = m; frame = x }
