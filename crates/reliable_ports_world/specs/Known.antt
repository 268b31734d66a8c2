-- Networks whose packets carry known chunks only.
use Rattle.std.specs.Prelude.{◌≡◌, Option, Some, None}
use Rattle.std.specs.List.{AllByRecursion}
use Rattle.plan_base.specs.declared.tree.Chunk.{Chunk}
use Rattle.packet_frame.specs.declared.frame.PlainFrame.{PlainFrame}
use Rattle.packet_frame.specs.declared.frame.PlainStamped.{PlainStamped}
use Rattle.network_config.specs.declared.event.WorldEvent.{WorldEvent}
use Rattle.network_config.specs.declared.event.WorldEvent.TheVariants as event
use Rattle.plan_meaning.specs.State.{VisitState}
use Rattle.node_core_spec.specs.declared.acts.Act.{Act}
use Rattle.node_core_spec.specs.declared.acts.Act.TheVariants.{Noted}
use Rattle.node_core_spec.specs.State.{NodeState}
use Rattle.node_core_spec.specs.Node.{NodeStep}
use Rattle.node_core_spec.specs.Fits.{QueuesKeep}
use Rattle.net_world_spec.specs.declared.lines.Line.{Line}
use Rattle.net_world_spec.specs.declared.lines.Line.TheVariants.{At}
use Rattle.net_world_spec.specs.declared.lines.FrameOnWire.{FrameOnWire}
use Rattle.net_world_spec.specs.World.{WorldState, EventResult}
use Rattle.reliable_ports_world.specs.Only.{Allowed, Good}
use Rattle.reliable_ports_world.specs.Visits.{VisitIsGood}

-- the visit of an allowed chunk sends and notes what is allowed
abbrev pub IsClosed : Allowed → Type 0
IsClosed a = (k : Chunk) → a.chunk k → (s : VisitState) → Good a s → VisitIsGood a k s

-- a packet carries an allowed chunk, and no handler
abbrev pub FrameKnown : Allowed → PlainFrame → Type 0
FrameKnown a (PlainFrame.Packet p) = a.chunk p.chunk × (p.handler ≡ None)
FrameKnown a _ = Unit {0}

-- the same of a frame on its way, whatever it bears
abbrev pub StampedKnown : Allowed → PlainStamped → Type 0
StampedKnown a x = FrameKnown a x.frame

-- a node has such frames queued, and its services are those
pub record NodeKnown (a : Allowed) (node : NodeState) : Type 0 where
  pub queues : QueuesKeep (StampedKnown a) node.queues
  pub offer : node.services.offer ≡ a.offer

-- an act notes what is allowed, if it notes anything
abbrev pub ActKnown : Allowed → Act → Type 0
ActKnown a (Noted n) = a.note n
ActKnown a _ = Unit {0}

-- a frame that was taken, if one was, carries an allowed chunk
abbrev pub TakenKnown : Allowed → Option PlainStamped → Type 0
TakenKnown a None = Unit {0}
TakenKnown a (Some x) = StampedKnown a x

-- a step notes what is allowed, and leaves such a node
pub record StepKnown (a : Allowed) (step : NodeStep) : Type 0 where
  pub node : NodeKnown a step.node
  pub acts : AllByRecursion (ActKnown a) step.acts
  pub frame : TakenKnown a step.frame

-- a network of such nodes, with such frames on the wire
pub record WorldKnown (a : Allowed) (w : WorldState) : Type 0 where
  pub nodes : AllByRecursion (NodeKnown a) w.nodes
  pub wire : AllByRecursion (λ (x : FrameOnWire). StampedKnown a x.frame) w.wire

-- a line of a trace notes what is allowed, if it notes anything
abbrev pub LineKnown : Allowed → Line → Type 0
LineKnown a (At h act) = ActKnown a act
LineKnown a _ = Unit {0}

-- an event leaves such a network, and notes what is allowed
pub record EventKnown (a : Allowed) (e : EventResult) : Type 0 where
  pub world : WorldKnown a e.world
  pub lines : AllByRecursion (LineKnown a) e.lines

-- an injected chunk is allowed and has no handler, and no bytes come from outside
abbrev pub ComesKnown : Allowed → WorldEvent → Type 0
ComesKnown a (event.Inject h chunk bound handler) = a.chunk chunk × (handler ≡ None)
ComesKnown a (event.Raw h d bytes) = ⊥
ComesKnown a _ = Unit {0}
