-- Which state of the definition a network stands for.
use Rattle.std.specs.Prelude.{◌≡◌, List, [], ◌∷◌, slice_get, slice_set, Option, Some, ℕ}
use Rattle.plan_base.specs.declared.stamp.Stamp.{Stamp}
use Rattle.plan_base.specs.declared.name.Name.{Name}
use Rattle.plan_base.specs.declared.tree.Chunk.{Chunk}
use Rattle.network_config.specs.Rules.{MayName}
use Rattle.service_api.specs.Services.{ServiceState}
use Rattle.node_core_spec.specs.declared.acts.Acts.{Acts}
use Rattle.node_core_spec.specs.State.{NodeState}
use Rattle.node_core_spec.specs.Node.{NodeStep}
use Rattle.node_core_spec.specs.Fits.{IsMarked}
use Rattle.node_core.specs.declared.node.Node.{Node}
use Rattle.node_core.specs.Stands.{NodeStands}
use Rattle.net_world_spec.specs.declared.lines.Line.{Line}
use Rattle.net_world_spec.specs.World.{WorldState, EventResult}
use Rattle.net_world_spec.specs.Sound.{IsSound}
use Rattle.net_world.specs.declared.network.Network.{Network}

-- each node stands for the state at its place
abbrev pub AllStand : {S : Type 0} → (S → ServiceState) → List (Node S) → List NodeState → Type 0
AllStand stands [] [] = Unit {0}
AllStand stands (n ∷ ns) (s ∷ ss) = NodeStands stands n s × AllStand stands ns ss
AllStand stands _ _ = ⊥

-- the nodes of a network stand for the states of nodes; all else is equal
pub record NetworkStands {S : Type 0} (stands : S → ServiceState) (n : Network S) (w : WorldState) : Type 0 where
  pub nodes : AllStand stands n.nodes.items w.nodes
  pub links : n.links ≡ w.links
  pub wire : n.wire ≡ w.wire
  pub next : n.«next» ≡ w.«next»
  pub made : n.made ≡ w.made
  pub version : n.version ≡ w.version

-- a network stands for a state, which is sound
pub record WorldStands {S : Type 0} (stands : S → ServiceState) (n : Network S) (w : WorldState) : Type 0 where
  pub is : NetworkStands stands n w
  pub sound : IsSound w

-- the lines of an event are those of its definition, and the network's parts are those of the state after it
pub record IsActed {S : Type 0} (stands : S → ServiceState) (event : EventResult) (lines : List Line) (new : Network S) : Type 0 where
  pub list : lines ≡ event.lines
  pub network : NetworkStands stands new event.world

-- the lines of an event are those of its definition, and the network stands for the state after it
pub record IsHappened {S : Type 0} (stands : S → ServiceState) (event : EventResult) (lines : List Line) (new : Network S) : Type 0 where
  pub list : lines ≡ event.lines
  pub world : WorldStands stands new event.world

-- the node at a place made a step, and no other changed
pub record StepsAt {S : Type 0} (stands : S → ServiceState) (step : NodeState → NodeStep) (old : List NodeState) (at : ℕ) (acts : Acts)
    (new : List (Node S)) : Type 0 where
  pub node : NodeState
  pub there : slice_get old at ≡ Some node
  pub list : acts.list ≡ (step node).acts
  pub frame : acts.frame ≡ (step node).frame
  pub after : AllStand stands new (slice_set old at (step node).node)

-- a handler may be named at the node at a place
abbrev pub MayNameAt : List NodeState → ℕ → Chunk → Option Name → Type 0
MayNameAt states at chunk handler = (s : NodeState) → slice_get states at ≡ Some s → MayName s.version chunk handler

-- the node at a place is of the version whose frames bear this
abbrev pub IsMarkedAt : List NodeState → ℕ → Option Stamp → Type 0
IsMarkedAt states at stamp = (s : NodeState) → slice_get states at ≡ Some s → IsMarked s.version stamp
