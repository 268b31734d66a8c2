-- Which state of the definition two ends and their network stand for.
use Rattle.std.specs.Prelude.{◌≡◌, ℕ, ◌+◌, ◌*◌, List, ◌++◌}
use Rattle.plan_base.specs.declared.stamp.Version.TheVariants.{Two}
use Rattle.service_api.specs.Services.{ServiceState}
use Rattle.network_config.specs.declared.event.WorldEvent.{WorldEvent}
use Rattle.net_world_spec.specs.declared.lines.Line.{Line}
use Rattle.net_world_spec.specs.World.{happens}
use Rattle.net_world.specs.Stands.{WorldStands}
use Rattle.reliable_ports_world.specs.Ports.{PortState, makes}
use Rattle.reliable_ports_world.specs.declared.ports.Ports.{Ports}

-- the ends, their purses and their network are those of a state, whose network is of version 2; the offers and the events so far
-- are not kept
pub record PortStands {S : Type 0} (stands : S → ServiceState) (p : Ports S) (s : PortState) : Type 0 where
  pub world : WorldStands stands p.world s.world
  pub version : s.world.version ≡ Two
  pub sender : p.sender ≡ s.sender
  pub receiver : p.receiver ≡ s.receiver
  pub first : p.first ≡ s.first
  pub second : p.second ≡ s.second

-- they stand for a state, and this was appended to a text
pub record Goes {S : Type 0} (stands : S → ServiceState) (p : Ports S) (s : PortState) (told old new : List ℕ) : Type 0 where
  pub is : PortStands stands p s
  pub text : new ≡ old ++ told

-- they stand for some state
pub record IsStanding {S : Type 0} (stands : S → ServiceState) (p : Ports S) : Type 0 where
  pub state : PortState
  pub is : PortStands stands p state

-- an event of the network gave these lines, and they stand for the state after it
pub record IsMade {S : Type 0} (stands : S → ServiceState) (e : WorldEvent) (s : PortState) (lines : List Line) (new : Ports S) : Type 0 where
  pub list : lines ≡ (happens s.world e).lines
  pub is : PortStands stands new (makes e s)

-- they stand for a state in which such an event may come
pub record IsReady {S : Type 0} (stands : S → ServiceState) (p : Ports S) (Few : PortState → Type 0) : Type 0 where
  pub state : PortState
  pub is : PortStands stands p state
  pub few : Few state

-- four times the events made, with what the second purse holds: an ack leaves it as it is
abbrev pub budget : {S : Type 0} → Ports S → ℕ
budget p = 4 * p.world.made + p.second
