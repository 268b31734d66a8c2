-- What plans of nodes keep.
use Rattle.std.specs.Prelude.{◌≡◌, ◌≢◌, ℕ, ◌+◌, ◌≤◌, ◌<◌, ◌^◌, true, List, [], ◌∷◌, length, map}
use Rattle.std.specs.List.{All}
use Rattle.plan_base.specs.declared.ids.Host.{Host}
use Rattle.plan_base.specs.declared.ids.Dev.{Dev}
use Rattle.plan_base.specs.Sizes.{chunk_weight}
use Rattle.plan_base.specs.declared.stamp.Version.{Version}
use Rattle.plan_base.specs.declared.stamp.Version.TheVariants.{One, Two}
use Rattle.network_config.specs.declared.serve.Inject.{Inject as Injection}
use Rattle.network_config.specs.declared.event.Event.{Event}
use Rattle.network_config.specs.declared.event.Event.TheVariants as events
use Rattle.network_config.specs.declared.event.LogEvent.{LogEvent}
use Rattle.network_config.specs.declared.event.LogEvent.TheVariants as logged
use Rattle.network_config.specs.declared.node.NodeConfig.{NodeConfig}
use Rattle.network_config.specs.declared.node.Log.{Log}
use Rattle.network_config.specs.declared.serve.ServeConfig.{ServeConfig}
use Rattle.network_config.specs.declared.fleet.AskFile.{AskFile}
use Rattle.network_config.specs.declared.fleet.Fleet.{Fleet}
use Rattle.network_config.specs.declared.fleet.Kid.{Kid}
use Rattle.network_config.specs.declared.fleet.Kid.TheVariants as kids
use Rattle.network_config.specs.Hosts.{is_listed}
use Rattle.network_config.specs.FileNames.{is_file_name}
use Rattle.network_config.specs.Rules.{PackagesDiffer, IsLinkDevice, IsInjection, KeepsInjection, MayArrive}

-- each host is above all before it
abbrev pub Ascend : List Host → Type 0
Ascend [] = Unit {0}
Ascend (h ∷ hs) = All (λ g. h.0 < g.0) hs × Ascend hs

-- the device of each neighbour is above all before it
abbrev pub DevicesAscend : List (Host × Dev) → Type 0
DevicesAscend [] = Unit {0}
DevicesAscend (n ∷ ns) = All (λ m. n.1.0 < m.1.0) ns × DevicesAscend ns

-- a neighbour is another host of the network, over a device from 1 to 8
pub record IsNeighbour (here : Host) (hosts : List Host) (n : Host × Dev) : Type 0 where
  pub listed : is_listed n.0 hosts ≡ true
  pub apart : n.0.0 ≢ here.0
  pub device : IsLinkDevice n.1

-- the number of the first frame of each device, where a file begins a node
abbrev pub first_link : Version → ℕ
first_link One = 0
first_link Two = 1

-- a node of version 2 begins at a moment, one of version 1 at none
abbrev pub KeepsBoot : Version → ℕ → Type 0
KeepsBoot One boot = boot ≡ 0
KeepsBoot Two boot = boot < 2 ^ 64

-- how a node may begin
pub record KeepsNode (n : NodeConfig) : Type 0 where
  pub few : length n.hosts ≤ 32
  pub ascend : Ascend n.hosts
  pub numbers : All (λ h. h.0 < 2 ^ 32) n.hosts
  pub here : is_listed n.here n.hosts ≡ true
  pub neighbours : All (IsNeighbour n.here n.hosts) n.neighbours
  pub devices : DevicesAscend n.neighbours
  pub serial : n.serial < 2 ^ 64
  pub boot : KeepsBoot n.version n.boot
  pub link : n.link < 2 ^ 64

-- an event of a node of this version keeps the limits
abbrev pub KeepsNodeEvent : Version → Event → Type 0
KeepsNodeEvent version (events.Inject chunk bound handler) = KeepsInjection version chunk bound handler
KeepsNodeEvent version (events.Frame d bytes) = (d.0 ≤ 8) × MayArrive bytes
KeepsNodeEvent version (events.Control bytes) = MayArrive bytes
KeepsNodeEvent version events.Tick = Unit {0}
KeepsNodeEvent version (events.Take d) = d.0 ≤ 8

-- an entry of a log keeps the limits
abbrev pub KeepsEntry : Version → LogEvent → Type 0
KeepsEntry version (logged.Step e) = KeepsNodeEvent version e
KeepsEntry version logged.Lost = Unit {0}

-- a log within its limits
pub record KeepsLog (l : Log) : Type 0 where
  pub node : KeepsNode l.node
  pub serial : l.node.serial ≡ 1
  pub link : l.node.link ≡ first_link l.node.version
  pub missing : PackagesDiffer l.missing
  pub few : length l.events ≤ 50000
  pub events : All (KeepsEntry l.node.version) l.events

-- a port is not 0
abbrev pub IsPort : ℕ → Type 0
IsPort p = (1 ≤ p) × (p ≤ 65535)

-- no port is used twice
abbrev pub PortsDiffer : List ℕ → Type 0
PortsDiffer [] = Unit {0}
PortsDiffer (p ∷ ps) = All (λ q. q ≢ p) ps × PortsDiffer ps

-- an injection at a turn keeps the limits
abbrev pub KeepsInject : Version → Injection → Type 0
KeepsInject version i = (1 ≤ i.turn) × (i.turn ≤ 1000000) × KeepsInjection version i.chunk i.bound i.handler

-- the weights of what is injected in sum, each chunk as a value, its tag counted
abbrev pub weights : List Injection → ℕ
weights [] = 0
weights (i ∷ is) = 1 + chunk_weight i.chunk + weights is

-- the configuration of a serving node within its limits
pub record KeepsServe (c : ServeConfig) : Type 0 where
  pub node : KeepsNode c.node
  pub serial : c.node.serial ≡ 1
  pub link : c.node.link ≡ first_link c.node.version
  pub missing : PackagesDiffer c.missing
  pub period : (1 ≤ c.period) × (c.period ≤ 60000)
  pub log : is_file_name c.log ≡ true
  pub devices : map (λ d. d.0) c.devs ≡ map (λ n. n.1) c.node.neighbours
  pub ports : All IsPort (c.port ∷ c.control ∷ map (λ d. d.1) c.devs)
  pub apart : PortsDiffer (c.port ∷ c.control ∷ map (λ d. d.1) c.devs)
  pub injects : All (KeepsInject c.node.version) c.at
  pub weight : weights c.at ≤ 16777216

-- a request within its limits
pub record KeepsAsk (a : AskFile) : Type 0 where
  pub to : IsPort a.to
  pub from : IsPort a.from
  pub injection : IsInjection a.chunk a.bound

-- a child of a fleet
abbrev pub KeepsKid : Kid → Type 0
KeepsKid (kids.Node h file turns) = (h.0 < 2 ^ 32) × (is_file_name file ≡ true) × (1 ≤ turns) × (turns ≤ 1000000)
KeepsKid (kids.Ask h file) = (h.0 < 2 ^ 32) × (is_file_name file ≡ true)

-- a fleet within its limits
pub record KeepsFleet (f : Fleet) : Type 0 where
  pub some : 1 ≤ length f.children
  pub few : length f.children ≤ 64
  pub children : All KeepsKid f.children
