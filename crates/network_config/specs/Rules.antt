-- What plans of networks keep.
use Rattle.std.specs.Prelude.{◌≡◌, ◌≢◌, ℕ, ◌+◌, ◌≤◌, ◌<◌, ◌^◌, true, false, List, [], ◌∷◌, Option, None, length, get_or}
use Rattle.std.specs.List.{All}
use Rattle.plan_base.specs.declared.ids.Dev.{Dev}
use Rattle.plan_base.specs.declared.name.Name.{Name}
use Rattle.plan_base.specs.declared.tree.Chunk.{Chunk}
use Rattle.plan_types_spec.specs.Handlers.{MayHandle}
use Rattle.plan_base.specs.Sizes.{chunk_weight}
use Rattle.checked_chunks.specs.Kept.{IsCheckedChunk}
use Rattle.service_api.specs.declared.package.PackageName.{PackageName}
use Rattle.plan_base.specs.declared.stamp.Version.{Version}
use Rattle.plan_base.specs.declared.stamp.Version.TheVariants.{One, Two}
use Rattle.network_config.specs.declared.schedule.HostSpec.{HostSpec}
use Rattle.network_config.specs.declared.schedule.Topology.{Topology}
use Rattle.network_config.specs.declared.schedule.Schedule.{Schedule}
use Rattle.network_config.specs.declared.event.WorldEvent.{WorldEvent}
use Rattle.network_config.specs.declared.event.WorldEvent.TheVariants as happens
use Rattle.network_config.specs.declared.schedule.Link.{Link}
use Rattle.network_config.specs.Hosts.{has_host, has_link}

-- no host is named twice
abbrev pub HostsDiffer : List HostSpec → Type 0
HostsDiffer [] = Unit {0}
HostsDiffer (h ∷ hs) = (has_host h.host hs ≡ false) × HostsDiffer hs

-- no package is named twice
abbrev pub PackagesDiffer : List PackageName → Type 0
PackagesDiffer [] = Unit {0}
PackagesDiffer (p ∷ ps) = All (λ q. q ≢ p) ps × PackagesDiffer ps

-- no device of a host has two links
abbrev pub LinksApart : List Link → Type 0
LinksApart [] = Unit {0}
LinksApart (l ∷ ls) = (has_link l.from l.from_dev ls ≡ false) × (has_link l.to l.to_dev ls ≡ false) × LinksApart ls

-- a device that leads to another node
abbrev pub IsLinkDevice : Dev → Type 0
IsLinkDevice d = (1 ≤ d.0) × (d.0 ≤ 8)

-- a link goes from a device of one host to a device of another
pub record KeepsLink (hosts : List HostSpec) (l : Link) : Type 0 where
  pub from : has_host l.from hosts ≡ true
  pub to : has_host l.to hosts ≡ true
  pub apart : l.to.0 ≢ l.from.0
  pub from_device : IsLinkDevice l.from_dev
  pub to_device : IsLinkDevice l.to_dev

-- a network within its limits
pub record KeepsNetwork (t : Topology) : Type 0 where
  pub few : length t.hosts ≤ 32
  pub hosts : HostsDiffer t.hosts
  pub numbers : All (λ s. s.host.0 < 2 ^ 32) t.hosts
  pub missing : All (λ s. PackagesDiffer s.missing) t.hosts
  pub links : All (KeepsLink t.hosts) t.links
  pub apart : LinksApart t.links

-- a typed chunk with a bound of at most 65,535
abbrev pub IsInjection : Chunk → ℕ → Type 0
IsInjection chunk bound = (bound ≤ 65535) × IsCheckedChunk chunk

-- version 1 has no handlers; under version 2 one may be named that may handle
abbrev pub MayName : Version → Chunk → Option Name → Type 0
MayName One chunk handler = handler ≡ None
MayName Two chunk handler = MayHandle chunk handler

-- what is injected: a typed chunk with a bound of at most 65,535, and its handler
abbrev pub KeepsInjection : Version → Chunk → ℕ → Option Name → Type 0
KeepsInjection version chunk bound handler = IsInjection chunk bound × MayName version chunk handler

-- bytes that may arrive: the longest frame and one byte more, so that a frame that is too long is seen
pub record MayArrive (bytes : List ℕ) : Type 0 where
  pub some : 1 ≤ length bytes
  pub few : length bytes ≤ 16513
  pub are_bytes : (i : ℕ) → get_or bytes i 0 < 256

-- an event is at a host of its network, what it hands in keeps the limits, and version 2 alone repeats
abbrev pub KeepsEvent : Version → List HostSpec → WorldEvent → Type 0
KeepsEvent version hosts (happens.Inject h chunk bound handler) = (has_host h hosts ≡ true) × KeepsInjection version chunk bound handler
KeepsEvent version hosts (happens.Send h d) = (has_host h hosts ≡ true) × (d.0 ≤ 8)
KeepsEvent version hosts (happens.Deliver k) = k < 2 ^ 32
KeepsEvent version hosts (happens.Repeat k) = (version ≡ Two) × (k < 2 ^ 32)
KeepsEvent version hosts (happens.Lose k) = k < 2 ^ 32
KeepsEvent version hosts (happens.Tick h) = has_host h hosts ≡ true
KeepsEvent version hosts (happens.Raw h d bytes) = (has_host h hosts ≡ true) × (d.0 ≤ 8) × MayArrive bytes

-- the weights of all injected chunks as values, in sum
abbrev pub weights : List WorldEvent → ℕ
weights [] = 0
weights (happens.Inject h chunk bound handler ∷ es) = 1 + chunk_weight chunk + weights es
weights (_ ∷ es) = weights es

-- a schedule within its limits
pub record KeepsRules (s : Schedule) : Type 0 where
  pub network : KeepsNetwork s.topology
  pub few : length s.events ≤ 50000
  pub events : All (KeepsEvent s.topology.version s.topology.hosts) s.events
  pub weight : weights s.events ≤ 16777216
