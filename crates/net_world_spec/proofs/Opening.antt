-- A network keeps its limits at the beginning.
use Rattle.std.proofs.Common.{◌≡◌, ℕ, Bool, true, false, cond, ap, zero, suc, ◌+◌, ◌<◌, ◌≤◌, ◌^◌, List, [], ◌∷◌, ◌++◌, refl, sym, ◌∙◌, subst, arith}
use Rattle.std.specs.Prelude.{map, Option, Some, None, All}
use Rattle.std.proofs.lemmas.List.Elements.{All-nil, All-cons, All-head, All-tail, All-append, All-weaker, All-replicate}
use Rattle.std.proofs.lemmas.List.{append-nil, length-map}
use Rattle.plan_base.specs.declared.ids.Host.{Host}
use Rattle.plan_base.specs.declared.ids.Dev.{Dev}
use Rattle.service_api.specs.Services.{AreGoodRows, IsGoodValue}
use Rattle.service_registry_spec.specs.Beginning.{no_rows, present_without}
use Rattle.service_registry_spec.proofs.Goods.{serve_good}
use Rattle.network_config.specs.NodeRules.{DevicesAscend}
use Rattle.network_config.specs.Rules.{HostsDiffer, KeepsLink, KeepsNetwork}
use Rattle.network_config.specs.declared.schedule.HostSpec.{HostSpec}
use Rattle.network_config.specs.declared.schedule.Topology.{Topology}
use Rattle.dv_routing.specs.Sorted as sorted
use Rattle.node_core_spec.specs.State.{Links, NodeState, is_host, no_lane, no_queues, new_node}
use Rattle.node_core_spec.specs.Numbers.{NumbersFit, FitsAt}
use Rattle.containers.proofs.Binds.{some_inj}
use Rattle.node_core_spec.specs.Fits.{StampedKeeps, NetworkFits, ConfigFits, ServicesFit, NodeFits}
use Rattle.node_core_spec.proofs.HostLaws.{same_among, new_node_fits}
use Rattle.net_world_spec.specs.declared.lines.LinkEnd.{LinkEnd}
use Rattle.net_world_spec.specs.World.{Cables, peer_of, neighbour_at, neighbours_to, opening_services, first_moment, config_of, opening_node, opening}
use Rattle.net_world_spec.specs.Sound.{WiredFits, Rise, DevicesFit, node_of, IsStaleAt, NumbersDiffer, LinkFits, IsSound}
use Rattle.net_world_spec.proofs.Fitting.{at_place, rise-push}

-- ---- hosts

differ_as : (hs : List HostSpec) → HostsDiffer hs → sorted.HostsDiffer (map (λ s. s.host) hs)
differ_as [] d = tt
differ_as (h ∷ hs) d = (same_among h.host hs ∙ d.0, differ_as hs d.1)

numbers_as : (hs : List HostSpec) → All (λ s. s.host.0 < 2 ^ 32) hs → All (λ h. h.0 < 2 ^ 32) (map (λ s. s.host) hs)
numbers_as [] a = All-nil (λ h. h.0 < 2 ^ 32)
numbers_as (h ∷ hs) a = All-cons (λ h. h.0 < 2 ^ 32) h.host (map (λ s. s.host) hs) (All-head (λ s. s.host.0 < 2 ^ 32) h hs a) (numbers_as hs (All-tail (λ s. s.host.0 < 2 ^ 32) h hs a))

network_fits : (t : Topology) → KeepsNetwork t → NetworkFits (map (λ s. s.host) t.hosts)
network_fits t k = record { few = omega (arith, k.few, length-map t.hosts (λ s. s.host)); differ = differ_as t.hosts k.hosts }

-- ---- neighbours

-- devices that rise ascend
ascends : (links : Links) → Rise (λ link. link.1.0) links → DevicesAscend links
ascends [] r = tt
ascends (l ∷ ls) r = (r.0, ascends ls r.1)

abbrev Within : ℕ → Host × Dev → Type 0
Within n link = (1 ≤ link.1.0) × (link.1.0 ≤ n)

-- the neighbours on devices up to n: their devices, in order
record Near (n : ℕ) (links : Links) : Type 0 where
  within : All (Within n) links
  rise : Rise (λ link. link.1.0) links

one_more : (n : ℕ) (o : Option LinkEnd) (links : Links) → Near n links → Near (suc n) (links ++ neighbour_at (record { 0 = n + 1 }) o)
one_more n o links k =
    let wider = All-weaker (Within n) (Within (suc n)) (λ x h. (h.0, omega (arith, h.1))) links k.within in
    record {
      within = All-append (Within (suc n)) links (neighbour_at (record { 0 = n + 1 }) o) wider (last o);
      rise = ends o;
    }
  where
    last : (o : Option LinkEnd) → All (Within (suc n)) (neighbour_at (record { 0 = n + 1 }) o)
    last None = All-nil (Within (suc n))
    last (Some far) = All-cons (Within (suc n)) (far.host, record { 0 = n + 1 }) [] (omega arith, omega arith) (All-nil (Within (suc n)))

    ends : (o : Option LinkEnd) → Rise (λ link. link.1.0) (links ++ neighbour_at (record { 0 = n + 1 }) o)
    ends None = let P : Links → Type 0 = λ ls. Rise (λ link. link.1.0) ls in subst P (sym (append-nil links)) k.rise
    ends (Some far) = rise-push (λ link. link.1.0) links (far.host, record { 0 = n + 1 }) k.rise (All-weaker (Within n) (λ y. y.1.0 < n + 1) (λ x h. omega (arith, h.1)) links k.within)

near : (links : Cables) (h : Host) (n : ℕ) → Near n (neighbours_to links h n)
unfolding neighbours_to
near links h zero = record { within = All-nil (Within 0); rise = tt }
near links h (suc n) = one_more n (peer_of links h (record { 0 = n + 1 })) (neighbours_to links h n) (near links h n)

-- ---- nodes

no_rows_good : AreGoodRows no_rows
no_rows_good = record { values = All-nil (λ x. IsGoodValue x.ty x.value); room = refl; least = omega arith; greatest = omega arith }

pub services_fit : (h : HostSpec) → ServicesFit (opening_services h)
services_fit h = record { good = record { serve = serve_good (present_without h.missing); rows = no_rows_good }; closed = refl; waits = refl }

pub config_fits : (t : Topology) (h : HostSpec) → KeepsNetwork t → ConfigFits (config_of t h)
config_fits t h k = let n = near t.links h.host 8 in record { hosts = network_fits t k; devices = n.within; ordered = ascends (neighbours_to t.links h.host 8) n.rise }

opening_node_fits : (t : Topology) (h : HostSpec) → h.host.0 < 2 ^ 32 → KeepsNetwork t → NodeFits (opening_node t h)
unfolding opening_node
opening_node_fits t h n k = new_node_fits (config_of t h) (opening_services h) n (numbers_as t.hosts k.numbers) (omega arith) (config_fits t h k) (services_fit h)

opening_devices : (t : Topology) (h : HostSpec) → DevicesFit t.version (opening_node t h)
unfolding opening_node new_node
opening_devices t h = record { version = refl; windows = refl; queues = refl; devices = (near t.links h.host 8).within }

nodes_fit : (t : Topology) (hs : List HostSpec) → KeepsNetwork t → All (λ s. s.host.0 < 2 ^ 32) hs → All NodeFits (map (opening_node t) hs)
nodes_fit t [] k a = All-nil NodeFits
nodes_fit t (h ∷ hs) k a = All-cons NodeFits (opening_node t h) (map (opening_node t) hs) (opening_node_fits t h (All-head (λ s. s.host.0 < 2 ^ 32) h hs a) k)
    (nodes_fit t hs k (All-tail (λ s. s.host.0 < 2 ^ 32) h hs a))

devices_fit : (t : Topology) (hs : List HostSpec) → All (DevicesFit t.version) (map (opening_node t) hs)
devices_fit t [] = All-nil (DevicesFit t.version)
devices_fit t (h ∷ hs) = All-cons (DevicesFit t.version) (opening_node t h) (map (opening_node t) hs) (opening_devices t h) (devices_fit t hs)

links_fit : (hosts : List HostSpec) (links : Cables) → All (KeepsLink hosts) links → All LinkFits links
links_fit hosts links h = All-weaker (KeepsLink hosts) LinkFits (λ l k. (k.from_device, k.to_device)) links h

-- ---- numbers: nothing is queued or on the wire

none_fit : (link d : ℕ) → FitsAt [] d (no_queues link)
none_fit link d lane e = at_place (NumbersFit []) (no_queues link) d lane e (All-replicate (NumbersFit []) 9 (no_lane link) (record { ascend = tt; below = All-nil (λ n. n < link) }))

opening_lanes : (t : Topology) (h : HostSpec) → (opening_node t h).queues ≡ no_queues (first_moment t.version)
unfolding opening_node new_node
opening_lanes t h = refl

lanes_cases : (t : Topology) (h : HostSpec) (rest : Option NodeState) (node : NodeState) (b : Bool) → cond b (Some (opening_node t h)) rest ≡ Some node → (rest ≡ Some node → node.queues ≡ no_queues (first_moment t.version))
    → node.queues ≡ no_queues (first_moment t.version)
lanes_cases t h rest node true e k = sym (ap (λ (n : NodeState). n.queues) (some_inj e)) ∙ opening_lanes t h
lanes_cases t h rest node false e k = k e

lanes_of : (t : Topology) (hs : List HostSpec) (at : Host) (node : NodeState) → node_of (map (opening_node t) hs) at ≡ Some node → node.queues ≡ no_queues (first_moment t.version)
lanes_of t [] at node e = cc
lanes_of t (h ∷ hs) at node e = lanes_cases t h (node_of (map (opening_node t) hs) at) node (is_host (opening_node t h).here at) e (lanes_of t hs at node)

opening_differ : (t : Topology) → NumbersDiffer (map (opening_node t) t.hosts) []
opening_differ t h node e d = subst (λ queues. FitsAt [] d queues) (sym (lanes_of t t.hosts h node e)) (none_fit (first_moment t.version) d)

pub opening_version : (t : Topology) → (opening t).version ≡ t.version
unfolding opening
opening_version t = refl

-- the limits stand at the beginning
pub opening_sound : (t : Topology) → KeepsNetwork t → IsSound (opening t)
unfolding opening
opening_sound t k = record {
  nodes = nodes_fit t t.hosts k k.numbers;
  devices = devices_fit t t.hosts;
  links = links_fit t.hosts t.links k.links;
  wire = All-nil (WiredFits (StampedKeeps t.version) 1);
  stale = All-nil (IsStaleAt (map (opening_node t) t.hosts));
  differ = opening_differ t;
  once = tt;
  room = omega arith;
  numbers = omega arith;
}
