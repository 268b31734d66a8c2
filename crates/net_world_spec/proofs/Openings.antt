-- What holds of routes at the beginning of a network within the rules.
use Rattle.std.proofs.Common.{◌≡◌, ◌≢◌, ℕ, zero, suc, ◌+◌, Bool, true, false, cond, eqb, Option, Some, None, List, [], ◌∷◌, inl, inr, refl, sym, ap, ◌∙◌, arith}
use Rattle.std.specs.Prelude.{map, slice_get, position, ◌==◌, ◌||◌, All, Contains}
use Rattle.std.proofs.lemmas.Bool.Decides.{Decides-eqb}
use Rattle.std.proofs.lemmas.List.Elements.{All-nil, All-cons, All-append, All-map, All-weaker, All-contains, All-replicate, All-contains_itself}
use Rattle.plan_base.specs.declared.ids.Host.{Host}
use Rattle.plan_base.specs.declared.ids.Dev.{Dev}
use Rattle.network_config.specs.declared.schedule.Link.{Link}
use Rattle.network_config.specs.Hosts.{has_host}
use Rattle.network_config.specs.Rules.{KeepsLink, KeepsNetwork}
use Rattle.network_config.specs.declared.schedule.HostSpec.{HostSpec}
use Rattle.network_config.specs.declared.schedule.Topology.{Topology}
use Rattle.dv_routing.specs.Routing.{Routing, is_among}
use Rattle.dv_routing.specs.Laws.{HostsHold}
use Rattle.dv_routing.specs.Sorted.{sorted_into}
use Rattle.dv_routing.proofs.Best.{first_or_later}
use Rattle.dv_routing.proofs.Costs.{eqb_self}
use Rattle.dv_routing.proofs.Sorting.{sorted_same}
use Rattle.net_world_spec.specs.Network.{RouteFrame, Node, routings, routing_at}
use Rattle.net_world_spec.specs.Truths.{IsLinked, IsFresh, IsOpening}
use Rattle.net_world_spec.proofs.Lookups.{all_get}
use Rattle.net_world_spec.proofs.Walking.{opening_true}
use Rattle.node_core_spec.specs.State.{routing_of, no_lane, no_queues, new_node}
use Rattle.node_core_spec.specs.Fits.{QueuesKeep}
use Rattle.node_core_spec.proofs.HostLaws.{same_among}
use Rattle.node_core_spec.proofs.Keeping.{none_kept}
use Rattle.net_world_spec.specs.declared.lines.LinkEnd.{LinkEnd}
use Rattle.net_world_spec.specs.declared.lines.FrameOnWire.{FrameOnWire}
use Rattle.net_world_spec.specs.World.{Cables, has_end, is_on, other_end, peer_at, peer_of, far_end, neighbour_at, neighbours_to, first_moment, opening_node, opening}
use Rattle.net_world_spec.specs.Roads.{routing_in}
use Rattle.net_world_spec.proofs.Cut.{cut_lane, cut_node, cut, end_of, wiring, same_routing}
use Rattle.net_world_spec.proofs.Steps.{GoesDefault}
use Rattle.net_world_spec.proofs.Holding.{WorldHolds}

-- ---- hosts

or_true : (t : Bool) → (t || true) ≡ true
or_true true = refl
or_true false = refl

has_of : (hosts : List HostSpec) (s : HostSpec) → Contains hosts s → has_host s.host hosts ≡ true
has_of [] s k = absurd (omega (arith, k.1))
has_of (h ∷ hs) s k =
    elim (first_or_later h hs s k) [
      | inl same ↦ ap (λ t. t || has_host s.host hs) (ap (λ y. eqb y.host.0 s.host.0) same ∙ eqb_self s.host.0)
      | inr later ↦ ap (λ t. (h.host.0 == s.host.0) || t) (has_of hs s later) ∙ or_true (h.host.0 == s.host.0)
    ]

among_sorted : (x : Host) (hs : List HostSpec) → has_host x hs ≡ true → is_among (sorted_into [] (map (λ s. s.host) hs)) x ≡ true
among_sorted x hs e = sorted_same (map (λ s. s.host) hs) x ∙ (same_among x hs ∙ e)

-- a host of the network has a node
node_there : (t : Topology) (hs : List HostSpec) (m : Host) → has_host m hs ≡ true → (r : Routing) × (routing_in (map (opening_node t) hs) m ≡ Some r)
unfolding opening_node new_node
node_there t [] m e = absurd (none e)
  where
    none : false ≡ true → ⊥
    none h = cc
node_there t (h ∷ hs) m e = split (node_there t hs m) (eqb h.host.0 m.0) e
  where
    split : (has_host m hs ≡ true → (r : Routing) × (routing_in (map (opening_node t) hs) m ≡ Some r)) → (b : Bool) → (b || has_host m hs) ≡ true
        → (r : Routing) × (cond b (Some (routing_of (opening_node t h))) (routing_in (map (opening_node t) hs) m) ≡ Some r)
    split rest true k = (routing_of (opening_node t h), refl)
    split rest false k = rest k

-- ---- links

-- a link leads to a host of the network
peer_there : (hosts : List HostSpec) (links : Cables) (h : Host) (d : Dev) (far : LinkEnd) → All (KeepsLink hosts) links → peer_of links h d ≡ Some far → has_host far.host hosts ≡ true
unfolding peer_of
peer_there hosts links h d far keeps e = place (position (is_on h d) links) e
  where
    none : ◌≡◌ {A = Option LinkEnd} None (Some far) → ⊥
    none k = cc

    ends : (b : Bool) (c : Link) → KeepsLink hosts c → cond b (Some (record { host = c.to; dev = c.to_dev })) (Some (record { host = c.from; dev = c.from_dev })) ≡ Some far → has_host far.host hosts ≡ true
    ends true c k same = let is : c.to ≡ far.host = end_is same in ap (λ m. has_host m hosts) (sym is) ∙ k.to
      where
        end_is : ◌≡◌ {A = Option LinkEnd} (Some (record { host = c.to; dev = c.to_dev })) (Some far) → c.to ≡ far.host
        end_is z = cc
    ends false c k same = let is : c.from ≡ far.host = end_is same in ap (λ m. has_host m hosts) (sym is) ∙ k.from
      where
        end_is : ◌≡◌ {A = Option LinkEnd} (Some (record { host = c.from; dev = c.from_dev })) (Some far) → c.from ≡ far.host
        end_is z = cc

    cable : (at : ℕ) (o : Option Link) → slice_get links at ≡ o → other_end h d o ≡ Some far → has_host far.host hosts ≡ true
    cable at None get same = absurd (none same)
    cable at (Some c) get same = ends (has_end h d c.from c.from_dev) c (all_get (KeepsLink hosts) links at c keeps get) same

    place : (o : Option ℕ) → peer_at links h d o ≡ Some far → has_host far.host hosts ≡ true
    place None same = absurd (none same)
    place (Some at) same = cable at (slice_get links at) refl same

-- a neighbour is at the other end of a link
record IsNear (links : Cables) (h : Host) (link : Host × Dev) : Type 0 where
  real : link.1.0 ≢ 0
  end : Dev
  peer : peer_of links h link.1 ≡ Some (record { host = link.0; dev = end })

one_near : (links : Cables) (h : Host) (n : ℕ) (o : Option LinkEnd) → peer_of links h (record { 0 = n + 1 }) ≡ o → All (IsNear links h) (neighbour_at (record { 0 = n + 1 }) o)
one_near links h n None e = All-nil (IsNear links h)
one_near links h n (Some far) e =
    All-cons (IsNear links h) (far.host, record { 0 = n + 1 }) [] (record { real = λ z. omega (arith, z); end = far.dev; peer = e }) (All-nil (IsNear links h))

all_near : (links : Cables) (h : Host) (n : ℕ) → All (IsNear links h) (neighbours_to links h n)
unfolding neighbours_to
all_near links h zero = All-nil (IsNear links h)
all_near links h (suc n) =
    let d : Dev = record { 0 = n + 1 } in
    All-append (IsNear links h) (neighbours_to links h n) (neighbour_at d (peer_of links h d)) (all_near links h n) (one_near links h n (peer_of links h d) refl)

is_near : (links : Cables) (h : Host) (link : Host × Dev) → Contains (neighbours_to links h 8) link → IsNear links h link
is_near links h link among = All-contains (IsNear links h) (neighbours_to links h 8) link (all_near links h 8) among

far_is : (links : Cables) (h : Host) (d : Dev) → d.0 ≢ 0 → far_end links h d ≡ peer_of links h d
unfolding far_end
far_is links h d real = split (eqb d.0 0) refl
  where
    split : (t : Bool) → eqb d.0 0 ≡ t → cond t (Some (record { host = h; dev = d })) (peer_of links h d) ≡ peer_of links h d
    split true e = absurd (real ((Decides-eqb d.0 0).0 e))
    split false e = refl

own_end : (links : Cables) (h : Host) → wiring links h (record { 0 = 0 }) ≡ Some (h, record { 0 = 0 })
unfolding far_end
own_end links h = refl

-- ---- nodes

node_linked : (t : Topology) (s : HostSpec) → IsLinked (wiring t.links) (routing_of (opening_node t s))
unfolding opening_node new_node
node_linked t s = record {
  own = own_end t.links s.host;
  near = λ m d among. let n = is_near t.links s.host (m, d) among in (n.end, ap end_of (far_is t.links s.host d n.real ∙ n.peer));
  real = λ m d among. (is_near t.links s.host (m, d) among).real;
}

node_there_cut : (t : Topology) (m : Host) → has_host m t.hosts ≡ true → (r : Routing) × (routing_at (routings (cut (opening t))) m ≡ Some r)
unfolding opening
node_there_cut t m e =
    let n = node_there t t.hosts m e in
    (n.0, sym (same_routing (map (opening_node t) t.hosts) m) ∙ n.1)

neighbour_there : (t : Topology) (s : HostSpec) → KeepsNetwork t → (link : Host × Dev) → Contains (routing_of (opening_node t s)).neighbours link → has_host link.0 t.hosts ≡ true
unfolding opening_node new_node
neighbour_there t s k link among =
    let n = is_near t.links s.host link among in
    peer_there t.hosts t.links s.host link.1 (record { host = link.0; dev = n.end }) k.links n.peer

none_queued : (t : Topology) (s : HostSpec) → All (λ queue. queue ≡ []) (cut_node (opening_node t s)).queues
unfolding opening_node new_node
none_queued t s =
    let P : List RouteFrame → Type 0 = λ queue. queue ≡ [] in
    let link = first_moment t.version in
    All-map P cut_lane (no_queues link) (All-replicate (λ lane. P (cut_lane lane)) 9 (no_lane link) refl)

node_heard : (t : Topology) (s : HostSpec) → (routing_of (opening_node t s)).heard ≡ []
unfolding opening_node new_node
node_heard t s = refl

node_fresh : (t : Topology) (s : HostSpec) → KeepsNetwork t → IsFresh (wiring t.links) (routings (cut (opening t))) (cut_node (opening_node t s))
node_fresh t s k = record {
  linked = node_linked t s;
  there = λ link among. node_there_cut t link.0 (neighbour_there t s k link among);
  heard = node_heard t s;
  queues = none_queued t s;
}

opening_fresh : (t : Topology) → KeepsNetwork t → IsOpening (wiring t.links) (cut (opening t))
unfolding opening
opening_fresh t k =
    let P : Node → Type 0 = IsFresh (wiring t.links) (routings (cut (opening t))) in
    record {
      nodes = All-map P cut_node (map (opening_node t) t.hosts) (All-map (λ n. P (cut_node n)) (opening_node t) t.hosts (λ i d lt. node_fresh t _ k));
      wire = refl;
    }

node_hosts : (t : Topology) (s : HostSpec) → KeepsNetwork t → Contains t.hosts s → HostsHold (routing_of (opening_node t s))
unfolding opening_node new_node
node_hosts t s k among = record {
  here = among_sorted s.host t.hosts (has_of t.hosts s among);
  near = λ link near. among_sorted link.0 t.hosts (neighbour_there t s k link near);
}

node_default : (t : Topology) (s : HostSpec) → QueuesKeep GoesDefault (opening_node t s).queues
unfolding opening_node new_node
node_default t s = none_kept GoesDefault (first_moment t.version)

node_version : (t : Topology) (s : HostSpec) → (opening_node t s).version ≡ t.version
unfolding opening_node new_node
node_version t s = refl

pub opening_holds : (t : Topology) → KeepsNetwork t → WorldHolds (opening t)
unfolding opening
opening_holds t k = record {
  routes = opening_true (wiring t.links) (cut (opening t)) (opening_fresh t k);
  hosts = All-map (λ n. HostsHold (routing_of n)) (opening_node t) t.hosts
      (All-weaker (Contains t.hosts) (λ s. HostsHold (routing_of (opening_node t s))) (λ s among. node_hosts t s k among) t.hosts (All-contains_itself t.hosts));
  queues = All-map (λ n. QueuesKeep GoesDefault n.queues) (opening_node t) t.hosts (λ i d lt. node_default t _);
  wire = All-nil (λ x. GoesDefault x.frame);
  leads = All-nil (λ (x : FrameOnWire). far_end t.links x.from.host x.from.dev ≡ Some x.to);
  versions = All-map (λ n. n.version ≡ t.version) (opening_node t) t.hosts (λ i d lt. node_version t _);
}
