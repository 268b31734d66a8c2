-- Every move keeps what holds of routes, and raises no cost.
use Rattle.std.proofs.Common.{◌≡◌, ℕ, Some, List, [], ◌∷◌, ◌++◌, inl, inr, refl, sym, ap, subst, ◌∙◌}
use Rattle.std.specs.Prelude.{map, slice_get, slice_set}
use Rattle.std.specs.List.{All, Contains}
use Rattle.std.proofs.lemmas.List.Elements.{All-head, All-tail, All-weaker, All-push, All-set, All-contains}
use Rattle.plan_base.specs.declared.ids.Host.{Host}
use Rattle.plan_base.specs.declared.ids.Dev.{Dev}
use Rattle.service_api.specs.declared.advert.Advert.{Advert}
use Rattle.dv_routing.specs.Routing.{Routing, cost, own_advert}
use Rattle.dv_routing.specs.Laws.{NoRise}
use Rattle.dv_routing.proofs.Rises.{no_rise_self, cost_rises}
use Rattle.net_world_spec.specs.Network.{Wiring, RouteFrame, Parcel, Told, Node, Network, routing_of, routings, IsAt, with_node, with_queue, queued_frame, heard_by, Moves, Routed, Handed, Tells, Sent, Hears, Leaves, Goes, Stays, Then}
use Rattle.net_world_spec.specs.Truths.{NoneRises, RowTrue, AdvertTrue, FrameTrue, QueuesTrue, NodeHolds, RoutesHold}
use Rattle.net_world_spec.proofs.Lookups.{get_set, all_get, all_remove, none_rises_self, none_rises_over, rises_set, routings_set, routings_get}
use Rattle.net_world_spec.proofs.Truth.{frame_rises, node_rises, same_end, parcel_true, neighbour_true, advert_true}

-- a network with one node in another's place and another wire, all true by the costs before
pub set_holds : (far : Wiring) (w : Network) (at : ℕ) (old node : Node) (wire : List ((Host × Dev) × RouteFrame)) → RoutesHold far w → slice_get w.nodes at ≡ Some old
    → node.routing.here ≡ old.routing.here → ((x : Host) → NoRise (cost old.routing x) (cost node.routing x)) → NodeHolds far (routings w) node
    → All (λ x. FrameTrue (routings w) x.0.0 x.1) wire → RoutesHold far (record { nodes = slice_set w.nodes at node; wire = wire })
set_holds far w at old node wire h place here less new frames =
    let after = map routing_of (slice_set w.nodes at node) in
    let rises : NoneRises (routings w) after =
    subst (NoneRises (routings w)) (sym (routings_set w at node)) (rises_set (routings w) at old.routing node.routing (routings_get w.nodes at old place) here less) in
    record {
      nodes = All-weaker (NodeHolds far (routings w)) (NodeHolds far after) (λ n t. node_rises far (routings w) after n rises t) (slice_set w.nodes at node)
          (All-set (NodeHolds far (routings w)) w.nodes at node new h.nodes);
      wire = All-weaker (λ x. FrameTrue (routings w) x.0.0 x.1) (λ x. FrameTrue after x.0.0 x.1) (λ x t. frame_rises (routings w) after x.0.0 x.1 rises t) wire frames;
    }

set_rises : (w : Network) (at : ℕ) (old node : Node) → slice_get w.nodes at ≡ Some old → node.routing.here ≡ old.routing.here
    → ((x : Host) → NoRise (cost old.routing x) (cost node.routing x)) → NoneRises (routings w) (map routing_of (slice_set w.nodes at node))
set_rises w at old node place here less =
    subst (NoneRises (routings w)) (sym (routings_set w at node)) (rises_set (routings w) at old.routing node.routing (routings_get w.nodes at old place) here less)

node_holds_routes : (far : Wiring) (w : Network) (at : ℕ) (node : Node) → RoutesHold far w → IsAt w at node → NodeHolds far (routings w) node
node_holds_routes far w at node h p = all_get (NodeHolds far (routings w)) w.nodes at node h.nodes p.place

-- a queue that is true where its device leads
queue_set : (far : Wiring) (rs : List Routing) (n : Host) (queues : List (List RouteFrame)) (d : Dev) (queue : List RouteFrame) → QueuesTrue far rs n queues
    → ((end : Host × Dev) → far n d ≡ Some end → All (FrameTrue rs end.0) queue) → QueuesTrue far rs n (slice_set queues d.0 queue)
queue_set far rs n queues d queue h new e other end get leads = elim (get_set queues d.0 e.0 queue other get) [ inl same ↦ here same | inr before ↦ h e other end before leads ]
  where
    here : (d.0 ≡ e.0) × (queue ≡ other) → All (FrameTrue rs end.0) other
    here same =
        let dev : e ≡ d = ap (λ k. let y : Dev = record { 0 = k } in y) (sym same.0) in
        subst (All (FrameTrue rs end.0)) same.1 (new end (ap (far n) (sym dev) ∙ leads))

with_queue_holds : (far : Wiring) (rs : List Routing) (node : Node) (d : Dev) (queue : List RouteFrame) → NodeHolds far rs node
    → ((end : Host × Dev) → far node.routing.here d ≡ Some end → All (FrameTrue rs end.0) queue) → NodeHolds far rs (with_queue node d queue)
with_queue_holds far rs node d queue h new = record {
  linked = h.linked;
  heard = h.heard;
  queues = queue_set far rs node.routing.here node.queues d queue h.queues new;
}

-- a frame more, which is true where its device leads
queued_holds : (far : Wiring) (w : Network) (at : ℕ) (node : Node) (d : Dev) (queue : List RouteFrame) (frame : RouteFrame) → RoutesHold far w → IsAt w at node
    → slice_get node.queues d.0 ≡ Some queue → ((end : Host × Dev) → far node.routing.here d ≡ Some end → FrameTrue (routings w) end.0 frame)
    → RoutesHold far (with_node w at (queued_frame node d queue frame))
queued_holds far w at node d queue frame h p get true =
    let n = node_holds_routes far w at node h p in
    set_holds far w at node (queued_frame node d queue frame) w.wire h p.place refl (λ x. no_rise_self (cost node.routing x))
    (with_queue_holds far (routings w) node d (queue ++ frame ∷ []) n
    (λ end leads. All-push (FrameTrue (routings w) end.0) queue frame (n.queues d queue end get leads) (true end leads)))
    h.wire

-- an advert that is true is heard of the neighbour that sent it
heard_holds : (far : Wiring) (rs : List Routing) (node : Node) (d : Dev) (a : Advert) → NodeHolds far rs node → AdvertTrue rs a
    → Contains node.routing.neighbours (a.host, d) → NodeHolds far rs (heard_by node d a)
heard_holds far rs node d a h true among = record {
  linked = record { own = h.linked.own; near = h.linked.near; real = h.linked.real };
  heard = λ link k. record {
    own = (h.heard link k).own;
    told = All-push (λ told. told.0.0 ≡ link.1.0 → All (RowTrue rs link.0) told.1.rows) node.routing.heard (d, a) (h.heard link k).told (λ same. of_link link k same);
  };
  queues = h.queues;
}
  where
    of_link : (link : Host × Dev) → Contains node.routing.neighbours link → d.0 ≡ link.1.0 → All (RowTrue rs link.0) a.rows
    of_link link k same =
        let dev : d ≡ link.1 = ap (λ i. let y : Dev = record { 0 = i } in y) same in
        let mine = h.linked.near a.host d among in
        let other = h.linked.near link.0 link.1 k in
        let host : a.host ≡ link.0 = same_end (far node.routing.here link.1) (link.0, other.0) a.host mine.0 (ap (far node.routing.here) (sym dev) ∙ mine.1) other.1 in
        let P : Host → Type 0 = λ m. All (RowTrue rs m) a.rows in
        subst P host true

pub move_keeps : (far : Wiring) (v w : Network) → RoutesHold far v → Moves far v w → RoutesHold far w
move_keeps far v w h (Routed u at node x row queue p r get) =
    queued_holds far u at node row.dev queue (Parcel x) h p get (λ end leads. parcel_true far (routings u) node x row end (node_holds_routes far u at node h p) p.first r leads)
move_keeps far v w h (Handed u at node m d queue p among get) =
    queued_holds far u at node d queue (Parcel m) h p get (λ end leads. neighbour_true far (routings u) node m d end (node_holds_routes far u at node h p) among leads)
move_keeps far v w h (Tells u at node m d queue p among get) =
    queued_holds far u at node d queue (Told (own_advert node.routing)) h p get (λ end leads. advert_true (routings u) node.routing p.first)
move_keeps far v w h (Sent u at node d frame queue end p get leads) =
    let n = node_holds_routes far u at node h p in
    set_holds far u at node (with_queue node d queue) (u.wire ++ (end, frame) ∷ []) h p.place refl (λ x. no_rise_self (cost node.routing x))
    (with_queue_holds far (routings u) node d queue n (λ e k. All-tail (FrameTrue (routings u) e.0) frame queue (n.queues d (frame ∷ queue) e get k)))
    (All-push (λ x. FrameTrue (routings u) x.0.0 x.1) u.wire (end, frame) h.wire
    (All-head (FrameTrue (routings u) end.0) frame queue (n.queues d (frame ∷ queue) end get leads)))
move_keeps far v w h (Hears u at node d a p on among) =
    let told : AdvertTrue (routings u) a = All-contains (λ x. FrameTrue (routings u) x.0.0 x.1) u.wire ((node.routing.here, d), Told a) h.wire on in
    set_holds far u at node (heard_by node d a) u.wire h p.place refl (cost_rises node.routing d a) (heard_holds far (routings u) node d a (node_holds_routes far u at node h p) told among) h.wire
move_keeps far v w h (Leaves u place) = record { nodes = h.nodes; wire = all_remove (λ x. FrameTrue (routings u) x.0.0 x.1) u.wire place h.wire }

pub move_rises : (far : Wiring) (v w : Network) → Moves far v w → NoneRises (routings v) (routings w)
move_rises far v w (Routed u at node x row queue p r get) = set_rises u at node (queued_frame node row.dev queue (Parcel x)) p.place refl (λ y. no_rise_self (cost node.routing y))
move_rises far v w (Handed u at node m d queue p among get) = set_rises u at node (queued_frame node d queue (Parcel m)) p.place refl (λ y. no_rise_self (cost node.routing y))
move_rises far v w (Tells u at node m d queue p among get) =
    set_rises u at node (queued_frame node d queue (Told (own_advert node.routing))) p.place refl (λ y. no_rise_self (cost node.routing y))
move_rises far v w (Sent u at node d frame queue end p get leads) = set_rises u at node (with_queue node d queue) p.place refl (λ y. no_rise_self (cost node.routing y))
move_rises far v w (Hears u at node d a p on among) = set_rises u at node (heard_by node d a) p.place refl (cost_rises node.routing d a)
move_rises far v w (Leaves u place) = none_rises_self (routings u)

pub goes_keep : (far : Wiring) (v w : Network) → RoutesHold far v → Goes far v w → RoutesHold far w
goes_keep far v w h (Stays u) = h
goes_keep far v w h (Then a b c m rest) = goes_keep far b c (move_keeps far a b h m) rest

pub goes_rise : (far : Wiring) (v w : Network) → Goes far v w → NoneRises (routings v) (routings w)
goes_rise far v w (Stays u) = none_rises_self (routings u)
goes_rise far v w (Then a b c m rest) = none_rises_over (routings a) (routings b) (routings c) (move_rises far a b m) (goes_rise far b c rest)
