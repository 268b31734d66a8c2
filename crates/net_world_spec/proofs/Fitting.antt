-- Each event keeps what every network keeps.
use Rattle.std.proofs.Common.{◌≡◌, ℕ, zero, suc, ◌+◌, ◌<◌, ◌≤◌, Bool, true, false, cond, List, [], ◌∷◌, ◌++◌, refl, sym, ap, ◌∙◌, subst, arith, length, take, drop}
use Rattle.std.specs.Prelude.{slice_get, slice_set, remove, nat_lt, ◌==◌, if◌then◌else◌, position, Option, Some, None, All}
use Rattle.containers.proofs.Binds.{some_inj}
use Rattle.network_config.specs.declared.schedule.Link.{Link}
use Rattle.std.proofs.lemmas.List.Elements.{All-nil, All-head, All-tail, All-push, All-set, All-append, All-take, All-drop, All-weaker, All-get_or}
use Rattle.std.proofs.lemmas.List.Edits.{length-remove}
use Rattle.std.proofs.lemmas.List.{length-append, length-set}
use Rattle.std.proofs.lemmas.Option.{slice_get_within, get_or_from_slice_get}
use Rattle.std.proofs.lemmas.Bool.Decides.{nat_tests}
use Rattle.plan_base.specs.declared.ids.Host.{Host}
use Rattle.plan_base.specs.declared.ids.Dev.{Dev}
use Rattle.plan_base.specs.declared.name.Name.{Name}
use Rattle.plan_base.specs.declared.tree.Chunk.{Chunk}
use Rattle.wire_bytes.specs.Fields.{IsBytes}
use Rattle.packet_frame.specs.declared.frame.PlainStamped.{PlainStamped}
use Rattle.plan_base.specs.declared.stamp.Version.{Version}
use Rattle.plan_base.specs.declared.stamp.Version.TheVariants.{Two}
use Rattle.replay_window.specs.Seen.{is_fresh}
use Rattle.network_config.specs.Rules.{IsLinkDevice, KeepsInjection}
use Rattle.network_config.specs.declared.event.WorldEvent.{WorldEvent}
use Rattle.network_config.specs.declared.event.WorldEvent.TheVariants.{Inject, Send, Deliver, Repeat, Lose, Tick, Raw}
use Rattle.node_core_spec.specs.State.{Links, NodeState}
use Rattle.node_core_spec.specs.Node.{NodeStep, inject_step, stamped_step, arrive_step, tick_step, take_step}
use Rattle.node_core_spec.specs.Fits.{IsMarked, StampedKeeps, NodeFits}
use Rattle.node_core_spec.proofs.Fitting.{FrameTaken, inject_event_fits, stamped_fits, arrive_fits, tick_fits, take_fits}
use Rattle.node_core_spec.proofs.Staying.{Stays, inject_stays, stamped_stays, arrive_stays, tick_stays, take_stays}
use Rattle.node_core_spec.proofs.Windows.{SeenLater, same_later, inject_seen, arrive_later, stamped_later, stamped_taken}
use Rattle.net_world_spec.proofs.Places.{SetAt, there, elsewhere, set_at, set_of_host}
use Rattle.net_world_spec.proofs.NumberLaws.{numbers_differ}
use Rattle.net_world_spec.specs.declared.lines.Line.{Line}
use Rattle.net_world_spec.specs.declared.lines.LinkEnd.{LinkEnd}
use Rattle.net_world_spec.specs.declared.lines.FrameOnWire.{FrameOnWire}
use Rattle.net_world_spec.specs.declared.lines.Delivery.{Delivery}
use Rattle.net_world_spec.specs.declared.lines.Delivery.TheVariants.{Taking, Leaving}
use Rattle.net_world_spec.specs.World.{Cables, WorldState, EventResult, nothing, step_at, step_place, steps, none_before, injects, ticks, forged_at, raws, send_taken, send_at, send_over, send_place}
use Rattle.net_world_spec.specs.World.{sends, place_of, is_on, has_end, other_end, peer_at, peer_of, far_end, wire_place, as_handed, wire_after, hand_at, hand_to, hand_frame, hand_place, hands}
use Rattle.net_world_spec.specs.World.{lose_frame, lose_place, loses, acted_event, happens, world_after}
use Rattle.net_world_spec.specs.Sound.{WiredFits, Rise, DevicesFit, number_of, takes_at, is_fresh_at, IsStaleAt, LinkFits, IsSound, event_fits, EventsFit}

-- ---- lists

pub All-remove : {X : Type 0} (P : X → Type 0) (xs : List X) (i : ℕ) → All P xs → All P (remove xs i)
All-remove P xs i h = All-append P (take i xs) (drop (suc i) xs) (All-take P i xs h) (All-drop P (suc i) xs h)

pub at_place : {X : Type 0} (P : X → Type 0) (xs : List X) (i : ℕ) (x : X) → slice_get xs i ≡ Some x → All P xs → P x
at_place P xs i x e all = let h = All-get_or P xs i x (slice_get_within xs i x e) all in rw (get_or_from_slice_get xs i x x e) at h

module _ {X : Type 0} (key : X → ℕ) where
  pub rise-push : (xs : List X) (z : X) → Rise key xs → All (λ y. key y < key z) xs → Rise key (xs ++ z ∷ [])
  rise-push [] z r h = (All-nil (λ y. key z < key y), tt)
  rise-push (x ∷ xs) z r h =
      (All-push (λ y. key x < key y) xs z r.0 (All-head (λ y. key y < key z) x xs h), rise-push xs z r.1 (All-tail (λ y. key y < key z) x xs h))

  rise-remove : (xs : List X) (i : ℕ) → Rise key xs → Rise key (remove xs i)
  rise-remove [] zero r = tt
  rise-remove [] (suc i) r = tt
  rise-remove (x ∷ xs) zero r = r.1
  rise-remove (x ∷ xs) (suc i) r = (All-remove (λ y. key x < key y) xs i r.0, rise-remove xs i r.1)

  -- an item set anew with the same key
  rise-set : (xs : List X) (i : ℕ) (x y : X) → slice_get xs i ≡ Some x → key y ≡ key x → Rise key xs → Rise key (slice_set xs i y)
  rise-set [] i x y e k r = tt
  rise-set (z ∷ xs) zero x y e k r =
      let is : z ≡ x = cc in
      (All-weaker (λ w. key z < key w) (λ w. key y < key w) (λ w h. subst (λ n. n < key w) (ap key is ∙ sym k) h) xs r.0, r.1)
  rise-set (z ∷ xs) (suc i) x y e k r = (All-set (λ w. key z < key w) xs i y (subst (λ n. key z < n) (sym k) (at_place (λ w. key z < key w) xs i x e r.0)) r.0, rise-set xs i x y e k r.1)

-- ---- events

pub node_there : (nodes : List NodeState) (at : ℕ) (node : NodeState) → slice_get nodes at ≡ Some node → All NodeFits nodes → NodeFits node
node_there nodes at node e all = at_place NodeFits nodes at node e all

devices_stay : (v : Version) (old new : NodeState) → Stays old new → DevicesFit v old → DevicesFit v new
devices_stay v old new s d = record {
  version = s.version ∙ d.version;
  windows = s.windows ∙ d.windows;
  queues = s.count ∙ d.queues;
  devices = let P : Links → Type 0 = λ links. All (λ link. IsLinkDevice link.1) links in subst P (sym s.neighbours) d.devices;
}

-- a frame that isn't fresh stays so where a node goes on
stale_set : (nodes : List NodeState) (at : ℕ) (old new : NodeState) (x : FrameOnWire) → slice_get nodes at ≡ Some old → new.here ≡ old.here → SeenLater old.seen new.seen → is_fresh_at nodes x ≡ false
    → is_fresh_at (slice_set nodes at new) x ≡ false
stale_set nodes at old new x e same later h = by (set_at nodes at old new x.to.host e same)
  where
    by : SetAt nodes at old new x.to.host → is_fresh_at (slice_set nodes at new) x ≡ false
    by (there a b) = ap (λ o. is_fresh (takes_at x.to.dev x.frame.stamp o)) b ∙ later x.to.dev x.frame.stamp (sym (ap (λ o. is_fresh (takes_at x.to.dev x.frame.stamp o)) a) ∙ h)
    by (elsewhere a) = ap (λ o. is_fresh (takes_at x.to.dev x.frame.stamp o)) a ∙ h

wire_stale : (nodes : List NodeState) (at : ℕ) (old new : NodeState) (wire : List FrameOnWire) → slice_get nodes at ≡ Some old → new.here ≡ old.here → SeenLater old.seen new.seen → All (IsStaleAt nodes) wire
    → All (IsStaleAt (slice_set nodes at new)) wire
wire_stale nodes at old new wire e same later all = All-weaker (IsStaleAt nodes) (IsStaleAt (slice_set nodes at new)) (λ x k h. stale_set nodes at old new x e same later (k h)) wire all

-- the limits after an event, before it is counted
record EventFits (w : WorldState) (h : EventResult) : Type 0 where
  nodes : All NodeFits h.world.nodes
  devices : All (DevicesFit h.world.version) h.world.nodes
  links : All LinkFits h.world.links
  wire : All (WiredFits (StampedKeeps h.world.version) h.world.«next») h.world.wire
  stale : All (IsStaleAt h.world.nodes) h.world.wire
  once : Rise number_of h.world.wire
  room : length h.world.wire ≤ 4096
  next : h.world.«next» ≤ w.«next» + 1
  made : h.world.made ≡ w.made
  version : h.world.version ≡ w.version

nothing_fits : (w : WorldState) → IsSound w → EventFits w (nothing w)
nothing_fits w s = record { nodes = s.nodes; devices = s.devices; links = s.links; wire = s.wire; stale = s.stale; once = s.once; room = s.room; next = omega arith; made = refl; version = refl }

-- a step that keeps what nodes of a version keep
record Keeps (v : Version) (step : NodeState → NodeStep) : Type 0 where
  fits : (node : NodeState) → node.version ≡ v → NodeFits node → NodeFits (step node).node
  stays : (node : NodeState) → Stays node (step node).node
  later : (node : NodeState) → SeenLater node.seen (step node).node.seen

step_at_fits : (w : WorldState) (h : Host) (before : NodeState → List Line) (step : NodeState → NodeStep) (at : ℕ) (o : Option NodeState) → Keeps w.version step → slice_get w.nodes at ≡ o → IsSound w
    → EventFits w (step_at w h before step at o)
unfolding step_at
step_at_fits w h before step at None k e s = nothing_fits w s
step_at_fits w h before step at (Some node) k e s = record {
  nodes = All-set NodeFits w.nodes at _ (k.fits node (at_place (DevicesFit w.version) w.nodes at node e s.devices).version (node_there w.nodes at node e s.nodes)) s.nodes;
  devices = All-set (DevicesFit w.version) w.nodes at _ (devices_stay w.version node _ (k.stays node) (at_place (DevicesFit w.version) w.nodes at node e s.devices)) s.devices;
  links = s.links;
  wire = s.wire;
  stale = wire_stale w.nodes at node (step node).node w.wire e (k.stays node).here (k.later node) s.stale;
  once = s.once;
  room = s.room;
  next = omega arith;
  made = refl;
  version = refl;
}

step_place_fits : (w : WorldState) (h : Host) (before : NodeState → List Line) (step : NodeState → NodeStep) (o : Option ℕ) → Keeps w.version step → IsSound w → EventFits w (step_place w h before step o)
unfolding step_place
step_place_fits w h before step None k s = nothing_fits w s
step_place_fits w h before step (Some at) k s = step_at_fits w h before step at (slice_get w.nodes at) k refl s

steps_fit : (w : WorldState) (h : Host) (before : NodeState → List Line) (step : NodeState → NodeStep) → Keeps w.version step → IsSound w → EventFits w (steps w h before step)
unfolding steps
steps_fit w h before step k s = step_place_fits w h before step (place_of w.nodes h) k s

injects_fit : (w : WorldState) (h : Host) (chunk : Chunk) (bound : ℕ) (handler : Option Name) → KeepsInjection w.version chunk bound handler → IsSound w → EventFits w (injects w h chunk bound handler)
injects_fit w h chunk bound handler k s = steps_fit w h none_before (λ node. inject_step [] node chunk bound handler) (record {
  fits = λ node v n. (inject_event_fits node chunk bound handler (subst (λ u. KeepsInjection u chunk bound handler) (sym v) k) n).node;
  stays = λ node. inject_stays node chunk bound handler;
  later = λ node. same_later _ _ (inject_seen node chunk bound handler);
}) s

ticks_fit : (w : WorldState) (h : Host) → IsSound w → EventFits w (ticks w h)
ticks_fit w h s = steps_fit w h none_before tick_step (record { fits = λ node v n. (tick_fits node n).node; stays = λ node. (tick_stays node).node; later = λ node. same_later _ _ (tick_stays node).seen }) s

raws_fit : (w : WorldState) (h : Host) (d : Dev) (bytes : List ℕ) → IsBytes bytes → IsSound w → EventFits w (raws w h d bytes)
raws_fit w h d bytes b s = steps_fit w h (forged_at h bytes) (λ node. arrive_step node d bytes)
    (record { fits = λ node v n. (arrive_fits node d bytes b n).node; stays = λ node. (arrive_stays node d bytes).node; later = λ node. arrive_later node d bytes }) s

later_number : (v : Version) (next : ℕ) (x : FrameOnWire) → WiredFits (StampedKeeps v) next x → WiredFits (StampedKeeps v) (next + 1) x
later_number v next x h = record { number = omega (arith, h.number); device = h.device; frame = h.frame }

wire_room : (n : ℕ) → nat_lt n 4096 ≡ true → n + 1 ≤ 4096
wire_room n e = grind (arith, nat_tests)

below_next : (v : Version) (next : ℕ) (wire : List FrameOnWire) → All (WiredFits (StampedKeeps v) next) wire → All (λ y. number_of y < next) wire
below_next v next wire h = All-weaker (WiredFits (StampedKeeps v) next) (λ y. number_of y < next) (λ x k. k.number) wire h

-- a frame of a node is one of the network's version
of_version : (a b v : Version) (x : PlainStamped) → a ≡ b → b ≡ v → StampedKeeps a x → StampedKeeps v x
of_version a b v x p q k = subst (λ u. StampedKeeps u x) (p ∙ q) k

send_taken_fits : (w : WorldState) (h : Host) (d : Dev) (at : ℕ) (to : LinkEnd) (node : NodeState) (step : NodeStep) (o : Option PlainStamped) → to.dev.0 ≤ 8 → nat_lt (length w.wire) 4096 ≡ true → slice_get w.nodes at ≡ Some node
    → step.frame ≡ o → NodeFits step.node → Stays node step.node → step.node.seen ≡ node.seen → FrameTaken step.node.version step.frame → IsSound w → EventFits w (send_taken w h d at to step o)
unfolding send_taken
send_taken_fits w h d at to node step None dev n e q f y l t s = nothing_fits w s
send_taken_fits w h d at to node step (Some x) dev n e q f y l t s =
    let own : StampedKeeps step.node.version x = rw q at t in
    let fits : StampedKeeps w.version x = of_version step.node.version node.version w.version x y.version (at_place (DevicesFit w.version) w.nodes at node e s.devices).version own in
    let wired : FrameOnWire = record { number = w.«next»; from = record { host = h; dev = d }; to = to; frame = x; handed = false } in
    let K = StampedKeeps w.version in
    record {
      nodes = All-set NodeFits w.nodes at step.node f s.nodes;
      devices = All-set (DevicesFit w.version) w.nodes at step.node (devices_stay w.version node step.node y (at_place (DevicesFit w.version) w.nodes at node e s.devices)) s.devices;
      links = s.links;
      wire = All-push (WiredFits K (w.«next» + 1)) w.wire wired (All-weaker (WiredFits K w.«next») (WiredFits K (w.«next» + 1)) (later_number w.version w.«next») w.wire s.wire)
          (record { number = omega arith; device = dev; frame = fits });
      stale = All-push (IsStaleAt (slice_set w.nodes at step.node)) w.wire wired (wire_stale w.nodes at node step.node w.wire e y.here (same_later _ _ l) s.stale) (λ h. absurd (never h));
      once = rise-push number_of w.wire wired s.once (below_next w.version w.«next» w.wire s.wire);
      room = omega (arith, wire_room (length w.wire) n, length-append {A = FrameOnWire} w.wire (wired ∷ []));
      next = omega arith;
      made = refl;
      version = refl;
    }
  where
    never : false ≡ true → ⊥
    never h = cc

send_at_fits : (w : WorldState) (h : Host) (d : Dev) (at : ℕ) (to : LinkEnd) (o : Option NodeState) → to.dev.0 ≤ 8 → nat_lt (length w.wire) 4096 ≡ true → slice_get w.nodes at ≡ o → IsSound w → EventFits w (send_at w h d at to o)
unfolding send_at
send_at_fits w h d at to None dev n e s = nothing_fits w s
send_at_fits w h d at to (Some node) dev n e s =
    let f = take_fits node d (node_there w.nodes at node e s.nodes) in
    let y = take_stays node d in
    send_taken_fits w h d at to node (take_step node d) (take_step node d).frame dev n e refl f.node y.node y.seen f.frame s

room_cases : (t : Bool) (w : WorldState) (a : EventResult) → (t ≡ true → EventFits w a) → IsSound w → EventFits w (cond t a (nothing w))
room_cases true w a h s = h refl
room_cases false w a h s = nothing_fits w s

-- a link leads to a device up to 8, and device 0 to itself
far_within : (links : Cables) (h : Host) (d : Dev) (to : LinkEnd) → All LinkFits links → far_end links h d ≡ Some to → to.dev.0 ≤ 8
unfolding far_end peer_of
far_within links h d to all e = by (d.0 == 0) refl e
  where
    end_within : (c : Link) → LinkFits c → (t : Bool) → (if t then Some (record { host = c.to; dev = c.to_dev }) else Some (record { host = c.from; dev = c.from_dev })) ≡ Some to → to.dev.0 ≤ 8
    end_within c f true q = let is : ◌≡◌ {A = LinkEnd} (record { host = c.to; dev = c.to_dev }) to = some_inj q in let n = ap (λ x. x.dev.0) is in omega (arith, n, f.1.1)
    end_within c f false q = let is : ◌≡◌ {A = LinkEnd} (record { host = c.from; dev = c.from_dev }) to = some_inj q in let n = ap (λ x. x.dev.0) is in omega (arith, n, f.0.1)

    other_within : (at : ℕ) (o : Option Link) → slice_get links at ≡ o → other_end h d o ≡ Some to → to.dev.0 ≤ 8
    other_within at None g q = cc
    other_within at (Some c) g q = end_within c (at_place LinkFits links at c g all) (has_end h d c.from c.from_dev) q

    peer_within : (o : Option ℕ) → peer_at links h d o ≡ Some to → to.dev.0 ≤ 8
    peer_within None q = cc
    peer_within (Some at) q = other_within at (slice_get links at) refl q

    own_within : d.0 ≡ 0 → Some (record { host = h; dev = d }) ≡ Some to → to.dev.0 ≤ 8
    own_within z q = let is : ◌≡◌ {A = LinkEnd} (record { host = h; dev = d }) to = some_inj q in let n = ap (λ x. x.dev.0) is in omega (arith, n, z)

    zero_is : (n : ℕ) → (n == 0) ≡ true → n ≡ 0
    zero_is n k = grind (arith, nat_tests)

    by : (t : Bool) → (d.0 == 0) ≡ t → (if t then Some (record { host = h; dev = d }) else peer_of links h d) ≡ Some to → to.dev.0 ≤ 8
    by true z q = own_within (zero_is d.0 z) q
    by false z q = peer_within (position (is_on h d) links) q

send_over_fits : (w : WorldState) (h : Host) (d : Dev) (at : ℕ) (o : Option LinkEnd) → far_end w.links h d ≡ o → IsSound w → EventFits w (send_over w h d at o)
unfolding send_over
send_over_fits w h d at None l s = nothing_fits w s
send_over_fits w h d at (Some to) l s = room_cases (nat_lt (length w.wire) 4096) w _ (λ n. send_at_fits w h d at to (slice_get w.nodes at) (far_within w.links h d to s.links l) n refl s) s

send_place_fits : (w : WorldState) (h : Host) (d : Dev) (o : Option ℕ) → IsSound w → EventFits w (send_place w h d o)
unfolding send_place
send_place_fits w h d None s = nothing_fits w s
send_place_fits w h d (Some at) s = send_over_fits w h d at (far_end w.links h d) refl s

sends_fit : (w : WorldState) (h : Host) (d : Dev) → IsSound w → EventFits w (sends w h d)
unfolding sends
sends_fit w h d s = send_place_fits w h d (place_of w.nodes h) s

pub wired_of : (v : Version) (next : ℕ) (wire : List FrameOnWire) (at : ℕ) (x : FrameOnWire) → slice_get wire at ≡ Some x → All (WiredFits (StampedKeeps v) next) wire → WiredFits (StampedKeeps v) next x
wired_of v next wire at x e all = at_place (WiredFits (StampedKeeps v) next) wire at x e all

-- what the wire keeps where a frame is taken off, or stays as one that was handed
record WireFits (v : Version) (next : ℕ) (nodes : List NodeState) (wire : List FrameOnWire) : Type 0 where
  fits : All (WiredFits (StampedKeeps v) next) wire
  stale : All (IsStaleAt nodes) wire
  once : Rise number_of wire
  room : length wire ≤ 4096

hand_wire : (how : Delivery) (v : Version) (next : ℕ) (nodes : List NodeState) (wire : List FrameOnWire) (place : ℕ) (x : FrameOnWire) → slice_get wire place ≡ Some x → WireFits v next nodes wire
    → (how ≡ Leaving → is_fresh_at nodes x ≡ false) → WireFits v next nodes (wire_after how wire place x)
hand_wire Taking v next nodes wire place x e k h = record {
  fits = All-remove (WiredFits (StampedKeeps v) next) wire place k.fits;
  stale = All-remove (IsStaleAt nodes) wire place k.stale;
  once = rise-remove number_of wire place k.once;
  room = omega (arith, length-remove wire place (slice_get_within wire place x e), k.room);
}
hand_wire Leaving v next nodes wire place x e k h =
    let f = at_place (WiredFits (StampedKeeps v) next) wire place x e k.fits in
    record {
      fits = All-set (WiredFits (StampedKeeps v) next) wire place (as_handed x) (record { number = f.number; device = f.device; frame = f.frame }) k.fits;
      stale = All-set (IsStaleAt nodes) wire place (as_handed x) (λ q. h refl) k.stale;
      once = rise-set number_of wire place x (as_handed x) e refl k.once;
      room = omega (arith, length-set wire place (as_handed x), k.room);
    }

hand_at_fits : (w : WorldState) (how : Delivery) (place : ℕ) (x : FrameOnWire) (at : ℕ) (o : Option NodeState) → (how ≡ Leaving → w.version ≡ Two) → slice_get w.wire place ≡ Some x → place_of w.nodes x.to.host ≡ Some at
    → slice_get w.nodes at ≡ o → IsSound w → EventFits w (hand_at w how place x at o)
unfolding hand_at
hand_at_fits w how place x at None two q p e s = nothing_fits w s
hand_at_fits w how place x at (Some node) two q p e s =
    let step = stamped_step node x.to.dev x.frame in
    let on = wired_of w.version w.«next» w.wire place x q s.wire in
    let d = at_place (DevicesFit w.version) w.nodes at node e s.devices in
    let y = stamped_stays node x.to.dev x.frame in
    let nodes = slice_set w.nodes at step.node in
    let wire = hand_wire how w.version w.«next» nodes w.wire place x q
    (record { fits = s.wire; stale = wire_stale w.nodes at node step.node w.wire e y.node.here (stamped_later node x.to.dev x.frame) s.stale; once = s.once; room = s.room })
    (λ l. not_fresh on d y.node.here (two l)) in
    record {
      nodes = All-set NodeFits w.nodes at step.node (stamped_fits node x.to.dev x.frame on.frame.frame (node_there w.nodes at node e s.nodes)).node s.nodes;
      devices = All-set (DevicesFit w.version) w.nodes at step.node (devices_stay w.version node step.node y.node d) s.devices;
      links = s.links;
      wire = wire.fits;
      stale = wire.stale;
      once = wire.once;
      room = wire.room;
      next = omega arith;
      made = refl;
      version = refl;
    }
  where
    not_fresh : WiredFits (StampedKeeps w.version) w.«next» x → DevicesFit w.version node → (stamped_step node x.to.dev x.frame).node.here ≡ node.here → w.version ≡ Two
        → is_fresh_at (slice_set w.nodes at (stamped_step node x.to.dev x.frame).node) x ≡ false
    not_fresh on d same t =
        let marked : IsMarked Two x.frame.stamp = subst (λ v. IsMarked v x.frame.stamp) t on.frame.mark in
        let within : x.to.dev.0 < length node.seen = omega (arith, on.device, d.windows) in
        ap (λ o. is_fresh (takes_at x.to.dev x.frame.stamp o)) (set_of_host w.nodes x.to.host at node (stamped_step node x.to.dev x.frame).node p e same) ∙ stamped_taken node x.to.dev x.frame marked within

hand_to_fits : (w : WorldState) (how : Delivery) (place : ℕ) (x : FrameOnWire) (o : Option ℕ) → (how ≡ Leaving → w.version ≡ Two) → slice_get w.wire place ≡ Some x → place_of w.nodes x.to.host ≡ o → IsSound w
    → EventFits w (hand_to w how place x o)
unfolding hand_to
hand_to_fits w how place x None two q p s = nothing_fits w s
hand_to_fits w how place x (Some at) two q p s = hand_at_fits w how place x at (slice_get w.nodes at) two q p refl s

hand_frame_fits : (w : WorldState) (how : Delivery) (place : ℕ) (o : Option FrameOnWire) → (how ≡ Leaving → w.version ≡ Two) → slice_get w.wire place ≡ o → IsSound w → EventFits w (hand_frame w how place o)
unfolding hand_frame
hand_frame_fits w how place None two q s = nothing_fits w s
hand_frame_fits w how place (Some x) two q s = hand_to_fits w how place x (place_of w.nodes x.to.host) two q refl s

hand_place_fits : (w : WorldState) (how : Delivery) (o : Option ℕ) → (how ≡ Leaving → w.version ≡ Two) → IsSound w → EventFits w (hand_place w how o)
unfolding hand_place
hand_place_fits w how None two s = nothing_fits w s
hand_place_fits w how (Some place) two s = hand_frame_fits w how place (slice_get w.wire place) two refl s

hands_fit : (w : WorldState) (how : Delivery) (number : ℕ) → (how ≡ Leaving → w.version ≡ Two) → IsSound w → EventFits w (hands w how number)
unfolding hands
hands_fit w how number two s = hand_place_fits w how (wire_place w.wire number) two s

lose_frame_fits : (w : WorldState) (place : ℕ) (o : Option FrameOnWire) → slice_get w.wire place ≡ o → IsSound w → EventFits w (lose_frame w place o)
unfolding lose_frame
lose_frame_fits w place None q s = nothing_fits w s
lose_frame_fits w place (Some x) q s = record {
  nodes = s.nodes;
  devices = s.devices;
  links = s.links;
  version = refl;
  wire = All-remove (WiredFits (StampedKeeps w.version) w.«next») w.wire place s.wire;
  stale = All-remove (IsStaleAt w.nodes) w.wire place s.stale;
  once = rise-remove number_of w.wire place s.once;
  room = omega (arith, length-remove w.wire place (slice_get_within w.wire place x q), s.room);
  next = omega arith;
  made = refl;
}

lose_place_fits : (w : WorldState) (o : Option ℕ) → IsSound w → EventFits w (lose_place w o)
unfolding lose_place
lose_place_fits w None s = nothing_fits w s
lose_place_fits w (Some place) s = lose_frame_fits w place (slice_get w.wire place) refl s

loses_fit : (w : WorldState) (number : ℕ) → IsSound w → EventFits w (loses w number)
unfolding loses
loses_fit w number s = lose_place_fits w (wire_place w.wire number) s

acted_fits : (w : WorldState) (e : WorldEvent) → event_fits w.version e → IsSound w → EventFits w (acted_event w e)
acted_fits w (Inject h chunk bound handler) b s = injects_fit w h chunk bound handler b s
acted_fits w (Send h d) b s = sends_fit w h d s
acted_fits w (Deliver number) b s = hands_fit w Taking number (λ l. absurd (never l)) s
  where
    never : Taking ≡ Leaving → ⊥
    never l = cc
acted_fits w (Repeat number) b s = hands_fit w Leaving number (λ l. b) s
acted_fits w (Lose number) b s = loses_fit w number s
acted_fits w (Tick h) b s = ticks_fit w h s
acted_fits w (Raw h d bytes) b s = raws_fit w h d bytes b.1 s

-- each event keeps the limits
pub event_sound : (w : WorldState) (e : WorldEvent) → event_fits w.version e → IsSound w → IsSound (happens w e).world
event_sound w e b s =
    let f = acted_fits w e b s in
    record {
      nodes = f.nodes;
      devices = f.devices;
      links = f.links;
      wire = f.wire;
      stale = f.stale;
      differ = numbers_differ w s.differ e;
      once = f.once;
      room = f.room;
      numbers = omega (arith, f.next, f.made, s.numbers);
    }

-- what events of this version fit stays so
pub event_version : (w : WorldState) (e : WorldEvent) → event_fits w.version e → IsSound w → (happens w e).world.version ≡ w.version
event_version w e b s = (acted_fits w e b s).version

pub rest_fits : (v : Version) (w : WorldState) (es : List WorldEvent) → v ≡ w.version → EventsFit w.version es → EventsFit v es
rest_fits v w es q h = subst (λ u. EventsFit u es) (sym q) h

-- and so does each run
pub run_sound : (es : List WorldEvent) (w : WorldState) → EventsFit w.version es → IsSound w → IsSound (world_after es w)
unfolding world_after
run_sound [] w b s = s
run_sound (e ∷ es) w b s =
    let first = All-head (event_fits w.version) e es b in
    let next = (happens w e).world in
    run_sound es next (rest_fits next.version w es (event_version w e first s) (All-tail (event_fits w.version) e es b)) (event_sound w e first s)

-- a network keeps its version
pub run_version : (es : List WorldEvent) (w : WorldState) → EventsFit w.version es → IsSound w → (world_after es w).version ≡ w.version
unfolding world_after
run_version [] w b s = refl
run_version (e ∷ es) w b s =
    let first = All-head (event_fits w.version) e es b in
    let next = (happens w e).world in
    let same = event_version w e first s in
    run_version es next (rest_fits next.version w es same (All-tail (event_fits w.version) e es b)) (event_sound w e first s) ∙ same

-- the number of events
pub run_made : (es : List WorldEvent) (w : WorldState) → EventsFit w.version es → IsSound w → (world_after es w).made ≡ w.made + length es
unfolding world_after
run_made [] w b s = omega arith
run_made (e ∷ es) w b s =
    let first = All-head (event_fits w.version) e es b in
    let next = (happens w e).world in
    let f = acted_fits w e first s in
    omega (arith, f.made, run_made es next (rest_fits next.version w es f.version (All-tail (event_fits w.version) e es b)) (event_sound w e first s))
