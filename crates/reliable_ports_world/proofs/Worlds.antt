-- Events of a network whose packets carry known chunks.
use Rattle.std.proofs.Common.{◌≡◌, ℕ, zero, suc, Bool, true, false, if◌then◌else◌, List, [], ◌∷◌, length, take, drop, Option, Some, None, refl, subst}
use Rattle.std.specs.Prelude.{slice_get, slice_set, remove, nat_lt}
use Rattle.std.specs.List.{AllByRecursion}
use Rattle.plan_base.specs.declared.ids.Host.{Host}
use Rattle.plan_base.specs.declared.ids.Dev.{Dev}
use Rattle.packet_frame.specs.declared.frame.PlainStamped.{PlainStamped}
use Rattle.packet_frame.specs.Stamped.{stamped_bytes}
use Rattle.network_config.specs.declared.event.WorldEvent.{WorldEvent}
use Rattle.network_config.specs.declared.event.WorldEvent.TheVariants as event
use Rattle.node_core_spec.specs.declared.acts.Act.{Act}
use Rattle.node_core_spec.specs.State.{NodeState}
use Rattle.node_core_spec.specs.Node.{NodeStep, inject_step, stamped_step, take_step, tick_step}
use Rattle.net_world_spec.specs.declared.lines.Line.{Line}
use Rattle.net_world_spec.specs.declared.lines.Line.TheVariants.{Wire}
use Rattle.net_world_spec.specs.declared.lines.LinkEnd.{LinkEnd}
use Rattle.net_world_spec.specs.declared.lines.FrameOnWire.{FrameOnWire}
use Rattle.net_world_spec.specs.declared.lines.Delivery.{Delivery}
use Rattle.net_world_spec.specs.declared.lines.Delivery.TheVariants.{Taking, Leaving}
use Rattle.net_world_spec.specs.World.{WorldState, nothing, lines_at, steps_at, step_at, step_place, steps, place_of, far_end, send_taken, send_at, send_over, send_place, sends, none_before}
use Rattle.net_world_spec.specs.World.{hand_line, as_handed, wire_after, with_wire, without_frame, wire_place, hand_at, hand_to, hand_frame, hand_place, hands, lose_frame, lose_place, loses}
use Rattle.net_world_spec.specs.World.{acted_event, happens}
use Rattle.reliable_ports_world.specs.Only.{Allowed}
use Rattle.reliable_ports_world.specs.Known.{IsClosed, StampedKnown, NodeKnown, ActKnown, TakenKnown, StepKnown, WorldKnown, LineKnown, EventKnown, ComesKnown}
use Rattle.reliable_ports_world.proofs.KnownNodes.{all_append, inject_known, stamped_known, take_known, tick_known}

pub all_get : {X : Type 0} (P : X → Type 0) (xs : List X) (k : ℕ) (x : X) → AllByRecursion P xs → slice_get xs k ≡ Some x → P x
all_get P [] k x h e = absurd cc
all_get P (y ∷ xs) zero x h e = let s : y ≡ x = cc in subst P s h.0
all_get P (y ∷ xs) (suc k) x h e = all_get P xs k x h.1 e

pub all_set : {X : Type 0} (P : X → Type 0) (xs : List X) (k : ℕ) (x : X) → AllByRecursion P xs → P x → AllByRecursion P (slice_set xs k x)
all_set P [] k x h p = tt
all_set P (y ∷ xs) zero x h p = (p, h.1)
all_set P (y ∷ xs) (suc k) x h p = (h.0, all_set P xs k x h.1 p)

pub all_take : {X : Type 0} (P : X → Type 0) (n : ℕ) (xs : List X) → AllByRecursion P xs → AllByRecursion P (take n xs)
all_take P zero xs h = tt
all_take P (suc n) [] h = tt
all_take P (suc n) (x ∷ xs) h = (h.0, all_take P n xs h.1)

all_drop : {X : Type 0} (P : X → Type 0) (n : ℕ) (xs : List X) → AllByRecursion P xs → AllByRecursion P (drop n xs)
all_drop P zero xs h = h
all_drop P (suc n) [] h = tt
all_drop P (suc n) (x ∷ xs) h = all_drop P n xs h.1

pub all_remove : {X : Type 0} (P : X → Type 0) (xs : List X) (k : ℕ) → AllByRecursion P xs → AllByRecursion P (remove xs k)
all_remove P xs k h = all_append P (take k xs) (drop (suc k) xs) (all_take P k xs h) (all_drop P (suc k) xs h)

module _ (a : Allowed) (closed : IsClosed a) where
  abbrev Carried : FrameOnWire → Type 0
  Carried x = StampedKnown a x.frame

  lines_known : (h : Host) (acts : List Act) → AllByRecursion (ActKnown a) acts → AllByRecursion (LineKnown a) (lines_at h acts)
  unfolding lines_at
  lines_known h [] k = tt
  lines_known h (x ∷ xs) k = (k.0, lines_known h xs k.1)

  nothing_known : (w : WorldState) → WorldKnown a w → EventKnown a (nothing w)
  nothing_known w k = record { world = k; lines = (tt, tt) }

  -- ---- a step of one node
  pub at_known : (w : WorldState) (h : Host) (at : ℕ) (before : List Line) (step : NodeStep) → AllByRecursion (LineKnown a) before → WorldKnown a w → StepKnown a step → EventKnown a (steps_at w h at before step)
  at_known w h at before step b k s = record {
    world = record { nodes = all_set (NodeKnown a) w.nodes at step.node k.nodes s.node; wire = k.wire };
    lines = all_append (LineKnown a) before (lines_at h step.acts) b (lines_known h step.acts s.acts);
  }

  steps_known : (w : WorldState) (h : Host) (step : NodeState → NodeStep) → ((node : NodeState) → NodeKnown a node → StepKnown a (step node)) → WorldKnown a w → EventKnown a (steps w h none_before step)
  unfolding steps step_place step_at
  steps_known w h step f k = place (place_of w.nodes h)
    where
      one : (at : ℕ) (o : Option NodeState) → slice_get w.nodes at ≡ o → EventKnown a (step_at w h none_before step at o)
      one at None e = nothing_known w k
      one at (Some node) e = at_known w h at [] (step node) tt k (f node (all_get (NodeKnown a) w.nodes at node k.nodes e))

      place : (o : Option ℕ) → EventKnown a (step_place w h none_before step o)
      place None = nothing_known w k
      place (Some at) = one at (slice_get w.nodes at) refl

  -- ---- sends
  taken_known : (w : WorldState) (h : Host) (d : Dev) (at : ℕ) (to : LinkEnd) (step : NodeStep) (o : Option PlainStamped) → step.frame ≡ o → WorldKnown a w → StepKnown a step → EventKnown a (send_taken w h d at to step o)
  unfolding send_taken
  taken_known w h d at to step None e k s = nothing_known w k
  taken_known w h d at to step (Some x) e k s = record {
    world = record {
      nodes = all_set (NodeKnown a) w.nodes at step.node k.nodes s.node;
      wire = all_append Carried w.wire (record { number = w.«next»; from = record { host = h; dev = d }; to = to; frame = x; handed = false } ∷ []) k.wire (subst (TakenKnown a) e s.frame, tt);
    };
    lines = all_append (LineKnown a) (lines_at h step.acts) (Wire w.«next» (stamped_bytes x) ∷ []) (lines_known h step.acts s.acts) (tt, tt);
  }

  sends_known : (w : WorldState) (h : Host) (d : Dev) → WorldKnown a w → EventKnown a (sends w h d)
  unfolding sends send_place send_over send_at
  sends_known w h d k = place (place_of w.nodes h)
    where
      one : (at : ℕ) (to : LinkEnd) (o : Option NodeState) → slice_get w.nodes at ≡ o → EventKnown a (send_at w h d at to o)
      one at to None e = nothing_known w k
      one at to (Some node) e = taken_known w h d at to (take_step node d) (take_step node d).frame refl k (take_known a closed node d (all_get (NodeKnown a) w.nodes at node k.nodes e))

      room : (at : ℕ) (to : LinkEnd) (t : Bool) → EventKnown a (if t then send_at w h d at to (slice_get w.nodes at) else nothing w)
      room at to true = one at to (slice_get w.nodes at) refl
      room at to false = nothing_known w k

      over : (at : ℕ) (o : Option LinkEnd) → EventKnown a (send_over w h d at o)
      over at None = nothing_known w k
      over at (Some to) = room at to (nat_lt (length w.wire) 4096)

      place : (o : Option ℕ) → EventKnown a (send_place w h d o)
      place None = nothing_known w k
      place (Some at) = over at (far_end w.links h d)

  -- ---- handings and losses

  after_known : (how : Delivery) (wire : List FrameOnWire) (n : ℕ) (x : FrameOnWire) → AllByRecursion Carried wire → Carried x → AllByRecursion Carried (wire_after how wire n x)
  after_known Taking wire n x k c = all_remove Carried wire n k
  after_known Leaving wire n x k c = all_set Carried wire n (as_handed x) k c

  hand_line_known : (how : Delivery) (n : ℕ) → LineKnown a (hand_line how n)
  hand_line_known Taking n = tt
  hand_line_known Leaving n = tt

  hands_known : (w : WorldState) (how : Delivery) (n : ℕ) → WorldKnown a w → EventKnown a (hands w how n)
  unfolding hands hand_place hand_frame hand_to hand_at
  hands_known w how n k = place (wire_place w.wire n)
    where
      node_at : (at0 : ℕ) (x : FrameOnWire) (at : ℕ) (o : Option NodeState) → slice_get w.nodes at ≡ o → Carried x → EventKnown a (hand_at w how at0 x at o)
      node_at at0 x at None e c = nothing_known w k
      node_at at0 x at (Some node) e c =
          at_known (with_wire w (wire_after how w.wire at0 x)) x.to.host at (hand_line how x.number ∷ []) (stamped_step node x.to.dev x.frame) (hand_line_known how x.number, tt)
          (record { nodes = k.nodes; wire = after_known how w.wire at0 x k.wire c }) (stamped_known a closed node x.to.dev x.frame c (all_get (NodeKnown a) w.nodes at node k.nodes e))

      to_node : (at0 : ℕ) (x : FrameOnWire) (o : Option ℕ) → Carried x → EventKnown a (hand_to w how at0 x o)
      to_node at0 x None c = nothing_known w k
      to_node at0 x (Some at) c = node_at at0 x at (slice_get w.nodes at) refl c

      frame : (at0 : ℕ) (o : Option FrameOnWire) → slice_get w.wire at0 ≡ o → EventKnown a (hand_frame w how at0 o)
      frame at0 None e = nothing_known w k
      frame at0 (Some x) e = to_node at0 x (place_of w.nodes x.to.host) (all_get Carried w.wire at0 x k.wire e)

      place : (o : Option ℕ) → EventKnown a (hand_place w how o)
      place None = nothing_known w k
      place (Some at0) = frame at0 (slice_get w.wire at0) refl

  off_known : (w : WorldState) (n : ℕ) → WorldKnown a w → WorldKnown a (without_frame w n)
  off_known w n k = record { nodes = k.nodes; wire = all_remove Carried w.wire n k.wire }

  loses_known : (w : WorldState) (n : ℕ) → WorldKnown a w → EventKnown a (loses w n)
  unfolding loses lose_place lose_frame
  loses_known w n k = place (wire_place w.wire n)
    where
      frame : (at0 : ℕ) (o : Option FrameOnWire) → EventKnown a (lose_frame w at0 o)
      frame at0 None = nothing_known w k
      frame at0 (Some x) = record { world = off_known w at0 k; lines = (tt, (tt, tt)) }

      place : (o : Option ℕ) → EventKnown a (lose_place w o)
      place None = nothing_known w k
      place (Some at0) = frame at0 (slice_get w.wire at0)

  -- ---- all events
  acted_known : (w : WorldState) (e : WorldEvent) → ComesKnown a e → WorldKnown a w → EventKnown a (acted_event w e)
  acted_known w (event.Inject h c b o) q k = steps_known w h (λ node. inject_step [] node c b o) (λ node n. inject_known a closed node c b o q n) k
  acted_known w (event.Send h d) q k = sends_known w h d k
  acted_known w (event.Deliver n) q k = hands_known w Taking n k
  acted_known w (event.Repeat n) q k = hands_known w Leaving n k
  acted_known w (event.Lose n) q k = loses_known w n k
  acted_known w (event.Tick h) q k = steps_known w h tick_step (λ node n. tick_known a closed node n) k
  acted_known w (event.Raw h d bytes) q k = absurd q

  pub event_known : (w : WorldState) (e : WorldEvent) → ComesKnown a e → WorldKnown a w → EventKnown a (happens w e)
  event_known w e q k = let r = acted_known w e q k in record { world = record { nodes = r.world.nodes; wire = r.world.wire }; lines = r.lines }
