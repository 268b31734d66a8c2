-- Under version 2: what one device sent, on the wire and in its queue, ascends in number and stays below the next one given.
use Rattle.std.proofs.Common.{◌≡◌, ℕ, zero, suc, ◌<◌, Bool, true, false, cond, List, [], ◌∷◌, ◌++◌, Option, Some, None, refl, sym, ap, ◌∙◌, subst, append_assoc, arith}
use Rattle.std.specs.Prelude.{slice_get, slice_set, remove, ◌==◌, ◌&&◌, nat_lt, length}
use Rattle.std.specs.List.{All, flat_map}
use Rattle.std.proofs.lemmas.List.Elements.{All-cons, All-head, All-tail}
use Rattle.std.proofs.lemmas.Bool.{eqb-true}
use Rattle.std.proofs.lemmas.Bool.Decides.{nat_tests}
use Rattle.std.proofs.lemmas.List.{append-nil}
use Rattle.plan_base.specs.declared.ids.Host.{Host}
use Rattle.plan_base.specs.declared.ids.Dev.{Dev}
use Rattle.packet_frame.specs.declared.frame.PlainStamped.{PlainStamped}
use Rattle.node_core_spec.specs.declared.acts.TxQueue.{TxQueue}
use Rattle.node_core_spec.specs.State.{Queues, NodeState, is_host}
use Rattle.net_world_spec.specs.declared.lines.FrameOnWire.{FrameOnWire}
use Rattle.net_world_spec.specs.declared.lines.Delivery.{Delivery}
use Rattle.net_world_spec.specs.declared.lines.Delivery.TheVariants.{Taking, Leaving}
use Rattle.net_world_spec.specs.World.{WorldState, EventResult, nothing, step_at, step_place, steps, none_before, forged_at, send_taken, send_at, send_over, send_place, sends, place_of, far_end}
use Rattle.net_world_spec.specs.World.{wire_place, as_handed, wire_after, hand_at, hand_to, hand_frame, hand_place, hands, lose_frame, lose_place, loses, acted_event, happens}
use Rattle.net_world_spec.specs.Sound.{node_of, is_from, from_numbers, sent_numbers, NumbersDiffer}
use Rattle.net_world_spec.specs.declared.lines.Line.{Line}
use Rattle.net_world_spec.specs.declared.lines.LinkEnd.{LinkEnd}
use Rattle.network_config.specs.declared.event.WorldEvent.{WorldEvent}
use Rattle.network_config.specs.declared.event.WorldEvent.TheVariants.{Inject, Send, Deliver, Repeat, Lose, Tick, Raw}
use Rattle.node_core_spec.specs.Node.{NodeStep, inject_step, tick_step, arrive_step, stamped_step, take_first, take_from, take_step}
use Rattle.node_core_spec.proofs.Staying.{inject_stays, tick_stays, arrive_stays, stamped_stays}
use Rattle.containers.proofs.Binds.{some_inj}
use Rattle.node_core_spec.specs.Numbers.{Ascend, NumbersFit, FitsAt, link_in, numbers_in}
use Rattle.node_core_spec.proofs.Numbers.{taken_fits, inject_rises, tick_rises, arrive_rises, stamped_rises}
use Rattle.net_world_spec.proofs.Places.{SetAt, there, elsewhere, set_at, first_of_host, set_of_host}

-- ---- lists

-- what holds of numbers with others behind them holds where those are fewer
all_less : (P : ℕ → Type 0) (a b c : List ℕ) → (All P b → All P c) → All P (a ++ b) → All P (a ++ c)
all_less P [] b c k h = k h
all_less P (n ∷ a) b c k h = All-cons P n (a ++ c) (All-head P n (a ++ b) h) (all_less P a b c k (All-tail P n (a ++ b) h))

rise_less : (a b c : List ℕ) → ((P : ℕ → Type 0) → All P b → All P c) → (Ascend b → Ascend c) → Ascend (a ++ b) → Ascend (a ++ c)
rise_less [] b c all rises h = rises h
rise_less (n ∷ a) b c all rises h = (all_less (λ m. n < m) a b c (all (λ m. n < m)) h.0, rise_less a b c all rises h.1)

all_behind : (P : ℕ → Type 0) (a b : List ℕ) → All P (a ++ b) → All P b
all_behind P [] b h = h
all_behind P (n ∷ a) b h = all_behind P a b (All-tail P n (a ++ b) h)

rise_behind : (a b : List ℕ) → Ascend (a ++ b) → Ascend b
rise_behind [] b h = h
rise_behind (n ∷ a) b h = rise_behind a b h.1

module _ {X : Type 0} (f : X → List ℕ) (q : List ℕ) where
  assoc : (x : X) (xs : List X) → flat_map f (x ∷ xs) ++ q ≡ f x ++ (flat_map f xs ++ q)
  assoc x xs = append_assoc (f x) (flat_map f xs) q

  all_off : (P : ℕ → Type 0) (xs : List X) (i : ℕ) → All P (flat_map f xs ++ q) → All P (flat_map f (remove xs i) ++ q)
  all_off P [] zero h = h
  all_off P [] (suc i) h = h
  all_off P (x ∷ xs) zero h = all_behind P (f x) (flat_map f xs ++ q) (subst (All P) (assoc x xs) h)
  all_off P (x ∷ xs) (suc i) h =
      subst (All P) (sym (assoc x (remove xs i)))
      (all_less P (f x) (flat_map f xs ++ q) (flat_map f (remove xs i) ++ q) (λ k. all_off P xs i k) (subst (All P) (assoc x xs) h))

  rise_off : (xs : List X) (i : ℕ) → Ascend (flat_map f xs ++ q) → Ascend (flat_map f (remove xs i) ++ q)
  rise_off [] zero h = h
  rise_off [] (suc i) h = h
  rise_off (x ∷ xs) zero h = rise_behind (f x) (flat_map f xs ++ q) (subst Ascend (assoc x xs) h)
  rise_off (x ∷ xs) (suc i) h =
      subst Ascend (sym (assoc x (remove xs i)))
      (rise_less (f x) (flat_map f xs ++ q) (flat_map f (remove xs i) ++ q) (λ P k. all_off P xs i k) (λ k. rise_off xs i k) (subst Ascend (assoc x xs) h))

-- a frame that leaves the wire
pub off_fits : (h : Host) (d : ℕ) (wire : List FrameOnWire) (place : ℕ) (lane : TxQueue) → NumbersFit (sent_numbers h d wire) lane → NumbersFit (sent_numbers h d (remove wire place)) lane
off_fits h d wire place lane f = record {
  ascend = rise_off (from_numbers h d) (numbers_in lane.frames) wire place f.ascend;
  below = all_off (from_numbers h d) (numbers_in lane.frames) (λ n. n < lane.number) wire place f.below;
}

abbrev numbers_or : Host → ℕ → Option FrameOnWire → List ℕ
numbers_or h d None = []
numbers_or h d (Some z) = from_numbers h d z

-- a frame that was handed keeps its number
pub same_numbers : (h : Host) (d : ℕ) (wire : List FrameOnWire) (place : ℕ) (x : FrameOnWire) → slice_get wire place ≡ Some x → sent_numbers h d (slice_set wire place (as_handed x)) ≡ sent_numbers h d wire
same_numbers h d [] place x e = refl
same_numbers h d (y ∷ wire) zero x e =
    ap (λ o. numbers_or h d o ++ sent_numbers h d wire) (sym e)
same_numbers h d (y ∷ wire) (suc place) x e = ap (λ l. from_numbers h d y ++ l) (same_numbers h d wire place x e)

sent-push : (h : Host) (d : ℕ) (wire : List FrameOnWire) (x : FrameOnWire) → sent_numbers h d (wire ++ x ∷ []) ≡ sent_numbers h d wire ++ from_numbers h d x
sent-push h d [] x = append-nil (from_numbers h d x)
sent-push h d (y ∷ wire) x = ap (λ l. from_numbers h d y ++ l) (sent-push h d wire x) ∙ sym (append_assoc (from_numbers h d y) (sent_numbers h d wire) (from_numbers h d x))

-- ---- nodes

abbrev node_or : NodeState → Option NodeState → NodeState
node_or n None = n
node_or n (Some m) = m

-- a node's own step, by which frames join its queues
pub step_differs : (nodes : List NodeState) (at : ℕ) (old new : NodeState) (wire : List FrameOnWire) → slice_get nodes at ≡ Some old → new.here ≡ old.here
    → ((before : List ℕ) (d : ℕ) → FitsAt before d old.queues → FitsAt before d new.queues) → NumbersDiffer nodes wire → NumbersDiffer (slice_set nodes at new) wire
step_differs nodes at old new wire e same keeps s h node n d = by (set_at nodes at old new h e same)
  where
    by : SetAt nodes at old new h → FitsAt (sent_numbers h d wire) d node.queues
    by (there a b) = subst (λ (m : NodeState). FitsAt (sent_numbers h d wire) d m.queues) (ap (node_or new) (sym b ∙ n)) (keeps (sent_numbers h d wire) d (s h old a d))
    by (elsewhere a) = s h node (sym a ∙ n) d

-- a frame leaves the wire
pub off_differs : (nodes : List NodeState) (wire : List FrameOnWire) (place : ℕ) → NumbersDiffer nodes wire → NumbersDiffer nodes (remove wire place)
off_differs nodes wire place s h node n d lane e = off_fits h d wire place lane (s h node n d lane e)

-- a frame that was handed stays
pub handed_differs : (nodes : List NodeState) (wire : List FrameOnWire) (place : ℕ) (x : FrameOnWire) → slice_get wire place ≡ Some x → NumbersDiffer nodes wire → NumbersDiffer nodes (slice_set wire place (as_handed x))
handed_differs nodes wire place x g s h node n d lane e = subst (λ l. NumbersFit l lane) (sym (same_numbers h d wire place x g)) (s h node n d lane e)

-- ---- a send: the first frame of a queue goes to the end of the wire

set_there : (queues : Queues) (at : ℕ) (old new : TxQueue) → slice_get queues at ≡ Some old → slice_get (slice_set queues at new) at ≡ Some new
set_there [] at old new e = cc
set_there (l ∷ queues) zero old new e = refl
set_there (l ∷ queues) (suc at) old new e = set_there queues at old new e

set_other : (queues : Queues) (at d : ℕ) (new : TxQueue) → (d ≡ at → ⊥) → slice_get (slice_set queues at new) d ≡ slice_get queues d
set_other [] at d new ne = refl
set_other (l ∷ queues) zero zero new ne = absurd (ne refl)
set_other (l ∷ queues) zero (suc d) new ne = refl
set_other (l ∷ queues) (suc at) zero new ne = refl
set_other (l ∷ queues) (suc at) (suc d) new ne = set_other queues at d new (λ p. ne (ap suc p))

differs : (a b : ℕ) → (a == b) ≡ false → a ≡ b → ⊥
differs a b e p = grind (arith, nat_tests)

-- a queue without its first frame
less_fits : (before : List ℕ) (x : PlainStamped) (queue : List PlainStamped) (n : ℕ) → NumbersFit before (record { frames = x ∷ queue; number = n }) → NumbersFit before (record { frames = queue; number = n })
less_fits before x queue n f = record {
  ascend = rise_less before (link_in x.stamp ++ numbers_in queue) (numbers_in queue) (λ P k. all_behind P (link_in x.stamp) (numbers_in queue) k) (λ k. rise_behind (link_in x.stamp) (numbers_in queue) k) f.ascend;
  below = all_less (λ m. m < n) before (link_in x.stamp ++ numbers_in queue) (numbers_in queue) (λ k. all_behind (λ m. m < n) (link_in x.stamp) (numbers_in queue) k) f.below;
}

module _ (before : List ℕ) (queues : Queues) (at n : ℕ) (x : PlainStamped) (queue : List PlainStamped) (is : slice_get queues at ≡ Some (record { frames = x ∷ queue; number = n })) where
  abbrev after : Queues
  after = slice_set queues at (record { frames = queue; number = n })

  -- the device that sent, seen from itself
  sent_at : FitsAt before at queues → FitsAt (before ++ link_in x.stamp) at after
  sent_at f lane e =
      let same : record { frames = queue; number = n } ≡ lane = some_inj (sym (set_there queues at (record { frames = x ∷ queue; number = n }) (record { frames = queue; number = n }) is) ∙ e) in
      subst (NumbersFit (before ++ link_in x.stamp)) same (taken_fits before x queue n (f (record { frames = x ∷ queue; number = n }) is))

  -- another device of the same node
  other_at : (d : ℕ) → (d ≡ at → ⊥) → FitsAt before d queues → FitsAt before d after
  other_at d ne f lane e = f lane (sym (set_other queues at d (record { frames = queue; number = n }) ne) ∙ e)

  -- any device, where the frame isn't counted
  less_at : (d : ℕ) → FitsAt before d queues → FitsAt before d after
  less_at d f = by (d == at) refl
    where
      by : (t : Bool) → (d == at) ≡ t → FitsAt before d after
      by true t lane e =
          let p : d ≡ at = eqb-true d at t in
          let g : slice_get after at ≡ Some lane = ap (slice_get after) (sym p) ∙ e in
          let same : record { frames = queue; number = n } ≡ lane = some_inj (sym (set_there queues at (record { frames = x ∷ queue; number = n }) (record { frames = queue; number = n }) is) ∙ g) in
          subst (NumbersFit before) same (less_fits before x queue n (f (record { frames = x ∷ queue; number = n }) (ap (slice_get queues) p ∙ is)))
      by false t lane e = other_at d (differs d at t) f lane e

-- a frame that one device sent, seen from another
not_counted : (h : Host) (d : ℕ) (wire : List FrameOnWire) (x : FrameOnWire) (lane : TxQueue) → is_from h d x ≡ false → NumbersFit (sent_numbers h d wire) lane → NumbersFit (sent_numbers h d (wire ++ x ∷ [])) lane
not_counted h d wire x lane e f =
    let p : sent_numbers h d (wire ++ x ∷ []) ≡ sent_numbers h d wire = sent-push h d wire x ∙ (ap (λ t. sent_numbers h d wire ++ cond t (link_in x.frame.stamp) []) e ∙ append-nil (sent_numbers h d wire)) in
    subst (λ l. NumbersFit l lane) (sym p) f

-- and from itself
number_counted : (h : Host) (d : ℕ) (wire : List FrameOnWire) (x : FrameOnWire) (lane : TxQueue) → is_from h d x ≡ true → NumbersFit (sent_numbers h d wire ++ link_in x.frame.stamp) lane → NumbersFit (sent_numbers h d (wire ++ x ∷ [])) lane
number_counted h d wire x lane e f =
    let p : sent_numbers h d (wire ++ x ∷ []) ≡ sent_numbers h d wire ++ link_in x.frame.stamp = sent-push h d wire x ∙ ap (λ t. sent_numbers h d wire ++ cond t (link_in x.frame.stamp) []) e in
    subst (λ l. NumbersFit l lane) (sym p) f

-- the first frame of a queue goes to the end of the wire
module _ (nodes : List NodeState) (wire : List FrameOnWire) (at : ℕ) (old new : NodeState) (queue : List PlainStamped) (n : ℕ) (x : FrameOnWire)
    (place : place_of nodes x.from.host ≡ Some at) (get : slice_get nodes at ≡ Some old) (same : new.here ≡ old.here)
    (head : slice_get old.queues x.from.dev.0 ≡ Some (record { frames = x.frame ∷ queue; number = n }))
    (moved : new.queues ≡ slice_set old.queues x.from.dev.0 (record { frames = queue; number = n })) where
  -- at the host of the device
  own_differs : (h : Host) → is_host x.from.host h ≡ true → (d : ℕ) → FitsAt (sent_numbers h d wire) d old.queues → FitsAt (sent_numbers h d (wire ++ x ∷ [])) d new.queues
  own_differs h own d f = by (x.from.dev.0 == d) refl
    where
      by : (t : Bool) → (x.from.dev.0 == d) ≡ t → FitsAt (sent_numbers h d (wire ++ x ∷ [])) d new.queues
      by true t lane e =
          let p : x.from.dev.0 ≡ d = eqb-true x.from.dev.0 d t in
          let from : is_from h d x ≡ true = ap (λ b. b && x.from.dev.0 == d) own ∙ t in
          let g : slice_get (slice_set old.queues x.from.dev.0 (record { frames = queue; number = n })) x.from.dev.0 ≡ Some lane = ap (λ qs. slice_get qs x.from.dev.0) (sym moved) ∙ (ap (slice_get new.queues) p ∙ e) in
          let f0 : FitsAt (sent_numbers h d wire) x.from.dev.0 old.queues = subst (λ k. FitsAt (sent_numbers h d wire) k old.queues) (sym p) f in
          number_counted h d wire x lane from (sent_at (sent_numbers h d wire) old.queues x.from.dev.0 n x.frame queue head f0 lane g)
      by false t lane e =
          let from : is_from h d x ≡ false = ap (λ b. b && x.from.dev.0 == d) own ∙ t in
          not_counted h d wire x lane from (other_at (sent_numbers h d wire) old.queues x.from.dev.0 n x.frame queue head d (λ p. differs x.from.dev.0 d t (sym p)) f lane (ap (λ qs. slice_get qs d) (sym moved) ∙ e))

  pub send_differs : NumbersDiffer nodes wire → NumbersDiffer (slice_set nodes at new) (wire ++ x ∷ [])
  send_differs s h node is d = by (is_host x.from.host h) refl
    where
      there_so : FitsAt (sent_numbers h d (wire ++ x ∷ [])) d new.queues → new ≡ node → FitsAt (sent_numbers h d (wire ++ x ∷ [])) d node.queues
      there_so f e = subst (λ (m : NodeState). FitsAt (sent_numbers h d (wire ++ x ∷ [])) d m.queues) e f

      away : is_host x.from.host h ≡ false → is_from h d x ≡ false
      away t = ap (λ b. b && x.from.dev.0 == d) t

      other : is_host x.from.host h ≡ false → SetAt nodes at old new h → FitsAt (sent_numbers h d (wire ++ x ∷ [])) d node.queues
      other t (there a b) = there_so
          (λ lane e. not_counted h d wire x lane (away t) (less_at (sent_numbers h d wire) old.queues x.from.dev.0 n x.frame queue head d (s h old a d) lane (ap (λ qs. slice_get qs d) (sym moved) ∙ e)))
          (some_inj (sym b ∙ is))
      other t (elsewhere a) = λ lane e. not_counted h d wire x lane (away t) (s h node (sym a ∙ is) d lane e)

      own : is_host x.from.host h ≡ true → FitsAt (sent_numbers h d (wire ++ x ∷ [])) d node.queues
      own t =
          let p : x.from.host.0 ≡ h.0 = eqb-true x.from.host.0 h.0 t in
          let q : x.from.host ≡ h = λ i. record { 0 = p i } in
          let was : node_of nodes h ≡ Some old = ap (node_of nodes) (sym q) ∙ first_of_host nodes x.from.host at old place get in
          let now : node_of (slice_set nodes at new) h ≡ Some new = ap (node_of (slice_set nodes at new)) (sym q) ∙ set_of_host nodes x.from.host at old new place get same in
          there_so (own_differs h t d (s h old was d)) (some_inj (sym now ∙ is))

      by : (t : Bool) → is_host x.from.host h ≡ t → FitsAt (sent_numbers h d (wire ++ x ∷ [])) d node.queues
      by true t = own t
      by false t = other t (set_at nodes at old new h get same)

-- what a take of a frame did
record TookFirst (node : NodeState) (d : Dev) (x : PlainStamped) (step : NodeStep) : Type 0 where
  queue : List PlainStamped
  number : ℕ
  head : slice_get node.queues d.0 ≡ Some (record { frames = x ∷ queue; number = number })
  moved : step.node.queues ≡ slice_set node.queues d.0 (record { frames = queue; number = number })
  here : step.node.here ≡ node.here

took_first : (node : NodeState) (d : Dev) (x : PlainStamped) (q : List PlainStamped) (n : ℕ) → slice_get node.queues d.0 ≡ Some (record { frames = q; number = n })
    → (take_first node d n q).frame ≡ Some x → TookFirst node d x (take_first node d n q)
took_first node d x [] n g e = cc
took_first node d x (y ∷ q) n g e = record { queue = q; number = n; head = g ∙ ap (λ z. Some (record { frames = z ∷ q; number = n })) (some_inj e); moved = refl; here = refl }

took_from : (node : NodeState) (d : Dev) (x : PlainStamped) (o : Option TxQueue) → slice_get node.queues d.0 ≡ o → (take_from node d o).frame ≡ Some x → TookFirst node d x (take_from node d o)
took_from node d x None g e = cc
took_from node d x (Some lane) g e = took_first node d x lane.frames lane.number g e

took_of : (node : NodeState) (d : Dev) (x : PlainStamped) → (take_step node d).frame ≡ Some x → TookFirst node d x (take_step node d)
unfolding take_step
took_of node d x e = took_from node d x (slice_get node.queues d.0) refl e

-- ---- events

-- a step of a node at which frames at most join its queues
record NodeRises (step : NodeState → NodeStep) : Type 0 where
  here : (node : NodeState) → (step node).node.here ≡ node.here
  rises : (node : NodeState) (before : List ℕ) (d : ℕ) → FitsAt before d node.queues → FitsAt before d (step node).node.queues

abbrev Differs : EventResult → Type 0
Differs h = NumbersDiffer h.world.nodes h.world.wire

module _ (w : WorldState) (s : NumbersDiffer w.nodes w.wire) where
  steps_differ : (h : Host) (before : NodeState → List Line) (step : NodeState → NodeStep) → NodeRises step → Differs (steps w h before step)
  unfolding steps step_place step_at
  steps_differ h before step k = by (place_of w.nodes h)
    where
      at_node : (at : ℕ) (o : Option NodeState) → slice_get w.nodes at ≡ o → Differs (step_at w h before step at o)
      at_node at None e = s
      at_node at (Some node) e = step_differs w.nodes at node (step node).node w.wire e (k.here node) (k.rises node) s

      by : (o : Option ℕ) → Differs (step_place w h before step o)
      by None = s
      by (Some at) = at_node at (slice_get w.nodes at) refl

  send_taken_differs : (h : Host) (d : Dev) (at : ℕ) (to : LinkEnd) (node : NodeState) (o : Option PlainStamped) → place_of w.nodes h ≡ Some at → slice_get w.nodes at ≡ Some node → (take_step node d).frame ≡ o
      → Differs (send_taken w h d at to (take_step node d) o)
  unfolding send_taken
  send_taken_differs h d at to node None p e q = s
  send_taken_differs h d at to node (Some x) p e q =
      let t = took_of node d x q in
      send_differs w.nodes w.wire at node (take_step node d).node t.queue t.number (record { number = w.«next»; from = record { host = h; dev = d }; to = to; frame = x; handed = false }) p e t.here t.head t.moved s

  sends_differ : (h : Host) (d : Dev) → Differs (sends w h d)
  unfolding sends send_place send_over send_at
  sends_differ h d = by (place_of w.nodes h) refl
    where
      at_node : (at : ℕ) (to : LinkEnd) (o : Option NodeState) → place_of w.nodes h ≡ Some at → slice_get w.nodes at ≡ o → Differs (send_at w h d at to o)
      at_node at to None p e = s
      at_node at to (Some node) p e = send_taken_differs h d at to node (take_step node d).frame p e refl

      room : (t : Bool) (a : EventResult) → Differs a → Differs (cond t a (nothing w))
      room true a k = k
      room false a k = s

      over : (at : ℕ) (o : Option LinkEnd) → place_of w.nodes h ≡ Some at → Differs (send_over w h d at o)
      over at None p = s
      over at (Some to) p = room (nat_lt (length w.wire) 4096) (send_at w h d at to (slice_get w.nodes at)) (at_node at to (slice_get w.nodes at) p refl)

      by : (o : Option ℕ) → place_of w.nodes h ≡ o → Differs (send_place w h d o)
      by None p = s
      by (Some at) p = over at (far_end w.links h d) p

  wire_differs : (how : Delivery) (place : ℕ) (x : FrameOnWire) → slice_get w.wire place ≡ Some x → NumbersDiffer w.nodes (wire_after how w.wire place x)
  wire_differs Taking place x e = off_differs w.nodes w.wire place s
  wire_differs Leaving place x e = handed_differs w.nodes w.wire place x e s

  hands_differ : (how : Delivery) (number : ℕ) → Differs (hands w how number)
  unfolding hands hand_place hand_frame hand_to hand_at
  hands_differ how number = by (wire_place w.wire number)
    where
      at_node : (place : ℕ) (x : FrameOnWire) (at : ℕ) (o : Option NodeState) → slice_get w.wire place ≡ Some x → slice_get w.nodes at ≡ o → Differs (hand_at w how place x at o)
      at_node place x at None q e = s
      at_node place x at (Some node) q e =
          step_differs w.nodes at node (stamped_step node x.to.dev x.frame).node (wire_after how w.wire place x) e (stamped_stays node x.to.dev x.frame).node.here
          (λ before d. stamped_rises before d node x.to.dev x.frame) (wire_differs how place x q)

      to_place : (place : ℕ) (x : FrameOnWire) (o : Option ℕ) → slice_get w.wire place ≡ Some x → Differs (hand_to w how place x o)
      to_place place x None q = s
      to_place place x (Some at) q = at_node place x at (slice_get w.nodes at) q refl

      frame : (place : ℕ) (o : Option FrameOnWire) → slice_get w.wire place ≡ o → Differs (hand_frame w how place o)
      frame place None q = s
      frame place (Some x) q = to_place place x (place_of w.nodes x.to.host) q

      by : (o : Option ℕ) → Differs (hand_place w how o)
      by None = s
      by (Some place) = frame place (slice_get w.wire place) refl

  loses_differ : (number : ℕ) → Differs (loses w number)
  unfolding loses lose_place lose_frame
  loses_differ number = by (wire_place w.wire number)
    where
      frame : (place : ℕ) (o : Option FrameOnWire) → Differs (lose_frame w place o)
      frame place None = s
      frame place (Some x) = off_differs w.nodes w.wire place s

      by : (o : Option ℕ) → Differs (lose_place w o)
      by None = s
      by (Some place) = frame place (slice_get w.wire place)

  acted_differs : (e : WorldEvent) → Differs (acted_event w e)
  acted_differs (Inject h chunk bound handler) = steps_differ h none_before (λ node. inject_step [] node chunk bound handler)
      (record { here = λ node. (inject_stays node chunk bound handler).here; rises = λ node before d. inject_rises before d [] node chunk bound handler })
  acted_differs (Send h d) = sends_differ h d
  acted_differs (Deliver number) = hands_differ Taking number
  acted_differs (Repeat number) = hands_differ Leaving number
  acted_differs (Lose number) = loses_differ number
  acted_differs (Tick h) = steps_differ h none_before tick_step (record { here = λ node. (tick_stays node).node.here; rises = λ node before d. tick_rises before d node })
  acted_differs (Raw h d bytes) = steps_differ h (forged_at h bytes) (λ node. arrive_step node d bytes)
      (record { here = λ node. (arrive_stays node d bytes).node.here; rises = λ node before e. arrive_rises before e node d bytes })

  -- each event keeps the numbers apart
  pub numbers_differ : (e : WorldEvent) → NumbersDiffer (happens w e).world.nodes (happens w e).world.wire
  numbers_differ e = acted_differs e
