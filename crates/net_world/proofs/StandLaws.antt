-- Nodes and their states, place by place; the lines and neighbours of one more.
use Rattle.std.proofs.Common.{get_or, ◌≡◌, ◌⊎◌, inl, inr, ℕ, zero, suc, ◌+◌, ◌<◌, cond, List, Vec, [], ◌∷◌, ◌++◌, length, refl, sym, ap, ◌∙◌, arith, subst, append_assoc}
use Rattle.std.proofs.lemmas.List.{append-nil, with_items_is}
use Rattle.std.specs.Vec.{with_items}
use Rattle.std.specs.Prelude.{◌≢◌, slice_get, slice_set, Option, Some, None, Result, Ok, Err, IfOk}
use Rattle.std.specs.List.{position_from}
use Rattle.std.proofs.lemmas.Iterator.Adapters.{position_from-zero}
use Rattle.std.proofs.lemmas.Option.{slice_get-get_or}
use Rattle.plan_base.specs.declared.ids.Host.{Host}
use Rattle.plan_base.specs.declared.ids.Dev.{Dev}
use Rattle.plan_base.specs.declared.memory.NoMemory.{NoMemory}
use Rattle.plan_base.specs.declared.name.Name.{Name}
use Rattle.plan_base.specs.declared.tree.Chunk.{Chunk}
use Rattle.plan_types_spec.specs.Handlers.{MayHandle}
use Rattle.plan_base.specs.declared.stamp.Version.{Version}
use Rattle.plan_base.specs.declared.stamp.Version.TheVariants.{One, Two}
use Rattle.packet_frame.specs.declared.fault.FrameFault.{FrameFault}
use Rattle.packet_frame.specs.declared.fault.FrameFault.TheVariants.{NoMemory as Lacking}
use Rattle.packet_frame.specs.declared.frame.PlainStamped.{PlainStamped}
use Rattle.network_config.specs.Rules.{MayName}
use Rattle.service_api.specs.Services.{ServiceState}
use Rattle.node_core_spec.specs.declared.acts.Act.{Act}
use Rattle.node_core_spec.specs.declared.acts.Acts.{Acts}
use Rattle.node_core_spec.specs.declared.acts.TxQueue.{TxQueue}
use Rattle.node_core_spec.specs.State.{NodeState, is_host}
use Rattle.node_core_spec.specs.Node.{NodeStep, inject_step, take_first, take_from, take_step}
use Rattle.node_core_spec.specs.Fits.{IsMarked}
use Rattle.node_core.specs.declared.node.Node.{Node}
use Rattle.node_core.specs.Stands.{NodeStands, IsStep}
use Rattle.net_world_spec.specs.declared.lines.Line.{Line}
use Rattle.net_world_spec.specs.declared.lines.Line.TheVariants.{At}
use Rattle.net_world_spec.specs.World.{Cables, WorldState, forged_lines, place_of, lines_at, peer_of, neighbour_at, neighbours_to}
use Rattle.net_world_spec.specs.declared.lines.FrameOnWire.{FrameOnWire}
use Rattle.network_config.specs.declared.event.WorldEvent.{WorldEvent}
use Rattle.network_config.specs.declared.event.WorldEvent.TheVariants.{Inject, Send, Deliver, Repeat, Lose, Tick, Raw}
use Rattle.net_world_spec.specs.Sound.{DevicesFit, event_fits, event_within, event_typed}
use Rattle.net_world_spec.proofs.Fitting.{at_place, wired_of}
use Rattle.net_world.specs.declared.network.Network.{Network}
use Rattle.net_world.specs.Stands.{AllStand, WorldStands, StepsAt, MayNameAt, IsMarkedAt}

-- ---- lines and neighbours

pub lines_none : (before : List Line) (h : Host) → before ≡ before ++ lines_at h []
unfolding lines_at
lines_none before h = sym (append-nil before)

acts_more : (h : Host) (acts : List Act) (act : Act) → lines_at h (acts ++ act ∷ []) ≡ lines_at h acts ++ At h act ∷ []
unfolding lines_at
acts_more h [] act = refl
acts_more h (a ∷ acts) act = ap (λ ls. At h a ∷ ls) (acts_more h acts act)

pub lines_more : (before : List Line) (h : Host) (acts : List Act) (act : Act) → (before ++ lines_at h acts) ++ At h act ∷ [] ≡ before ++ lines_at h (acts ++ act ∷ [])
lines_more before h acts act = append_assoc before (lines_at h acts) (At h act ∷ []) ∙ ap (λ x. before ++ x) (sym (acts_more h acts act))

pub neighbours_none : (links : Cables) (h : Host) → neighbours_to links h 0 ≡ []
unfolding neighbours_to
neighbours_none links h = refl

pub neighbours_more : (links : Cables) (h : Host) (n : ℕ) → neighbours_to links h (n + 1) ≡ neighbours_to links h n ++ neighbour_at (record { 0 = n + 1 }) (peer_of links h (record { 0 = n + 1 }))
unfolding neighbours_to
neighbours_more links h n = let e : n + 1 ≡ suc n = omega arith in ap (λ m. neighbours_to links h m) e

-- ---- lists that don't change

pub set_same_item : {X : Type 0} (xs : List X) (i : ℕ) (x : X) → slice_get xs i ≡ Some x → slice_set xs i x ≡ xs
set_same_item [] i x e = refl
set_same_item (y ∷ xs) zero x e = let h : y ≡ x = cc in ap (λ z. z ∷ xs) (sym h)
set_same_item (y ∷ xs) (suc i) x e = ap (λ zs. y ∷ zs) (set_same_item xs i x e)

take_first_nothing : (node : NodeState) (d : Dev) (n : ℕ) (frames : List PlainStamped) → (take_first node d n frames).frame ≡ None → (take_first node d n frames).node ≡ node
take_first_nothing node d n [] e = refl
take_first_nothing node d n (x ∷ queue) e = cc

take_from_nothing : (node : NodeState) (d : Dev) (o : Option TxQueue) → (take_from node d o).frame ≡ None → (take_from node d o).node ≡ node
take_from_nothing node d None e = refl
take_from_nothing node d (Some lane) e = take_first_nothing node d lane.number lane.frames e

take_nothing : (node : NodeState) (d : Dev) → (take_step node d).frame ≡ None → (take_step node d).node ≡ node
unfolding take_step
take_nothing node d e = take_from_nothing node d (slice_get node.queues d.0) e

-- ---- handlers

-- what may be named under version 1 is nothing
pub none_named : (v : Version) (chunk : Chunk) (handler : Option Name) → v ≡ One → MayName v chunk handler → handler ≡ None
none_named One chunk handler e m = m
none_named Two chunk handler e m = cc

-- and nothing may be named there
pub may_none : (v : Version) (chunk : Chunk) → v ≡ One → MayName v chunk None
may_none One chunk e = refl
may_none Two chunk e = cc

-- one that may handle may be named under version 2
pub may_name : (v : Version) (chunk : Chunk) (handler : Option Name) → v ≡ Two → MayHandle chunk handler → MayName v chunk handler
may_name One chunk handler e m = cc
may_name Two chunk handler e m = m

-- what may be named may handle
pub named_handles : (v : Version) (chunk : Chunk) (handler : Option Name) → MayName v chunk handler → MayHandle chunk handler
named_handles One chunk None m = tt
named_handles One chunk (Some n) m = cc
named_handles Two chunk handler m = m

pub if_ok : {T E : Type 0} (P Q : T → Type 0) (r : Result T E) → ((x : T) → P x → Q x) → IfOk r P → IfOk r Q
if_ok P Q (Ok x) f h = f x h
if_ok P Q (Err e) f h = h

-- bytes that are refused, and not for a failed allocation, have no lines
pub none_forged : (host : Host) (fault : FrameFault) (read : Result PlainStamped FrameFault) (lines : List Line) → (fault ≡ Lacking) ⊎ (read ≡ Err fault) → (lines ≡ []) × (fault ≢ Lacking)
    → lines ≡ forged_lines host read
none_forged host fault read lines (inl lacking) p = absurd (p.1 lacking)
none_forged host fault read lines (inr refused) p = p.0 ∙ ap (forged_lines host) (sym refused)

-- an event that fits a network fits each state of its version
pub fits_there : {S : Type 0} (w : WorldState) (e : WorldEvent) (n : Network S) → w.version ≡ n.version → event_fits n.version e → event_fits w.version e
fits_there w e n v f = subst (λ u. event_fits u e) (sym v) f

-- what the types of an event's parts keep is all that its maker doesn't owe
pub typed_fits : (v : Version) (e : WorldEvent) → event_typed e → event_within v e → event_fits v e
typed_fits v (Inject h chunk bound handler) t f = ((f.0, t), f.1)
typed_fits v (Send h d) t f = f
typed_fits v (Deliver n) t f = tt
typed_fits v (Repeat n) t f = f
typed_fits v (Lose n) t f = tt
typed_fits v (Tick h) t f = tt
typed_fits v (Raw h d bytes) t f = (f, t)

pub fits_within : (v : Version) (e : WorldEvent) → event_fits v e → event_within v e
fits_within v (Inject h chunk bound handler) f = (f.0.0, f.1)
fits_within v (Send h d) f = f
fits_within v (Deliver n) f = tt
fits_within v (Repeat n) f = f
fits_within v (Lose n) f = tt
fits_within v (Tick h) f = tt
fits_within v (Raw h d bytes) f = f.0

pub typed_there : {S : Type 0} (m n : Network S) (e : WorldEvent) → m ≡ n → event_typed e → event_within m.version e → event_fits n.version e
typed_there m n e q t f = subst (λ v. event_fits v e) (λ i. (q i).version) (typed_fits m.version e t f)

module _ {S : Type 0} (stands : S → ServiceState) where
  -- the state at a place of a node
  record Found (n : Node S) (states : List NodeState) (at : ℕ) : Type 0 where
    state : NodeState
    there : slice_get states at ≡ Some state
    is : NodeStands stands n state

  node_is_found : (nodes : List (Node S)) (states : List NodeState) (at : ℕ) (n : Node S) → AllStand stands nodes states → slice_get nodes at ≡ Some n → Found n states at
  node_is_found [] [] at n h e = cc
  node_is_found [] (s ∷ ss) at n h e = absurd h
  node_is_found (m ∷ ns) [] at n h e = absurd h
  node_is_found (m ∷ ns) (s ∷ ss) zero n h e = let same : m ≡ n = cc in record { state = s; there = refl; is = subst (λ x. NodeStands stands x s) same h.0 }
  node_is_found (m ∷ ns) (s ∷ ss) (suc at) n h e = let f = node_is_found ns ss at n h.1 e in record { state = f.state; there = f.there; is = f.is }

  with_one : (nodes : List (Node S)) (states : List NodeState) (at : ℕ) (n : Node S) (s : NodeState) → AllStand stands nodes states → NodeStands stands n s → AllStand stands (slice_set nodes at n) (slice_set states at s)
  with_one [] [] at n s h one = h
  with_one [] (t ∷ ss) at n s h one = absurd h
  with_one (m ∷ ns) [] at n s h one = absurd h
  with_one (m ∷ ns) (t ∷ ss) zero n s h one = (one, h.1)
  with_one (m ∷ ns) (t ∷ ss) (suc at) n s h one = (h.0, with_one ns ss at n s h.1 one)

  pub one_more : (nodes : List (Node S)) (states : List NodeState) (n : Node S) (s : NodeState) → AllStand stands nodes states → NodeStands stands n s → AllStand stands (nodes ++ n ∷ []) (states ++ s ∷ [])
  one_more [] [] n s h one = (one, tt)
  one_more [] (t ∷ ss) n s h one = absurd h
  one_more (m ∷ ns) [] n s h one = absurd h
  one_more (m ∷ ns) (t ∷ ss) n s h one = (h.0, one_more ns ss n s h.1 one)

  stand_length : (nodes : List (Node S)) (states : List NodeState) → AllStand stands nodes states → length nodes ≡ length states
  stand_length [] [] h = refl
  stand_length [] (t ∷ ss) h = absurd h
  stand_length (m ∷ ns) [] h = absurd h
  stand_length (m ∷ ns) (t ∷ ss) h = ap suc (stand_length ns ss h.1)

  -- nodes that were lent and stand for as many states are the nodes afterwards
  pub given_back : {Z : Type 0} (v : Vec (Node S) Z) (new : List (Node S)) (old states : List NodeState) → AllStand stands v.items old → AllStand stands new states → length states ≡ length old → (with_items v new).items ≡ new
  given_back v new old states h k e = with_items_is v new (stand_length new states k ∙ e ∙ sym (stand_length v.items old h) ∙ sym v.ok.0)

  -- ---- the place of a host

  from_place : (h : Host) (i : ℕ) (nodes : List (Node S)) (states : List NodeState) → AllStand stands nodes states → position_from (λ n. is_host n.here h) i nodes ≡ position_from (λ (s : NodeState). is_host s.here h) i states
  from_place h i [] [] a = refl
  from_place h i [] (s ∷ ss) a = absurd a
  from_place h i (n ∷ ns) [] a = absurd a
  from_place h i (n ∷ ns) (s ∷ ss) a =
      ap (λ (g : Host). cond (is_host g h) (Some i) (position_from (λ n. is_host n.here h) (i + 1) ns)) a.0.here
      ∙ ap (λ o. cond (is_host s.here h) (Some i) o) (from_place h (i + 1) ns ss a.1)

  pub place_is : (h : Host) (nodes : List (Node S)) (states : List NodeState) → AllStand stands nodes states → position_from (λ n. is_host n.here h) 0 nodes ≡ place_of states h
  place_is h nodes states a = from_place h 0 nodes states a ∙ sym (position_from-zero (λ (s : NodeState). is_host s.here h) states)

  -- ---- steps

  steps_at : (step : NodeState → NodeStep) (nodes : List (Node S)) (states : List NodeState) (at : ℕ) (acts : Acts) (after : Node S) (before : Node S) → AllStand stands nodes states → (f : Found before states at)
      → IsStep stands (step f.state) acts after → StepsAt stands step states at acts (slice_set nodes at after)
  steps_at step nodes states at acts after before a f done = record {
    node = f.state;
    there = f.there;
    list = done.list;
    frame = done.frame;
    after = with_one nodes states at after (step f.state).node a done.node;
  }

  -- a step of the node at a place, where it finds memory
  pub stepped_where : (step : NodeState → NodeStep) (nodes : List (Node S)) (at : ℕ) (d after : Node S) (r : Result Acts NoMemory) (states : List NodeState) → at < length nodes → AllStand stands nodes states
      → ((s : NodeState) → slice_get states at ≡ Some s → NodeStands stands (get_or nodes at d) s → IfOk r (λ acts. IsStep stands (step s) acts after))
      → IfOk r (λ acts. StepsAt stands step states at acts (slice_set nodes at after))
  stepped_where step nodes at d after r states h a each =
      let f = node_is_found nodes states at (get_or nodes at d) a (slice_get-get_or nodes at d h) in
      if_ok (λ acts. IsStep stands (step f.state) acts after) (λ acts. StepsAt stands step states at acts (slice_set nodes at after)) r
      (λ acts done. steps_at step nodes states at acts after (get_or nodes at d) a f done) (each f.state f.there f.is)

  pub stepped_at : (step : NodeState → NodeStep) (nodes : List (Node S)) (at : ℕ) (d after : Node S) (r : Result Acts NoMemory) → at < length nodes
      → ((s : NodeState) → NodeStands stands (get_or nodes at d) s → IfOk r (λ acts. IsStep stands (step s) acts after))
      → (states : List NodeState) → AllStand stands nodes states → IfOk r (λ acts. StepsAt stands step states at acts (slice_set nodes at after))
  stepped_at step nodes at d after r h each states a = stepped_where step nodes at d after r states h a (λ s e n. each s n)

  -- the version of the node at a place
  pub version_is : (nodes : List (Node S)) (states : List NodeState) (at : ℕ) (d : Node S) (s : NodeState) → at < length nodes → AllStand stands nodes states → slice_get states at ≡ Some s
      → (get_or nodes at d).version ≡ s.version
  version_is nodes states at d s h a e =
      let f = node_is_found nodes states at (get_or nodes at d) a (slice_get-get_or nodes at d h) in
      let same : f.state ≡ s = some_state f.state s (sym f.there ∙ e) in
      f.is.version ∙ ap (λ (x : NodeState). x.version) same
    where
      some_state : (x y : NodeState) → Some x ≡ Some y → x ≡ y
      some_state x y q = cc

  -- what may be named in a network may be named at each of its nodes
  pub named_there : (n : Network S) (w : WorldState) (chunk : Chunk) (handler : Option Name) → WorldStands stands n w → MayName n.version chunk handler → (at : ℕ) → MayNameAt w.nodes at chunk handler
  named_there n w chunk handler h m at s e =
      subst (λ v. MayName v chunk handler) (h.is.version ∙ sym (at_place (DevicesFit w.version) w.nodes at s e h.sound.devices).version) m

  -- a frame on the wire is one of each node's version
  pub marked_there : (n : Network S) (w : WorldState) (place : ℕ) (x : FrameOnWire) → WorldStands stands n w → slice_get n.wire place ≡ Some x → (at : ℕ) → IsMarkedAt w.nodes at x.frame.stamp
  marked_there n w place x h there at s e =
      let on = wired_of w.version w.«next» w.wire place x (ap (λ wire. slice_get wire place) (sym h.is.wire) ∙ there) h.sound.wire in
      subst (λ v. IsMarked v x.frame.stamp) (sym (at_place (DevicesFit w.version) w.nodes at s e h.sound.devices).version) on.frame.mark

  -- an injection without a handler, where none may be named
  pub unnamed_handler_steps : (node after : Node S) (s : NodeState) (chunk : Chunk) (bound : ℕ) (handler : Option Name) (r : Result Acts NoMemory) → node.version ≡ One → NodeStands stands node s → MayName s.version chunk handler
      → IfOk r (λ acts. IsStep stands (inject_step [] s chunk bound None) acts after) → IfOk r (λ acts. IsStep stands (inject_step [] s chunk bound handler) acts after)
  unnamed_handler_steps node after s chunk bound handler r v n m done =
      let none : handler ≡ None = none_named s.version chunk handler (sym n.version ∙ v) m in
      subst (λ o. IfOk r (λ acts. IsStep stands (inject_step [] s chunk bound o) acts after)) (sym none) done

  nothing_taken : (d : Dev) (states : List NodeState) (at : ℕ) (acts : Acts) (new : List (Node S)) → StepsAt stands (λ node. take_step node d) states at acts new → acts.frame ≡ None → AllStand stands new states
  nothing_taken d states at acts new s e =
      subst (AllStand stands new) (ap (slice_set states at) (take_nothing s.node d (sym s.frame ∙ e)) ∙ set_same_item states at s.node s.there) s.after

  -- a take that finds nothing leaves all nodes as they were
  pub unchanged_at : (dev : Dev) (new : List (Node S)) (at : ℕ) (r : Result Acts NoMemory) (states : List NodeState)
      → IfOk r (λ acts. StepsAt stands (λ node. take_step node dev) states at acts new) → IfOk r (λ acts. acts.frame ≡ None → AllStand stands new states)
  unchanged_at dev new at r states h = if_ok (λ acts. StepsAt stands (λ node. take_step node dev) states at acts new) (λ acts. acts.frame ≡ None → AllStand stands new states) r
      (λ acts s e. nothing_taken dev states at acts new s e) h
