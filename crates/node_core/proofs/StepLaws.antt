-- The node after an injection and after an arrival, and what a reading answers.
use Rattle.std.proofs.Common.{◌≡◌, ◌≢◌, ◌+◌, ◌++◌, ℕ, List, [], ◌∷◌, Bool, true, false, cond, Option, Some, ap, refl, sym, ◌∙◌, subst, arith}
use Rattle.std.proofs.lemmas.Bool.Decides.{nat_tests}
use Rattle.std.specs.Prelude.{◌==◌, Result, Ok, Err, IfOk, OnOk, OnErr, None}
use Rattle.plan_base.specs.declared.ids.Dev.{Dev}
use Rattle.plan_base.specs.declared.ids.Host.{Host}
use Rattle.plan_base.specs.declared.name.Name.{Name}
use Rattle.plan_base.specs.declared.tree.Chunk.{Chunk}
use Rattle.plan_base.specs.declared.tree.Packet.{Packet}
use Rattle.plan_types_spec.specs.Handlers.{MayHandle}
use Rattle.plan_base.specs.declared.stamp.Stamp.{Stamp}
use Rattle.plan_base.specs.declared.stamp.Version.{Version}
use Rattle.plan_base.specs.declared.stamp.Version.TheVariants.{One, Two}
use Rattle.replay_window.specs.declared.window.Window.{Window}
use Rattle.replay_window.specs.Seen.{Seen}
use Rattle.replay_window.specs.declared.window.Took.{Took}
use Rattle.replay_window.specs.declared.window.Took.TheVariants.{Fresh}
use Rattle.packet_frame.specs.declared.frame.PlainFrame.{PlainFrame}
use Rattle.packet_frame.specs.declared.frame.PlainStamped.{PlainStamped}
use Rattle.packet_frame.specs.Stamped.{AcceptsBy}
use Rattle.packet_frame.proofs.Versions.{accepted_by}
use Rattle.packet_frame.specs.Spelled.{what_of, MayCarry, MayLeave, version_of}
use Rattle.service_api.specs.declared.ctx.Ctx.{Ctx}
use Rattle.service_api.specs.declared.router.RouteRow.{RouteRow}
use Rattle.service_api.specs.Services.{ServiceState, begun_now}
use Rattle.dv_routing.specs.Stands.{Stands}
use Rattle.plan_base.specs.declared.memory.NoMemory.{NoMemory}
use Rattle.network_config.specs.Rules.{MayName}
use Rattle.node_core_spec.specs.declared.acts.Act.{Act}
use Rattle.node_core_spec.specs.declared.acts.Act.TheVariants.{Injected, Arrived, Stale, SerialsSpent}
use Rattle.node_core_spec.specs.declared.acts.Acts.{Acts}
use Rattle.node_core_spec.specs.State.{NodeState, Queues, routing_of}
use Rattle.node_core_spec.specs.Visits.{around, visit_of, services_after}
use Rattle.node_core_spec.specs.Node.{NodeStep, next_serial, injected_packet, visit_acts, visit_sends, sends_queues, visit_step, inject_step, stepped_node, mark_of, mark, takes_as, seen_then}
use Rattle.node_core_spec.specs.Node.{with_seen, frame_step, only_acts, stamped_as, stamped_step, arrived_read, arrive_step}
use Rattle.node_core_spec.specs.Fits.{IsMarked}
use Rattle.node_core_spec.proofs.Staying.{frame_stays}
use Rattle.node_core.specs.Stands.{NodeStands, IsStep, Steps, mark_on}
use Rattle.node_core.specs.Stands.{version_of as node_version}
use Rattle.packet_frame.specs.Decoding.{read_by}
use Rattle.node_core_parts.specs.Visiting.{own_family, own_packet, around_at}
use Rattle.node_core_parts.specs.Carried.{MayBear, MayGoOn}
use Rattle.node_core_parts.specs.Heard.{TellsAll}
use Rattle.node_core_parts.specs.Windows.{AllSeen, SeenUnder}
use Rattle.plan_eval_settle.specs.Settles.{visit_settled}
use Rattle.node_core.specs.declared.node.Node.{Node}

-- ---- what a call's result was

pub if_ok : {A E : Type 0} (P : A → Type 0) (r : Result A E) (a : A) → r ≡ Ok a → IfOk r P → P a
if_ok P r a e h = subst (λ x. IfOk x P) e h

pub on_ok : {A E : Type 0} {X : Type 0} (r : Result A E) (a : A) → r ≡ Ok a → OnOk r X → X
on_ok {X = X} r a e h = subst (λ x. OnOk x X) e h

pub on_err : {A E : Type 0} {X : Type 0} (r : Result A E) (x : E) → r ≡ Err x → OnErr r X → X
on_err {X = X} r x e h = subst (λ y. OnErr y X) e h

-- ---- stamps

-- where a stamp comes, each device has its window
pub stamp_seen : (v : Version) (o : Option Stamp) (t : Stamp) (seen : List Seen) (windows : List Window) → o ≡ Some t → MayBear v o → SeenUnder v seen windows → AllSeen seen windows
stamp_seen One o t seen windows e m h = cc
stamp_seen Two o t seen windows e m h = h

pub stamp_noted : (v : Version) (o : Option Stamp) (t : Stamp) (seen : List Seen) (windows : List Window) → o ≡ Some t → MayBear v o → AllSeen seen windows → SeenUnder v seen windows
stamp_noted One o t seen windows e m h = cc
stamp_noted Two o t seen windows e m h = h

-- ---- injections

last_true : (n : ℕ) → n ≡ 18446744073709551615 → (n == 18446744073709551615) ≡ true
last_true n e = grind (arith, nat_tests)

last_false : (n : ℕ) → n ≢ 18446744073709551615 → (n == 18446744073709551615) ≡ false
last_false n e = grind (arith, nat_tests)

module _ {S : Type 0} (stands : S → ServiceState) where
  -- what a node's frames bear is what those of its state bear
  pub mark_stands : (n : Node S) (s : NodeState) → NodeStands stands n s → mark_on n ≡ mark s
  mark_stands n s h = λ i. mark_of (h.version i) (h.boot i)

  -- ---- visits, for which a node's neighbours and routes are handed out and given back

  same_windows : (old new : Node S) (s : NodeState) → new.version ≡ old.version → new.windows ≡ old.windows → SeenUnder old.version s.seen old.windows.items → SeenUnder new.version s.seen new.windows.items
  same_windows old new s v w h = subst (λ x. SeenUnder new.version s.seen x.items) (sym w) (subst (λ x. SeenUnder x s.seen old.windows.items) (sym v) h)

  -- a node that is the same but for how its services and queues are kept
  pub same_stands : (old new : Node S) (s : NodeState) → NodeStands stands old s → new.here ≡ old.here → new.version ≡ old.version → new.boot ≡ old.boot → new.windows ≡ old.windows
      → new.serial ≡ old.serial → new.time ≡ old.time → new.routes ≡ old.routes → new.neighbours ≡ old.neighbours → stands new.services ≡ stands old.services → new.lanes.items ≡ old.lanes.items
      → NodeStands stands new s
  same_stands old new s h a v b w n t r k u l = record {
    here = a ∙ h.here;
    routes = subst (Stands (routing_of s)) (sym r) h.routes;
    neighbours = k ∙ h.neighbours;
    services = u ∙ h.services;
    version = v ∙ h.version;
    boot = b ∙ h.boot;
    queues = l ∙ h.queues;
    windows = same_windows old new s v w h.windows;
    serial = n ∙ h.serial;
    time = t ∙ h.time;
  }

  -- the context of a visit at a node
  pub around_is : (n : Node S) (s : NodeState) (p : Packet) (ctx : Ctx) (links : List (Host × Dev)) (rows : List RouteRow) → NodeStands stands n s → ctx ≡ around_at n.here n.time p links rows
      → links ≡ n.neighbours → TellsAll n.routes rows → ctx ≡ around s p
  around_is n s p ctx links rows h e l r = e ∙ (λ i. around_at (h.here i) (h.time i) p ((l ∙ h.neighbours) i) (r (routing_of s) h.routes i))

  pub visited : (old new : Node S) (s : NodeState) (p : Packet) (before list : List Act) (ctx : Ctx) (m : Option Stamp) (q : Queues) → NodeStands stands old s → q ≡ old.lanes.items → ctx ≡ around s p → m ≡ mark s
      → list ≡ before ++ visit_acts m q p (visit_of ctx (begun_now (stands old.services)) p).left (visit_settled p ctx (visit_of ctx (begun_now (stands old.services)) p))
      → new.lanes.items ≡ sends_queues q (visit_sends m (visit_settled p ctx (visit_of ctx (begun_now (stands old.services)) p)).visit)
      → stands new.services ≡ services_after ctx (begun_now (stands old.services)) p
      → new.here ≡ old.here → new.version ≡ old.version → new.boot ≡ old.boot → new.windows ≡ old.windows
      → new.serial ≡ old.serial → new.time ≡ old.time → new.routes ≡ old.routes → new.neighbours ≡ old.neighbours
      → IsStep stands (visit_step before s p) (record { list = list; frame = None }) new
  unfolding visit_step
  visited old new s p before list ctx m q h z e f g x u a v b w n t r k = record {
    list = g ∙ (λ i. before ++ visit_acts (f i) ((z ∙ h.queues) i) p (visit_of (e i) (begun_now (h.services i)) p).left (visit_settled p (e i) (visit_of (e i) (begun_now (h.services i)) p)));
    frame = refl;
    node = record {
      here = a ∙ h.here;
      routes = subst (Stands (routing_of s)) (sym r) h.routes;
      neighbours = k ∙ h.neighbours;
      services = u ∙ (λ i. services_after (e i) (begun_now (h.services i)) p);
      version = v ∙ h.version;
      boot = b ∙ h.boot;
      queues = x ∙ (λ i. sends_queues ((z ∙ h.queues) i) (visit_sends (f i) (visit_settled p (e i) (visit_of (e i) (begun_now (h.services i)) p)).visit));
      windows = same_windows old new s v w h.windows;
      serial = n ∙ h.serial;
      time = t ∙ h.time;
    };
  }

  -- a visit, and then the next serial number
  pub injected_visit_steps : (before : List Act) (s : NodeState) (p : Packet) (acts : Acts) (mid : Node S) (serial : ℕ) → serial ≡ mid.serial + 1
      → IsStep stands (visit_step before s p) acts mid → IsStep stands (visit_step before (next_serial s) p) acts (record mid { serial = serial })
  unfolding visit_step
  injected_visit_steps before s p acts mid serial e h = record {
    list = h.list;
    frame = h.frame;
    node = record {
      here = h.node.here;
      routes = h.node.routes;
      neighbours = h.node.neighbours;
      services = h.node.services;
      version = h.node.version;
      boot = h.node.boot;
      queues = h.node.queues;
      windows = h.node.windows;
      serial = e ∙ ap (λ n. n + 1) h.node.serial;
      time = h.node.time;
    };
  }

  -- the injection of the definition, where a serial number is left
  pub own_injection : (before list : List Act) (old new : Node S) (s : NodeState) (chunk : Chunk) (bound : ℕ) (handler : Option Name) (p : Packet) (acts : Acts) → NodeStands stands old s
      → old.serial ≢ 18446744073709551615 → list ≡ before ++ Injected (own_family old.here old.serial) bound ∷ [] → p ≡ own_packet old.here old.serial chunk bound handler
      → IsStep stands (visit_step list (next_serial s) p) acts new → IsStep stands (inject_step before s chunk bound handler) acts new
  unfolding inject_step
  own_injection before list old new s chunk bound handler p acts n d l q h =
      let e = last_false old.serial d in
      let P : Bool → Type 0 = λ t. IsStep stands (cond t (stepped_node (before ++ SerialsSpent ∷ []) None s)
      (visit_step (before ++ Injected (own_family s.here s.serial) bound ∷ []) (next_serial s) (injected_packet s chunk bound handler))) acts new in
      let lists : list ≡ before ++ Injected (own_family s.here s.serial) bound ∷ [] = l ∙ (λ i. before ++ Injected (own_family (n.here i) (n.serial i)) bound ∷ []) in
      let packets : p ≡ injected_packet s chunk bound handler = q ∙ (λ i. own_packet (n.here i) (n.serial i) chunk bound handler) in
      let R : List Act → Type 0 = λ begun. IsStep stands (visit_step begun (next_serial s) (injected_packet s chunk bound handler)) acts new in
      let Q : Packet → Type 0 = λ x. IsStep stands (visit_step list (next_serial s) x) acts new in
      subst P (sym (ap (λ m. m == 18446744073709551615) (sym n.serial) ∙ e)) (subst R lists (subst Q packets h))

  pub own_result : (before list : List Act) (old new : Node S) (s : NodeState) (chunk : Chunk) (bound : ℕ) (handler : Option Name) (p : Packet) (r : Result Acts NoMemory) → NodeStands stands old s
      → old.serial ≢ 18446744073709551615 → list ≡ before ++ Injected (own_family old.here old.serial) bound ∷ [] → p ≡ own_packet old.here old.serial chunk bound handler
      → IfOk r (λ acts. IsStep stands (visit_step list (next_serial s) p) acts new) → IfOk r (λ acts. IsStep stands (inject_step before s chunk bound handler) acts new)
  own_result before list old new s chunk bound handler p (Ok acts) n e l q h = own_injection before list old new s chunk bound handler p acts n e l q h
  own_result before list old new s chunk bound handler p (Err x) n e l q h = h

  -- where none is left
  pub own_spent : (before list : List Act) (old : Node S) (s : NodeState) (chunk : Chunk) (bound : ℕ) (handler : Option Name) → NodeStands stands old s
      → old.serial ≡ 18446744073709551615 → list ≡ before ++ SerialsSpent ∷ [] → IsStep stands (inject_step before s chunk bound handler) (record { list = list; frame = None }) old
  unfolding inject_step
  own_spent before list old s chunk bound handler n d l =
      let e = last_true old.serial d in
      let P : Bool → Type 0 = λ t. IsStep stands (cond t (stepped_node (before ++ SerialsSpent ∷ []) None s)
      (visit_step (before ++ Injected (own_family s.here s.serial) bound ∷ []) (next_serial s) (injected_packet s chunk bound handler))) (record { list = list; frame = None }) old in
      subst P (sym (ap (λ m. m == 18446744073709551615) (sym n.serial) ∙ e)) (record { list = l; frame = refl; node = n })

  -- ---- arrivals

  -- a fresh frame arrived, and its stamp was taken
  pub freshly : (s : NodeState) (d : Dev) (x : PlainStamped) (acts : Acts) (mid new : Node S) → IsStep stands (frame_step s d x.frame) acts mid
      → ((t : NodeState) → NodeStands stands mid t → takes_as t.seen d x.stamp ≡ Fresh → NodeStands stands new (with_seen (seen_then t.seen d x.stamp) t))
      → takes_as s.seen d x.stamp ≡ Fresh → IsStep stands (stamped_as s d x Fresh) acts new
  freshly s d x acts mid new h k f =
      let t = (frame_step s d x.frame).node in
      let e : t.seen ≡ s.seen = (frame_stays s d x.frame).seen in
      record {
        list = h.list;
        frame = h.frame;
        node = subst (λ q. NodeStands stands new (with_seen (seen_then q d x.stamp) t)) e (k t h.node (ap (λ q. takes_as q d x.stamp) e ∙ f));
      }

  -- what a device takes a frame as says the step
  pub stamped_so : (s : NodeState) (d : Dev) (x : PlainStamped) (t : Took) (acts : Acts) (new : Node S) → t ≡ takes_as s.seen d x.stamp
      → IsStep stands (stamped_as s d x t) acts new → IsStep stands (stamped_step s d x) acts new
  unfolding stamped_step
  stamped_so s d x t acts new e h = subst (λ u. IsStep stands (stamped_as s d x u) acts new) e h

  -- a fresh frame was taken in
  pub fresh_steps : (d : Dev) (x : PlainStamped) (acts : Acts) (old mid new : Node S) → ((s : NodeState) → NodeStands stands old s → takes_as s.seen d x.stamp ≡ Fresh)
      → Steps stands (λ s. frame_step s d x.frame) old (Ok acts) mid
      → ((t : NodeState) → NodeStands stands mid t → takes_as t.seen d x.stamp ≡ Fresh → NodeStands stands new (with_seen (seen_then t.seen d x.stamp) t))
      → node_version new ≡ node_version mid → Steps stands (λ s. stamped_step s d x) old (Ok acts) new
  fresh_steps d x acts old mid new f h k v = record {
    ok = λ s n. stamped_so s d x Fresh acts new (sym (f s n)) (freshly s d x acts mid new (h.ok s n) k (f s n));
    err = λ s n. tt;
    same = v ∙ h.same;
  }

  stale_result : (s : NodeState) (d : Dev) (x : PlainStamped) (t : Took) (r : Result Acts NoMemory) (old : Node S) → NodeStands stands old s → t ≡ takes_as s.seen d x.stamp
      → stamped_as s d x t ≡ only_acts (Arrived d) (Stale t (what_of x.frame)) s → IfOk r (λ acts. acts.list ≡ Arrived d ∷ Stale t (what_of x.frame) ∷ []) → IfOk r (λ acts. acts.frame ≡ None)
      → IfOk r (λ acts. IsStep stands (stamped_step s d x) acts old)
  stale_result s d x t (Ok acts) old n q e l f = stamped_so s d x t acts old q (subst (λ step. IsStep stands step acts old) (sym e) (record { list = l; frame = f; node = n }))
  stale_result s d x t (Err k) old n q e l f = l

  still_stands : (r : Result Acts NoMemory) (old : Node S) (s : NodeState) → NodeStands stands old s → OnErr r (NodeStands stands old s)
  still_stands (Ok acts) old s n = tt
  still_stands (Err k) old s n = n

  -- a stale one was left
  pub stale_steps : (d : Dev) (x : PlainStamped) (t : Took) (r : Result Acts NoMemory) (old : Node S) → ((s : NodeState) → NodeStands stands old s → t ≡ takes_as s.seen d x.stamp)
      → ((s : NodeState) → stamped_as s d x t ≡ only_acts (Arrived d) (Stale t (what_of x.frame)) s) → IfOk r (λ acts. acts.list ≡ Arrived d ∷ Stale t (what_of x.frame) ∷ [])
      → IfOk r (λ acts. acts.frame ≡ None) → Steps stands (λ s. stamped_step s d x) old r old
  stale_steps d x t r old q e l f = record {
    ok = λ s n. stale_result s d x t r old n (q s n) (e s) l f;
    err = λ s n. still_stands r old s n;
    same = refl;
  }

  -- bytes that are read arrive as their frame
  pub read_arrives : (d : Dev) (bytes : List ℕ) (x : PlainStamped) (old mid new : Node S) (r : Result Acts NoMemory) → read_by old.version bytes ≡ Ok x
      → ((s : NodeState) → NodeStands stands old s → NodeStands stands mid s) → node_version mid ≡ node_version old
      → Steps stands (λ s. stamped_step s d x) mid r new → Steps stands (λ s. arrive_step s d bytes) old r new
  unfolding arrive_step
  read_arrives d bytes x old mid new r e k v h = record {
    ok = λ s n. subst (λ (step : NodeStep). IfOk r (λ acts. IsStep stands step acts new)) (sym (ap (arrived_read s d) (ap (λ u. read_by u bytes) (sym n.version) ∙ e))) (h.ok s (k s n));
    err = λ s n. h.err s (k s n);
    same = h.same ∙ v;
  }

-- the version whose frames bear this
marked_version : (v : Version) (o : Option Stamp) → IsMarked v o → version_of o ≡ v
marked_version One None m = refl
marked_version One (Some s) m = cc
marked_version Two None m = absurd m
marked_version Two (Some s) m = refl

-- a frame of the node's version that arrives by its bytes
by_bytes : (bytes : List ℕ) (x : PlainStamped) (s : NodeState) (d : Dev) → AcceptsBy (version_of x.stamp) bytes x → IsMarked s.version x.stamp → arrive_step s d bytes ≡ stamped_step s d x
unfolding arrive_step
by_bytes bytes x s d h m = ap (arrived_read s d) (accepted_by s.version bytes x (subst (λ v. AcceptsBy v bytes x) (marked_version s.version x.stamp m) h))

module _ {S : Type 0} (stands : S → ServiceState) (d : Dev) (new : Node S) (r : Result Acts NoMemory) where
  -- what arrives as the bytes of a frame arrives as that frame
  pub bytes_arrive : (bytes : List ℕ) (x : PlainStamped) (s : NodeState) → AcceptsBy (version_of x.stamp) bytes x → IsMarked s.version x.stamp
      → IfOk r (λ acts. IsStep stands (arrive_step s d bytes) acts new) → IfOk r (λ acts. IsStep stands (stamped_step s d x) acts new)
  bytes_arrive bytes x s h m done = subst (λ (step : NodeStep). IfOk r (λ acts. IsStep stands step acts new)) (by_bytes bytes x s d h m) done

  -- and so does the frame itself
  pub frame_arrives : (x y : PlainStamped) (s : NodeState) → y.stamp ≡ x.stamp → y.frame ≡ x.frame
      → IfOk r (λ acts. IsStep stands (stamped_step s d y) acts new) → IfOk r (λ acts. IsStep stands (stamped_step s d x) acts new)
  frame_arrives x y s e f done =
      let same : y ≡ x = λ i. record { stamp = e i; frame = f i } in
      subst (λ (z : PlainStamped). IfOk r (λ acts. IsStep stands (stamped_step s d z) acts new)) same done

-- what a version lets be named may handle
none_handles : (c : Chunk) (o : Option Name) → o ≡ None → MayHandle c o
none_handles c None e = tt
none_handles c (Some n) e = cc

pub named_handles : (v : Version) (c : Chunk) (o : Option Name) → MayName v c o → MayHandle c o
named_handles One c o h = none_handles c o h
named_handles Two c o h = h

-- what a version lets be named may go on from its nodes
pub named_carries : (v : Version) (boot : ℕ) (c : Chunk) (o : Option Name) → MayName v c o → MayCarry (mark_of v boot) o
named_carries One boot c o h = h
named_carries Two boot c o h = tt

-- each version lets none be named
pub none_named : (v : Version) (c : Chunk) (o : Option Name) → o ≡ None → MayName v c o
none_named One c o e = e
none_named Two c o e = none_handles c o e

-- what may leave a node may go on from one of its version
left_goes_on : (boot : ℕ) (o : Option Stamp) (x : PlainFrame) → MayLeave o x → MayGoOn (mark_of (version_of o) boot) x
left_goes_on boot None (PlainFrame.Packet p) h = h
left_goes_on boot (Some s) (PlainFrame.Packet p) h = tt
left_goes_on boot o (PlainFrame.Advert a) h = tt
left_goes_on boot o (PlainFrame.Ask bound chunk) h = tt

pub frame_goes_on : (v : Version) (boot : ℕ) (x : PlainStamped) (y : PlainFrame) → MayLeave x.stamp x.frame → v ≡ version_of x.stamp → y ≡ x.frame → MayGoOn (mark_of v boot) y
frame_goes_on v boot x y h e f = subst (MayGoOn (mark_of v boot)) (sym f) (subst (λ u. MayGoOn (mark_of u boot) x.frame) (sym e) (left_goes_on boot x.stamp x.frame h))

-- a stamp is one that frames of its version may bear
own_bears : (o : Option Stamp) → MayBear (version_of o) o
own_bears None = refl
own_bears (Some t) = tt

-- and so it is for the stamp of a frame
pub frame_bears : (v : Version) (x : PlainStamped) (o : Option Stamp) → v ≡ version_of x.stamp → o ≡ x.stamp → MayBear v o
frame_bears v x o e f = subst (λ u. MayBear u o) (sym (e ∙ ap version_of (sym f))) (own_bears o)
