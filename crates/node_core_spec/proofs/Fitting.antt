-- Each step of a node keeps its limits.
use Rattle.std.proofs.Common.{◌≡◌, ℕ, suc, ◌+◌, ◌<◌, ◌≤◌, ◌^◌, Bool, true, false, cond, List, [], ◌∷◌, ◌++◌, refl, arith, length}
use Rattle.std.specs.Prelude.{map, slice_get, nat_le, ◌==◌, ◌&&◌, filter, IsTrue, Option, Some, None, Result, Ok, Err, All}
use Rattle.std.proofs.lemmas.List.Sums.{sum_by-cons}
use Rattle.std.proofs.lemmas.List.Elements.{All-nil, All-cons, All-head, All-tail, All-filter}
use Rattle.std.proofs.lemmas.Bool.Decides.{nat_tests}
use Rattle.plan_base.specs.declared.name.Name.{Name}
use Rattle.plan_base.specs.declared.ids.Dev.{Dev}
use Rattle.plan_base.specs.declared.tree.Chunk.{Chunk}
use Rattle.plan_base.specs.declared.tree.Packet.{Packet}
use Rattle.plan_types_spec.specs.Handlers.{MayHandle}
use Rattle.wire_bytes.specs.Fields.{IsBytes}
use Rattle.packet_frame.specs.declared.frame.PlainFrame.{PlainFrame}
use Rattle.packet_frame.specs.declared.frame.PlainStamped.{PlainStamped}
use Rattle.packet_frame.specs.Forms.{FrameFits}
use Rattle.packet_frame.specs.Typed.{CarriesTyped, CarriesHandler}
use Rattle.packet_frame.specs.Stamped.{AcceptsBy}
use Rattle.plan_base.specs.declared.stamp.Version.{Version}
use Rattle.plan_base.specs.declared.stamp.Version.TheVariants.{One, Two}
use Rattle.plan_base.specs.declared.stamp.Stamp.{Stamp}
use Rattle.replay_window.specs.declared.window.Took.{Took}
use Rattle.replay_window.specs.declared.window.Took.TheVariants.{Fresh, Repeated, TooOld}
use Rattle.replay_window.specs.Seen.{Seen}
use Rattle.node_core_spec.specs.declared.acts.TxQueue.{TxQueue}
use Rattle.packet_frame.specs.declared.fault.FrameFault.{FrameFault}
use Rattle.packet_frame.proofs.Carried.{chunk_is_formed}
use Rattle.packet_frame.specs.Decoding.{read_by}
use Rattle.packet_frame.proofs.Versions.{found_by}
use Rattle.checked_chunks.specs.Kept.{IsCheckedChunk}
use Rattle.service_api.specs.declared.row.Row.{Row}
use Rattle.service_api.specs.Rows.{row_size, rows_size, living, is_live}
use Rattle.service_api.specs.declared.advert.Advert.{Advert}
use Rattle.service_api.specs.declared.router.Hop.{Hop}
use Rattle.service_api.specs.declared.router.Hop.TheVariants.{To, NoService, NoRoute}
use Rattle.service_api.specs.Adverts.{AdvertFits}
use Rattle.service_api.specs.Routes.{hop}
use Rattle.service_api.specs.Services.{Rows, ServiceState, IsGoodChunk, IsGoodValue, AreGoodRows, unexpired_services}
use Rattle.plan_meaning.specs.declared.sent.Sent.{Sent}
use Rattle.plan_meaning.specs.Visit.{bounds}
use Rattle.dv_routing.specs.Routing.{all_routes, own_advert}
use Rattle.dv_routing.proofs.Rows.{advert_fits}
use Rattle.network_config.specs.declared.event.Event.{Event}
use Rattle.network_config.specs.declared.event.Event.TheVariants as event
use Rattle.network_config.specs.Rules.{MayName, KeepsInjection}
use Rattle.node_core_spec.specs.declared.acts.Act.{Act}
use Rattle.node_core_spec.specs.declared.acts.Act.TheVariants.{Injected, Asked, SerialsSpent}
use Rattle.node_core_spec.specs.State.{Links, Queues, NodeState, routing_of, is_host, leads_to}
use Rattle.plan_eval_settle.proofs.Sends.{IsGoodSettled, settled_good}
use Rattle.node_core_spec.specs.Visits.{around, visit_at, settled_at}
use Rattle.packet_frame.specs.Spelled.{stamp_with}
use Rattle.node_core_spec.specs.Node.{NodeStep, stepped_node, mark_of, mark, takes_as, seen_then, with_seen, noting, stamped_as, stamped_step, asked_plain, take_first, hop_packet, packet_sending}
use Rattle.node_core_spec.specs.Node.{advert_sending, visit_sends, tick_sends, visit_step, next_serial, injected_packet, inject_step, forward_by, forward_step, packet_step, hearing, advert_step}
use Rattle.node_core_spec.specs.Node.{frame_step, arrived_read, arrive_step, asked_read, control_step, next_tick, tick_step, take_from, take_step, node_step}
use Rattle.node_core_spec.specs.Fits.{PacketFits, FrameKeeps, IsMarked, StampedKeeps, QueuesKeep, ServicesFit, NodeFits, comes_fit}
use Rattle.node_core_spec.proofs.Keeping.{Sends, Whatever, send_keeps, sends_keep, took}
use Rattle.node_core_spec.proofs.VisitLaws.{settled_keeps, visit_fits}

-- ---- what is sent

-- a node's frames bear what its version says
mark_fits : (v : Version) (boot : ℕ) → IsMarked v (mark_of v boot)
mark_fits One boot = refl
mark_fits Two boot = tt

again : (v : Version) → Whatever (StampedKeeps v)
again v n x h = record { frame = h.frame; mark = by v x.stamp h.mark }
  where
    by : (v : Version) (s : Option Stamp) → IsMarked v s → IsMarked v (stamp_with n s)
    by One None m = refl
    by One (Some s) m = cc
    by Two None m = absurd m
    by Two (Some s) m = tt

hop_fits : (p : Packet) → PacketFits p → PacketFits (hop_packet p)
hop_fits p h = record { bound = omega (arith, h.bound); chunk = h.chunk; handler = h.handler }

-- a packet without a handler may have none
none_handles : (c : Chunk) (o : Option Name) → o ≡ None → MayHandle c o
none_handles c None e = tt
none_handles c (Some n) e = cc

-- what a settled visit sends is within its bound, and good
sent_fits : (v : Version) (m : Option Stamp) (ss : List Sent) → IsMarked v m → bounds ss ≤ 65535 → All IsGoodSettled ss → All (Sends (StampedKeeps v)) (map (packet_sending m) ss)
sent_fits v m [] k h g = All-nil (Sends (StampedKeeps v))
sent_fits v m (s ∷ ss) k h g =
    let e = sum_by-cons (λ (s : Sent). s.packet.bound) s ss in
    let good = All-head IsGoodSettled s ss g in
    All-cons (Sends (StampedKeeps v)) (packet_sending m s) (map (packet_sending m) ss)
    (record { frame = hop_fits s.packet (record { bound = omega arith; chunk = good.chunk; handler = good.handler }); mark = k })
    (sent_fits v m ss k (omega arith) (All-tail IsGoodSettled s ss g))

adverts_sent : (v : Version) (m : Option Stamp) (a : Advert) (links : Links) → IsMarked v m → AdvertFits a → All (Sends (StampedKeeps v)) (map (advert_sending m a) links)
adverts_sent v m a [] k h = All-nil (Sends (StampedKeeps v))
adverts_sent v m a (l ∷ ls) k h = All-cons (Sends (StampedKeeps v)) (advert_sending m a l) (map (advert_sending m a) ls) (record { frame = h; mark = k }) (adverts_sent v m a ls k h)

-- ---- rows that stay

fewer : (p : Row → Bool) (rows : List Row) → length (filter p rows) ≤ length rows
fewer p [] = omega arith
fewer p (r ∷ rs) = one (p r) (fewer p rs)
  where
    one : (t : Bool) → length (filter p rs) ≤ length rs → length (cond t (r ∷ filter p rs) (filter p rs)) ≤ suc (length rs)
    one true h = omega (arith, h)
    one false h = omega (arith, h)

smaller : (p : Row → Bool) (rows : List Row) → rows_size (filter p rows) ≤ rows_size rows
smaller p [] = omega arith
smaller p (r ∷ rs) = one (p r) (smaller p rs)
  where
    one : (t : Bool) → rows_size (filter p rs) ≤ rows_size rs → rows_size (cond t (r ∷ filter p rs) (filter p rs)) ≤ rows_size (r ∷ rs)
    one true h = omega (arith, h, sum_by-cons row_size r (filter p rs), sum_by-cons row_size r rs)
    one false h = omega (arith, h, sum_by-cons row_size r rs)

both_fit : (n m s z : ℕ) → n ≤ m → s ≤ z → IsTrue (nat_le m 1024 && nat_le z 1048576) → IsTrue (nat_le n 1024 && nat_le s 1048576)
both_fit n m s z a b h = grind (arith, nat_tests)

living_good : (now : ℕ) (r : Rows) → AreGoodRows r → AreGoodRows (record r { rows = living now r.rows })
living_good now r g = record {
  values = All-filter (is_live now) (λ x. IsGoodValue x.ty x.value) r.rows g.values;
  room = both_fit (length (living now r.rows)) (length r.rows) (rows_size (living now r.rows)) (rows_size r.rows) (fewer (is_live now) r.rows) (smaller (is_live now) r.rows) g.room;
  least = g.least;
  greatest = g.greatest;
}

expired_fits : (now : ℕ) (n : ServiceState) → ServicesFit n → ServicesFit (unexpired_services now n)
expired_fits now n h = record { good = record { serve = h.good.serve; rows = living_good now n.rows h.good.rows }; closed = h.closed; waits = h.waits }

-- ---- steps

abbrev pub FrameTaken : Version → Option PlainStamped → Type 0
FrameTaken v None = Unit {0}
FrameTaken v (Some x) = StampedKeeps v x

pub record StepFits (step : NodeStep) : Type 0 where
  pub node : NodeFits step.node
  pub frame : FrameTaken step.node.version step.frame

step_cases : (t : Bool) (a b : NodeStep) → StepFits a → StepFits b → StepFits (cond t a b)
step_cases true a b x y = x
step_cases false a b x y = y

-- a node with other queues
with_fits : (node : NodeState) (queues : Queues) → QueuesKeep (StampedKeeps node.version) queues → NodeFits node → NodeFits (record node { queues = queues })
with_fits node queues q n = record { here = n.here; hosts = n.hosts; near = n.near; ordered = n.ordered; services = n.services; queues = q; serial = n.serial; now = n.now }

still : (acts : List Act) (node : NodeState) → NodeFits node → StepFits (stepped_node acts None node)
still acts node n = record { node = n; frame = tt }

visited_fits : (acts : List Act) (node : NodeState) (p : Packet) → PacketFits p → NodeFits node → StepFits (visit_step acts node p)
unfolding visit_step visit_sends
visited_fits acts node p h n =
    let k = settled_keeps node p in
    let v = visit_fits node p n.services.good n.near h.chunk in
    record {
      node = record {
        here = n.here;
        hosts = n.hosts;
        near = n.near;
        ordered = n.ordered;
        services = v.services;
        queues = sends_keep (StampedKeeps node.version) (again node.version) node.queues (map (packet_sending (mark node)) (settled_at node p).visit.outbox)
            (sent_fits node.version (mark node) _ (mark_fits node.version node.boot) (omega (arith, k.balance, h.bound)) (settled_good p (around node p) (visit_at node p) h.chunk h.handler v.packets)) n.queues;
        serial = n.serial;
        now = n.now;
      };
      frame = tt;
    }

good_of : (chunk : Chunk) → IsCheckedChunk chunk → IsGoodChunk chunk
good_of chunk k = record { typed = k.typed; formed = k.formed }

serial_fits : (n : ℕ) → (n == 18446744073709551615) ≡ false → n < 2 ^ 64 → n + 1 < 2 ^ 64
serial_fits n e h = grind (arith, nat_tests)

next_fits : (node : NodeState) → (node.serial == 18446744073709551615) ≡ false → NodeFits node → NodeFits (next_serial node)
next_fits node e n = record { here = n.here; hosts = n.hosts; near = n.near; ordered = n.ordered; services = n.services; queues = n.queues; serial = serial_fits node.serial e n.serial; now = n.now }

inject_cases : (t : Bool) (before : List Act) (node : NodeState) (chunk : Chunk) (bound : ℕ) (handler : Option Name) → (node.serial == 18446744073709551615) ≡ t → PacketFits (injected_packet node chunk bound handler) → NodeFits node
    → StepFits (cond t (stepped_node (before ++ SerialsSpent ∷ []) None node) (visit_step (before ++ Injected (record { source = node.here; serial = node.serial }) bound ∷ []) (next_serial node) (injected_packet node chunk bound handler)))
inject_cases true before node chunk bound handler e h n = still _ node n
inject_cases false before node chunk bound handler e h n = visited_fits _ (next_serial node) (injected_packet node chunk bound handler) h (next_fits node e n)

inject_fits : (before : List Act) (node : NodeState) (chunk : Chunk) (bound : ℕ) (handler : Option Name) → PacketFits (injected_packet node chunk bound handler) → NodeFits node → StepFits (inject_step before node chunk bound handler)
unfolding inject_step
inject_fits before node chunk bound handler h n = inject_cases (node.serial == 18446744073709551615) before node chunk bound handler refl h n

by_fits : (node : NodeState) (d : Dev) (p : Packet) (o : Hop) → PacketFits p → NodeFits node → StepFits (forward_by node d p o)
unfolding forward_by
by_fits node d p (To host over) h n =
    let s = packet_sending (mark node) (record { dev = over; packet = p }) in
    record { node = with_fits node _ (send_keeps (StampedKeeps node.version) (again node.version) node.queues s (record { frame = hop_fits p h; mark = mark_fits node.version node.boot }) n.queues) n; frame = tt }
by_fits node d p NoService h n = still _ node n
by_fits node d p NoRoute h n = still _ node n

forward_fits : (node : NodeState) (d : Dev) (p : Packet) → PacketFits p → NodeFits node → StepFits (forward_step node d p)
unfolding forward_step
forward_fits node d p h n = step_cases (p.bound == 0) _ _ (still _ node n) (by_fits node d p (hop (all_routes (routing_of node)) p.route node.here p.dest) h n)

packet_fits : (node : NodeState) (d : Dev) (p : Packet) → PacketFits p → NodeFits node → StepFits (packet_step node d p)
unfolding packet_step
packet_fits node d p h n = step_cases (is_host p.dest node.here) _ _ (visited_fits _ node p h n) (forward_fits node d p h n)

hearing_fits : (node : NodeState) (d : Dev) (a : Advert) → NodeFits node → NodeFits (hearing node d a)
hearing_fits node d a n = record { here = n.here; hosts = n.hosts; near = n.near; ordered = n.ordered; services = n.services; queues = n.queues; serial = n.serial; now = n.now }

advert_step_fits : (node : NodeState) (d : Dev) (a : Advert) → NodeFits node → StepFits (advert_step node d a)
unfolding advert_step
advert_step_fits node d a n = step_cases (leads_to node.neighbours d a.host) _ _ (still _ (hearing node d a) (hearing_fits node d a n)) (still _ node n)

-- what may be accepted of bytes
abbrev pub Taken : PlainFrame → Type 0
Taken (PlainFrame.Packet p) = PacketFits p
Taken (PlainFrame.Advert a) = Unit {0}
Taken (PlainFrame.Ask bound chunk) = (bound ≤ 65535) × IsGoodChunk chunk

pub taken_in : (bytes : List ℕ) (v : Version) (x : PlainStamped) → AcceptsBy v bytes x → Taken x.frame
taken_in bytes v x h = by x.frame h.fits h.typed h.handler
  where
    by : (x : PlainFrame) → FrameFits x → CarriesTyped x → CarriesHandler x → Taken x
    by (PlainFrame.Packet p) f t k = record { bound = f.1.1.1.0; chunk = record { typed = t; formed = chunk_is_formed p.chunk f.1.1.1.1.1.0 }; handler = k }
    by (PlainFrame.Advert a) f t k = tt
    by (PlainFrame.Ask bound chunk) f t k = (f.0, record { typed = t; formed = chunk_is_formed chunk f.1.0 })

pub kept_taken : (x : PlainFrame) → FrameKeeps x → Taken x
kept_taken (PlainFrame.Packet p) h = h
kept_taken (PlainFrame.Advert a) h = tt
kept_taken (PlainFrame.Ask bound chunk) h = absurd h

frame_taken_fits : (node : NodeState) (d : Dev) (x : PlainFrame) → Taken x → NodeFits node → StepFits (frame_step node d x)
frame_taken_fits node d (PlainFrame.Packet p) h n = packet_fits node d p h n
frame_taken_fits node d (PlainFrame.Advert a) h n = advert_step_fits node d a n
frame_taken_fits node d (PlainFrame.Ask bound chunk) h n = still _ node n

with_seen_fits : (node : NodeState) (seen : List Seen) → NodeFits node → NodeFits (with_seen seen node)
with_seen_fits node seen n = record { here = n.here; hosts = n.hosts; near = n.near; ordered = n.ordered; services = n.services; queues = n.queues; serial = n.serial; now = n.now }

noting_fits : (node : NodeState) (d : Dev) (stamp : Option Stamp) (step : NodeStep) → StepFits step → StepFits (noting node d stamp step)
noting_fits node d stamp step f = record { node = with_seen_fits step.node (seen_then node.seen d stamp) f.node; frame = f.frame }

as_fits : (node : NodeState) (d : Dev) (x : PlainStamped) (t : Took) → Taken x.frame → NodeFits node → StepFits (stamped_as node d x t)
as_fits node d x Fresh h n = noting_fits node d x.stamp _ (frame_taken_fits node d x.frame h n)
as_fits node d x Repeated h n = still _ node n
as_fits node d x TooOld h n = still _ node n

stamped_taken_fits : (node : NodeState) (d : Dev) (x : PlainStamped) → Taken x.frame → NodeFits node → StepFits (stamped_step node d x)
unfolding stamped_step
stamped_taken_fits node d x h n = as_fits node d x (takes_as node.seen d x.stamp) h n

-- a frame that was on its way
pub stamped_fits : (node : NodeState) (d : Dev) (x : PlainStamped) → FrameKeeps x.frame → NodeFits node → StepFits (stamped_step node d x)
stamped_fits node d x h n = stamped_taken_fits node d x (kept_taken x.frame h) n

arrived_fits : (node : NodeState) (d : Dev) (bytes : List ℕ) (r : Result PlainStamped FrameFault) → IsBytes bytes → read_by node.version bytes ≡ r → NodeFits node → StepFits (arrived_read node d r)
arrived_fits node d bytes (Ok x) b e n = stamped_taken_fits node d x (taken_in bytes node.version x (found_by node.version bytes x b e)) n
arrived_fits node d bytes (Err e) b h n = still _ node n

pub arrive_fits : (node : NodeState) (d : Dev) (bytes : List ℕ) → IsBytes bytes → NodeFits node → StepFits (arrive_step node d bytes)
unfolding arrive_step
arrive_fits node d bytes b n = arrived_fits node d bytes (read_by node.version bytes) b refl n

asked_taken : (node : NodeState) (x : PlainFrame) → Taken x → NodeFits node → StepFits (asked_plain node x)
asked_taken node (PlainFrame.Packet p) h n = still _ node n
asked_taken node (PlainFrame.Advert a) h n = still _ node n
asked_taken node (PlainFrame.Ask bound chunk) h n = inject_fits (Asked ∷ []) node chunk bound None (record { bound = h.0; chunk = h.1; handler = tt }) n

asked_fits : (node : NodeState) (bytes : List ℕ) (r : Result PlainStamped FrameFault) → IsBytes bytes → read_by node.version bytes ≡ r → NodeFits node → StepFits (asked_read node r)
asked_fits node bytes (Ok x) b e n = asked_taken node x.frame (taken_in bytes node.version x (found_by node.version bytes x b e)) n
asked_fits node bytes (Err e) b h n = still _ node n

control_fits : (node : NodeState) (bytes : List ℕ) → IsBytes bytes → NodeFits node → StepFits (control_step node bytes)
unfolding control_step
control_fits node bytes b n = asked_fits node bytes (read_by node.version bytes) b refl n

tick_cases : (t : Bool) (n : ℕ) → (n == 18446744073709551615) ≡ t → n < 2 ^ 64 → cond t n (n + 1) < 2 ^ 64
tick_cases true n e h = h
tick_cases false n e h = serial_fits n e h

pub tick_fits : (node : NodeState) → NodeFits node → StepFits (tick_step node)
unfolding tick_step tick_sends
tick_fits node n =
    let a = own_advert (routing_of node) in
    let h = advert_fits (routing_of node) n.here n.hosts.numbers n.hosts.few n.hosts.ascend in
    record {
      node = record {
        here = n.here;
        hosts = n.hosts;
        near = n.near;
        ordered = n.ordered;
        services = expired_fits (next_tick node.now) node.services n.services;
        queues = sends_keep (StampedKeeps node.version) (again node.version) node.queues (map (advert_sending (mark node) a) node.neighbours)
            (adverts_sent node.version (mark node) a node.neighbours (mark_fits node.version node.boot) h) n.queues;
        serial = n.serial;
        now = tick_cases (node.now == 18446744073709551615) node.now refl n.now;
      };
      frame = tt;
    }

take_first_fits : (node : NodeState) (d : Dev) (n : ℕ) (queue : List PlainStamped) → slice_get node.queues d.0 ≡ Some (record { frames = queue; number = n }) → NodeFits node
    → StepFits (take_first node d n queue)
take_first_fits node d n [] e k = still [] node k
take_first_fits node d n (x ∷ queue) e k =
    let t = took (StampedKeeps node.version) node.queues d.0 n x queue e k.queues in
    record { node = with_fits node _ t.rest k; frame = t.frame }

take_from_fits : (node : NodeState) (d : Dev) (o : Option TxQueue) → slice_get node.queues d.0 ≡ o → NodeFits node → StepFits (take_from node d o)
take_from_fits node d None e n = still [] node n
take_from_fits node d (Some lane) e n = take_first_fits node d lane.number lane.frames e n

pub take_fits : (node : NodeState) (d : Dev) → NodeFits node → StepFits (take_step node d)
unfolding take_step
take_fits node d n = take_from_fits node d (slice_get node.queues d.0) refl n

-- what a version lets be named may handle
named_handles : (v : Version) (c : Chunk) (o : Option Name) → MayName v c o → MayHandle c o
named_handles One c o h = none_handles c o h
named_handles Two c o h = h

pub inject_event_fits : (node : NodeState) (chunk : Chunk) (bound : ℕ) (handler : Option Name) → KeepsInjection node.version chunk bound handler → NodeFits node → StepFits (inject_step [] node chunk bound handler)
inject_event_fits node chunk bound handler k n =
    inject_fits [] node chunk bound handler (record { bound = k.0.0; chunk = good_of chunk k.0.1; handler = named_handles node.version chunk handler k.1 }) n

-- each step keeps the limits
pub step_fits : (node : NodeState) (e : Event) → comes_fit node.version e → NodeFits node → StepFits (node_step node e)
step_fits node (event.Inject chunk bound handler) c n = inject_event_fits node chunk bound handler c n
step_fits node (event.Frame d bytes) c n = arrive_fits node d bytes c n
step_fits node (event.Control bytes) c n = control_fits node bytes c n
step_fits node event.Tick c n = tick_fits node n
step_fits node (event.Take d) c n = take_fits node d n
