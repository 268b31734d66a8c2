-- The visits of an event, and of each event of a run, end well.
use Rattle.std.proofs.Common.{◌≡◌, ℕ, zero, suc, ◌≤◌, Bool, true, false, cond, List, [], ◌∷◌, length, refl}
use Rattle.std.specs.Prelude.{◌==◌, Option, Some, None, Result, Ok, Err, All}
use Rattle.std.proofs.lemmas.List.Elements.{All-nil, All-cons, All-head, All-tail}
use Rattle.plan_base.specs.declared.ids.Host.{Host}
use Rattle.plan_base.specs.declared.name.Name.{Name}
use Rattle.plan_base.specs.declared.tree.Chunk.{Chunk}
use Rattle.plan_base.specs.declared.tree.Packet.{Packet}
use Rattle.wire_bytes.specs.Fields.{IsBytes}
use Rattle.packet_frame.specs.declared.frame.PlainFrame.{PlainFrame}
use Rattle.packet_frame.specs.declared.fault.FrameFault.{FrameFault}
use Rattle.plan_base.specs.declared.ids.Dev.{Dev}
use Rattle.packet_frame.specs.declared.frame.PlainStamped.{PlainStamped}
use Rattle.packet_frame.specs.Decoding.{read_by}
use Rattle.packet_frame.proofs.Versions.{found_by}
use Rattle.plan_base.specs.declared.stamp.Version.{Version}
use Rattle.replay_window.specs.declared.window.Took.{Took}
use Rattle.replay_window.specs.declared.window.Took.TheVariants.{Fresh, Repeated, TooOld}
use Rattle.checked_chunks.specs.Kept.{IsCheckedChunk}
use Rattle.service_api.specs.Services.{IsGood, IsGoodChunk, IsGoodNote, begun_now}
use Rattle.plan_meaning.specs.Safe.{IsGoodSent, IsGoodState}
use Rattle.plan_meaning.specs.Visit.{begun_state}
use Rattle.plan_meaning.proofs.Allowances.{visit_can_end}
use Rattle.network_config.specs.declared.event.WorldEvent.{WorldEvent}
use Rattle.network_config.specs.declared.event.WorldEvent.TheVariants.{Inject, Send, Deliver, Repeat, Lose, Tick, Raw}
use Rattle.node_core_spec.specs.State.{NodeState, is_host}
use Rattle.node_core_spec.specs.Node.{takes_as, next_serial, injected_packet}
use Rattle.node_core_spec.specs.Visits.{around}
use Rattle.node_core_spec.specs.Fits.{NodeFits}
use Rattle.node_core_spec.proofs.Fitting.{Taken, taken_in, kept_taken}
use Rattle.node_core_spec.proofs.VisitLaws.{has_case}
use Rattle.net_world_spec.specs.declared.lines.FrameOnWire.{FrameOnWire}
use Rattle.net_world_spec.specs.World.{WorldState, place_of, wire_place, happens}
use Rattle.net_world_spec.specs.Sound.{IsSound, event_fits, EventsFit}
use Rattle.net_world_spec.specs.Visits.{Visiting, one_visit, frame_visits, visits_as, stamped_visits, read_visits, bytes_visits, chunk_visits, item_at, at_node, at_host, of_wired, delivered_visits, event_visits, visits_after, EndsWell}
use Rattle.net_world_spec.proofs.Fitting.{node_there, wired_of, rest_fits, event_version, event_sound}

-- ---- at a node

module _ (node : NodeState) (p : Packet) (good : IsGood node.services) (near : length node.neighbours ≤ 8) where
  good_start : IsGoodState (begun_state 0 (around node p) p.family (begun_now node.services))
  good_start = record {
    services = record { serve = good.serve; rows = good.rows };
    notes = All-nil IsGoodNote;
    outbox = All-nil IsGoodSent;
    near = near;
  }

  -- a good chunk at a node with good services ends well
  pub ends_well : IsGoodChunk p.chunk → All EndsWell (one_visit node p)
  ends_well k = All-cons EndsWell (record { node = node; packet = p }) [] (record {
    case = has_case node p good near k;
    ends = visit_can_end p.chunk (around node p) p.family (begun_now node.services) k 0 good_start;
  }) (All-nil EndsWell)

pub cases : (t : Bool) (vs ws : List Visiting) → All EndsWell vs → All EndsWell ws → All EndsWell (cond t vs ws)
cases true vs ws a b = a
cases false vs ws a b = b

frame_ends : (x : PlainFrame) (node : NodeState) → Taken x → NodeFits node → All EndsWell (frame_visits x node)
frame_ends (PlainFrame.Packet p) node h n = cases (is_host p.dest node.here) (one_visit node p) [] (ends_well node p n.services.good n.near h.chunk) (All-nil EndsWell)
frame_ends (PlainFrame.Advert a) node h n = All-nil EndsWell
frame_ends (PlainFrame.Ask bound chunk) node h n = All-nil EndsWell

as_ends : (t : Took) (x : PlainFrame) (node : NodeState) → Taken x → NodeFits node → All EndsWell (visits_as t x node)
as_ends Fresh x node h n = frame_ends x node h n
as_ends Repeated x node h n = All-nil EndsWell
as_ends TooOld x node h n = All-nil EndsWell

stamped_ends : (d : Dev) (x : PlainStamped) (node : NodeState) → Taken x.frame → NodeFits node → All EndsWell (stamped_visits d x node)
unfolding stamped_visits
stamped_ends d x node h n = as_ends (takes_as node.seen d x.stamp) x.frame node h n

read_ends : (d : Dev) (v : Version) (bytes : List ℕ) (r : Result PlainStamped FrameFault) (node : NodeState) → IsBytes bytes → read_by v bytes ≡ r → NodeFits node → All EndsWell (read_visits d r node)
read_ends d v bytes (Ok x) node b e n = stamped_ends d x node (taken_in bytes v x (found_by v bytes x b e)) n
read_ends d v bytes (Err e) node b h n = All-nil EndsWell

pub bytes_end : (d : Dev) (bytes : List ℕ) (node : NodeState) → IsBytes bytes → NodeFits node → All EndsWell (bytes_visits d bytes node)
bytes_end d bytes node b n = read_ends d node.version bytes (read_by node.version bytes) node b refl n

pub chunk_ends : (chunk : Chunk) (bound : ℕ) (handler : Option Name) (node : NodeState) → IsCheckedChunk chunk → NodeFits node → All EndsWell (chunk_visits chunk bound handler node)
chunk_ends chunk bound handler node k n = cases (node.serial == 18446744073709551615) [] (one_visit (next_serial node) (injected_packet node chunk bound handler)) (All-nil EndsWell)
    (ends_well (next_serial node) (injected_packet node chunk bound handler) n.services.good n.near (record { typed = k.typed; formed = k.formed }))

-- ---- in a network

at_node_ends : (nodes : List NodeState) (visits : NodeState → List Visiting) (place : Option ℕ) (o : Option NodeState) → item_at nodes place ≡ o → ((node : NodeState) → NodeFits node → All EndsWell (visits node))
    → All NodeFits nodes → All EndsWell (at_node visits o)
at_node_ends nodes visits place None e h s = All-nil EndsWell
at_node_ends nodes visits (Some at) (Some node) e h s = h node (node_there nodes at node e s)
at_node_ends nodes visits None (Some node) e h s = cc

at_host_ends : (w : WorldState) (h : Host) (visits : NodeState → List Visiting) → ((node : NodeState) → NodeFits node → All EndsWell (visits node)) → IsSound w → All EndsWell (at_host w h visits)
unfolding at_host
at_host_ends w h visits e s = at_node_ends w.nodes visits (place_of w.nodes h) (item_at w.nodes (place_of w.nodes h)) refl e s.nodes

of_wired_ends : (w : WorldState) (place : Option ℕ) (o : Option FrameOnWire) → item_at w.wire place ≡ o → IsSound w → All EndsWell (of_wired w o)
of_wired_ends w place None e s = All-nil EndsWell
of_wired_ends w (Some at) (Some x) e s = at_host_ends w x.to.host (stamped_visits x.to.dev x.frame)
    (λ node n. stamped_ends x.to.dev x.frame node (kept_taken x.frame.frame (wired_of w.version w.«next» w.wire at x e s.wire).frame.frame) n) s
of_wired_ends w None (Some x) e s = cc

delivered_ends : (w : WorldState) (number : ℕ) → IsSound w → All EndsWell (delivered_visits w number)
unfolding delivered_visits
delivered_ends w number s = of_wired_ends w (wire_place w.wire number) (item_at w.wire (wire_place w.wire number)) refl s

-- the visits of an event end well
pub event_ends : (w : WorldState) (e : WorldEvent) → event_fits w.version e → IsSound w → All EndsWell (event_visits w e)
event_ends w (Inject h chunk bound handler) b s = at_host_ends w h (chunk_visits chunk bound handler) (λ node n. chunk_ends chunk bound handler node b.0.1 n) s
event_ends w (Send h d) b s = All-nil EndsWell
event_ends w (Deliver number) b s = delivered_ends w number s
event_ends w (Repeat number) b s = delivered_ends w number s
event_ends w (Lose number) b s = All-nil EndsWell
event_ends w (Tick h) b s = All-nil EndsWell
event_ends w (Raw h d bytes) b s = at_host_ends w h (bytes_visits d bytes) (λ node n. bytes_end d bytes node b.1 n) s

-- and so do those of each event of a run
pub run_ends : (k : ℕ) (es : List WorldEvent) (w : WorldState) → EventsFit w.version es → IsSound w → All EndsWell (visits_after k es w)
run_ends k [] w b s = All-nil EndsWell
run_ends zero (e ∷ es) w b s = event_ends w e (All-head (event_fits w.version) e es b) s
run_ends (suc k) (e ∷ es) w b s =
    let first = All-head (event_fits w.version) e es b in
    let next = (happens w e).world in
    run_ends k es next (rest_fits next.version w es (event_version w e first s) (All-tail (event_fits w.version) e es b)) (event_sound w e first s)
