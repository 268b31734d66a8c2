-- Each number goes onto the wire at most once, and off it at most once; each frame on the wire leads to the other end of its link.
use Rattle.std.proofs.Common.{◌≡◌, ℕ, ◌+◌, ◌≤◌, Bool, true, false, cond, List, [], ◌∷◌, ◌++◌, refl, sym, ap, ◌∙◌, subst, arith, length}
use Rattle.std.specs.Prelude.{map, slice_get, slice_set, remove, nat_lt, nat_le, Option, Some, None, Result, Ok, Err}
use Rattle.std.proofs.lemmas.List.Sums.{sum_by_push, sum_by-set, sum_by-remove}
use Rattle.std.proofs.lemmas.List.Elements.{All-nil, All-push, All-set}
use Rattle.std.proofs.lemmas.Option.{slice_get_within, get_or_from_slice_get}
use Rattle.std.proofs.lemmas.Bool.Decides.{nat_tests}
use Rattle.plan_base.specs.declared.ids.Host.{Host}
use Rattle.plan_base.specs.declared.ids.Dev.{Dev}
use Rattle.packet_frame.specs.declared.frame.PlainFrame.{PlainFrame}
use Rattle.packet_frame.specs.declared.fault.FrameFault.{FrameFault}
use Rattle.packet_frame.specs.declared.frame.PlainStamped.{PlainStamped}
use Rattle.packet_frame.specs.Stamped.{stamped_bytes}
use Rattle.packet_frame.specs.Decoding.{read_by}
use Rattle.network_config.specs.declared.schedule.Topology.{Topology}
use Rattle.network_config.specs.declared.event.WorldEvent.{WorldEvent}
use Rattle.network_config.specs.declared.event.WorldEvent.TheVariants.{Inject, Send, Deliver, Repeat, Lose, Tick, Raw}
use Rattle.packet_frame.specs.Spelled.{what_of}
use Rattle.node_core_spec.specs.declared.acts.Act.{Act}
use Rattle.node_core_spec.specs.State.{NodeState}
use Rattle.node_core_spec.specs.Node.{NodeStep, inject_step, stamped_step, arrive_step, tick_step, take_step}
use Rattle.node_core_spec.specs.Counts.{act_sum}
use Rattle.node_core_spec.proofs.CountLaws.{act_sum-nil, act_sum-cons}
use Rattle.net_world_spec.specs.declared.lines.Line.{Line}
use Rattle.net_world_spec.specs.declared.lines.Line.TheVariants.{At, Forged, Wire, Off, Again, Lost, Nothing}
use Rattle.net_world_spec.specs.declared.lines.LinkEnd.{LinkEnd}
use Rattle.net_world_spec.specs.declared.lines.Entry.{Entry}
use Rattle.net_world_spec.specs.declared.lines.FrameOnWire.{FrameOnWire}
use Rattle.net_world_spec.specs.declared.lines.Delivery.{Delivery}
use Rattle.net_world_spec.specs.declared.lines.Delivery.TheVariants.{Taking, Leaving}
use Rattle.net_world_spec.specs.World.{Cables, WorldState, EventResult, nothing, lines_at, step_at, step_place, steps, none_before, forged_frame, forged_lines, forged_at, send_taken, send_at}
use Rattle.net_world_spec.specs.World.{send_over, send_place, sends, place_of, far_end, wire_place, as_handed, wire_after, hand_at, hand_to, hand_frame, hand_place, hands, lose_frame, lose_place}
use Rattle.net_world_spec.specs.World.{loses, acted_event, happens, entry_at, entries, world_after, history_of, opening}
use Rattle.net_world_spec.specs.Counts.{line_sum}
use Rattle.net_world_spec.specs.Wires.{one_if, line_sent, line_off, times_sent, times_off, on_wire, IsOnce, WireLeads}
use Rattle.net_world_spec.proofs.CountLaws.{line_sum-nil, line_sum-cons, line_sum-one, line_sum-append, line_sum-at, tally-nil, tally-append, tally-entries}
use Rattle.net_world_spec.proofs.Fitting.{All-remove, at_place}

module _ (n : ℕ) where
  on_wire-nil : on_wire n [] ≡ 0
  unfolding on_wire
  on_wire-nil = refl

  on_wire-push : (wire : List FrameOnWire) (x : FrameOnWire) → on_wire n (wire ++ x ∷ []) ≡ on_wire n wire + one_if n x.number
  unfolding on_wire
  on_wire-push wire x = sum_by_push (λ (y : FrameOnWire). one_if n y.number) wire x

  on_wire-remove : (wire : List FrameOnWire) (at : ℕ) (x : FrameOnWire) → slice_get wire at ≡ Some x → on_wire n (remove wire at) + one_if n x.number ≡ on_wire n wire
  unfolding on_wire
  on_wire-remove wire at x e =
      let here = get_or_from_slice_get wire at x x e in
      let law = sum_by-remove (λ (y : FrameOnWire). one_if n y.number) wire at x (slice_get_within wire at x e) in
      omega (arith, ap (λ (y : FrameOnWire). one_if n y.number) here)

  -- a frame that was handed keeps its number
  on_wire-handed : (wire : List FrameOnWire) (at : ℕ) (x : FrameOnWire) → slice_get wire at ≡ Some x → on_wire n (slice_set wire at (as_handed x)) ≡ on_wire n wire
  unfolding on_wire
  on_wire-handed wire at x e =
      let here = get_or_from_slice_get wire at x x e in
      let law = sum_by-set (λ (y : FrameOnWire). one_if n y.number) wire at (as_handed x) x (slice_get_within wire at x e) in
      omega (arith, ap (λ (y : FrameOnWire). one_if n y.number) here)

  -- whether the number may still be sent
  unfoldable may_go : ℕ → ℕ
  may_go next = cond (nat_le next n) 1 0

  go_law : (next : ℕ) → one_if n next + may_go (next + 1) ≤ may_go next
  unfolding one_if may_go
  go_law next = grind (arith, nat_tests)

  -- an event: what it sends it may send, and what leaves the wire is in its lines
  record Moves (w : WorldState) (h : EventResult) : Type 0 where
    once : line_sum (line_sent n) h.lines + may_go h.world.«next» ≤ may_go w.«next»
    account : line_sum (line_sent n) h.lines + on_wire n w.wire ≡ line_sum (line_off n) h.lines + on_wire n h.world.wire

  -- lines that send and take off nothing
  record Quiet (lines : List Line) : Type 0 where
    sent : line_sum (line_sent n) lines ≡ 0
    off : line_sum (line_off n) lines ≡ 0

  quiet_none : Quiet []
  quiet_none = record { sent = line_sum-nil (line_sent n); off = line_sum-nil (line_off n) }

  quiet_one : (l : Line) → line_sent n l ≡ 0 → line_off n l ≡ 0 → Quiet (l ∷ [])
  quiet_one l s o = record { sent = line_sum-one (line_sent n) l ∙ s; off = line_sum-one (line_off n) l ∙ o }

  zeros : (c : Line → ℕ) (h : Host) → ((a : Act) → c (At h a) ≡ 0) → (acts : List Act) → act_sum (λ a. c (At h a)) acts ≡ 0
  zeros c h z [] = act_sum-nil (λ a. c (At h a))
  zeros c h z (a ∷ more) = omega (arith, act_sum-cons (λ a. c (At h a)) a more, z a, zeros c h z more)

  quiet_acts : (h : Host) (acts : List Act) → Quiet (lines_at h acts)
  quiet_acts h acts = record {
    sent = line_sum-at (line_sent n) h acts ∙ zeros (line_sent n) h (λ a. refl) acts;
    off = line_sum-at (line_off n) h acts ∙ zeros (line_off n) h (λ a. refl) acts;
  }

  quiet_both : (xs ys : List Line) → Quiet xs → Quiet ys → Quiet (xs ++ ys)
  quiet_both xs ys a b = record {
    sent = omega (arith, a.sent, b.sent, line_sum-append (line_sent n) xs ys);
    off = omega (arith, a.off, b.off, line_sum-append (line_off n) xs ys);
  }

  nothing_moves : (w : WorldState) → Moves w (nothing w)
  nothing_moves w = let q = quiet_one Nothing refl refl in record { once = omega (arith, q.sent); account = omega (arith, q.sent, q.off) }

  step_at_moves : (w : WorldState) (h : Host) (before : NodeState → List Line) (step : NodeState → NodeStep) (at : ℕ) (o : Option NodeState) → ((node : NodeState) → Quiet (before node)) → Moves w (step_at w h before step at o)
  unfolding step_at
  step_at_moves w h before step at None b = nothing_moves w
  step_at_moves w h before step at (Some node) b =
      let q = quiet_both (before node) (lines_at h (step node).acts) (b node) (quiet_acts h (step node).acts) in
      record { once = omega (arith, q.sent); account = omega (arith, q.sent, q.off) }

  step_place_moves : (w : WorldState) (h : Host) (before : NodeState → List Line) (step : NodeState → NodeStep) (o : Option ℕ) → ((node : NodeState) → Quiet (before node)) → Moves w (step_place w h before step o)
  unfolding step_place
  step_place_moves w h before step None b = nothing_moves w
  step_place_moves w h before step (Some at) b = step_at_moves w h before step at (slice_get w.nodes at) b

  steps_move : (w : WorldState) (h : Host) (before : NodeState → List Line) (step : NodeState → NodeStep) → ((node : NodeState) → Quiet (before node)) → Moves w (steps w h before step)
  unfolding steps
  steps_move w h before step b = step_place_moves w h before step (place_of w.nodes h) b

  frame_quiet : (h : Host) (x : PlainFrame) → Quiet (forged_frame h x)
  frame_quiet h (PlainFrame.Packet p) = quiet_one (Forged h p.family p.bound) refl refl
  frame_quiet h (PlainFrame.Advert a) = quiet_none
  frame_quiet h (PlainFrame.Ask bound chunk) = quiet_none

  quiet_forged : (h : Host) (r : Result PlainStamped FrameFault) → Quiet (forged_lines h r)
  quiet_forged h (Ok x) = frame_quiet h x.frame
  quiet_forged h (Err e) = quiet_none

  send_taken_moves : (w : WorldState) (h : Host) (d : Dev) (at : ℕ) (to : LinkEnd) (step : NodeStep) (o : Option PlainStamped) → Moves w (send_taken w h d at to step o)
  unfolding send_taken
  send_taken_moves w h d at to step None = nothing_moves w
  send_taken_moves w h d at to step (Some x) =
      let q = quiet_acts h step.acts in
      let line = Wire w.«next» (stamped_bytes x) in
      let s = line_sum-append (line_sent n) (lines_at h step.acts) (line ∷ []) in
      let one = line_sum-one (line_sent n) line in
      record {
        once = omega (arith, q.sent, s, one, go_law w.«next»);
        account = omega (
          arith,
          q.sent,
          q.off,
          s,
          one,
          line_sum-append (line_off n) (lines_at h step.acts) (line ∷ []),
          line_sum-one (line_off n) line,
          on_wire-push w.wire (record { number = w.«next»; from = record { host = h; dev = d }; to = to; frame = x; handed = false }),
        );
      }

  send_at_moves : (w : WorldState) (h : Host) (d : Dev) (at : ℕ) (to : LinkEnd) (o : Option NodeState) → Moves w (send_at w h d at to o)
  unfolding send_at
  send_at_moves w h d at to None = nothing_moves w
  send_at_moves w h d at to (Some node) = send_taken_moves w h d at to (take_step node d) (take_step node d).frame

  choice_moves : (t : Bool) (w : WorldState) (a b : EventResult) → Moves w a → Moves w b → Moves w (cond t a b)
  choice_moves true w a b x y = x
  choice_moves false w a b x y = y

  send_over_moves : (w : WorldState) (h : Host) (d : Dev) (at : ℕ) (o : Option LinkEnd) → Moves w (send_over w h d at o)
  unfolding send_over
  send_over_moves w h d at None = nothing_moves w
  send_over_moves w h d at (Some to) = choice_moves (nat_lt (length w.wire) 4096) w _ _ (send_at_moves w h d at to (slice_get w.nodes at)) (nothing_moves w)

  send_place_moves : (w : WorldState) (h : Host) (d : Dev) (o : Option ℕ) → Moves w (send_place w h d o)
  unfolding send_place
  send_place_moves w h d None = nothing_moves w
  send_place_moves w h d (Some at) = send_over_moves w h d at (far_end w.links h d)

  sends_move : (w : WorldState) (h : Host) (d : Dev) → Moves w (sends w h d)
  unfolding sends
  sends_move w h d = send_place_moves w h d (place_of w.nodes h)

  -- a line that takes a frame off, and lines behind it
  off_moves : (w : WorldState) (place : ℕ) (x : FrameOnWire) (lines : List Line) (new : WorldState) → slice_get w.wire place ≡ Some x → Quiet lines → new.«next» ≡ w.«next» → new.wire ≡ remove w.wire place
      → Moves w (record { lines = Off x.number ∷ lines; world = new })
  off_moves w place x lines new e q same wire =
      let s = line_sum-cons (line_sent n) (Off x.number) lines in
      record {
        once = omega (arith, q.sent, s, ap may_go same);
        account = omega (arith, q.sent, q.off, s, line_sum-cons (line_off n) (Off x.number) lines, on_wire-remove w.wire place x e, ap (on_wire n) wire);
      }

  -- a line that hands a frame which stays there, and lines behind it
  again_moves : (w : WorldState) (place : ℕ) (x : FrameOnWire) (lines : List Line) (new : WorldState) → slice_get w.wire place ≡ Some x → Quiet lines → new.«next» ≡ w.«next» → new.wire ≡ slice_set w.wire place (as_handed x)
      → Moves w (record { lines = Again x.number ∷ lines; world = new })
  again_moves w place x lines new e q same wire =
      let s = line_sum-cons (line_sent n) (Again x.number) lines in
      record {
        once = omega (arith, q.sent, s, ap may_go same);
        account = omega (arith, q.sent, q.off, s, line_sum-cons (line_off n) (Again x.number) lines, on_wire-handed w.wire place x e, ap (on_wire n) wire);
      }

  hand_at_moves : (w : WorldState) (how : Delivery) (place : ℕ) (x : FrameOnWire) (at : ℕ) (o : Option NodeState) → slice_get w.wire place ≡ Some x → Moves w (hand_at w how place x at o)
  unfolding hand_at
  hand_at_moves w how place x at None e = nothing_moves w
  hand_at_moves w Taking place x at (Some node) e = let acts = (stamped_step node x.to.dev x.frame).acts in off_moves w place x (lines_at x.to.host acts) _ e (quiet_acts x.to.host acts) refl refl
  hand_at_moves w Leaving place x at (Some node) e = let acts = (stamped_step node x.to.dev x.frame).acts in again_moves w place x (lines_at x.to.host acts) _ e (quiet_acts x.to.host acts) refl refl

  hand_to_moves : (w : WorldState) (how : Delivery) (place : ℕ) (x : FrameOnWire) (o : Option ℕ) → slice_get w.wire place ≡ Some x → Moves w (hand_to w how place x o)
  unfolding hand_to
  hand_to_moves w how place x None e = nothing_moves w
  hand_to_moves w how place x (Some at) e = hand_at_moves w how place x at (slice_get w.nodes at) e

  hand_frame_moves : (w : WorldState) (how : Delivery) (place : ℕ) (o : Option FrameOnWire) → slice_get w.wire place ≡ o → Moves w (hand_frame w how place o)
  unfolding hand_frame
  hand_frame_moves w how place None e = nothing_moves w
  hand_frame_moves w how place (Some x) e = hand_to_moves w how place x (place_of w.nodes x.to.host) e

  hand_place_moves : (w : WorldState) (how : Delivery) (o : Option ℕ) → Moves w (hand_place w how o)
  unfolding hand_place
  hand_place_moves w how None = nothing_moves w
  hand_place_moves w how (Some place) = hand_frame_moves w how place (slice_get w.wire place) refl

  hands_move : (w : WorldState) (how : Delivery) (number : ℕ) → Moves w (hands w how number)
  unfolding hands
  hands_move w how number = hand_place_moves w how (wire_place w.wire number)

  lose_frame_moves : (w : WorldState) (place : ℕ) (o : Option FrameOnWire) → slice_get w.wire place ≡ o → Moves w (lose_frame w place o)
  unfolding lose_frame
  lose_frame_moves w place None e = nothing_moves w
  lose_frame_moves w place (Some x) e = off_moves w place x (Lost (what_of x.frame.frame) ∷ []) _ e (quiet_one (Lost (what_of x.frame.frame)) refl refl) refl refl

  lose_place_moves : (w : WorldState) (o : Option ℕ) → Moves w (lose_place w o)
  unfolding lose_place
  lose_place_moves w None = nothing_moves w
  lose_place_moves w (Some place) = lose_frame_moves w place (slice_get w.wire place) refl

  loses_move : (w : WorldState) (number : ℕ) → Moves w (loses w number)
  unfolding loses
  loses_move w number = lose_place_moves w (wire_place w.wire number)

  acted_moves : (w : WorldState) (e : WorldEvent) → Moves w (acted_event w e)
  acted_moves w (Inject h chunk bound handler) = steps_move w h none_before (λ node. inject_step [] node chunk bound handler) (λ node. quiet_none)
  acted_moves w (Send h d) = sends_move w h d
  acted_moves w (Deliver number) = hands_move w Taking number
  acted_moves w (Repeat number) = hands_move w Leaving number
  acted_moves w (Lose number) = loses_move w number
  acted_moves w (Tick h) = steps_move w h none_before tick_step (λ node. quiet_none)
  acted_moves w (Raw h d bytes) = steps_move w h (forged_at h bytes) (λ node. arrive_step node d bytes) (λ node. quiet_forged h (read_by node.version bytes))

  -- a run
  record RunMoves (history : List Entry) (old new : WorldState) : Type 0 where
    once : times_sent n history + may_go new.«next» ≤ may_go old.«next»
    account : times_sent n history + on_wire n old.wire ≡ times_off n history + on_wire n new.wire

  run_moves : (es : List WorldEvent) (w : WorldState) → RunMoves (history_of es w) w (world_after es w)
  unfolding history_of world_after entries
  run_moves [] w = let s = tally-nil (line_sent n) in record { once = omega (arith, s); account = omega (arith, s, tally-nil (line_off n)) }
  run_moves (e ∷ es) w =
      let one = acted_moves w e in
      let more = run_moves es (happens w e).world in
      let first = map (entry_at (w.made + 1)) (acted_event w e).lines in
      let rest = history_of es (happens w e).world in
      let s = tally-append (line_sent n) first rest in
      let t = tally-entries (line_sent n) (w.made + 1) (acted_event w e).lines in
      record {
        once = omega (arith, one.once, more.once, s, t);
        account = omega (arith, one.account, more.account, s, t, tally-append (line_off n) first rest, tally-entries (line_off n) (w.made + 1) (acted_event w e).lines);
      }

  may_once : (next : ℕ) → may_go next ≤ 1
  unfolding may_go
  may_once next = grind (arith, nat_tests)

  opening_none : (t : Topology) → on_wire n (opening t).wire ≡ 0
  unfolding opening
  opening_none t = on_wire-nil

  pub opening_once : (t : Topology) (es : List WorldEvent) → IsOnce n (history_of es (opening t)) (world_after es (opening t))
  opening_once t es =
      let r = run_moves es (opening t) in
      record { sent = omega (arith, r.once, may_once (opening t).«next»); account = omega (arith, r.account, opening_none t) }

-- ---- where frames lead

-- the links stay, and each frame on the wire leads to the other end of its link
record Leads (w : WorldState) (h : EventResult) : Type 0 where
  links : h.world.links ≡ w.links
  wire : WireLeads w.links h.world.wire

nothing_leads : (w : WorldState) → WireLeads w.links w.wire → Leads w (nothing w)
nothing_leads w k = record { links = refl; wire = k }

step_at_leads : (w : WorldState) (h : Host) (before : NodeState → List Line) (step : NodeState → NodeStep) (at : ℕ) (o : Option NodeState) → WireLeads w.links w.wire → Leads w (step_at w h before step at o)
unfolding step_at
step_at_leads w h before step at None k = nothing_leads w k
step_at_leads w h before step at (Some node) k = record { links = refl; wire = k }

step_place_leads : (w : WorldState) (h : Host) (before : NodeState → List Line) (step : NodeState → NodeStep) (o : Option ℕ) → WireLeads w.links w.wire → Leads w (step_place w h before step o)
unfolding step_place
step_place_leads w h before step None k = nothing_leads w k
step_place_leads w h before step (Some at) k = step_at_leads w h before step at (slice_get w.nodes at) k

steps_lead : (w : WorldState) (h : Host) (before : NodeState → List Line) (step : NodeState → NodeStep) → WireLeads w.links w.wire → Leads w (steps w h before step)
unfolding steps
steps_lead w h before step k = step_place_leads w h before step (place_of w.nodes h) k

send_taken_leads : (w : WorldState) (h : Host) (d : Dev) (at : ℕ) (to : LinkEnd) (step : NodeStep) (o : Option PlainStamped) → far_end w.links h d ≡ Some to → WireLeads w.links w.wire → Leads w (send_taken w h d at to step o)
unfolding send_taken
send_taken_leads w h d at to step None e k = nothing_leads w k
send_taken_leads w h d at to step (Some x) e k = record {
  links = refl;
  wire = All-push (λ (y : FrameOnWire). far_end w.links y.from.host y.from.dev ≡ Some y.to) w.wire (record { number = w.«next»; from = record { host = h; dev = d }; to = to; frame = x; handed = false }) k e;
}

send_at_leads : (w : WorldState) (h : Host) (d : Dev) (at : ℕ) (to : LinkEnd) (o : Option NodeState) → far_end w.links h d ≡ Some to → WireLeads w.links w.wire → Leads w (send_at w h d at to o)
unfolding send_at
send_at_leads w h d at to None e k = nothing_leads w k
send_at_leads w h d at to (Some node) e k = send_taken_leads w h d at to (take_step node d) (take_step node d).frame e k

choice_leads : (t : Bool) (w : WorldState) (a b : EventResult) → Leads w a → Leads w b → Leads w (cond t a b)
choice_leads true w a b x y = x
choice_leads false w a b x y = y

send_over_leads : (w : WorldState) (h : Host) (d : Dev) (at : ℕ) (o : Option LinkEnd) → far_end w.links h d ≡ o → WireLeads w.links w.wire → Leads w (send_over w h d at o)
unfolding send_over
send_over_leads w h d at None e k = nothing_leads w k
send_over_leads w h d at (Some to) e k = choice_leads (nat_lt (length w.wire) 4096) w _ _ (send_at_leads w h d at to (slice_get w.nodes at) e k) (nothing_leads w k)

send_place_leads : (w : WorldState) (h : Host) (d : Dev) (o : Option ℕ) → WireLeads w.links w.wire → Leads w (send_place w h d o)
unfolding send_place
send_place_leads w h d None k = nothing_leads w k
send_place_leads w h d (Some at) k = send_over_leads w h d at (far_end w.links h d) refl k

sends_lead : (w : WorldState) (h : Host) (d : Dev) → WireLeads w.links w.wire → Leads w (sends w h d)
unfolding sends
sends_lead w h d k = send_place_leads w h d (place_of w.nodes h) k

abbrev LeadsOn : Cables → FrameOnWire → Type 0
LeadsOn links x = far_end links x.from.host x.from.dev ≡ Some x.to

wire_leads : (links : Cables) (how : Delivery) (wire : List FrameOnWire) (place : ℕ) (x : FrameOnWire) → slice_get wire place ≡ Some x → WireLeads links wire → WireLeads links (wire_after how wire place x)
wire_leads links Taking wire place x e k = All-remove (LeadsOn links) wire place k
wire_leads links Leaving wire place x e k = All-set (LeadsOn links) wire place (as_handed x) (at_place (LeadsOn links) wire place x e k) k

hand_at_leads : (w : WorldState) (how : Delivery) (place : ℕ) (x : FrameOnWire) (at : ℕ) (o : Option NodeState) → slice_get w.wire place ≡ Some x → WireLeads w.links w.wire → Leads w (hand_at w how place x at o)
unfolding hand_at
hand_at_leads w how place x at None e k = nothing_leads w k
hand_at_leads w how place x at (Some node) e k = record { links = refl; wire = wire_leads w.links how w.wire place x e k }

hand_to_leads : (w : WorldState) (how : Delivery) (place : ℕ) (x : FrameOnWire) (o : Option ℕ) → slice_get w.wire place ≡ Some x → WireLeads w.links w.wire → Leads w (hand_to w how place x o)
unfolding hand_to
hand_to_leads w how place x None e k = nothing_leads w k
hand_to_leads w how place x (Some at) e k = hand_at_leads w how place x at (slice_get w.nodes at) e k

hand_frame_leads : (w : WorldState) (how : Delivery) (place : ℕ) (o : Option FrameOnWire) → slice_get w.wire place ≡ o → WireLeads w.links w.wire → Leads w (hand_frame w how place o)
unfolding hand_frame
hand_frame_leads w how place None e k = nothing_leads w k
hand_frame_leads w how place (Some x) e k = hand_to_leads w how place x (place_of w.nodes x.to.host) e k

hand_place_leads : (w : WorldState) (how : Delivery) (o : Option ℕ) → WireLeads w.links w.wire → Leads w (hand_place w how o)
unfolding hand_place
hand_place_leads w how None k = nothing_leads w k
hand_place_leads w how (Some place) k = hand_frame_leads w how place (slice_get w.wire place) refl k

hands_lead : (w : WorldState) (how : Delivery) (number : ℕ) → WireLeads w.links w.wire → Leads w (hands w how number)
unfolding hands
hands_lead w how number k = hand_place_leads w how (wire_place w.wire number) k

lose_frame_leads : (w : WorldState) (place : ℕ) (o : Option FrameOnWire) → WireLeads w.links w.wire → Leads w (lose_frame w place o)
unfolding lose_frame
lose_frame_leads w place None k = nothing_leads w k
lose_frame_leads w place (Some x) k = record { links = refl; wire = All-remove (LeadsOn w.links) w.wire place k }

lose_place_leads : (w : WorldState) (o : Option ℕ) → WireLeads w.links w.wire → Leads w (lose_place w o)
unfolding lose_place
lose_place_leads w None k = nothing_leads w k
lose_place_leads w (Some place) k = lose_frame_leads w place (slice_get w.wire place) k

loses_lead : (w : WorldState) (number : ℕ) → WireLeads w.links w.wire → Leads w (loses w number)
unfolding loses
loses_lead w number k = lose_place_leads w (wire_place w.wire number) k

acted_leads : (w : WorldState) (e : WorldEvent) → WireLeads w.links w.wire → Leads w (acted_event w e)
acted_leads w (Inject h chunk bound handler) k = steps_lead w h none_before (λ node. inject_step [] node chunk bound handler) k
acted_leads w (Send h d) k = sends_lead w h d k
acted_leads w (Deliver number) k = hands_lead w Taking number k
acted_leads w (Repeat number) k = hands_lead w Leaving number k
acted_leads w (Lose number) k = loses_lead w number k
acted_leads w (Tick h) k = steps_lead w h none_before tick_step k
acted_leads w (Raw h d bytes) k = steps_lead w h (forged_at h bytes) (λ node. arrive_step node d bytes) k

run_leads : (es : List WorldEvent) (w : WorldState) → WireLeads w.links w.wire → ((world_after es w).links ≡ w.links) × WireLeads w.links (world_after es w).wire
unfolding world_after
run_leads [] w k = (refl, k)
run_leads (e ∷ es) w k =
    let one = acted_leads w e k in
    let P : Cables → Type 0 = λ links. WireLeads links (acted_event w e).world.wire in
    let more = run_leads es (happens w e).world (subst P (sym one.links) one.wire) in
    let Q : Cables → Type 0 = λ links. WireLeads links (world_after es (happens w e).world).wire in
    (more.0 ∙ one.links, subst Q one.links more.1)

opening_empty : (t : Topology) → WireLeads (opening t).links (opening t).wire
unfolding opening
opening_empty t = All-nil (LeadsOn t.links)

opening_links : (t : Topology) → (opening t).links ≡ t.links
unfolding opening
opening_links t = refl

pub opening_leads : (t : Topology) (es : List WorldEvent) → WireLeads t.links (world_after es (opening t)).wire
opening_leads t es =
    let k = run_leads es (opening t) (opening_empty t) in
    let P : Cables → Type 0 = λ links. WireLeads links (world_after es (opening t)).wire in
    subst P (opening_links t) k.1
