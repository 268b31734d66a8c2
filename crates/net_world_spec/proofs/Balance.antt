-- Each event of a network, and each run, is in balance.
use Rattle.std.proofs.Common.{◌≡◌, ℕ, ◌+◌, Bool, true, false, cond, List, [], ◌∷◌, ◌++◌, refl, ap, ◌∙◌, arith, length}
use Rattle.std.specs.Prelude.{map, slice_get, nat_lt, Option, Some, None, Result, Ok, Err}
use Rattle.plan_base.specs.declared.ids.Host.{Host}
use Rattle.plan_base.specs.declared.ids.Dev.{Dev}
use Rattle.plan_base.specs.declared.ids.Family.{Family}
use Rattle.plan_base.specs.declared.name.Name.{Name}
use Rattle.plan_base.specs.declared.tree.Chunk.{Chunk}
use Rattle.packet_frame.specs.declared.frame.PlainFrame.{PlainFrame}
use Rattle.packet_frame.specs.declared.frame.PlainStamped.{PlainStamped}
use Rattle.packet_frame.specs.Stamped.{stamped_bytes}
use Rattle.replay_window.specs.declared.window.Took.{Took}
use Rattle.replay_window.specs.declared.window.Took.TheVariants.{Fresh, Repeated, TooOld}
use Rattle.replay_window.specs.Seen.{is_fresh}
use Rattle.packet_frame.specs.declared.fault.FrameFault.{FrameFault}
use Rattle.packet_frame.specs.Decoding.{read_by}
use Rattle.network_config.specs.declared.schedule.HostSpec.{HostSpec}
use Rattle.network_config.specs.declared.schedule.Topology.{Topology}
use Rattle.network_config.specs.declared.event.WorldEvent.{WorldEvent}
use Rattle.network_config.specs.declared.event.WorldEvent.TheVariants.{Inject, Send, Deliver, Repeat, Lose, Tick, Raw}
use Rattle.packet_frame.specs.Spelled.{what_of}
use Rattle.node_core_spec.specs.State.{NodeState, new_node}
use Rattle.node_core_spec.specs.Node.{NodeStep, takes_as, inject_step, stamped_step, arrive_step, tick_step, take_step}
use Rattle.node_core_spec.specs.Counts.{act_sum, act_left, act_stale, what_left, queues_sum, frame_live, if_fresh, if_stale, bytes_came, bytes_stale, node_live, taken_sum, StepBalances}
use Rattle.node_core_spec.specs.declared.acts.Act.{Act}
use Rattle.node_core_spec.proofs.CountLaws.{no_queues_sum, act_sum-nil, act_sum-cons}
use Rattle.node_core_spec.proofs.NodeBalance.{inject_event_balances, stamped_balances, arrive_balances, tick_balances, take_balances}
use Rattle.node_core_spec.proofs.Staying.{inject_frame, stamped_frame, arrive_frame, tick_frame}
use Rattle.net_world_spec.specs.declared.lines.Line.{Line}
use Rattle.net_world_spec.specs.declared.lines.Line.TheVariants.{Forged, Wire, Off, Again, Lost, Nothing}
use Rattle.net_world_spec.specs.declared.lines.LinkEnd.{LinkEnd}
use Rattle.net_world_spec.specs.declared.lines.FrameOnWire.{FrameOnWire}
use Rattle.net_world_spec.specs.declared.lines.Delivery.{Delivery}
use Rattle.net_world_spec.specs.declared.lines.Delivery.TheVariants.{Taking, Leaving}
use Rattle.net_world_spec.specs.World.{WorldState, EventResult, nothing, lines_at, step_at, step_place, steps, none_before, injects, ticks, forged_frame, forged_lines, forged_at, raws, send_taken}
use Rattle.net_world_spec.specs.World.{send_at, send_over, send_place, sends, place_of, far_end, wire_place, hand_line, as_handed, wire_after, hand_at, hand_to, hand_frame, hand_place, hands}
use Rattle.net_world_spec.specs.World.{lose_frame, lose_place, loses, acted_event, happens, opening_node, opening}
use Rattle.net_world_spec.specs.Counts.{line_granted, line_hops, line_evals, line_left, line_sum, nodes_sum, wire_sum, unhanded_count, unhanded_sum, live, late_frame, late_at, is_late, EventInBalance}
use Rattle.net_world_spec.specs.Sound.{IsSound, takes_at, IsStaleAt}
use Rattle.net_world_spec.proofs.CountLaws.{line_sum-nil, line_sum-cons, line_sum-one, line_sum-append, line_sum-at, nodes_sum-nil, nodes_sum-cons, nodes_sum-set, wire_sum-nil, unhanded_sum-nil}
use Rattle.net_world_spec.proofs.CountLaws.{unhanded_sum-push, unhanded_sum-remove, unhanded_sum-set}
use Rattle.net_world_spec.proofs.Places.{first_of_host}
use Rattle.std.proofs.lemmas.List.Elements.{All-get_or}
use Rattle.std.proofs.lemmas.Option.{slice_get_within, get_or_from_slice_get}
use Rattle.std.specs.Prelude.{if◌then◌else◌}
use Rattle.std.proofs.Common.{sym}

-- what is counted of what is stale
abbrev pub stale_count : Bool → ℕ → ℕ
stale_count late n = if late then 0 else n

module _ (f : Family) (late : Bool) where
  -- lines that grant this and count nothing else
  record Begins (lines : List Line) (given : ℕ) : Type 0 where
    granted : line_sum (line_granted f) lines ≡ given
    hops : line_sum (line_hops f) lines ≡ 0
    evals : line_sum (line_evals f) lines ≡ 0
    left : line_sum (line_left f late) lines ≡ 0

  no_lines : Begins [] 0
  no_lines = record { granted = line_sum-nil (line_granted f); hops = line_sum-nil (line_hops f); evals = line_sum-nil (line_evals f); left = line_sum-nil (line_left f late) }

  one_line : (l : Line) (given : ℕ) → line_granted f l ≡ given → line_hops f l ≡ 0 → line_evals f l ≡ 0 → line_left f late l ≡ 0 → Begins (l ∷ []) given
  one_line l given g h e r = record {
    granted = line_sum-one (line_granted f) l ∙ g;
    hops = line_sum-one (line_hops f) l ∙ h;
    evals = line_sum-one (line_evals f) l ∙ e;
    left = line_sum-one (line_left f late) l ∙ r;
  }

  abbrev Balance : WorldState → EventResult → Type 0
  Balance w h = EventInBalance f late w h

  nothing_balances : (w : WorldState) → Balance w (nothing w)
  nothing_balances w = let b = one_line Nothing 0 refl refl refl refl in record { law = omega (arith, b.granted, b.hops, b.evals, b.left) }

  -- what acts leave, with what is stale where it counts
  pub acts_left : (acts : List Act) → act_sum (λ a. act_left f a + stale_count late (act_stale f a)) acts ≡ act_sum (act_left f) acts + stale_count late (act_sum (act_stale f) acts)
  acts_left [] = by late
    where
      by : (b : Bool) → act_sum (λ a. act_left f a + stale_count b (act_stale f a)) [] ≡ act_sum (act_left f) [] + stale_count b (act_sum (act_stale f) [])
      by true = omega (arith, act_sum-nil (λ a. act_left f a + 0), act_sum-nil (act_left f))
      by false = omega (arith, act_sum-nil (λ a. act_left f a + act_stale f a), act_sum-nil (act_left f), act_sum-nil (act_stale f))
  acts_left (x ∷ xs) = by late (acts_left xs)
    where
      by : (b : Bool) → act_sum (λ a. act_left f a + stale_count b (act_stale f a)) xs ≡ act_sum (act_left f) xs + stale_count b (act_sum (act_stale f) xs)
          → act_sum (λ a. act_left f a + stale_count b (act_stale f a)) (x ∷ xs) ≡ act_sum (act_left f) (x ∷ xs) + stale_count b (act_sum (act_stale f) (x ∷ xs))
      by true h = omega (arith, h, act_sum-cons (λ a. act_left f a + 0) x xs, act_sum-cons (act_left f) x xs)
      by false h = omega (arith, h, act_sum-cons (λ a. act_left f a + act_stale f a) x xs, act_sum-cons (act_left f) x xs, act_sum-cons (act_stale f) x xs)

  -- the lines of a step behind some lines
  record LinesBalance (lines : List Line) (given arrived more taken : ℕ) (old new : NodeState) : Type 0 where
    law : line_sum (line_granted f) lines + arrived + more + node_live f old
        ≡ given + line_sum (line_hops f) lines + line_sum (line_evals f) lines + line_sum (line_left f late) lines + node_live f new + taken

  step_lines : (h : Host) (before : List Line) (given arrived stale taken : ℕ) (node : NodeState) (step : NodeStep) → Begins before given → StepBalances f arrived stale node step → taken_sum (frame_live f) step.frame ≡ taken
      → LinesBalance (before ++ lines_at h step.acts) given arrived (stale_count late stale) taken node step.node
  step_lines h before given arrived stale taken node step p b e = record {
    law = omega (
      arith,
      p.granted,
      p.hops,
      p.evals,
      p.left,
      b.law,
      ap (stale_count late) b.stale,
      e,
      acts_left step.acts,
      line_sum-append (line_granted f) before (lines_at h step.acts),
      line_sum-append (line_hops f) before (lines_at h step.acts),
      line_sum-append (line_evals f) before (lines_at h step.acts),
      line_sum-append (line_left f late) before (lines_at h step.acts),
      line_sum-at (line_granted f) h step.acts,
      line_sum-at (line_hops f) h step.acts,
      line_sum-at (line_evals f) h step.acts,
      line_sum-at (line_left f late) h step.acts,
    );
  }

  no_frame : (step : NodeStep) → step.frame ≡ None → taken_sum (frame_live f) step.frame ≡ 0
  no_frame step e = ap (taken_sum (frame_live f)) e

  -- steps of a node in a network, behind what is said before
  record Steps (before : NodeState → List Line) (step : NodeState → NodeStep) : Type 0 where
    given : NodeState → ℕ
    arrived : NodeState → ℕ
    stale : NodeState → ℕ
    begins : (node : NodeState) → Begins (before node) (given node)
    is : (node : NodeState) → given node ≡ arrived node + stale_count late (stale node)
    balances : (node : NodeState) → StepBalances f (arrived node) (stale node) node (step node)
    frame : (node : NodeState) → (step node).frame ≡ None

  step_at_balances : (w : WorldState) (h : Host) (before : NodeState → List Line) (step : NodeState → NodeStep) (at : ℕ) (o : Option NodeState) → Steps before step → slice_get w.nodes at ≡ o
      → Balance w (step_at w h before step at o)
  unfolding step_at
  step_at_balances w h before step at None s e = nothing_balances w
  step_at_balances w h before step at (Some node) s e =
      let b = step_lines h (before node) (s.given node) (s.arrived node) (s.stale node) 0 node (step node) (s.begins node) (s.balances node) (no_frame (step node) (s.frame node)) in
      record { law = omega (arith, b.law, s.is node, nodes_sum-set (frame_live f) w.nodes at node (step node).node e) }

  step_place_balances : (w : WorldState) (h : Host) (before : NodeState → List Line) (step : NodeState → NodeStep) (o : Option ℕ) → Steps before step → Balance w (step_place w h before step o)
  unfolding step_place
  step_place_balances w h before step None s = nothing_balances w
  step_place_balances w h before step (Some at) s = step_at_balances w h before step at (slice_get w.nodes at) s refl

  steps_balance : (w : WorldState) (h : Host) (before : NodeState → List Line) (step : NodeState → NodeStep) → Steps before step → Balance w (steps w h before step)
  unfolding steps
  steps_balance w h before step s = step_place_balances w h before step (place_of w.nodes h) s

  none_counted : 0 ≡ 0 + stale_count late 0
  none_counted = by late
    where
      by : (b : Bool) → 0 ≡ 0 + stale_count b 0
      by true = refl
      by false = refl

  pub injects_balance : (w : WorldState) (h : Host) (chunk : Chunk) (bound : ℕ) (handler : Option Name) → Balance w (injects w h chunk bound handler)
  injects_balance w h chunk bound handler = steps_balance w h none_before (λ node. inject_step [] node chunk bound handler) (record {
    given = λ node. 0;
    arrived = λ node. 0;
    stale = λ node. 0;
    begins = λ node. no_lines;
    is = λ node. none_counted;
    balances = λ node. inject_event_balances f node chunk bound handler;
    frame = λ node. inject_frame [] node chunk bound handler;
  })

  pub ticks_balance : (w : WorldState) (h : Host) → Balance w (ticks w h)
  ticks_balance w h = steps_balance w h none_before tick_step (record {
    given = λ node. 0;
    arrived = λ node. 0;
    stale = λ node. 0;
    begins = λ node. no_lines;
    is = λ node. none_counted;
    balances = tick_balances f;
    frame = tick_frame;
  })

  send_taken_balances : (w : WorldState) (h : Host) (d : Dev) (at : ℕ) (to : LinkEnd) (node : NodeState) (step : NodeStep) (o : Option PlainStamped)
      → slice_get w.nodes at ≡ Some node → StepBalances f 0 0 node step → step.frame ≡ o → Balance w (send_taken w h d at to step o)
  unfolding send_taken
  send_taken_balances w h d at to node step None e b q = nothing_balances w
  send_taken_balances w h d at to node step (Some x) e b q =
      let wired : FrameOnWire = record { number = w.«next»; from = record { host = h; dev = d }; to = to; frame = x; handed = false } in
      let line = Wire w.«next» (stamped_bytes x) in
      let lines = lines_at h step.acts in
      let p = step_lines h [] 0 0 0 (frame_live f x.frame) node step no_lines b (ap (taken_sum (frame_live f)) q) in
      let one = one_line line 0 refl refl refl refl in
      record {
        law = omega (
          arith,
          p.law,
          none_counted,
          one.granted,
          one.hops,
          one.evals,
          one.left,
          line_sum-append (line_granted f) lines (line ∷ []),
          line_sum-append (line_hops f) lines (line ∷ []),
          line_sum-append (line_evals f) lines (line ∷ []),
          line_sum-append (line_left f late) lines (line ∷ []),
          nodes_sum-set (frame_live f) w.nodes at node step.node e,
          unhanded_sum-push (frame_live f) w.wire wired,
        );
      }

  send_at_balances : (w : WorldState) (h : Host) (d : Dev) (at : ℕ) (to : LinkEnd) (o : Option NodeState) → slice_get w.nodes at ≡ o → Balance w (send_at w h d at to o)
  unfolding send_at
  send_at_balances w h d at to None e = nothing_balances w
  send_at_balances w h d at to (Some node) e = send_taken_balances w h d at to node (take_step node d) (take_step node d).frame e (take_balances f node d) refl

  choice_balances : (t : Bool) (w : WorldState) (a b : EventResult) → Balance w a → Balance w b → Balance w (cond t a b)
  choice_balances true w a b x y = x
  choice_balances false w a b x y = y

  send_over_balances : (w : WorldState) (h : Host) (d : Dev) (at : ℕ) (o : Option LinkEnd) → Balance w (send_over w h d at o)
  unfolding send_over
  send_over_balances w h d at None = nothing_balances w
  send_over_balances w h d at (Some to) = choice_balances (nat_lt (length w.wire) 4096) w _ _ (send_at_balances w h d at to (slice_get w.nodes at) refl) (nothing_balances w)

  send_place_balances : (w : WorldState) (h : Host) (d : Dev) (o : Option ℕ) → Balance w (send_place w h d o)
  unfolding send_place
  send_place_balances w h d None = nothing_balances w
  send_place_balances w h d (Some at) = send_over_balances w h d at (far_end w.links h d)

  pub sends_balance : (w : WorldState) (h : Host) (d : Dev) → Balance w (sends w h d)
  unfolding sends
  sends_balance w h d = send_place_balances w h d (place_of w.nodes h)

module _ (f : Family) where
  -- ---- bytes from outside: what is stale of them is left

  frame_forged : (h : Host) (x : PlainFrame) → Begins f false (forged_frame h x) (frame_live f x)
  frame_forged h (PlainFrame.Packet p) = one_line f false (Forged h p.family p.bound) (frame_live f (PlainFrame.Packet p)) refl refl refl refl
  frame_forged h (PlainFrame.Advert a) = no_lines f false
  frame_forged h (PlainFrame.Ask bound chunk) = no_lines f false

  abbrev all_of : Result PlainStamped FrameFault → ℕ
  all_of (Ok x) = frame_live f x.frame
  all_of (Err e) = 0

  forged_begins : (h : Host) (r : Result PlainStamped FrameFault) → Begins f false (forged_lines h r) (all_of r)
  forged_begins h (Ok x) = frame_forged h x.frame
  forged_begins h (Err e) = no_lines f false

  both_parts : (t : Took) (n : ℕ) → n ≡ if_fresh t n + if_stale t n
  both_parts Fresh n = omega arith
  both_parts Repeated n = omega arith
  both_parts TooOld n = omega arith

  all_is : (node : NodeState) (d : Dev) (r : Result PlainStamped FrameFault) → all_of r ≡ bytes_came f node d r + bytes_stale f node d r
  all_is node d (Ok x) = both_parts (takes_as node.seen d x.stamp) (frame_live f x.frame)
  all_is node d (Err e) = refl

  raws_balance : (w : WorldState) (h : Host) (d : Dev) (bytes : List ℕ) → EventInBalance f false w (raws w h d bytes)
  raws_balance w h d bytes = steps_balance f false w h (forged_at h bytes) (λ node. arrive_step node d bytes) (record {
    given = λ node. all_of (read_by node.version bytes);
    arrived = λ node. bytes_came f node d (read_by node.version bytes);
    stale = λ node. bytes_stale f node d (read_by node.version bytes);
    begins = λ node. forged_begins h (read_by node.version bytes);
    is = λ node. all_is node d (read_by node.version bytes);
    balances = λ node. arrive_balances f node d bytes;
    frame = λ node. arrive_frame node d bytes;
  })

  -- ---- handings: a frame that was handed before is stale, and counts nothing

  -- what a frame is live with on the wire is what comes in and what is stale of it
  live_is : (late : Bool) (t : Took) (n : ℕ) → (late ≡ true → is_fresh t ≡ false) → (if late then 0 else n) ≡ if_fresh t n + stale_count late (if_stale t n)
  live_is true Fresh n h = absurd (fresh_is (h refl))
    where
      fresh_is : is_fresh Fresh ≡ false → ⊥
      fresh_is e = cc
  live_is true Repeated n h = refl
  live_is true TooOld n h = refl
  live_is false t n h = both_parts t n

  wire_falls : (how : Delivery) (wire : List FrameOnWire) (place : ℕ) (x : FrameOnWire) → slice_get wire place ≡ Some x
      → unhanded_sum (frame_live f) (wire_after how wire place x) + unhanded_count (frame_live f) x ≡ unhanded_sum (frame_live f) wire
  wire_falls Taking wire place x e = unhanded_sum-remove (frame_live f) wire place x e
  wire_falls Leaving wire place x e = omega (arith, unhanded_sum-set (frame_live f) wire place x (as_handed x) e)

  hand_begins : (late : Bool) (how : Delivery) (n : ℕ) → Begins f late (hand_line how n ∷ []) 0
  hand_begins late Taking n = one_line f late (Off n) 0 refl refl refl refl
  hand_begins late Leaving n = one_line f late (Again n) 0 refl refl refl refl

  hand_at_balances : (w : WorldState) (how : Delivery) (place : ℕ) (x : FrameOnWire) (at : ℕ) (o : Option NodeState) → slice_get w.wire place ≡ Some x → slice_get w.nodes at ≡ o
      → ((node : NodeState) → o ≡ Some node → x.handed ≡ true → is_fresh (takes_as node.seen x.to.dev x.frame.stamp) ≡ false) → EventInBalance f x.handed w (hand_at w how place x at o)
  unfolding hand_at
  hand_at_balances w how place x at None q e k = nothing_balances f x.handed w
  hand_at_balances w how place x at (Some node) q e k =
      let step = stamped_step node x.to.dev x.frame in
      let b = step_lines f x.handed x.to.host (hand_line how x.number ∷ []) 0 _ _ 0 node step (hand_begins x.handed how x.number) (stamped_balances f node x.to.dev x.frame)
      (no_frame f x.handed step (stamped_frame node x.to.dev x.frame)) in
      record {
        law = omega (
          arith,
          b.law,
          live_is x.handed (takes_as node.seen x.to.dev x.frame.stamp) (frame_live f x.frame.frame) (k node refl),
          nodes_sum-set (frame_live f) w.nodes at node step.node e,
          wire_falls how w.wire place x q,
        );
      }

  -- the frame at a place of the wire isn't fresh at the node to which it goes, where it was handed
  stale_there : (w : WorldState) (place at : ℕ) (x : FrameOnWire) (node : NodeState) → IsSound w → slice_get w.wire place ≡ Some x → place_of w.nodes x.to.host ≡ Some at → slice_get w.nodes at ≡ Some node
      → x.handed ≡ true → is_fresh (takes_as node.seen x.to.dev x.frame.stamp) ≡ false
  stale_there w place at x node s q p e h =
      let all = All-get_or (IsStaleAt w.nodes) w.wire place x (slice_get_within w.wire place x q) s.stale in
      let is : IsStaleAt w.nodes x = rw (get_or_from_slice_get w.wire place x x q) at all in
      sym (ap (λ o. is_fresh (takes_at x.to.dev x.frame.stamp o)) (first_of_host w.nodes x.to.host at node p e)) ∙ is h

  hand_to_balances : (w : WorldState) (how : Delivery) (place : ℕ) (x : FrameOnWire) (o : Option ℕ) → IsSound w → slice_get w.wire place ≡ Some x → place_of w.nodes x.to.host ≡ o
      → EventInBalance f x.handed w (hand_to w how place x o)
  unfolding hand_to
  hand_to_balances w how place x None s q p = nothing_balances f x.handed w
  hand_to_balances w how place x (Some at) s q p = hand_at_balances w how place x at (slice_get w.nodes at) q refl (λ node e. stale_there w place at x node s q p e)

  hand_frame_balances : (w : WorldState) (how : Delivery) (place : ℕ) (o : Option FrameOnWire) → IsSound w → slice_get w.wire place ≡ o → EventInBalance f (late_frame o) w (hand_frame w how place o)
  unfolding hand_frame
  hand_frame_balances w how place None s q = nothing_balances f false w
  hand_frame_balances w how place (Some x) s q = hand_to_balances w how place x (place_of w.nodes x.to.host) s q refl

  hand_place_balances : (w : WorldState) (how : Delivery) (o : Option ℕ) → IsSound w → EventInBalance f (late_at w.wire o) w (hand_place w how o)
  unfolding hand_place
  hand_place_balances w how None s = nothing_balances f false w
  hand_place_balances w how (Some place) s = hand_frame_balances w how place (slice_get w.wire place) s refl

  hands_balance : (w : WorldState) (how : Delivery) (number : ℕ) → IsSound w → EventInBalance f (late_at w.wire (wire_place w.wire number)) w (hands w how number)
  unfolding hands
  hands_balance w how number s = hand_place_balances w how (wire_place w.wire number) s

  -- ---- losses

  lost_left : (x : PlainFrame) → what_left f (what_of x) ≡ frame_live f x
  lost_left (PlainFrame.Packet p) = refl
  lost_left (PlainFrame.Advert a) = refl
  lost_left (PlainFrame.Ask bound chunk) = refl

  lose_frame_balances : (w : WorldState) (place : ℕ) (o : Option FrameOnWire) → slice_get w.wire place ≡ o → EventInBalance f (late_frame o) w (lose_frame w place o)
  unfolding lose_frame
  lose_frame_balances w place None q = nothing_balances f false w
  lose_frame_balances w place (Some x) q =
      let off = Off x.number in
      let lost = Lost (what_of x.frame.frame) in
      record {
        law = omega (
          arith,
          ap (stale_count x.handed) (lost_left x.frame.frame),
          unhanded_sum-remove (frame_live f) w.wire place x q,
          line_sum-cons (line_granted f) off (lost ∷ []),
          line_sum-one (line_granted f) lost,
          line_sum-cons (line_hops f) off (lost ∷ []),
          line_sum-one (line_hops f) lost,
          line_sum-cons (line_evals f) off (lost ∷ []),
          line_sum-one (line_evals f) lost,
          line_sum-cons (line_left f x.handed) off (lost ∷ []),
          line_sum-one (line_left f x.handed) lost,
        );
      }

  lose_place_balances : (w : WorldState) (o : Option ℕ) → EventInBalance f (late_at w.wire o) w (lose_place w o)
  unfolding lose_place
  lose_place_balances w None = nothing_balances f false w
  lose_place_balances w (Some place) = lose_frame_balances w place (slice_get w.wire place) refl

  loses_balance : (w : WorldState) (number : ℕ) → EventInBalance f (late_at w.wire (wire_place w.wire number)) w (loses w number)
  unfolding loses
  loses_balance w number = lose_place_balances w (wire_place w.wire number)

  acted_balance : (w : WorldState) (e : WorldEvent) → IsSound w → EventInBalance f (is_late w e) w (acted_event w e)
  acted_balance w (Inject h chunk bound handler) s = injects_balance f false w h chunk bound handler
  acted_balance w (Send h d) s = sends_balance f false w h d
  acted_balance w (Deliver number) s = hands_balance w Taking number s
  acted_balance w (Repeat number) s = hands_balance w Leaving number s
  acted_balance w (Lose number) s = loses_balance w number
  acted_balance w (Tick h) s = ticks_balance f false w h
  acted_balance w (Raw h d bytes) s = raws_balance w h d bytes

  -- each event is in balance
  pub event_balances : (w : WorldState) (e : WorldEvent) → IsSound w → EventInBalance f (is_late w e) w (happens w e)
  event_balances w e s = record { law = (acted_balance w e s).law }

-- nothing is queued or on the wire at the beginning
module _ (count : PlainFrame → ℕ) where
  opening_queues : (t : Topology) (h : HostSpec) → queues_sum count (opening_node t h).queues ≡ 0
  unfolding opening_node new_node
  opening_queues t h = no_queues_sum count _

  opening_nodes_sum : (t : Topology) (hosts : List HostSpec) → nodes_sum count (map (opening_node t) hosts) ≡ 0
  opening_nodes_sum t [] = nodes_sum-nil count
  opening_nodes_sum t (h ∷ hs) = omega (arith, nodes_sum-cons count (opening_node t h) (map (opening_node t) hs), opening_queues t h, opening_nodes_sum t hs)

  pub opening_frames : (t : Topology) → nodes_sum count (opening t).nodes + wire_sum count (opening t).wire ≡ 0
  unfolding opening
  opening_frames t = omega (arith, opening_nodes_sum t t.hosts, wire_sum-nil count)

  pub opening_live : (t : Topology) → nodes_sum count (opening t).nodes + unhanded_sum count (opening t).wire ≡ 0
  unfolding opening
  opening_live t = omega (arith, opening_nodes_sum t t.hosts, unhanded_sum-nil count)
