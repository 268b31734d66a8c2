-- A family is injected at most once; only a granted family has packets.
use Rattle.std.proofs.Common.{◌≡◌, ℕ, ◌+◌, ◌*◌, ◌<◌, ◌≤◌, Bool, true, false, cond, List, [], ◌∷◌, ◌++◌, refl, ap, ◌∙◌, arith, length}
use Rattle.std.specs.Prelude.{sum_by, map, slice_set, slice_get, nat_lt, nat_le, ◌==◌, ◌&&◌, ◌||◌, Option, Some, None, Result, Ok, Err, All}
use Rattle.std.proofs.lemmas.List.Sums.{sum_by-cons, sum_by-set}
use Rattle.std.proofs.lemmas.List.Elements.{All-nil, All-cons, All-head, All-tail}
use Rattle.std.proofs.lemmas.Option.{slice_get_within, get_or_from_slice_get}
use Rattle.std.proofs.lemmas.Bool.Decides.{nat_tests}
use Rattle.plan_base.specs.declared.ids.Host.{Host}
use Rattle.plan_base.specs.declared.ids.Dev.{Dev}
use Rattle.plan_base.specs.declared.ids.Family.{Family}
use Rattle.plan_base.specs.declared.name.Name.{Name}
use Rattle.plan_base.specs.declared.tree.Chunk.{Chunk}
use Rattle.packet_frame.specs.declared.frame.PlainFrame.{PlainFrame}
use Rattle.packet_frame.specs.declared.fault.FrameFault.{FrameFault}
use Rattle.packet_frame.specs.declared.frame.PlainStamped.{PlainStamped}
use Rattle.packet_frame.specs.Stamped.{stamped_bytes}
use Rattle.packet_frame.specs.Decoding.{read_by}
use Rattle.plan_base.specs.declared.stamp.Version.{Version}
use Rattle.network_config.specs.Hosts.{has_host}
use Rattle.network_config.specs.Rules.{HostsDiffer, KeepsNetwork}
use Rattle.network_config.specs.declared.schedule.HostSpec.{HostSpec}
use Rattle.network_config.specs.declared.schedule.Topology.{Topology}
use Rattle.network_config.specs.declared.event.WorldEvent.{WorldEvent}
use Rattle.network_config.specs.declared.event.WorldEvent.TheVariants.{Inject, Send, Deliver, Repeat, Lose, Tick, Raw}
use Rattle.packet_frame.specs.Spelled.{what_of}
use Rattle.node_core_spec.specs.State.{NodeState, new_node}
use Rattle.node_core_spec.specs.Node.{NodeStep, inject_step, stamped_step, arrive_step, tick_step, take_step}
use Rattle.node_core_spec.specs.Counts.{act_sum, queues_sum, frame_one, taken_sum}
use Rattle.node_core_spec.proofs.CountLaws.{act_sum-nil, act_sum-cons, queues_sum-nil}
use Rattle.node_core_spec.proofs.Fitting.{Taken, taken_in}
use Rattle.packet_frame.proofs.Versions.{found_by}
use Rattle.wire_bytes.specs.Fields.{IsBytes}
use Rattle.node_core_spec.specs.declared.acts.Act.{Act}
use Rattle.node_core_spec.proofs.Giving.{may_give, only_limit, StepGives, inject_gives, stamped_gives, arrive_gives, tick_gives, take_gives, came_one, inject_adds, stamped_adds, arrive_adds, tick_adds, take_adds}
use Rattle.net_world_spec.specs.declared.lines.Line.{Line}
use Rattle.net_world_spec.specs.declared.lines.Line.TheVariants.{At, Forged, Wire, Off, Again, Lost, Nothing}
use Rattle.net_world_spec.specs.declared.lines.LinkEnd.{LinkEnd}
use Rattle.net_world_spec.specs.declared.lines.Entry.{Entry}
use Rattle.net_world_spec.specs.declared.lines.FrameOnWire.{FrameOnWire}
use Rattle.net_world_spec.specs.declared.lines.Delivery.{Delivery}
use Rattle.net_world_spec.specs.declared.lines.Delivery.TheVariants.{Taking, Leaving}
use Rattle.net_world_spec.specs.World.{WorldState, EventResult, nothing, lines_at, step_at, step_place, steps, none_before, forged_frame, forged_lines, forged_at, send_taken, send_at, send_over}
use Rattle.net_world_spec.specs.World.{send_place, sends, place_of, far_end, wire_place, hand_line, as_handed, wire_after, hand_at, hand_to, hand_frame, hand_place, hands, lose_frame, lose_place}
use Rattle.net_world_spec.specs.World.{loses, acted_event, happens, entries, world_after, history_of, opening_node, opening}
use Rattle.net_world_spec.specs.Counts.{line_sum, line_granted, line_injections, line_forged, granted_sum, injections, forgeries, nodes_sum, wire_sum, packets, IsBounded, IsGranted}
use Rattle.net_world_spec.specs.Sound.{event_fits, EventsFit}
use Rattle.net_world_spec.proofs.CountLaws.{line_sum-nil, line_sum-cons, line_sum-one, line_sum-append, line_sum-at, tally-nil, tally-append, tally-entries, nodes_sum-set, wire_sum-push, wire_sum-remove, wire_sum-set}
use Rattle.net_world_spec.proofs.Balance.{opening_frames}
use Rattle.net_world_spec.proofs.Handings.{opening_balances}
use Rattle.net_world_spec.proofs.Alone.{injected_alone}

module _ (f : Family) where
  unfoldable may_give_all : List NodeState → ℕ
  may_give_all nodes = sum_by (may_give f) nodes

  may_give_all-set : (nodes : List NodeState) (at : ℕ) (old new : NodeState) → slice_get nodes at ≡ Some old → may_give_all (slice_set nodes at new) + may_give f old ≡ may_give_all nodes + may_give f new
  unfolding may_give_all
  may_give_all-set nodes at old new e =
      let here = get_or_from_slice_get nodes at old old e in
      let law = sum_by-set (may_give f) nodes at new old (slice_get_within nodes at old e) in
      omega (arith, ap (may_give f) here)

  -- what an event grants: to an injection at most 65,535, and so to each packet from outside
  record EventGives (w : WorldState) (h : EventResult) : Type 0 where
    once : line_sum (line_injections f) h.lines + may_give_all h.world.nodes ≤ may_give_all w.nodes
    limit : line_sum (line_granted f) h.lines ≤ 65535 * (line_sum (line_injections f) h.lines + line_sum (line_forged f) h.lines)

  -- lines that inject nothing and grant within the limit
  record Begins (lines : List Line) : Type 0 where
    none : line_sum (line_injections f) lines ≡ 0
    limit : line_sum (line_granted f) lines ≤ 65535 * line_sum (line_forged f) lines

  no_lines : Begins []
  no_lines = record { none = line_sum-nil (line_injections f); limit = omega (arith, line_sum-nil (line_granted f), line_sum-nil (line_forged f)) }

  quiet_line : (l : Line) → line_injections f l ≡ 0 → line_granted f l ≡ 0 → Begins (l ∷ [])
  quiet_line l i g = record { none = line_sum-one (line_injections f) l ∙ i; limit = omega (arith, line_sum-one (line_granted f) l, g) }

  nothing_gives : (w : WorldState) → EventGives w (nothing w)
  nothing_gives w = let b = quiet_line Nothing refl refl in record { once = omega (arith, b.none); limit = omega (arith, b.limit, b.none, line_sum-one (line_granted f) Nothing) }

  -- a node's acts come from nowhere outside
  none_forged : (h : Host) (acts : List Act) → line_sum (line_forged f) (lines_at h acts) ≡ 0
  none_forged h acts = line_sum-at (line_forged f) h acts ∙ zeros acts
    where
      zeros : (acts : List Act) → act_sum (λ a. line_forged f (At h a)) acts ≡ 0
      zeros [] = act_sum-nil (λ a. line_forged f (At h a))
      zeros (a ∷ more) = omega (arith, act_sum-cons (λ a. line_forged f (At h a)) a more, zeros more)

  -- the lines of a step behind some lines
  step_lines : (h : Host) (before : List Line) (node : NodeState) (step : NodeStep) (nodes new : ℕ) → Begins before → StepGives f node step → new + may_give f node ≡ nodes + may_give f step.node
      → (line_sum (line_injections f) (before ++ lines_at h step.acts) + new ≤ nodes)
      × (line_sum (line_granted f) (before ++ lines_at h step.acts) ≤ 65535 * (line_sum (line_injections f) (before ++ lines_at h step.acts) + line_sum (line_forged f) (before ++ lines_at h step.acts)))
  step_lines h before node step nodes new b g e =
      let i = line_sum-append (line_injections f) before (lines_at h step.acts) in
      let j = line_sum-at (line_injections f) h step.acts in (
        omega (arith, b.none, g.once, i, j),
        omega (
          arith,
          b.limit,
          b.none,
          g.limit,
          i,
          j,
          line_sum-append (line_granted f) before (lines_at h step.acts),
          line_sum-at (line_granted f) h step.acts,
          line_sum-append (line_forged f) before (lines_at h step.acts),
          none_forged h step.acts,
        ),
      )

  -- steps of a node in a network, behind what is said before
  record Gives (before : NodeState → List Line) (step : NodeState → NodeStep) : Type 0 where
    begins : (node : NodeState) → Begins (before node)
    gives : (node : NodeState) → StepGives f node (step node)

  step_at_gives : (w : WorldState) (h : Host) (before : NodeState → List Line) (step : NodeState → NodeStep) (at : ℕ) (o : Option NodeState) → Gives before step → slice_get w.nodes at ≡ o
      → EventGives w (step_at w h before step at o)
  unfolding step_at
  step_at_gives w h before step at None g e = nothing_gives w
  step_at_gives w h before step at (Some node) g e =
      let l = step_lines h (before node) node (step node) (may_give_all w.nodes) (may_give_all (slice_set w.nodes at (step node).node)) (g.begins node) (g.gives node) (may_give_all-set w.nodes at node (step node).node e) in
      record { once = l.0; limit = l.1 }

  step_place_gives : (w : WorldState) (h : Host) (before : NodeState → List Line) (step : NodeState → NodeStep) (o : Option ℕ) → Gives before step → EventGives w (step_place w h before step o)
  unfolding step_place
  step_place_gives w h before step None g = nothing_gives w
  step_place_gives w h before step (Some at) g = step_at_gives w h before step at (slice_get w.nodes at) g refl

  steps_give : (w : WorldState) (h : Host) (before : NodeState → List Line) (step : NodeState → NodeStep) → Gives before step → EventGives w (steps w h before step)
  unfolding steps
  steps_give w h before step g = step_place_gives w h before step (place_of w.nodes h) g

  frame_begins : (h : Host) (x : PlainFrame) → Taken x → Begins (forged_frame h x)
  frame_begins h (PlainFrame.Packet p) t = record {
    none = line_sum-one (line_injections f) (Forged h p.family p.bound);
    limit = omega (
      arith,
      line_sum-one (line_granted f) (Forged h p.family p.bound),
      line_sum-one (line_forged f) (Forged h p.family p.bound),
      only_limit f p.family p.bound t.bound,
    );
  }
  frame_begins h (PlainFrame.Advert a) t = no_lines
  frame_begins h (PlainFrame.Ask bound chunk) t = no_lines

  forged_begins : (h : Host) (v : Version) (bytes : List ℕ) (r : Result PlainStamped FrameFault) → IsBytes bytes → read_by v bytes ≡ r → Begins (forged_lines h r)
  forged_begins h v bytes (Ok x) b e = frame_begins h x.frame (taken_in bytes v x (found_by v bytes x b e))
  forged_begins h v bytes (Err x) b e = no_lines

  send_taken_gives : (w : WorldState) (h : Host) (d : Dev) (at : ℕ) (to : LinkEnd) (node : NodeState) (step : NodeStep) (o : Option PlainStamped)
      → slice_get w.nodes at ≡ Some node → StepGives f node step → EventGives w (send_taken w h d at to step o)
  unfolding send_taken
  send_taken_gives w h d at to node step None e g = nothing_gives w
  send_taken_gives w h d at to node step (Some x) e g =
      let lines = lines_at h step.acts in
      let wire = Wire w.«next» (stamped_bytes x) in
      let l = step_lines h [] node step (may_give_all w.nodes) (may_give_all (slice_set w.nodes at step.node)) no_lines g (may_give_all-set w.nodes at node step.node e) in
      record {
        once = omega (arith, l.0, line_sum-append (line_injections f) lines (wire ∷ []), line_sum-one (line_injections f) wire);
        limit = omega (
          arith,
          l.1,
          line_sum-append (line_injections f) lines (wire ∷ []),
          line_sum-one (line_injections f) wire,
          line_sum-append (line_granted f) lines (wire ∷ []),
          line_sum-one (line_granted f) wire,
          line_sum-append (line_forged f) lines (wire ∷ []),
          line_sum-one (line_forged f) wire,
        );
      }

  send_at_gives : (w : WorldState) (h : Host) (d : Dev) (at : ℕ) (to : LinkEnd) (o : Option NodeState) → slice_get w.nodes at ≡ o → EventGives w (send_at w h d at to o)
  unfolding send_at
  send_at_gives w h d at to None e = nothing_gives w
  send_at_gives w h d at to (Some node) e = send_taken_gives w h d at to node (take_step node d) (take_step node d).frame e (take_gives f node d)

  choice_gives : (t : Bool) (w : WorldState) (a b : EventResult) → EventGives w a → EventGives w b → EventGives w (cond t a b)
  choice_gives true w a b x y = x
  choice_gives false w a b x y = y

  send_over_gives : (w : WorldState) (h : Host) (d : Dev) (at : ℕ) (o : Option LinkEnd) → EventGives w (send_over w h d at o)
  unfolding send_over
  send_over_gives w h d at None = nothing_gives w
  send_over_gives w h d at (Some to) = choice_gives (nat_lt (length w.wire) 4096) w _ _ (send_at_gives w h d at to (slice_get w.nodes at) refl) (nothing_gives w)

  send_place_gives : (w : WorldState) (h : Host) (d : Dev) (o : Option ℕ) → EventGives w (send_place w h d o)
  unfolding send_place
  send_place_gives w h d None = nothing_gives w
  send_place_gives w h d (Some at) = send_over_gives w h d at (far_end w.links h d)

  sends_gives : (w : WorldState) (h : Host) (d : Dev) → EventGives w (sends w h d)
  unfolding sends
  sends_gives w h d = send_place_gives w h d (place_of w.nodes h)

  hand_begins : (how : Delivery) (number : ℕ) → Begins (hand_line how number ∷ [])
  hand_begins Taking number = quiet_line (Off number) refl refl
  hand_begins Leaving number = quiet_line (Again number) refl refl

  hand_at_gives : (w : WorldState) (how : Delivery) (place : ℕ) (x : FrameOnWire) (at : ℕ) (o : Option NodeState) → slice_get w.nodes at ≡ o → EventGives w (hand_at w how place x at o)
  unfolding hand_at
  hand_at_gives w how place x at None e = nothing_gives w
  hand_at_gives w how place x at (Some node) e =
      let step = stamped_step node x.to.dev x.frame in
      let l = step_lines x.to.host (hand_line how x.number ∷ []) node step (may_give_all w.nodes) (may_give_all (slice_set w.nodes at step.node)) (hand_begins how x.number)
      (stamped_gives f node x.to.dev x.frame) (may_give_all-set w.nodes at node step.node e) in
      record { once = l.0; limit = l.1 }

  hand_to_gives : (w : WorldState) (how : Delivery) (place : ℕ) (x : FrameOnWire) (o : Option ℕ) → EventGives w (hand_to w how place x o)
  unfolding hand_to
  hand_to_gives w how place x None = nothing_gives w
  hand_to_gives w how place x (Some at) = hand_at_gives w how place x at (slice_get w.nodes at) refl

  hand_frame_gives : (w : WorldState) (how : Delivery) (place : ℕ) (o : Option FrameOnWire) → EventGives w (hand_frame w how place o)
  unfolding hand_frame
  hand_frame_gives w how place None = nothing_gives w
  hand_frame_gives w how place (Some x) = hand_to_gives w how place x (place_of w.nodes x.to.host)

  hand_place_gives : (w : WorldState) (how : Delivery) (o : Option ℕ) → EventGives w (hand_place w how o)
  unfolding hand_place
  hand_place_gives w how None = nothing_gives w
  hand_place_gives w how (Some place) = hand_frame_gives w how place (slice_get w.wire place)

  hands_give : (w : WorldState) (how : Delivery) (number : ℕ) → EventGives w (hands w how number)
  unfolding hands
  hands_give w how number = hand_place_gives w how (wire_place w.wire number)

  lose_frame_gives : (w : WorldState) (place : ℕ) (o : Option FrameOnWire) → EventGives w (lose_frame w place o)
  unfolding lose_frame
  lose_frame_gives w place None = nothing_gives w
  lose_frame_gives w place (Some x) =
      let off = Off x.number in
      let lost = Lost (what_of x.frame.frame) in
      let i = line_sum-cons (line_injections f) off (lost ∷ []) in
      let j = line_sum-one (line_injections f) lost in
      record { once = omega (arith, i, j); limit = omega (arith, i, j, line_sum-cons (line_granted f) off (lost ∷ []), line_sum-one (line_granted f) lost) }

  lose_place_gives : (w : WorldState) (o : Option ℕ) → EventGives w (lose_place w o)
  unfolding lose_place
  lose_place_gives w None = nothing_gives w
  lose_place_gives w (Some place) = lose_frame_gives w place (slice_get w.wire place)

  loses_gives : (w : WorldState) (number : ℕ) → EventGives w (loses w number)
  unfolding loses
  loses_gives w number = lose_place_gives w (wire_place w.wire number)

  acted_gives : (v : Version) (w : WorldState) (e : WorldEvent) → event_fits v e → EventGives w (acted_event w e)
  acted_gives v w (Inject h chunk bound handler) b = steps_give w h none_before (λ node. inject_step [] node chunk bound handler)
      (record { begins = λ node. no_lines; gives = λ node. inject_gives f node chunk bound handler b.0.0 })
  acted_gives v w (Send h d) b = sends_gives w h d
  acted_gives v w (Deliver number) b = hands_give w Taking number
  acted_gives v w (Repeat number) b = hands_give w Leaving number
  acted_gives v w (Lose number) b = loses_gives w number
  acted_gives v w (Tick h) b = steps_give w h none_before tick_step (record { begins = λ node. no_lines; gives = tick_gives f })
  acted_gives v w (Raw h d bytes) b = steps_give w h (forged_at h bytes) (λ node. arrive_step node d bytes)
      (record { begins = λ node. forged_begins h node.version bytes (read_by node.version bytes) b.1 refl; gives = λ node. arrive_gives f node d bytes })

  -- the same for a run
  record RunGives (history : List Entry) (old new : WorldState) : Type 0 where
    once : injections f history + may_give_all new.nodes ≤ may_give_all old.nodes
    limit : granted_sum f history ≤ 65535 * (injections f history + forgeries f history)

  event_gives : (v : Version) (w : WorldState) (e : WorldEvent) → event_fits v e → RunGives (entries w e) w (happens w e).world
  unfolding entries
  event_gives v w e b =
      let g = acted_gives v w e b in
      let lines = (acted_event w e).lines in
      let i = tally-entries (line_injections f) (w.made + 1) lines in
      record {
        once = omega (arith, g.once, i);
        limit = omega (arith, g.limit, i, tally-entries (line_granted f) (w.made + 1) lines, tally-entries (line_forged f) (w.made + 1) lines);
      }

  run_gives : (v : Version) (es : List WorldEvent) (w : WorldState) → EventsFit v es → RunGives (history_of es w) w (world_after es w)
  unfolding history_of world_after
  run_gives v [] w b = record { once = omega (arith, tally-nil (line_injections f)); limit = omega (arith, tally-nil (line_granted f)) }
  run_gives v (e ∷ es) w b =
      let one = event_gives v w e (All-head (event_fits v) e es b) in
      let more = run_gives v es (happens w e).world (All-tail (event_fits v) e es b) in
      let first = entries w e in
      let rest = history_of es (happens w e).world in
      let i = tally-append (line_injections f) first rest in
      record {
        once = omega (arith, one.once, more.once, i);
        limit = omega (arith, one.limit, more.limit, i, tally-append (line_granted f) first rest, tally-append (line_forged f) first rest);
      }

  -- ---- at the beginning each host has one node

  other_host : (n m s t : ℕ) → (n == m) ≡ false → ◌≡◌ {A = ℕ} (cond ((n == m) && nat_le s t) 1 0) 0
  other_host n m s t e = grind (arith, nat_tests)

  one_at_most : (t : Bool) → cond t 1 0 ≤ 1
  one_at_most true = omega arith
  one_at_most false = omega arith

  opening_other : (t : Topology) (h : HostSpec) → (h.host.0 == f.source.0) ≡ false → may_give f (opening_node t h) ≡ 0
  unfolding may_give opening_node new_node
  opening_other t h e = other_host h.host.0 f.source.0 1 f.serial e

  opening_at_most : (t : Topology) (h : HostSpec) → may_give f (opening_node t h) ≤ 1
  unfolding may_give
  opening_at_most t h = one_at_most (((opening_node t h).here.0 == f.source.0) && nat_le (opening_node t h).serial f.serial)

  may_give_all-nil : may_give_all [] ≡ 0
  unfolding may_give_all
  may_give_all-nil = refl

  may_give_all-cons : (n : NodeState) (ns : List NodeState) → may_give_all (n ∷ ns) ≡ may_give f n + may_give_all ns
  unfolding may_give_all
  may_give_all-cons n ns = sum_by-cons (may_give f) n ns

  same_number : (a b c : ℕ) → (a == b) ≡ true → (c == a) ≡ false → (c == b) ≡ false
  same_number a b c x y = grind (arith, nat_tests)

  or_left : (a b : Bool) → (a || b) ≡ false → a ≡ false
  or_left true b e = e
  or_left false b e = refl

  or_right : (a b : Bool) → (a || b) ≡ false → b ≡ false
  or_right true b e = absurd cc
  or_right false b e = e

  others_none : (t : Topology) (h : Host) (hs : List HostSpec) → (h.0 == f.source.0) ≡ true → has_host h hs ≡ false → may_give_all (map (opening_node t) hs) ≡ 0
  others_none t h [] e n = may_give_all-nil
  others_none t h (g ∷ gs) e n =
      let other = opening_other t g (same_number h.0 f.source.0 g.host.0 e (or_left (g.host.0 == h.0) (has_host h gs) n)) in
      omega (arith, may_give_all-cons (opening_node t g) (map (opening_node t) gs), other, others_none t h gs e (or_right (g.host.0 == h.0) (has_host h gs) n))

  opening_cases : (b : Bool) (t : Topology) (h : HostSpec) (hs : List HostSpec) → (h.host.0 == f.source.0) ≡ b → has_host h.host hs ≡ false
      → may_give_all (map (opening_node t) hs) ≤ 1 → may_give_all (map (opening_node t) (h ∷ hs)) ≤ 1
  opening_cases true t h hs e n b = omega (arith, may_give_all-cons (opening_node t h) (map (opening_node t) hs), opening_at_most t h, others_none t h.host hs e n)
  opening_cases false t h hs e n b = omega (arith, may_give_all-cons (opening_node t h) (map (opening_node t) hs), opening_other t h e, b)

  opening_gives : (t : Topology) (hs : List HostSpec) → HostsDiffer hs → may_give_all (map (opening_node t) hs) ≤ 1
  opening_gives t [] d = omega (arith, may_give_all-nil)
  opening_gives t (h ∷ hs) d = opening_cases (h.host.0 == f.source.0) t h hs refl d.0 (opening_gives t hs d.1)

  opening_nodes_give : (t : Topology) → HostsDiffer t.hosts → may_give_all (opening t).nodes ≤ 1
  unfolding opening
  opening_nodes_give t d = opening_gives t t.hosts d

  -- ---- from the beginning on

  pub opening_bounded : (t : Topology) (es : List WorldEvent) → KeepsNetwork t → EventsFit t.version es → IsBounded f (history_of es (opening t)) (world_after es (opening t))
  opening_bounded t es k b =
      let g = run_gives t.version es (opening t) b in
      let o = opening_nodes_give t k.hosts in
      let law = (opening_balances f t es k b).law in
      let once : injections f (history_of es (opening t)) ≤ 1 = omega (arith, g.once, o) in
      record {
        once = once;
        limit = g.limit;
        alone = λ none before after e h bound is line. injected_alone f (history_of es (opening t)) before after e h bound once none is line;
        within = omega arith;
      }

  later_one : (h fh s fs : ℕ) → ◌≡◌ {A = ℕ} (cond ((h == fh) && nat_le s fs) 1 0) 0 → h ≡ fh → fs < s
  later_one h fh s fs e q = grind (arith, nat_tests)

  gives_later : (n : NodeState) → may_give f n ≡ 0 → n.here.0 ≡ f.source.0 → f.serial < n.serial
  unfolding may_give
  gives_later n e q = later_one n.here.0 f.source.0 n.serial f.serial e q

  later_serials : (nodes : List NodeState) → may_give_all nodes ≡ 0 → All (λ node. node.here.0 ≡ f.source.0 → f.serial < node.serial) nodes
  later_serials [] e = All-nil (λ node. node.here.0 ≡ f.source.0 → f.serial < node.serial)
  later_serials (n ∷ ns) e =
      let split = may_give_all-cons n ns in
      All-cons (λ node. node.here.0 ≡ f.source.0 → f.serial < node.serial) n ns (gives_later n (omega arith)) (later_serials ns (omega arith))

  opening_later : (t : Topology) (es : List WorldEvent) → HostsDiffer t.hosts → EventsFit t.version es → 0 < injections f (history_of es (opening t))
      → All (λ node. node.here.0 ≡ f.source.0 → f.serial < node.serial) (world_after es (opening t)).nodes
  opening_later t es d b h =
      let g = run_gives t.version es (opening t) b in
      let o = opening_nodes_give t d in
      later_serials (world_after es (opening t)).nodes (omega (arith, g.once))

  -- ---- an event that doesn't grant the family leaves a network without its packets so

  abbrev injected_or_forged : List Line → ℕ
  injected_or_forged lines = line_sum (line_injections f) lines + line_sum (line_forged f) lines

  abbrev Leaves : WorldState → EventResult → Type 0
  Leaves w h = injected_or_forged h.lines ≡ 0 → packets f w ≡ 0 → packets f h.world ≡ 0

  node_none : (nodes : List NodeState) (at : ℕ) (node : NodeState) → slice_get nodes at ≡ Some node → nodes_sum (frame_one f) nodes ≡ 0 → queues_sum (frame_one f) node.queues ≡ 0
  node_none nodes at node e q = omega (arith, nodes_sum-set (frame_one f) nodes at node (record node { queues = [] }) e, queues_sum-nil (frame_one f))

  -- what a step must leave, where its lines grant nothing
  abbrev StepLeaves : Host → List Line → NodeState → NodeStep → Type 0
  StepLeaves h before node step = injected_or_forged (before ++ lines_at h step.acts) ≡ 0 → queues_sum (frame_one f) node.queues ≡ 0 → queues_sum (frame_one f) step.node.queues ≡ 0

  step_at_leaves : (w : WorldState) (h : Host) (before : NodeState → List Line) (step : NodeState → NodeStep) (at : ℕ) (o : Option NodeState) → ((node : NodeState) → StepLeaves h (before node) node (step node)) → slice_get w.nodes at ≡ o
      → Leaves w (step_at w h before step at o)
  unfolding step_at
  step_at_leaves w h before step at None k e z q = q
  step_at_leaves w h before step at (Some node) k e z q =
      let one = k node z (node_none w.nodes at node e (omega arith)) in
      omega (arith, nodes_sum-set (frame_one f) w.nodes at node (step node).node e)

  step_place_leaves : (w : WorldState) (h : Host) (before : NodeState → List Line) (step : NodeState → NodeStep) (o : Option ℕ) → ((node : NodeState) → StepLeaves h (before node) node (step node)) → Leaves w (step_place w h before step o)
  unfolding step_place
  step_place_leaves w h before step None k z q = q
  step_place_leaves w h before step (Some at) k z q = step_at_leaves w h before step at (slice_get w.nodes at) k refl z q

  steps_leave : (w : WorldState) (h : Host) (before : NodeState → List Line) (step : NodeState → NodeStep) → ((node : NodeState) → StepLeaves h (before node) node (step node)) → Leaves w (steps w h before step)
  unfolding steps
  steps_leave w h before step k z q = step_place_leaves w h before step (place_of w.nodes h) k z q

  inject_leaves : (h : Host) (chunk : Chunk) (bound : ℕ) (handler : Option Name) (node : NodeState) → StepLeaves h [] node (inject_step [] node chunk bound handler)
  inject_leaves h chunk bound handler node z q =
      let acts = (inject_step [] node chunk bound handler).acts in
      let i = line_sum-at (line_injections f) h acts in
      inject_adds f node chunk bound handler q (omega arith)

  frame_forged : (h : Host) (x : PlainFrame) → line_sum (line_forged f) (forged_frame h x) ≡ frame_one f x
  frame_forged h (PlainFrame.Packet p) = line_sum-one (line_forged f) (Forged h p.family p.bound)
  frame_forged h (PlainFrame.Advert a) = line_sum-nil (line_forged f)
  frame_forged h (PlainFrame.Ask bound chunk) = line_sum-nil (line_forged f)

  forged_one : (h : Host) (r : Result PlainStamped FrameFault) → line_sum (line_forged f) (forged_lines h r) ≡ came_one f r
  forged_one h (Ok x) = frame_forged h x.frame
  forged_one h (Err e) = line_sum-nil (line_forged f)

  raw_leaves : (h : Host) (d : Dev) (bytes : List ℕ) (node : NodeState) → StepLeaves h (forged_at h bytes node) node (arrive_step node d bytes)
  raw_leaves h d bytes node z q =
      let i = line_sum-append (line_forged f) (forged_at h bytes node) (lines_at h (arrive_step node d bytes).acts) in
      let j = forged_one h (read_by node.version bytes) in
      arrive_adds f node d bytes (omega arith) q

  send_taken_leaves : (w : WorldState) (h : Host) (d : Dev) (at : ℕ) (to : LinkEnd) (node : NodeState) (step : NodeStep) (o : Option PlainStamped) → slice_get w.nodes at ≡ Some node
      → (queues_sum (frame_one f) node.queues ≡ 0 → queues_sum (frame_one f) step.node.queues + taken_sum (frame_one f) o ≡ 0) → packets f w ≡ 0 → packets f (send_taken w h d at to step o).world ≡ 0
  unfolding send_taken
  send_taken_leaves w h d at to node step None e k q = q
  send_taken_leaves w h d at to node step (Some x) e k q =
      let one = k (node_none w.nodes at node e (omega arith)) in
      omega (arith, nodes_sum-set (frame_one f) w.nodes at node step.node e, wire_sum-push (frame_one f) w.wire (record { number = w.«next»; from = record { host = h; dev = d }; to = to; frame = x; handed = false }))

  send_at_leaves : (w : WorldState) (h : Host) (d : Dev) (at : ℕ) (to : LinkEnd) (o : Option NodeState) → slice_get w.nodes at ≡ o → packets f w ≡ 0 → packets f (send_at w h d at to o).world ≡ 0
  unfolding send_at
  send_at_leaves w h d at to None e q = q
  send_at_leaves w h d at to (Some node) e q = send_taken_leaves w h d at to node (take_step node d) (take_step node d).frame e (take_adds f node d) q

  choice_leaves : (t : Bool) (a b : EventResult) → packets f a.world ≡ 0 → packets f b.world ≡ 0 → packets f (cond t a b).world ≡ 0
  choice_leaves true a b x y = x
  choice_leaves false a b x y = y

  send_over_leaves : (w : WorldState) (h : Host) (d : Dev) (at : ℕ) (o : Option LinkEnd) → packets f w ≡ 0 → packets f (send_over w h d at o).world ≡ 0
  unfolding send_over
  send_over_leaves w h d at None q = q
  send_over_leaves w h d at (Some to) q = choice_leaves (nat_lt (length w.wire) 4096) _ _ (send_at_leaves w h d at to (slice_get w.nodes at) refl q) q

  send_place_leaves : (w : WorldState) (h : Host) (d : Dev) (o : Option ℕ) → packets f w ≡ 0 → packets f (send_place w h d o).world ≡ 0
  unfolding send_place
  send_place_leaves w h d None q = q
  send_place_leaves w h d (Some at) q = send_over_leaves w h d at (far_end w.links h d) q

  sends_leave : (w : WorldState) (h : Host) (d : Dev) → packets f w ≡ 0 → packets f (sends w h d).world ≡ 0
  unfolding sends
  sends_leave w h d q = send_place_leaves w h d (place_of w.nodes h) q

  -- a frame that is taken off the wire, or stays there, leaves no more on it
  wire_leaves : (how : Delivery) (wire : List FrameOnWire) (place : ℕ) (x : FrameOnWire) → slice_get wire place ≡ Some x → wire_sum (frame_one f) (wire_after how wire place x) ≤ wire_sum (frame_one f) wire
  wire_leaves Taking wire place x r = omega (arith, wire_sum-remove (frame_one f) wire place x r)
  wire_leaves Leaving wire place x r = omega (arith, wire_sum-set (frame_one f) wire place x (as_handed x) r)

  hand_at_leaves : (w : WorldState) (how : Delivery) (place : ℕ) (x : FrameOnWire) (at : ℕ) (o : Option NodeState) → slice_get w.wire place ≡ Some x → slice_get w.nodes at ≡ o → packets f w ≡ 0
      → packets f (hand_at w how place x at o).world ≡ 0
  unfolding hand_at
  hand_at_leaves w how place x at None r e q = q
  hand_at_leaves w how place x at (Some node) r e q =
      let there = wire_sum-remove (frame_one f) w.wire place x r in
      let one = stamped_adds f node x.to.dev x.frame (omega arith) (node_none w.nodes at node e (omega arith)) in
      omega (arith, wire_leaves how w.wire place x r, nodes_sum-set (frame_one f) w.nodes at node (stamped_step node x.to.dev x.frame).node e)

  hand_to_leaves : (w : WorldState) (how : Delivery) (place : ℕ) (x : FrameOnWire) (o : Option ℕ) → slice_get w.wire place ≡ Some x → packets f w ≡ 0 → packets f (hand_to w how place x o).world ≡ 0
  unfolding hand_to
  hand_to_leaves w how place x None r q = q
  hand_to_leaves w how place x (Some at) r q = hand_at_leaves w how place x at (slice_get w.nodes at) r refl q

  hand_frame_leaves : (w : WorldState) (how : Delivery) (place : ℕ) (o : Option FrameOnWire) → slice_get w.wire place ≡ o → packets f w ≡ 0 → packets f (hand_frame w how place o).world ≡ 0
  unfolding hand_frame
  hand_frame_leaves w how place None r q = q
  hand_frame_leaves w how place (Some x) r q = hand_to_leaves w how place x (place_of w.nodes x.to.host) r q

  hand_place_leaves : (w : WorldState) (how : Delivery) (o : Option ℕ) → packets f w ≡ 0 → packets f (hand_place w how o).world ≡ 0
  unfolding hand_place
  hand_place_leaves w how None q = q
  hand_place_leaves w how (Some place) q = hand_frame_leaves w how place (slice_get w.wire place) refl q

  hands_leave : (w : WorldState) (how : Delivery) (number : ℕ) → packets f w ≡ 0 → packets f (hands w how number).world ≡ 0
  unfolding hands
  hands_leave w how number q = hand_place_leaves w how (wire_place w.wire number) q

  lose_frame_leaves : (w : WorldState) (place : ℕ) (o : Option FrameOnWire) → slice_get w.wire place ≡ o → packets f w ≡ 0 → packets f (lose_frame w place o).world ≡ 0
  unfolding lose_frame
  lose_frame_leaves w place None r q = q
  lose_frame_leaves w place (Some x) r q = omega (arith, wire_sum-remove (frame_one f) w.wire place x r)

  lose_place_leaves : (w : WorldState) (o : Option ℕ) → packets f w ≡ 0 → packets f (lose_place w o).world ≡ 0
  unfolding lose_place
  lose_place_leaves w None q = q
  lose_place_leaves w (Some place) q = lose_frame_leaves w place (slice_get w.wire place) refl q

  loses_leave : (w : WorldState) (number : ℕ) → packets f w ≡ 0 → packets f (loses w number).world ≡ 0
  unfolding loses
  loses_leave w number q = lose_place_leaves w (wire_place w.wire number) q

  acted_leaves : (w : WorldState) (e : WorldEvent) → Leaves w (acted_event w e)
  acted_leaves w (Inject h chunk bound handler) z q = steps_leave w h none_before (λ node. inject_step [] node chunk bound handler) (inject_leaves h chunk bound handler) z q
  acted_leaves w (Send h d) z q = sends_leave w h d q
  acted_leaves w (Deliver number) z q = hands_leave w Taking number q
  acted_leaves w (Repeat number) z q = hands_leave w Leaving number q
  acted_leaves w (Lose number) z q = loses_leave w number q
  acted_leaves w (Tick h) z q = steps_leave w h none_before tick_step (λ node y n. tick_adds f node n) z q
  acted_leaves w (Raw h d bytes) z q = steps_leave w h (forged_at h bytes) (λ node. arrive_step node d bytes) (raw_leaves h d bytes) z q

  entries_none : (w : WorldState) (e : WorldEvent) → injections f (entries w e) + forgeries f (entries w e) ≡ 0 → injected_or_forged (acted_event w e).lines ≡ 0
  unfolding entries
  entries_none w e z = omega (arith, tally-entries (line_injections f) (w.made + 1) (acted_event w e).lines, tally-entries (line_forged f) (w.made + 1) (acted_event w e).lines)

  run_leaves : (es : List WorldEvent) (w : WorldState) → injections f (history_of es w) + forgeries f (history_of es w) ≡ 0 → packets f w ≡ 0 → packets f (world_after es w) ≡ 0
  unfolding history_of world_after
  run_leaves [] w z q = q
  run_leaves (e ∷ es) w z q =
      let i = tally-append (line_injections f) (entries w e) (history_of es (happens w e).world) in
      let j = tally-append (line_forged f) (entries w e) (history_of es (happens w e).world) in
      run_leaves es (happens w e).world (omega arith) (acted_leaves w e (entries_none w e (omega arith)) q)

  -- from the beginning on, only granted families have packets, and serial numbers only grow
  pub opening_grants : (t : Topology) (es : List WorldEvent) → HostsDiffer t.hosts → EventsFit t.version es → IsGranted f (history_of es (opening t)) (world_after es (opening t))
  opening_grants t es d b = record { packet = λ z. run_leaves es (opening t) z (opening_frames (frame_one f) t); serial = opening_later t es d b }
