-- An event grants at most once.
use Rattle.std.proofs.Common.{◌≡◌, ℕ, ◌+◌, ◌≤◌, Bool, true, false, cond, List, [], ◌∷◌, ◌++◌, length, refl, sym, ap, ◌∙◌, subst, arith}
use Rattle.std.specs.Prelude.{◌==◌, ◌&&◌, nat_lt, nat_le, slice_get, Option, Some, None, Result, Ok, Err}
use Rattle.std.proofs.lemmas.Bool.Decides.{nat_tests}
use Rattle.std.proofs.lemmas.List.Elements.{All-head, All-tail}
use Rattle.plan_base.specs.declared.ids.Host.{Host}
use Rattle.plan_base.specs.declared.ids.Dev.{Dev}
use Rattle.plan_base.specs.declared.ids.Family.{Family}
use Rattle.plan_base.specs.declared.name.Name.{Name}
use Rattle.plan_base.specs.declared.tree.Chunk.{Chunk}
use Rattle.bound_ledger.specs.Rows.{same_family}
use Rattle.bound_ledger.proofs.RowLaws.{same_is}
use Rattle.packet_frame.specs.declared.frame.PlainFrame.{PlainFrame}
use Rattle.packet_frame.specs.declared.fault.FrameFault.{FrameFault}
use Rattle.packet_frame.specs.declared.frame.PlainStamped.{PlainStamped}
use Rattle.packet_frame.specs.Stamped.{stamped_bytes}
use Rattle.packet_frame.specs.Decoding.{read_by}
use Rattle.plan_base.specs.declared.stamp.Version.{Version}
use Rattle.network_config.specs.declared.event.WorldEvent.{WorldEvent}
use Rattle.network_config.specs.declared.event.WorldEvent.TheVariants.{Inject, Send, Deliver, Repeat, Lose, Tick, Raw}
use Rattle.packet_frame.specs.Spelled.{what_of}
use Rattle.node_core_spec.specs.declared.acts.Act.{Act}
use Rattle.node_core_spec.specs.declared.acts.Act.TheVariants.{Injected, Arrived, Asked, Noted, Ended, Handled, Queued, Dropped, Bad, Misplaced, AdvertQueued, AdvertDropped, AdvertSpent, Stale, Heard, Ticked, Taken, SerialsSpent, NoMemory}
use Rattle.node_core_spec.specs.State.{NodeState}
use Rattle.node_core_spec.specs.Node.{NodeStep, stepped_node, visit_step, next_serial, injected_packet, inject_step, stamped_step, arrive_step, tick_step, take_step}
use Rattle.node_core_spec.specs.Counts.{only, is_family, act_sum, act_injections}
use Rattle.node_core_spec.proofs.CountLaws.{act_sum-nil, act_sum-cons, only-le}
use Rattle.node_core_spec.proofs.Staying.{StepStays, visited_stays, stamped_stays, arrive_stays, tick_stays, take_stays}
use Rattle.node_core_spec.proofs.Giving.{may_give, StepGives, inject_gives, stamped_gives, arrive_gives, tick_gives, take_gives}
use Rattle.net_world_spec.specs.declared.lines.Line.{Line}
use Rattle.net_world_spec.specs.declared.lines.Line.TheVariants.{At, Forged, Wire, Off, Again, Lost, Nothing}
use Rattle.net_world_spec.specs.declared.lines.LinkEnd.{LinkEnd}
use Rattle.net_world_spec.specs.declared.lines.Entry.{Entry}
use Rattle.net_world_spec.specs.declared.lines.FrameOnWire.{FrameOnWire}
use Rattle.net_world_spec.specs.declared.lines.Delivery.{Delivery}
use Rattle.net_world_spec.specs.declared.lines.Delivery.TheVariants.{Taking, Leaving}
use Rattle.net_world_spec.specs.World.{WorldState, EventResult, nothing, lines_at, step_at, step_place, steps, none_before, forged_frame, forged_lines, forged_at, send_taken, send_at, send_over}
use Rattle.net_world_spec.specs.World.{send_place, sends, place_of, far_end, wire_place, hand_line, hand_at, hand_to, hand_frame, hand_place, hands, lose_frame, lose_place, loses, acted_event}
use Rattle.net_world_spec.specs.World.{happens, entries, history_of}
use Rattle.net_world_spec.specs.Counts.{line_sum, line_forged, tally}
use Rattle.net_world_spec.specs.Sound.{event_fits, EventsFit}
use Rattle.net_world_spec.proofs.CountLaws.{line_sum-nil, line_sum-cons, line_sum-one, line_sum-append, line_sum-at, tally-nil, tally-cons, tally-append, tally-entries}
use Rattle.bound_ledger.specs.Counting.{line_grants}
use Rattle.bound_ledger.proofs.LineLaws.{only_own}

-- ---- acts

-- how many of a node's acts grant
abbrev act_grants : Host → Act → ℕ
act_grants h a = line_grants (At h a)

only_one : (t : Bool) (n : ℕ) → n ≤ cond t 1 0 → 1 ≤ n → t ≡ true
only_one true n a b = refl
only_one false n a b = absurd (omega arith)

-- where no other family than one can be counted, an injection is of that one
of_one : (own f : Family) → 1 ≤ only f own 1 → 1 ≤ only own f 1
unfolding only is_family same_family
of_one own f h =
    let e : f ≡ own = same_is f own (only_one (same_family f own) 1 h (omega arith)) in
    let P : Family → Type 0 = λ g. 1 ≤ only own g 1 in
    subst P (sym e) (omega (arith, only_own own 1))

act_of_one : (own : Family) (h : Host) (a : Act) → ((f : Family) → act_injections f a ≤ only f own 1) → act_grants h a ≤ act_injections own a
act_of_one own h (Injected g bound) k = let one = k g in of_one own g (omega (arith, only_own g 1))
act_of_one own h (Arrived d) k = omega arith
act_of_one own h Asked k = omega arith
act_of_one own h (Noted n) k = omega arith
act_of_one own h (Ended g o evals rest) k = omega arith
act_of_one own h (Handled g n bound) k = omega arith
act_of_one own h (Queued d g bound) k = omega arith
act_of_one own h (Dropped r g bound) k = omega arith
act_of_one own h (Bad e) k = omega arith
act_of_one own h Misplaced k = omega arith
act_of_one own h (AdvertQueued d) k = omega arith
act_of_one own h (AdvertDropped d) k = omega arith
act_of_one own h (AdvertSpent d) k = omega arith
act_of_one own h (Stale t w) k = omega arith
act_of_one own h (Heard d) k = omega arith
act_of_one own h (Ticked n) k = omega arith
act_of_one own h (Taken d w) k = omega arith
act_of_one own h SerialsSpent k = omega arith
act_of_one own h NoMemory k = omega arith

acts_of_one : (own : Family) (h : Host) (acts : List Act) → ((f : Family) → act_sum (act_injections f) acts ≤ only f own 1) → act_sum (act_grants h) acts ≤ act_sum (act_injections own) acts
acts_of_one own h [] k = omega (arith, act_sum-nil (act_grants h))
acts_of_one own h (a ∷ acts) k =
    let first = act_of_one own h a (λ f. let n = k f in omega (arith, act_sum-cons (act_injections f) a acts)) in
    let rest = acts_of_one own h acts (λ f. let n = k f in omega (arith, act_sum-cons (act_injections f) a acts)) in
    omega (arith, act_sum-cons (act_grants h) a acts, act_sum-cons (act_injections own) a acts)

some_family : Family
some_family = record { source = record { 0 = 0 }; serial = 0 }

-- acts that inject no family grant nothing
none_granted : (h : Host) (acts : List Act) → ((f : Family) → act_sum (act_injections f) acts ≡ 0) → act_sum (act_grants h) acts ≡ 0
none_granted h acts k =
    let all = acts_of_one some_family h acts (λ f. let n = k f in omega arith) in
    let none = k some_family in
    omega arith

-- ---- steps of nodes

-- how often a step grants
abbrev step_grants : Host → NodeStep → ℕ
step_grants h step = act_sum (act_grants h) step.acts

same_gives : (f : Family) (old new : NodeState) → new.here ≡ old.here → new.serial ≡ old.serial → may_give f new ≡ may_give f old
unfolding may_give
same_gives f old new here serial =
    ap (λ x. cond ((x.0 == f.source.0) && nat_le new.serial f.serial) 1 0) here ∙ ap (λ n. cond ((old.here.0 == f.source.0) && nat_le n f.serial) 1 0) serial

-- a step after which a node goes on with the same serial number
stays_none : (h : Host) (old : NodeState) (step : NodeStep) → step.node.here ≡ old.here → step.node.serial ≡ old.serial → ((f : Family) → StepGives f old step) → step_grants h step ≡ 0
stays_none h old step here serial g = none_granted h step.acts (λ f. omega (arith, (g f).once, same_gives f old step.node here serial))

stamped_none : (h : Host) (node : NodeState) (d : Dev) (x : PlainStamped) → step_grants h (stamped_step node d x) ≡ 0
stamped_none h node d x = let s = stamped_stays node d x in stays_none h node (stamped_step node d x) s.node.here s.serial (λ f. stamped_gives f node d x)

arrive_none : (h : Host) (node : NodeState) (d : Dev) (bytes : List ℕ) → step_grants h (arrive_step node d bytes) ≡ 0
arrive_none h node d bytes = let s = arrive_stays node d bytes in stays_none h node (arrive_step node d bytes) s.node.here s.serial (λ f. arrive_gives f node d bytes)

tick_none : (h : Host) (node : NodeState) → step_grants h (tick_step node) ≡ 0
tick_none h node = let s = tick_stays node in stays_none h node (tick_step node) s.node.here s.serial (λ f. tick_gives f node)

take_none : (h : Host) (node : NodeState) (d : Dev) → step_grants h (take_step node d) ≡ 0
take_none h node d = let s = take_stays node d in stays_none h node (take_step node d) s.node.here s.serial (λ f. take_gives f node d)

-- a node that goes on with the next serial number can give no other family less
next_gives : (h fh s fs : ℕ) → cond ((h == fh) && nat_le s fs) 1 0 ≤ cond ((fh == h) && (fs == s)) 1 0 + cond ((h == fh) && nat_le (s + 1) fs) 1 0
next_gives h fh s fs = grind (arith, nat_tests)

as_much : (a b c d : ℕ) → a ≤ b + c → d ≡ c → a ≤ b + d
as_much a b c d h e = omega (arith, h, e)

gives_one : (f : Family) (node : NodeState) (step : NodeStep) → StepStays (next_serial node) step → may_give f node ≤ only f (record { source = node.here; serial = node.serial }) 1 + may_give f step.node
unfolding only is_family may_give
gives_one f node step s =
    let law = next_gives node.here.0 f.source.0 node.serial f.serial in
    let here = ap (λ x. cond ((x.0 == f.source.0) && nat_le step.node.serial f.serial) 1 0) s.node.here in
    let serial = ap (λ n. cond ((node.here.0 == f.source.0) && nat_le n f.serial) 1 0) s.serial in
    as_much _ _ _ _ law (here ∙ serial)

inject_cases : (t : Bool) (h : Host) (node : NodeState) (chunk : Chunk) (bound : ℕ) (handler : Option Name)
    → ((f : Family) → StepGives f node
    (cond t (stepped_node ([] ++ SerialsSpent ∷ []) None node)
    (visit_step ([] ++ Injected (record { source = node.here; serial = node.serial }) bound ∷ []) (next_serial node) (injected_packet node chunk bound handler))))
    → step_grants h (cond t (stepped_node ([] ++ SerialsSpent ∷ []) None node) (visit_step ([] ++ Injected (record { source = node.here; serial = node.serial }) bound ∷ []) (next_serial node) (injected_packet node chunk bound handler))) ≤ 1
inject_cases true h node chunk bound handler g = omega (arith, act_sum-cons (act_grants h) SerialsSpent [], act_sum-nil (act_grants h))
inject_cases false h node chunk bound handler g =
    let own : Family = record { source = node.here; serial = node.serial } in
    let step = visit_step (Injected own bound ∷ []) (next_serial node) (injected_packet node chunk bound handler) in
    let s = visited_stays (Injected own bound ∷ []) (next_serial node) (injected_packet node chunk bound handler) in
    let each : (f : Family) → act_sum (act_injections f) step.acts ≤ only f own 1 = λ f. omega (arith, (g f).once, gives_one f node step s) in
    let mine = each own in
    omega (arith, acts_of_one own h step.acts each, only-le own own 1)

inject_one : (h : Host) (node : NodeState) (chunk : Chunk) (bound : ℕ) (handler : Option Name) → bound ≤ 65535 → step_grants h (inject_step [] node chunk bound handler) ≤ 1
unfolding inject_step
inject_one h node chunk bound handler b = inject_cases (node.serial == 18446744073709551615) h node chunk bound handler (λ f. inject_gives f node chunk bound handler b)

-- ---- events

abbrev GrantsOnce : EventResult → Type 0
GrantsOnce x = line_sum line_grants x.lines ≤ 1

nothing_once : (w : WorldState) → GrantsOnce (nothing w)
nothing_once w = omega (arith, line_sum-one line_grants Nothing)

-- lines before a step, and the step
abbrev StepOnce : Host → List Line → NodeStep → Type 0
StepOnce h before step = line_sum line_grants before + step_grants h step ≤ 1

lines_once : (h : Host) (before : List Line) (step : NodeStep) → StepOnce h before step → line_sum line_grants (before ++ lines_at h step.acts) ≤ 1
lines_once h before step o = omega (arith, line_sum-append line_grants before (lines_at h step.acts), line_sum-at line_grants h step.acts)

step_at_once : (w : WorldState) (h : Host) (before : NodeState → List Line) (step : NodeState → NodeStep) (at : ℕ) (o : Option NodeState) → ((node : NodeState) → StepOnce h (before node) (step node))
    → GrantsOnce (step_at w h before step at o)
unfolding step_at
step_at_once w h before step at None k = nothing_once w
step_at_once w h before step at (Some node) k = lines_once h (before node) (step node) (k node)

step_place_once : (w : WorldState) (h : Host) (before : NodeState → List Line) (step : NodeState → NodeStep) (o : Option ℕ) → ((node : NodeState) → StepOnce h (before node) (step node)) → GrantsOnce (step_place w h before step o)
unfolding step_place
step_place_once w h before step None k = nothing_once w
step_place_once w h before step (Some at) k = step_at_once w h before step at (slice_get w.nodes at) k

steps_once : (w : WorldState) (h : Host) (before : NodeState → List Line) (step : NodeState → NodeStep) → ((node : NodeState) → StepOnce h (before node) (step node)) → GrantsOnce (steps w h before step)
unfolding steps
steps_once w h before step k = step_place_once w h before step (place_of w.nodes h) k

frame_once : (h : Host) (x : PlainFrame) → line_sum line_grants (forged_frame h x) ≤ 1
frame_once h (PlainFrame.Packet p) = omega (arith, line_sum-one line_grants (Forged h p.family p.bound))
frame_once h (PlainFrame.Advert a) = omega (arith, line_sum-nil line_grants)
frame_once h (PlainFrame.Ask bound chunk) = omega (arith, line_sum-nil line_grants)

forged_once : (h : Host) (r : Result PlainStamped FrameFault) → line_sum line_grants (forged_lines h r) ≤ 1
forged_once h (Ok x) = frame_once h x.frame
forged_once h (Err e) = omega (arith, line_sum-nil line_grants)

choice_once : (t : Bool) (a b : EventResult) → GrantsOnce a → GrantsOnce b → GrantsOnce (cond t a b)
choice_once true a b x y = x
choice_once false a b x y = y

send_taken_once : (w : WorldState) (h : Host) (d : Dev) (at : ℕ) (to : LinkEnd) (step : NodeStep) (o : Option PlainStamped) → step_grants h step ≡ 0 → GrantsOnce (send_taken w h d at to step o)
unfolding send_taken
send_taken_once w h d at to step None z = nothing_once w
send_taken_once w h d at to step (Some x) z = omega (
  arith,
  line_sum-append line_grants (lines_at h step.acts) (Wire w.«next» (stamped_bytes x) ∷ []),
  line_sum-at line_grants h step.acts,
  line_sum-one line_grants (Wire w.«next» (stamped_bytes x)),
)

send_at_once : (w : WorldState) (h : Host) (d : Dev) (at : ℕ) (to : LinkEnd) (o : Option NodeState) → GrantsOnce (send_at w h d at to o)
unfolding send_at
send_at_once w h d at to None = nothing_once w
send_at_once w h d at to (Some node) = send_taken_once w h d at to (take_step node d) (take_step node d).frame (take_none h node d)

send_over_once : (w : WorldState) (h : Host) (d : Dev) (at : ℕ) (o : Option LinkEnd) → GrantsOnce (send_over w h d at o)
unfolding send_over
send_over_once w h d at None = nothing_once w
send_over_once w h d at (Some to) = choice_once (nat_lt (length w.wire) 4096) _ _ (send_at_once w h d at to (slice_get w.nodes at)) (nothing_once w)

send_place_once : (w : WorldState) (h : Host) (d : Dev) (o : Option ℕ) → GrantsOnce (send_place w h d o)
unfolding send_place
send_place_once w h d None = nothing_once w
send_place_once w h d (Some at) = send_over_once w h d at (far_end w.links h d)

sends_once : (w : WorldState) (h : Host) (d : Dev) → GrantsOnce (sends w h d)
unfolding sends
sends_once w h d = send_place_once w h d (place_of w.nodes h)

hand_grants : (how : Delivery) (number : ℕ) → line_sum line_grants (hand_line how number ∷ []) ≡ 0
hand_grants Taking number = line_sum-one line_grants (Off number)
hand_grants Leaving number = line_sum-one line_grants (Again number)

hand_at_once : (w : WorldState) (how : Delivery) (place : ℕ) (x : FrameOnWire) (at : ℕ) (o : Option NodeState) → GrantsOnce (hand_at w how place x at o)
unfolding hand_at
hand_at_once w how place x at None = nothing_once w
hand_at_once w how place x at (Some node) =
    lines_once x.to.host (hand_line how x.number ∷ []) (stamped_step node x.to.dev x.frame) (omega (arith, hand_grants how x.number, stamped_none x.to.host node x.to.dev x.frame))

hand_to_once : (w : WorldState) (how : Delivery) (place : ℕ) (x : FrameOnWire) (o : Option ℕ) → GrantsOnce (hand_to w how place x o)
unfolding hand_to
hand_to_once w how place x None = nothing_once w
hand_to_once w how place x (Some at) = hand_at_once w how place x at (slice_get w.nodes at)

hand_frame_once : (w : WorldState) (how : Delivery) (place : ℕ) (o : Option FrameOnWire) → GrantsOnce (hand_frame w how place o)
unfolding hand_frame
hand_frame_once w how place None = nothing_once w
hand_frame_once w how place (Some x) = hand_to_once w how place x (place_of w.nodes x.to.host)

hand_place_once : (w : WorldState) (how : Delivery) (o : Option ℕ) → GrantsOnce (hand_place w how o)
unfolding hand_place
hand_place_once w how None = nothing_once w
hand_place_once w how (Some place) = hand_frame_once w how place (slice_get w.wire place)

hands_once : (w : WorldState) (how : Delivery) (number : ℕ) → GrantsOnce (hands w how number)
unfolding hands
hands_once w how number = hand_place_once w how (wire_place w.wire number)

lose_frame_once : (w : WorldState) (place : ℕ) (o : Option FrameOnWire) → GrantsOnce (lose_frame w place o)
unfolding lose_frame
lose_frame_once w place None = nothing_once w
lose_frame_once w place (Some x) = omega (arith, line_sum-cons line_grants (Off x.number) (Lost (what_of x.frame.frame) ∷ []), line_sum-one line_grants (Lost (what_of x.frame.frame)))

lose_place_once : (w : WorldState) (o : Option ℕ) → GrantsOnce (lose_place w o)
unfolding lose_place
lose_place_once w None = nothing_once w
lose_place_once w (Some place) = lose_frame_once w place (slice_get w.wire place)

loses_once : (w : WorldState) (number : ℕ) → GrantsOnce (loses w number)
unfolding loses
loses_once w number = lose_place_once w (wire_place w.wire number)

acted_once : (v : Version) (w : WorldState) (e : WorldEvent) → event_fits v e → GrantsOnce (acted_event w e)
acted_once v w (Inject h chunk bound handler) b =
    steps_once w h none_before (λ node. inject_step [] node chunk bound handler) (λ node. omega (arith, line_sum-nil line_grants, inject_one h node chunk bound handler b.0.0))
acted_once v w (Send h d) b = sends_once w h d
acted_once v w (Deliver number) b = hands_once w Taking number
acted_once v w (Repeat number) b = hands_once w Leaving number
acted_once v w (Lose number) b = loses_once w number
acted_once v w (Tick h) b = steps_once w h none_before tick_step (λ node. omega (arith, line_sum-nil line_grants, tick_none h node))
acted_once v w (Raw h d bytes) b = steps_once w h (forged_at h bytes) (λ node. arrive_step node d bytes) (λ node. omega (arith, forged_once h (read_by node.version bytes), arrive_none h node d bytes))

-- the lines of an event grant at most once
pub event_grants : (v : Version) (w : WorldState) (e : WorldEvent) → event_fits v e → line_sum line_grants (happens w e).lines ≤ 1
event_grants v w e b = acted_once v w e b

-- ---- runs

pub run_grants : (v : Version) (es : List WorldEvent) (w : WorldState) → EventsFit v es → tally line_grants (history_of es w) ≤ length es
unfolding history_of entries
run_grants v [] w b = omega (arith, tally-nil line_grants)
run_grants v (e ∷ es) w b = omega (
  arith,
  event_grants v w e (All-head (event_fits v) e es b),
  run_grants v es (happens w e).world (All-tail (event_fits v) e es b),
  tally-append line_grants (entries w e) (history_of es (happens w e).world),
  tally-entries line_grants (w.made + 1) (happens w e).lines,
)

-- a packet from outside is a grant
forged_is_grant : (f : Family) (l : Line) → line_forged f l ≤ line_grants l
forged_is_grant f (Forged h g bound) = only-le f g 1
forged_is_grant f (At h a) = omega arith
forged_is_grant f (Wire n bytes) = omega arith
forged_is_grant f (Off n) = omega arith
forged_is_grant f (Again n) = omega arith
forged_is_grant f (Lost w) = omega arith
forged_is_grant f Nothing = omega arith

pub forged_are_grants : (f : Family) (h : List Entry) → tally (line_forged f) h ≤ tally line_grants h
forged_are_grants f [] = omega (arith, tally-nil (line_forged f))
forged_are_grants f (e ∷ es) = omega (arith, tally-cons (line_forged f) e es, tally-cons line_grants e es, forged_is_grant f e.line, forged_are_grants f es)
