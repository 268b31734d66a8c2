-- What a history says of handings agrees with the wire, and so what a family left is counted event by event; each run is in balance.
use Rattle.std.proofs.Common.{◌≡◌, ◌≢◌, ℕ, zero, suc, ◌+◌, ◌<◌, Bool, true, false, ◌||◌, cond, List, [], ◌∷◌, ◌++◌, length, refl, sym, ap, ◌∙◌, subst, arith}
use Rattle.std.specs.Prelude.{map, slice_get, slice_set, nat_lt, ◌==◌, Option, Some, None, Result, Ok, Err, All}
use Rattle.std.specs.List.{list_any}
use Rattle.std.proofs.lemmas.List.Elements.{All-nil, All-cons, All-head, All-tail, All-push, All-weaker, All-get_or}
use Rattle.std.proofs.lemmas.Option.{slice_get_within, get_or_from_slice_get}
use Rattle.std.proofs.lemmas.Bool.Decides.{nat_tests}
use Rattle.plan_base.specs.declared.ids.Host.{Host}
use Rattle.plan_base.specs.declared.ids.Dev.{Dev}
use Rattle.plan_base.specs.declared.ids.Family.{Family}
use Rattle.packet_frame.specs.declared.frame.PlainFrame.{PlainFrame}
use Rattle.packet_frame.specs.declared.frame.PlainStamped.{PlainStamped}
use Rattle.packet_frame.specs.declared.fault.FrameFault.{FrameFault}
use Rattle.packet_frame.specs.Stamped.{stamped_bytes}
use Rattle.replay_window.specs.declared.window.Took.{Took}
use Rattle.replay_window.specs.declared.window.Took.TheVariants.{Fresh, Repeated, TooOld}
use Rattle.packet_frame.specs.Decoding.{read_by}
use Rattle.network_config.specs.Rules.{KeepsNetwork}
use Rattle.network_config.specs.declared.schedule.Topology.{Topology}
use Rattle.network_config.specs.declared.event.WorldEvent.{WorldEvent}
use Rattle.network_config.specs.declared.event.WorldEvent.TheVariants.{Inject, Send, Deliver, Repeat, Lose, Tick, Raw}
use Rattle.packet_frame.specs.Spelled.{what_of}
use Rattle.node_core_spec.specs.declared.acts.Act.{Act}
use Rattle.node_core_spec.specs.State.{NodeState}
use Rattle.node_core_spec.specs.Node.{NodeStep, takes_as, inject_step, stamped_step, arrive_step, tick_step, take_step}
use Rattle.node_core_spec.specs.Counts.{act_sum, act_stale, frame_live, if_stale, bytes_stale}
use Rattle.node_core_spec.proofs.NodeBalance.{inject_event_balances, arrive_balances, tick_balances, take_balances}
use Rattle.net_world_spec.specs.declared.lines.Line.{Line}
use Rattle.net_world_spec.specs.declared.lines.Line.TheVariants.{At, Forged, Wire, Off, Lost, Nothing}
use Rattle.net_world_spec.specs.declared.lines.LinkEnd.{LinkEnd}
use Rattle.net_world_spec.specs.declared.lines.Entry.{Entry}
use Rattle.net_world_spec.specs.declared.lines.FrameOnWire.{FrameOnWire}
use Rattle.net_world_spec.specs.declared.lines.Delivery.{Delivery}
use Rattle.net_world_spec.specs.declared.lines.Delivery.TheVariants.{Taking, Leaving}
use Rattle.net_world_spec.specs.World.{WorldState, EventResult, nothing, lines_at, step_at, step_place, steps, none_before, forged_frame, forged_lines, forged_at, send_taken, send_at, send_over}
use Rattle.net_world_spec.specs.World.{send_place, sends, place_of, far_end, wire_place, hand_line, as_handed, wire_after, hand_at, hand_to, hand_frame, hand_place, hands, lose_frame, lose_place}
use Rattle.net_world_spec.specs.World.{loses, acted_event, happens, entry_at, entries, world_after, history_of, opening}
use Rattle.net_world_spec.specs.Counts.{line_granted, line_hops, line_evals, line_left, line_sum, granted_sum, hops, evals, left_sum, Past, no_past, was_handed, past_with, past_after, left_from, live}
use Rattle.net_world_spec.specs.Counts.{late_frame, late_at, is_late, LeavesByWire, PastAgrees, Balanced}
use Rattle.net_world_spec.specs.Sound.{Rise, number_of, IsSound, event_fits, EventsFit}
use Rattle.net_world_spec.proofs.CountLaws.{line_sum-nil, line_sum-cons, line_sum-append, line_sum-at, tally-nil, tally-append, tally-entries}
use Rattle.net_world_spec.proofs.Balance.{stale_count, acts_left, event_balances, opening_live}
use Rattle.net_world_spec.proofs.Fitting.{All-remove, wired_of, event_sound, event_version, rest_fits, run_sound}
use Rattle.net_world_spec.proofs.Opening.{opening_version, opening_sound}

-- ---- what a history says

pub past_after-append : (p : Past) (xs ys : List Entry) → past_after p (xs ++ ys) ≡ past_after (past_after p xs) ys
unfolding past_after
past_after-append p [] ys = refl
past_after-append p (x ∷ xs) ys = past_after-append (past_with p x.line) xs ys

module _ (f : Family) where
  pub left_from-append : (p : Past) (xs ys : List Entry) → left_from f p (xs ++ ys) ≡ left_from f p xs + left_from f (past_after p xs) ys
  unfolding left_from past_after
  left_from-append p [] ys = omega arith
  left_from-append p (x ∷ xs) ys = omega (arith, left_from-append (past_with p x.line) xs ys)

-- a line that says nothing of handings
abbrev IsPlain : Line → Type 0
IsPlain l = (p : Past) → past_with p l ≡ p

plain_acts : (h : Host) (acts : List Act) → All IsPlain (lines_at h acts)
unfolding lines_at
plain_acts h [] = All-nil IsPlain
plain_acts h (a ∷ acts) = All-cons IsPlain (At h a) (lines_at h acts) (λ p. refl) (plain_acts h acts)

plain_past : (p : Past) (n : ℕ) (lines : List Line) → All IsPlain lines → past_after p (map (entry_at n) lines) ≡ p
unfolding past_after
plain_past p n [] a = refl
plain_past p n (l ∷ ls) a = ap (λ q. past_after q (map (entry_at n) ls)) (All-head IsPlain l ls a p) ∙ plain_past p n ls (All-tail IsPlain l ls a)

plain_left : (f : Family) (p : Past) (n : ℕ) (lines : List Line) → All IsPlain lines → left_from f p (map (entry_at n) lines) ≡ line_sum (line_left f p.late) lines
unfolding left_from
plain_left f p n [] a = sym (line_sum-nil (line_left f p.late))
plain_left f p n (l ∷ ls) a =
    ap (λ q. line_left f q.late l + left_from f q (map (entry_at n) ls)) (All-head IsPlain l ls a p)
    ∙ (ap (λ m. line_left f p.late l + m) (plain_left f p n ls (All-tail IsPlain l ls a)) ∙ sym (line_sum-cons (line_left f p.late) l ls))

-- ---- events

-- what an event's lines say: what they leave by the wire is what they leave by the history, which agrees with the wire afterwards
record Tells (f : Family) (p : Past) (late : Bool) (h : EventResult) : Type 0 where
  left : (n : ℕ) → left_from f p (map (entry_at n) h.lines) ≡ line_sum (line_left f late) h.lines
  past : (n : ℕ) → PastAgrees (past_after p (map (entry_at n) h.lines)) h.world

-- where nothing is stale, it is the same whether the frame was handed
same_left : (f : Family) (h : Host) (acts : List Act) (a b : Bool) → act_sum (act_stale f) acts ≡ 0 → line_sum (line_left f a) (lines_at h acts) ≡ line_sum (line_left f b) (lines_at h acts)
same_left f h acts a b z = counted_as a ∙ sym (counted_as b)
  where
    zero_counted : (c : Bool) → stale_count c 0 ≡ 0
    zero_counted true = refl
    zero_counted false = refl

    counted_as : (c : Bool) → line_sum (line_left f c) (lines_at h acts) ≡ line_sum (line_left f true) (lines_at h acts)
    counted_as c =
        let one = line_sum-at (line_left f c) h acts ∙ acts_left f c acts in
        let all = line_sum-at (line_left f true) h acts ∙ acts_left f true acts in
        omega (arith, one, all, ap (stale_count c) z, zero_counted c)

nothing_tells : (f : Family) (p : Past) (late : Bool) (w : WorldState) → PastAgrees p w → Tells f p late (nothing w)
unfolding left_from past_after
nothing_tells f p late w a = record { left = λ n. omega (arith, line_sum-cons (line_left f late) Nothing [], line_sum-nil (line_left f late)); past = λ n. a }

-- the acts of a step in which nothing is stale, with nothing changed on the wire
acts_tell : (f : Family) (p : Past) (late : Bool) (h : Host) (acts : List Act) (new : WorldState) → act_sum (act_stale f) acts ≡ 0 → PastAgrees p new → Tells f p late (record { lines = lines_at h acts; world = new })
acts_tell f p late h acts new z a = record {
  left = λ n. plain_left f p n (lines_at h acts) (plain_acts h acts) ∙ same_left f h acts p.late late z;
  past = λ n. subst (λ q. PastAgrees q new) (sym (plain_past p n (lines_at h acts) (plain_acts h acts))) a;
}

-- plain lines that leave the same either way
plain_tells : (f : Family) (p : Past) (late : Bool) (lines : List Line) (new : WorldState) → All IsPlain lines → line_sum (line_left f p.late) lines ≡ line_sum (line_left f late) lines → PastAgrees p new
    → Tells f p late (record { lines = lines; world = new })
plain_tells f p late lines new plain same a = record {
  left = λ n. plain_left f p n lines plain ∙ same;
  past = λ n. subst (λ q. PastAgrees q new) (sym (plain_past p n lines plain)) a;
}

-- a line of a handing, and plain ones behind it
first_tells : (f : Family) (p : Past) (late : Bool) (l : Line) (lines : List Line) (new : WorldState) → All IsPlain lines → line_left f late l ≡ 0 → line_left f (past_with p l).late l ≡ 0 → (past_with p l).late ≡ late
    → PastAgrees (past_with p l) new → Tells f p late (record { lines = l ∷ lines; world = new })
unfolding left_from past_after
first_tells f p late l lines new plain z y same a = record {
  left = λ n. omega (arith, y, z, plain_left f (past_with p l) n lines plain, ap (λ b. line_sum (line_left f b) lines) same, line_sum-cons (line_left f late) l lines);
  past = λ n. subst (λ q. PastAgrees q new) (sym (plain_past (past_with p l) n lines plain)) a;
}

-- the wire and its next number stay
same_wire : (p : Past) (old new : WorldState) → new.wire ≡ old.wire → new.«next» ≡ old.«next» → PastAgrees p old → PastAgrees p new
same_wire p old new w n a = record {
  handed = subst (All (λ x. x.handed ≡ was_handed x.number p)) (sym w) a.handed;
  below = subst (λ k. All (λ m. m < k) p.numbers) (sym n) a.below;
}

module _ (f : Family) (p : Past) where
  -- steps of a node that say nothing before, in which nothing is stale
  plain_at : (w : WorldState) (h : Host) (step : NodeState → NodeStep) (at : ℕ) (o : Option NodeState) → ((node : NodeState) → act_sum (act_stale f) (step node).acts ≡ 0) → PastAgrees p w
      → Tells f p false (step_at w h none_before step at o)
  unfolding step_at
  plain_at w h step at None z a = nothing_tells f p false w a
  plain_at w h step at (Some node) z a = acts_tell f p false h (step node).acts _ (z node) (same_wire p w _ refl refl a)

  plain_place : (w : WorldState) (h : Host) (step : NodeState → NodeStep) (o : Option ℕ) → ((node : NodeState) → act_sum (act_stale f) (step node).acts ≡ 0) → PastAgrees p w → Tells f p false (step_place w h none_before step o)
  unfolding step_place
  plain_place w h step None z a = nothing_tells f p false w a
  plain_place w h step (Some at) z a = plain_at w h step at (slice_get w.nodes at) z a

  plain_steps : (w : WorldState) (h : Host) (step : NodeState → NodeStep) → ((node : NodeState) → act_sum (act_stale f) (step node).acts ≡ 0) → PastAgrees p w → Tells f p false (steps w h none_before step)
  unfolding steps
  plain_steps w h step z a = plain_place w h step (place_of w.nodes h) z a

  -- bytes from outside: a packet is reported before, and nothing else counts
  raw_tells : (h : Host) (r : Result PlainStamped FrameFault) (node : NodeState) (d : Dev) (acts : List Act) (new : WorldState) → act_sum (act_stale f) acts ≡ bytes_stale f node d r → PastAgrees p new
      → Tells f p false (record { lines = forged_lines h r ++ lines_at h acts; world = new })
  raw_tells h (Err e) node d acts new z a = acts_tell f p false h acts new z a
  raw_tells h (Ok x) node d acts new z a = by x.frame refl
    where
      none : (t : Took) → if_stale t 0 ≡ 0
      none Fresh = refl
      none Repeated = refl
      none TooOld = refl

      by : (y : PlainFrame) → x.frame ≡ y → Tells f p false (record { lines = forged_frame h y ++ lines_at h acts; world = new })
      by (PlainFrame.Packet q) e = first_tells f p false (Forged h q.family q.bound) (lines_at h acts) new (plain_acts h acts) refl refl refl (record { handed = a.handed; below = a.below })
      by (PlainFrame.Advert q) e = acts_tell f p false h acts new (z ∙ (ap (λ y. if_stale (takes_as node.seen d x.stamp) (frame_live f y)) e ∙ none (takes_as node.seen d x.stamp))) a
      by (PlainFrame.Ask bound chunk) e = acts_tell f p false h acts new (z ∙ (ap (λ y. if_stale (takes_as node.seen d x.stamp) (frame_live f y)) e ∙ none (takes_as node.seen d x.stamp))) a

  raw_at : (w : WorldState) (h : Host) (d : Dev) (bytes : List ℕ) (at : ℕ) (o : Option NodeState) → PastAgrees p w → Tells f p false (step_at w h (forged_at h bytes) (λ node. arrive_step node d bytes) at o)
  unfolding step_at
  raw_at w h d bytes at None a = nothing_tells f p false w a
  raw_at w h d bytes at (Some node) a = raw_tells h (read_by node.version bytes) node d (arrive_step node d bytes).acts _ (arrive_balances f node d bytes).stale (same_wire p w _ refl refl a)

  raw_place : (w : WorldState) (h : Host) (d : Dev) (bytes : List ℕ) (o : Option ℕ) → PastAgrees p w → Tells f p false (step_place w h (forged_at h bytes) (λ node. arrive_step node d bytes) o)
  unfolding step_place
  raw_place w h d bytes None a = nothing_tells f p false w a
  raw_place w h d bytes (Some at) a = raw_at w h d bytes at (slice_get w.nodes at) a

  raws_tell : (w : WorldState) (h : Host) (d : Dev) (bytes : List ℕ) → PastAgrees p w → Tells f p false (steps w h (forged_at h bytes) (λ node. arrive_step node d bytes))
  unfolding steps
  raws_tell w h d bytes a = raw_place w h d bytes (place_of w.nodes h) a

  -- a frame that goes onto the wire was never handed
  not_among : (n : ℕ) (ns : List ℕ) → All (λ m. m < n) ns → list_any (λ m. m == n) ns ≡ false
  not_among n [] a = refl
  not_among n (m ∷ ns) a =
      let low : m < n = All-head (λ m. m < n) m ns a in
      let other : (m == n) ≡ false = grind (arith, nat_tests) in
      ap (λ b. b || list_any (λ k. k == n) ns) other ∙ not_among n ns (All-tail (λ m. m < n) m ns a)

  send_taken_tells : (w : WorldState) (h : Host) (d : Dev) (at : ℕ) (to : LinkEnd) (step : NodeStep) (o : Option PlainStamped) → act_sum (act_stale f) step.acts ≡ 0 → PastAgrees p w → Tells f p false (send_taken w h d at to step o)
  unfolding send_taken
  send_taken_tells w h d at to step None z a = nothing_tells f p false w a
  send_taken_tells w h d at to step (Some x) z a =
      let lines = lines_at h step.acts in
      let line = Wire w.«next» (stamped_bytes x) in
      let wired : FrameOnWire = record { number = w.«next»; from = record { host = h; dev = d }; to = to; frame = x; handed = false } in
      let plain : All IsPlain (lines ++ line ∷ []) = All-push IsPlain lines line (plain_acts h step.acts) (λ q. refl) in
      plain_tells f p false (lines ++ line ∷ []) _ plain
      (omega (
        arith,
        line_sum-append (line_left f p.late) lines (line ∷ []),
        line_sum-append (line_left f false) lines (line ∷ []),
        same_left f h step.acts p.late false z,
        last p.late,
        last false,
      ))
      (record {
        handed = All-push (λ y. y.handed ≡ was_handed y.number p) w.wire wired a.handed (sym (not_among w.«next» p.numbers a.below));
        below = All-weaker (λ m. m < w.«next») (λ m. m < w.«next» + 1) (λ m k. omega (arith, k)) p.numbers a.below;
      })
    where
      last : (b : Bool) → line_sum (line_left f b) (Wire w.«next» (stamped_bytes x) ∷ []) ≡ 0
      last b = omega (arith, line_sum-cons (line_left f b) (Wire w.«next» (stamped_bytes x)) [], line_sum-nil (line_left f b))

  send_at_tells : (w : WorldState) (h : Host) (d : Dev) (at : ℕ) (to : LinkEnd) (o : Option NodeState) → PastAgrees p w → Tells f p false (send_at w h d at to o)
  unfolding send_at
  send_at_tells w h d at to None a = nothing_tells f p false w a
  send_at_tells w h d at to (Some node) a = send_taken_tells w h d at to (take_step node d) (take_step node d).frame (take_balances f node d).stale a

  choice_tells : (t : Bool) (x y : EventResult) → Tells f p false x → Tells f p false y → Tells f p false (cond t x y)
  choice_tells true x y a b = a
  choice_tells false x y a b = b

  send_over_tells : (w : WorldState) (h : Host) (d : Dev) (at : ℕ) (o : Option LinkEnd) → PastAgrees p w → Tells f p false (send_over w h d at o)
  unfolding send_over
  send_over_tells w h d at None a = nothing_tells f p false w a
  send_over_tells w h d at (Some to) a = choice_tells (nat_lt (length w.wire) 4096) _ _ (send_at_tells w h d at to (slice_get w.nodes at) a) (nothing_tells f p false w a)

  send_place_tells : (w : WorldState) (h : Host) (d : Dev) (o : Option ℕ) → PastAgrees p w → Tells f p false (send_place w h d o)
  unfolding send_place
  send_place_tells w h d None a = nothing_tells f p false w a
  send_place_tells w h d (Some at) a = send_over_tells w h d at (far_end w.links h d) a

  sends_tell : (w : WorldState) (h : Host) (d : Dev) → PastAgrees p w → Tells f p false (sends w h d)
  unfolding sends
  sends_tell w h d a = send_place_tells w h d (place_of w.nodes h) a

  -- ---- handings and losses

  abbrev Agree : Past → FrameOnWire → Type 0
  Agree q x = x.handed ≡ was_handed x.number q

  there : (wire : List FrameOnWire) (place : ℕ) (x : FrameOnWire) → slice_get wire place ≡ Some x → All (Agree p) wire → Agree p x
  there wire place x e a = let h = All-get_or (Agree p) wire place x (slice_get_within wire place x e) a in rw (get_or_from_slice_get wire place x x e) at h

  abbrev later_past : ℕ → Bool → Past
  later_past k late = record { numbers = k ∷ p.numbers; late = late }

  other_number : (k n : ℕ) (late : Bool) → k ≢ n → was_handed n (later_past k late) ≡ was_handed n p
  other_number k n late d = let e : (k == n) ≡ false = grind (arith, nat_tests) in ap (λ b. b || was_handed n p) e

  own_number : (k : ℕ) (late : Bool) → true ≡ was_handed k (later_past k late)
  own_number k late = let e : (k == k) ≡ true = grind (arith, nat_tests) in sym (ap (λ b. b || was_handed k p) e)

  above_agree : (k : ℕ) (late : Bool) (wire : List FrameOnWire) → All (λ y. k < number_of y) wire → All (Agree p) wire → All (Agree (later_past k late)) wire
  above_agree k late [] u a = All-nil (Agree (later_past k late))
  above_agree k late (y ∷ ys) u a =
      let up : k < number_of y = All-head (λ y. k < number_of y) y ys u in
      All-cons (Agree (later_past k late)) y ys (All-head (Agree p) y ys a ∙ sym (other_number k y.number late (λ e. omega (arith, up, e))))
      (above_agree k late ys (All-tail (λ y. k < number_of y) y ys u) (All-tail (Agree p) y ys a))

  set_agree : (late : Bool) (wire : List FrameOnWire) (place : ℕ) (x : FrameOnWire) → slice_get wire place ≡ Some x → Rise number_of wire → All (Agree p) wire
      → All (Agree (later_past x.number late)) (slice_set wire place (as_handed x))
  set_agree late [] place x e r a = All-nil (Agree (later_past x.number late))
  set_agree late (y ∷ ys) zero x e r a =
      let is : y ≡ x = cc in
      All-cons (Agree (later_past x.number late)) (as_handed x) ys (own_number x.number late)
      (above_agree x.number late ys (subst (λ z. All (λ v. number_of z < number_of v) ys) is r.0) (All-tail (Agree p) y ys a))
  set_agree late (y ∷ ys) (suc place) x e r a =
      let h = All-get_or (λ v. number_of y < number_of v) ys place x (slice_get_within ys place x e) r.0 in
      let up : number_of y < number_of x = rw (get_or_from_slice_get ys place x x e) at h in
      All-cons (Agree (later_past x.number late)) y (slice_set ys place (as_handed x)) (All-head (Agree p) y ys a ∙ sym (other_number x.number y.number late (λ q. omega (arith, up, q))))
      (set_agree late ys place x e r.1 (All-tail (Agree p) y ys a))

  hand_agrees : (how : Delivery) (w new : WorldState) (place : ℕ) (x : FrameOnWire) → slice_get w.wire place ≡ Some x → new.wire ≡ wire_after how w.wire place x → new.«next» ≡ w.«next» → x.number < w.«next» → Rise number_of w.wire
      → PastAgrees p w → PastAgrees (past_with p (hand_line how x.number)) new
  hand_agrees Taking w new place x e q n b r a = record {
    handed = subst (All (Agree p)) (sym q) (All-remove (Agree p) w.wire place a.handed);
    below = subst (λ k. All (λ m. m < k) p.numbers) (sym n) a.below;
  }
  hand_agrees Leaving w new place x e q n b r a = record {
    handed = subst (All (Agree (later_past x.number (was_handed x.number p)))) (sym q) (set_agree (was_handed x.number p) w.wire place x e r a.handed);
    below = subst (λ k. All (λ m. m < k) (x.number ∷ p.numbers)) (sym n) (All-cons (λ m. m < w.«next») x.number p.numbers b a.below);
  }

  hand_late : (how : Delivery) (n : ℕ) → (past_with p (hand_line how n)).late ≡ was_handed n p
  hand_late Taking n = refl
  hand_late Leaving n = refl

  hand_leaves : (how : Delivery) (n : ℕ) (b : Bool) → line_left f b (hand_line how n) ≡ 0
  hand_leaves Taking n b = refl
  hand_leaves Leaving n b = refl

  hand_at_tells : (w : WorldState) (how : Delivery) (place : ℕ) (x : FrameOnWire) (at : ℕ) (o : Option NodeState) → slice_get w.wire place ≡ Some x → x.number < w.«next» → Rise number_of w.wire → PastAgrees p w
      → Tells f p x.handed (hand_at w how place x at o)
  unfolding hand_at
  hand_at_tells w how place x at None e b r a = nothing_tells f p x.handed w a
  hand_at_tells w how place x at (Some node) e b r a =
      let acts = (stamped_step node x.to.dev x.frame).acts in
      first_tells f p x.handed (hand_line how x.number) (lines_at x.to.host acts) _ (plain_acts x.to.host acts) (hand_leaves how x.number x.handed) (hand_leaves how x.number _)
      (hand_late how x.number ∙ sym (there w.wire place x e a.handed)) (hand_agrees how w _ place x e refl refl b r a)

  number_below : (w : WorldState) (place : ℕ) (x : FrameOnWire) → IsSound w → slice_get w.wire place ≡ Some x → x.number < w.«next»
  number_below w place x s e = (wired_of w.version w.«next» w.wire place x e s.wire).number

  hand_to_tells : (w : WorldState) (how : Delivery) (place : ℕ) (x : FrameOnWire) (o : Option ℕ) → slice_get w.wire place ≡ Some x → IsSound w → PastAgrees p w → Tells f p x.handed (hand_to w how place x o)
  unfolding hand_to
  hand_to_tells w how place x None e s a = nothing_tells f p x.handed w a
  hand_to_tells w how place x (Some at) e s a = hand_at_tells w how place x at (slice_get w.nodes at) e (number_below w place x s e) s.once a

  hand_frame_tells : (w : WorldState) (how : Delivery) (place : ℕ) (o : Option FrameOnWire) → slice_get w.wire place ≡ o → IsSound w → PastAgrees p w → Tells f p (late_frame o) (hand_frame w how place o)
  unfolding hand_frame
  hand_frame_tells w how place None e s a = nothing_tells f p false w a
  hand_frame_tells w how place (Some x) e s a = hand_to_tells w how place x (place_of w.nodes x.to.host) e s a

  hand_place_tells : (w : WorldState) (how : Delivery) (o : Option ℕ) → IsSound w → PastAgrees p w → Tells f p (late_at w.wire o) (hand_place w how o)
  unfolding hand_place
  hand_place_tells w how None s a = nothing_tells f p false w a
  hand_place_tells w how (Some place) s a = hand_frame_tells w how place (slice_get w.wire place) refl s a

  hands_tell : (w : WorldState) (how : Delivery) (number : ℕ) → IsSound w → PastAgrees p w → Tells f p (late_at w.wire (wire_place w.wire number)) (hands w how number)
  unfolding hands
  hands_tell w how number s a = hand_place_tells w how (wire_place w.wire number) s a

  lose_frame_tells : (w : WorldState) (place : ℕ) (o : Option FrameOnWire) → slice_get w.wire place ≡ o → IsSound w → PastAgrees p w → Tells f p (late_frame o) (lose_frame w place o)
  unfolding lose_frame
  lose_frame_tells w place None e s a = nothing_tells f p false w a
  lose_frame_tells w place (Some x) e s a =
      first_tells f p x.handed (Off x.number) (Lost (what_of x.frame.frame) ∷ []) _ (All-cons IsPlain (Lost (what_of x.frame.frame)) [] (λ q. refl) (All-nil IsPlain)) refl refl
      (sym (there w.wire place x e a.handed)) (hand_agrees Taking w _ place x e refl refl (number_below w place x s e) s.once a)

  lose_place_tells : (w : WorldState) (o : Option ℕ) → IsSound w → PastAgrees p w → Tells f p (late_at w.wire o) (lose_place w o)
  unfolding lose_place
  lose_place_tells w None s a = nothing_tells f p false w a
  lose_place_tells w (Some place) s a = lose_frame_tells w place (slice_get w.wire place) refl s a

  loses_tell : (w : WorldState) (number : ℕ) → IsSound w → PastAgrees p w → Tells f p (late_at w.wire (wire_place w.wire number)) (loses w number)
  unfolding loses
  loses_tell w number s a = lose_place_tells w (wire_place w.wire number) s a

  acted_tells : (w : WorldState) (e : WorldEvent) → IsSound w → PastAgrees p w → Tells f p (is_late w e) (acted_event w e)
  acted_tells w (Inject h chunk bound handler) s a = plain_steps w h (λ node. inject_step [] node chunk bound handler) (λ node. (inject_event_balances f node chunk bound handler).stale) a
  acted_tells w (Send h d) s a = sends_tell w h d a
  acted_tells w (Deliver number) s a = hands_tell w Taking number s a
  acted_tells w (Repeat number) s a = hands_tell w Leaving number s a
  acted_tells w (Lose number) s a = loses_tell w number s a
  acted_tells w (Tick h) s a = plain_steps w h tick_step (λ node. (tick_balances f node).stale) a
  acted_tells w (Raw h d bytes) s a = raws_tell w h d bytes a

-- what an event leaves by the wire is what it leaves by the history
pub event_left : (f : Family) (p : Past) (w : WorldState) (e : WorldEvent) → IsSound w → PastAgrees p w → left_from f p (entries w e) ≡ line_sum (line_left f (is_late w e)) (happens w e).lines
unfolding entries
event_left f p w e s a = (acted_tells f p w e s a).left (w.made + 1)

pub event_agrees : (f : Family) (p : Past) (w : WorldState) (e : WorldEvent) → IsSound w → PastAgrees p w → PastAgrees (past_after p (entries w e)) (happens w e).world
unfolding entries
event_agrees f p w e s a = same_wire _ (acted_event w e).world _ refl refl ((acted_tells f p w e s a).past (w.made + 1))

-- ---- runs

-- a run behind some history
record RunBalance (f : Family) (p : Past) (old : WorldState) (h : List Entry) (new : WorldState) : Type 0 where
  law : granted_sum f h + live f old ≡ hops f h + evals f h + live f new + left_from f p h

run_balances : (f : Family) (es : List WorldEvent) (p : Past) (w : WorldState) → EventsFit w.version es → IsSound w → PastAgrees p w → RunBalance f p w (history_of es w) (world_after es w)
unfolding history_of world_after left_from entries
run_balances f [] p w b s a = record { law = omega (arith, tally-nil (line_granted f), tally-nil (line_hops f), tally-nil (line_evals f)) }
run_balances f (e ∷ es) p w b s a =
    let fits = All-head (event_fits w.version) e es b in
    let next = (happens w e).world in
    let one = event_balances f w e s in
    let first = entries w e in
    let rest = history_of es next in
    let lines = (happens w e).lines in
    let more = run_balances f es (past_after p first) next (rest_fits next.version w es (event_version w e fits s) (All-tail (event_fits w.version) e es b)) (event_sound w e fits s) (event_agrees f p w e s a) in
    record {
      law = omega (
        arith,
        one.law,
        more.law,
        event_left f p w e s a,
        left_from-append f p first rest,
        tally-append (line_granted f) first rest,
        tally-append (line_hops f) first rest,
        tally-append (line_evals f) first rest,
        tally-entries (line_granted f) (w.made + 1) lines,
        tally-entries (line_hops f) (w.made + 1) lines,
        tally-entries (line_evals f) (w.made + 1) lines,
      );
    }

opening_agrees : (t : Topology) → PastAgrees no_past (opening t)
unfolding opening
opening_agrees t = record { handed = All-nil (λ x. x.handed ≡ was_handed x.number no_past); below = All-nil (λ m. m < 1) }

-- what a run says of handings agrees with the wire
run_agrees : (f : Family) (es : List WorldEvent) (p : Past) (w : WorldState) → EventsFit w.version es → IsSound w → PastAgrees p w → PastAgrees (past_after p (history_of es w)) (world_after es w)
unfolding history_of world_after past_after
run_agrees f [] p w b s a = a
run_agrees f (e ∷ es) p w b s a =
    let fits = All-head (event_fits w.version) e es b in
    let next = (happens w e).world in
    let first = entries w e in
    let more = run_agrees f es (past_after p first) next (rest_fits next.version w es (event_version w e fits s) (All-tail (event_fits w.version) e es b)) (event_sound w e fits s) (event_agrees f p w e s a) in
    subst (λ q. PastAgrees q (world_after es next)) (sym (past_after-append p first (history_of es next))) more

module _ (t : Topology) (es : List WorldEvent) (k : KeepsNetwork t) (b : EventsFit t.version es) where
  fits_there : EventsFit (opening t).version es
  fits_there = subst (λ v. EventsFit v es) (sym (opening_version t)) b

  agrees_behind : Family → PastAgrees (past_after no_past (history_of es (opening t))) (world_after es (opening t))
  agrees_behind f = run_agrees f es no_past (opening t) fits_there (opening_sound t k) (opening_agrees t)

  pub opening_tells : PastAgrees (past_after no_past (history_of es (opening t))) (world_after es (opening t))
  opening_tells = agrees_behind (record { source = record { 0 = 0 }; serial = 0 })

  leaves_by_wire : (f : Family) (e : WorldEvent) → LeavesByWire f (history_of es (opening t)) (world_after es (opening t)) e
  leaves_by_wire f e =
      let w = world_after es (opening t) in
      let h = history_of es (opening t) in
      left_from-append f no_past h (entries w e) ∙ ap (λ n. left_sum f h + n) (event_left f (past_after no_past h) w e (run_sound es (opening t) fits_there (opening_sound t k)) (agrees_behind f))

-- from the beginning on, each event leaves what its lines leave by the wire
pub opening_leaves : (f : Family) (t : Topology) (es : List WorldEvent) (e : WorldEvent) → KeepsNetwork t → EventsFit t.version es → LeavesByWire f (history_of es (opening t)) (world_after es (opening t)) e
opening_leaves f t es e k b = leaves_by_wire t es k b f e

-- the law of the ledger, from the beginning on
pub opening_balances : (f : Family) (t : Topology) (es : List WorldEvent) → KeepsNetwork t → EventsFit t.version es → Balanced f (history_of es (opening t)) (world_after es (opening t))
opening_balances f t es k b =
    let r = (run_balances f es no_past (opening t) (fits_there t es k b) (opening_sound t k) (opening_agrees t)).law in
    record { law = omega (arith, r, opening_live (frame_live f) t) }
