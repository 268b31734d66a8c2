-- Logs within their limits grant, send and accept so little that no count stands still.
use Rattle.std.proofs.Common.{◌≡◌, ℕ, suc, ◌+◌, ◌*◌, ◌≤◌, Bool, true, false, cond, if◌then◌else◌, List, [], ◌∷◌, ◌++◌, length, Option, Some, None, Result, Ok, Err, refl, ap, arith}
use Rattle.std.specs.Prelude.{◌==◌, ◌&&◌, nat_le}
use Rattle.std.specs.List.{All, AllByRecursion}
use Rattle.std.proofs.lemmas.List.{length-append}
use Rattle.std.proofs.lemmas.List.Elements.{All-head, All-tail}
use Rattle.std.proofs.lemmas.List.Sums.{sum_by-cons}
use Rattle.wire_bytes.specs.Fields.{IsBytes}
use Rattle.plan_base.specs.declared.ids.Host.{Host}
use Rattle.plan_base.specs.declared.ids.Dev.{Dev}
use Rattle.plan_base.specs.declared.ids.Family.{Family}
use Rattle.plan_base.specs.declared.stamp.Version.{Version}
use Rattle.plan_base.specs.declared.tree.Chunk.{Chunk}
use Rattle.packet_frame.specs.declared.frame.PlainFrame.{PlainFrame}
use Rattle.packet_frame.specs.declared.frame.PlainStamped.{PlainStamped}
use Rattle.packet_frame.specs.declared.fault.FrameFault.{FrameFault}
use Rattle.packet_frame.specs.Forms.{FrameFits}
use Rattle.packet_frame.specs.Decoding.{read_by}
use Rattle.packet_frame.proofs.Versions.{found_by}
use Rattle.network_config.specs.declared.event.Event.{Event}
use Rattle.network_config.specs.declared.event.Event.TheVariants as event
use Rattle.network_config.specs.declared.event.LogEvent.{LogEvent}
use Rattle.network_config.specs.declared.event.LogEvent.TheVariants.{Step, Lost}
use Rattle.network_config.specs.NodeRules.{KeepsNodeEvent, KeepsEntry}
use Rattle.node_core_spec.specs.declared.acts.Act.{Act}
use Rattle.node_core_spec.specs.declared.acts.Act.TheVariants.{Injected, Asked, Bad, Misplaced, SerialsSpent, NoMemory}
use Rattle.node_core_spec.specs.State.{NodeState}
use Rattle.node_core_spec.specs.Node.{NodeStep, stepped_node, visit_step, next_serial, injected_packet, inject_step, asked_plain, asked_read, control_step, node_step}
use Rattle.node_core_spec.specs.Counts.{act_sum, act_granted}
use Rattle.node_core_spec.proofs.CountLaws.{act_sum-nil, act_sum-cons, act_sum-append}
use Rattle.node_core_spec.proofs.Giving.{StepGives, may_give, inject_gives, arrive_gives, tick_gives, take_gives}
use Rattle.node_log.specs.Runs.{acts_of, node_by}
use Rattle.net_world_spec.specs.World.{Cables}
use Rattle.ledger_audit.specs.Crossings.{Crossing, same_crossing, times}
use Rattle.ledger_audit.specs.Runs.{is_accepted, accepts, crossing_to, sends_frame, sends, numbered_arrivals, accepted_in, sent_in, acts_in}
use Rattle.ledger_audit.specs.Audits.{Logged, all_accepted, all_sent, granted_sum}
use Rattle.ledger_audit.specs.Pasts.{KeepsLimits}

-- a crossing stands in a list at most as often as the list is long
pub times_few : (c : Crossing) (cs : List Crossing) → times c cs ≤ length cs
times_few c [] = omega arith
times_few c (d ∷ cs) = by (same_crossing c d) (times_few c cs)
  where
    by : (t : Bool) → times c cs ≤ length cs → (if t then suc (times c cs) else times c cs) ≤ suc (length cs)
    by true h = omega (arith, h)
    by false h = omega (arith, h)

-- ---- what is sent

frame_few : (h : Host) (d : Dev) (o : Option PlainStamped) → length (sends_frame h d o) ≤ 1
frame_few h d None = omega arith
frame_few h d (Some x) = omega arith

entry_sent_few : (node : NodeState) (e : LogEvent) → length (sends node e) ≤ 1
entry_sent_few node Lost = omega arith
entry_sent_few node (Step (event.Inject c b o)) = omega arith
entry_sent_few node (Step (event.Frame d bytes)) = omega arith
entry_sent_few node (Step (event.Control bytes)) = omega arith
entry_sent_few node (Step event.Tick) = omega arith
entry_sent_few node (Step (event.Take d)) = frame_few node.here d (node_step node (event.Take d)).frame

log_sent_few : (node : NodeState) (es : List LogEvent) → length (sent_in node es) ≤ length es
log_sent_few node [] = omega arith
log_sent_few node (e ∷ es) = omega (arith, length-append (sends node e) (sent_in (node_by node e) es), entry_sent_few node e, log_sent_few (node_by node e) es)

pub sent_few : (ls : List Logged) → AllByRecursion KeepsLimits ls → length (all_sent ls) ≤ 50000 * length ls
sent_few [] a = omega arith
sent_few (l ∷ ls) a = omega (arith, length-append (sent_in l.node l.entries) (all_sent ls), log_sent_few l.node l.entries, a.0.few, sent_few ls a.1)

-- ---- what is accepted

entry_accepted_few : (links : Cables) (node : NodeState) (e : LogEvent) → length (accepts links node e) ≤ 1
entry_accepted_few links node Lost = omega arith
entry_accepted_few links node (Step (event.Inject c b o)) = omega arith
entry_accepted_few links node (Step (event.Frame d bytes)) = by (is_accepted (node_step node (event.Frame d bytes)).acts)
  where
    by : (t : Bool) → length (if t then crossing_to links node.here d bytes ∷ [] else []) ≤ 1
    by true = omega arith
    by false = omega arith
entry_accepted_few links node (Step (event.Control bytes)) = omega arith
entry_accepted_few links node (Step event.Tick) = omega arith
entry_accepted_few links node (Step (event.Take d)) = omega arith

numbered_length : (k n : ℕ) (cs : List Crossing) → length (numbered_arrivals k n cs) ≡ length cs
numbered_length k n [] = refl
numbered_length k n (c ∷ cs) = ap suc (numbered_length k n cs)

log_accepted_few : (links : Cables) (k n : ℕ) (node : NodeState) (es : List LogEvent) → length (accepted_in links k n node es) ≤ length es
log_accepted_few links k n node [] = omega arith
log_accepted_few links k n node (e ∷ es) =
    let here = numbered_arrivals k (n + 1) (accepts links node e) in
    omega (
      arith,
      length-append here (accepted_in links k (n + 1) (node_by node e) es),
      numbered_length k (n + 1) (accepts links node e),
      entry_accepted_few links node e,
      log_accepted_few links k (n + 1) (node_by node e) es,
    )

pub accepted_few : (links : Cables) (k : ℕ) (ls : List Logged) → AllByRecursion KeepsLimits ls → length (all_accepted links k ls) ≤ 50000 * length ls
accepted_few links k [] a = omega arith
accepted_few links k (l ∷ ls) a =
    let here = accepted_in links (k + 1) 0 l.node l.entries in
    omega (arith, length-append here (all_accepted links (k + 1) ls), log_accepted_few links (k + 1) 0 l.node l.entries, a.0.few, accepted_few links (k + 1) ls a.1)

-- ---- what is granted

-- what is injected where bytes of the owner ask for it is what is injected alone, behind that act
asked_cases : (t : Bool) (node : NodeState) (chunk : Chunk) (bound : ℕ)
    → (cond t (stepped_node ((Asked ∷ []) ++ SerialsSpent ∷ []) None node)
    (visit_step ((Asked ∷ []) ++ Injected (record { source = node.here; serial = node.serial }) bound ∷ []) (next_serial node) (injected_packet node chunk bound None))).acts
    ≡ Asked ∷ (cond t (stepped_node ([] ++ SerialsSpent ∷ []) None node)
    (visit_step ([] ++ Injected (record { source = node.here; serial = node.serial }) bound ∷ []) (next_serial node) (injected_packet node chunk bound None))).acts
unfolding visit_step
asked_cases true node chunk bound = refl
asked_cases false node chunk bound = refl

asked_acts : (node : NodeState) (chunk : Chunk) (bound : ℕ) → (inject_step (Asked ∷ []) node chunk bound None).acts ≡ Asked ∷ (inject_step [] node chunk bound None).acts
unfolding inject_step
asked_acts node chunk bound = asked_cases (node.serial == 18446744073709551615) node chunk bound

module _ (f : Family) where
  abbrev Granted : List Act → ℕ
  Granted acts = act_sum (act_granted f) acts

  may_once : (node : NodeState) → may_give f node ≤ 1
  unfolding may_give
  may_once node = by ((node.here.0 == f.source.0) && nat_le node.serial f.serial)
    where
      by : (t : Bool) → cond t 1 0 ≤ 1
      by true = omega arith
      by false = omega arith

  given_few : (old : NodeState) (step : NodeStep) → StepGives f old step → Granted step.acts ≤ 65535
  given_few old step g = omega (arith, g.once, g.limit, may_once old)

  two_grant : (a b : Act) → act_granted f a ≡ 0 → act_granted f b ≡ 0 → Granted (a ∷ b ∷ []) ≤ 65535
  two_grant a b x y = omega (arith, act_sum-cons (act_granted f) a (b ∷ []), act_sum-cons (act_granted f) b [], act_sum-nil (act_granted f), x, y)

  asked_few : (node : NodeState) (x : PlainFrame) → FrameFits x → Granted (asked_plain node x).acts ≤ 65535
  asked_few node (PlainFrame.Packet p) h = two_grant Asked Misplaced refl refl
  asked_few node (PlainFrame.Advert a) h = two_grant Asked Misplaced refl refl
  asked_few node (PlainFrame.Ask bound chunk) h =
      let alone = inject_step [] node chunk bound None in
      omega (
        arith,
        ap (act_sum (act_granted f)) (asked_acts node chunk bound),
        act_sum-cons (act_granted f) Asked alone.acts,
        given_few node alone (inject_gives f node chunk bound None h.0),
      )

  control_few : (node : NodeState) (bytes : List ℕ) → IsBytes bytes → Granted (control_step node bytes).acts ≤ 65535
  unfolding control_step
  control_few node bytes b = by (read_by node.version bytes) (λ x e. (found_by node.version bytes x b e).fits)
    where
      by : (r : Result PlainStamped FrameFault) → ((x : PlainStamped) → r ≡ Ok x → FrameFits x.frame) → Granted (asked_read node r).acts ≤ 65535
      by (Ok x) fits = asked_few node x.frame (fits x refl)
      by (Err e) fits = two_grant Asked (Bad e) refl refl

  event_few : (v : Version) (node : NodeState) (e : Event) → KeepsNodeEvent v e → Granted (node_step node e).acts ≤ 65535
  event_few v node (event.Inject c b o) k = given_few node (node_step node (event.Inject c b o)) (inject_gives f node c b o k.0.0)
  event_few v node (event.Frame d bytes) k = given_few node (node_step node (event.Frame d bytes)) (arrive_gives f node d bytes)
  event_few v node (event.Control bytes) k = control_few node bytes k.are_bytes
  event_few v node event.Tick k = given_few node (node_step node event.Tick) (tick_gives f node)
  event_few v node (event.Take d) k = given_few node (node_step node (event.Take d)) (take_gives f node d)

  entry_few : (v : Version) (node : NodeState) (e : LogEvent) → KeepsEntry v e → Granted (acts_of node e) ≤ 65535
  entry_few v node Lost k = omega (arith, act_sum-cons (act_granted f) NoMemory [], act_sum-nil (act_granted f))
  entry_few v node (Step e) k = event_few v node e k

  log_few : (v : Version) (node : NodeState) (es : List LogEvent) → All (KeepsEntry v) es → Granted (acts_in node es) ≤ 65535 * length es
  log_few v node [] a = omega (arith, act_sum-nil (act_granted f))
  log_few v node (e ∷ es) a =
      omega (
        arith,
        act_sum-append (act_granted f) (acts_of node e) (acts_in (node_by node e) es),
        entry_few v node e (All-head (KeepsEntry v) e es a),
        log_few v (node_by node e) es (All-tail (KeepsEntry v) e es a),
      )

  -- at most 50,000 times 65,535 for each log
  pub granted_few : (ls : List Logged) → AllByRecursion KeepsLimits ls → granted_sum f ls ≤ 3276750000 * length ls
  granted_few [] a = omega arith
  granted_few (l ∷ ls) a =
      omega (
        arith,
        sum_by-cons (λ x. act_sum (act_granted f) (acts_in x.node x.entries)) l ls,
        log_few l.node.version l.node l.entries a.0.entries,
        a.0.few,
        granted_few ls a.1,
      )
