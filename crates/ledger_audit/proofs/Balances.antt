-- The counts of a family over the entries of logs.
use Rattle.std.proofs.Common.{◌≡◌, ℕ, ◌+◌, Bool, true, false, if◌then◌else◌, List, [], ◌∷◌, ◌++◌, Option, Some, None, refl, sym, ap, ◌∙◌, arith}
use Rattle.std.specs.Prelude.{sum_by}
use Rattle.std.specs.List.{AllByRecursion}
use Rattle.std.proofs.lemmas.List.Sums.{sum_by-cons, sum_by-append}
use Rattle.plan_base.specs.declared.ids.Dev.{Dev}
use Rattle.plan_base.specs.declared.ids.Host.{Host}
use Rattle.plan_base.specs.declared.ids.Family.{Family}
use Rattle.packet_frame.specs.declared.frame.PlainStamped.{PlainStamped}
use Rattle.packet_frame.specs.Stamped.{stamped_bytes}
use Rattle.packet_frame.specs.Decoding.{read_by}
use Rattle.packet_frame.proofs.Versions.{found_by}
use Rattle.network_config.specs.declared.event.Event.{Event}
use Rattle.network_config.specs.declared.event.Event.TheVariants as event
use Rattle.network_config.specs.declared.event.LogEvent.{LogEvent}
use Rattle.network_config.specs.declared.event.LogEvent.TheVariants.{Step, Lost}
use Rattle.node_core_spec.specs.declared.acts.Act.{Act}
use Rattle.node_core_spec.specs.State.{NodeState, no_queues}
use Rattle.node_core_spec.specs.Node.{node_step}
use Rattle.node_core_spec.specs.Counts.{act_sum, act_granted, act_hops, act_evals, act_left, node_live, frame_live, taken_sum, if_fresh, bytes_came, came, queues_sum, queue_sum}
use Rattle.node_core_spec.proofs.NodeBalance.{step_balances}
use Rattle.node_core_spec.proofs.CountLaws.{act_sum-append}
use Rattle.node_log.specs.Runs.{acts_of, node_by, node_after}
use Rattle.net_world_spec.specs.World.{Cables}
use Rattle.ledger_audit.specs.Crossings.{Crossing, Arrival, crossings, AtMost}
use Rattle.ledger_audit.specs.Runs.{is_accepted, accepts, sends_frame, sends, numbered_arrivals, accepted_in, sent_in, acts_in, crossing_to, crossing_from}
use Rattle.ledger_audit.specs.Audits.{Logged, all_accepted, all_sent, read_live, crossing_live, granted_sum, hops, evals, left_sum, queued_sum, AddsUp}
use Rattle.ledger_audit.specs.Spelling.{Begins, FrameReads, BytesCome, EntryReads, EntriesRead, ReadsAgain}
use Rattle.ledger_audit.proofs.Multisets.{parted_sum}
use Rattle.ledger_audit.proofs.Refusals.{refused_came, IsTaken, accepted_taken, none_event}
use Rattle.ledger_audit.proofs.Versions.{version_told}

abbrev Live : Family → List Crossing → ℕ
Live f cs = sum_by (crossing_live f) cs

one_live : (f : Family) (c : Crossing) → Live f (c ∷ []) ≡ crossing_live f c
one_live f c = omega (arith, sum_by-cons (crossing_live f) c [])

-- what an entry accepts brings what its step says
accepts_came : (f : Family) (links : Cables) (node : NodeState) (e : Event) → BytesCome e → Live f (accepts links node (Step e)) ≡ came f node e
accepts_came f links node (event.Inject c b o) k = refl
accepts_came f links node (event.Control bytes) k = refl
accepts_came f links node event.Tick k = refl
accepts_came f links node (event.Take d) k = refl
accepts_came f links node (event.Frame d bytes) k = by (is_accepted (node_step node (event.Frame d bytes)).acts) refl
  where
    taken_crossing_came : IsTaken node d bytes → crossing_live f (crossing_to links node.here d bytes) ≡ came f node (event.Frame d bytes)
    taken_crossing_came t =
        let v = version_told node.version bytes t.frame (found_by node.version bytes t.frame k t.read) t.way in
        ap (λ w. read_live f (read_by w bytes)) v ∙ ap (read_live f) t.read
        ∙ sym (ap (bytes_came f node d) t.read ∙ ap (λ s. if_fresh s (frame_live f t.frame.frame)) t.fresh)

    by : (t : Bool) → is_accepted (node_step node (event.Frame d bytes)).acts ≡ t → Live f (if t then crossing_to links node.here d bytes ∷ [] else []) ≡ came f node (event.Frame d bytes)
    by true q = one_live f (crossing_to links node.here d bytes) ∙ taken_crossing_came (accepted_taken node d bytes q)
    by false q = sym (refused_came f node d bytes q)

taken_live : (f : Family) (h : Host) (d : Dev) (o : Option PlainStamped) → FrameReads o → Live f (sends_frame h d o) ≡ taken_sum (frame_live f) o
taken_live f h d None r = refl
taken_live f h d (Some x) r = one_live f (crossing_from h d (stamped_bytes x)) ∙ ap (read_live f) r

-- what an entry sends is what its step takes
sends_taken : (f : Family) (node : NodeState) (e : Event) → FrameReads (node_step node e).frame → Live f (sends node (Step e)) ≡ taken_sum (frame_live f) (node_step node e).frame
sends_taken f node (event.Inject c b o) r = sym (ap (taken_sum (frame_live f)) (none_event node (event.Inject c b o) (λ d q. absurd cc)))
sends_taken f node (event.Frame d bytes) r = sym (ap (taken_sum (frame_live f)) (none_event node (event.Frame d bytes) (λ d q. absurd cc)))
sends_taken f node (event.Control bytes) r = sym (ap (taken_sum (frame_live f)) (none_event node (event.Control bytes) (λ d q. absurd cc)))
sends_taken f node event.Tick r = sym (ap (taken_sum (frame_live f)) (none_event node event.Tick (λ d q. absurd cc)))
sends_taken f node (event.Take d) r = taken_live f node.here d (node_step node (event.Take d)).frame r

-- one entry, in balance
pub record EntryBalances (f : Family) (links : Cables) (node : NodeState) (e : LogEvent) : Type 0 where
  pub law : act_sum (act_granted f) (acts_of node e) + Live f (accepts links node e) + node_live f node
      ≡ act_sum (act_hops f) (acts_of node e) + act_sum (act_evals f) (acts_of node e) + act_sum (act_left f) (acts_of node e) + node_live f (node_by node e) + Live f (sends node e)

entry_balances : (f : Family) (links : Cables) (node : NodeState) (e : LogEvent) → EntryReads node e → EntryBalances f links node e
unfolding act_sum
entry_balances f links node Lost r = record { law = omega arith }
entry_balances f links node (Step e) r =
    record { law = omega (arith, (step_balances f node e).law, accepts_came f links node e r.0, sends_taken f node e r.1) }

numbered_live : (f : Family) (k n : ℕ) (cs : List Crossing) → Live f (crossings (numbered_arrivals k n cs)) ≡ Live f cs
numbered_live f k n [] = refl
numbered_live f k n (c ∷ cs) = omega (arith, sum_by-cons (crossing_live f) c (crossings (numbered_arrivals k n cs)), sum_by-cons (crossing_live f) c cs, numbered_live f k n cs)

crossings-append : (xs ys : List Arrival) → crossings (xs ++ ys) ≡ crossings xs ++ crossings ys
crossings-append [] ys = refl
crossings-append (x ∷ xs) ys = ap (λ zs. x.crossing ∷ zs) (crossings-append xs ys)

live-append : (f : Family) (xs ys : List Crossing) → Live f (xs ++ ys) ≡ Live f xs + Live f ys
live-append f xs ys = sum_by-append (crossing_live f) xs ys

-- a whole log
pub record LogBalances (f : Family) (links : Cables) (k n : ℕ) (node : NodeState) (es : List LogEvent) : Type 0 where
  pub law : act_sum (act_granted f) (acts_in node es) + Live f (crossings (accepted_in links k n node es)) + node_live f node
      ≡ act_sum (act_hops f) (acts_in node es) + act_sum (act_evals f) (acts_in node es) + act_sum (act_left f) (acts_in node es) + node_live f (node_after node es) + Live f (sent_in node es)

pub log_balances : (f : Family) (links : Cables) (k n : ℕ) (node : NodeState) (es : List LogEvent) → EntriesRead node es → LogBalances f links k n node es
unfolding node_after act_sum
log_balances f links k n node [] r = record { law = omega arith }
log_balances f links k n node (e ∷ es) r =
    record { law = total (entry_balances f links node e r.0).law (log_balances f links k (n + 1) (node_by node e) es r.1).law }
  where
    A : (Act → ℕ) → ℕ
    A c = act_sum c (acts_of node e)

    B : (Act → ℕ) → ℕ
    B c = act_sum c (acts_in (node_by node e) es)

    total : A (act_granted f) + Live f (accepts links node e) + node_live f node ≡ A (act_hops f) + A (act_evals f) + A (act_left f) + node_live f (node_by node e) + Live f (sends node e)
        → B (act_granted f) + Live f (crossings (accepted_in links k (n + 1) (node_by node e) es)) + node_live f (node_by node e)
        ≡ B (act_hops f) + B (act_evals f) + B (act_left f) + node_live f (node_after (node_by node e) es) + Live f (sent_in (node_by node e) es)
        → act_sum (act_granted f) (acts_in node (e ∷ es)) + Live f (crossings (accepted_in links k n node (e ∷ es))) + node_live f node
        ≡ act_sum (act_hops f) (acts_in node (e ∷ es)) + act_sum (act_evals f) (acts_in node (e ∷ es)) + act_sum (act_left f) (acts_in node (e ∷ es)) + node_live f (node_after (node_by node e) es) + Live f (sent_in node (e ∷ es))
    total one rest =
        let g = act_sum-append (act_granted f) (acts_of node e) (acts_in (node_by node e) es) in
        let h = act_sum-append (act_hops f) (acts_of node e) (acts_in (node_by node e) es) in
        let v = act_sum-append (act_evals f) (acts_of node e) (acts_in (node_by node e) es) in
        let l = act_sum-append (act_left f) (acts_of node e) (acts_in (node_by node e) es) in
        let c = ap (Live f) (crossings-append (numbered_arrivals k (n + 1) (accepts links node e)) (accepted_in links k (n + 1) (node_by node e) es)) in
        let d = live-append f (crossings (numbered_arrivals k (n + 1) (accepts links node e))) (crossings (accepted_in links k (n + 1) (node_by node e) es)) in
        let m = numbered_live f k (n + 1) (accepts links node e) in
        let s = live-append f (sends node e) (sent_in (node_by node e) es) in
        omega (arith, one, rest, g, h, v, l, c, d, m, s)

empty_live : (f : Family) (node : NodeState) (link : ℕ) → node.queues ≡ no_queues link → node_live f node ≡ 0
unfolding queues_sum queue_sum
empty_live f node link e = ap (queues_sum (frame_live f)) e

-- all logs
pub record AllBalance (f : Family) (links : Cables) (k : ℕ) (ls : List Logged) : Type 0 where
  pub law : granted_sum f ls + Live f (crossings (all_accepted links k ls)) ≡ hops f ls + evals f ls + left_sum f ls + queued_sum f ls + Live f (all_sent ls)

pub all_balance : (f : Family) (links : Cables) (k : ℕ) (ls : List Logged) → AllByRecursion Begins ls → AllByRecursion ReadsAgain ls → AllBalance f links k ls
all_balance f links k [] b r = record { law = omega arith }
all_balance f links k (l ∷ ls) b r =
    let one = (log_balances f links (k + 1) 0 l.node l.entries r.0).law in
    let rest = (all_balance f links (k + 1) ls b.1 r.1).law in
    let z = empty_live f l.node b.0.0 b.0.1 in
    let g = sum_by-cons (λ x. act_sum (act_granted f) (acts_in x.node x.entries)) l ls in
    let h = sum_by-cons (λ x. act_sum (act_hops f) (acts_in x.node x.entries)) l ls in
    let v = sum_by-cons (λ x. act_sum (act_evals f) (acts_in x.node x.entries)) l ls in
    let y = sum_by-cons (λ x. act_sum (act_left f) (acts_in x.node x.entries)) l ls in
    let q = sum_by-cons (λ x. node_live f (node_after x.node x.entries)) l ls in
    let c = ap (Live f) (crossings-append (accepted_in links (k + 1) 0 l.node l.entries) (all_accepted links (k + 1) ls)) in
    let d = live-append f (crossings (accepted_in links (k + 1) 0 l.node l.entries)) (crossings (all_accepted links (k + 1) ls)) in
    let s = live-append f (sent_in l.node l.entries) (all_sent ls) in
    record { law = omega (arith, one, rest, z, g, h, v, y, q, c, d, s) }

pub adds_up : (f : Family) (links : Cables) (ls : List Logged) → AllByRecursion Begins ls → AllByRecursion ReadsAgain ls → AtMost (crossings (all_accepted links 0 ls)) (all_sent ls) → AddsUp f links ls
adds_up f links ls b r m =
    let one = (all_balance f links 0 ls b r).law in
    let p = parted_sum (crossing_live f) (crossings (all_accepted links 0 ls)) (all_sent ls) m in
    omega (arith, one, p)
