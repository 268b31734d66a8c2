-- Nodes of version 2 send no frame twice.
use Rattle.std.proofs.Common.{◌≡◌, ◌≢◌, ℕ, zero, suc, ◌+◌, ◌<◌, ◌≤◌, Bool, true, false, if◌then◌else◌, List, [], ◌∷◌, ◌++◌, Option, Some, None, refl, sym, ap, subst, ◌∙◌, arith}
use Rattle.std.specs.Prelude.{◌==◌, slice_get, replicate, IsSomeAnd}
use Rattle.std.specs.List.{AllByRecursion}
use Rattle.std.specs.Str.{bytes_eq}
use Rattle.std.proofs.lemmas.Bool.{eqb-true, eqb-false}
use Rattle.std.proofs.lemmas.List.Elements.{All-nil}
use Rattle.std.proofs.lemmas.Slice.Eq.{bytes_eq-Decides}
use Rattle.plan_base.specs.declared.ids.Host.{Host}
use Rattle.plan_base.specs.declared.ids.Dev.{Dev}
use Rattle.packet_frame.specs.declared.frame.PlainStamped.{PlainStamped}
use Rattle.packet_frame.specs.Stamped.{stamped_bytes}
use Rattle.network_config.specs.declared.event.Event.TheVariants as event
use Rattle.network_config.specs.declared.event.LogEvent.{LogEvent}
use Rattle.network_config.specs.declared.event.LogEvent.TheVariants.{Step, Lost}
use Rattle.node_core_spec.specs.declared.acts.TxQueue.{TxQueue}
use Rattle.node_core_spec.specs.State.{NodeState, Queues, no_lane, no_queues}
use Rattle.node_core_spec.specs.Node.{node_step}
use Rattle.node_core_spec.specs.Numbers.{NumbersFit, FitsAt}
use Rattle.net_world_spec.specs.declared.lines.LinkEnd.{LinkEnd}
use Rattle.net_world_spec.specs.World.{Cables}
use Rattle.ledger_audit.specs.Crossings.{Crossing, same_crossing, times, crossings}
use Rattle.ledger_audit.specs.Runs.{crossing_from, sends_frame, sends, sent_in}
use Rattle.ledger_audit.specs.Audits.{Logged, misfit, all_accepted, all_sent}
use Rattle.ledger_audit.proofs.Multisets.{crossing_is, verdict_only}
use Rattle.ledger_audit.specs.Once.{IsOfTwo, ComesFrom, FromTwo, HostsApart}
use Rattle.ledger_audit.proofs.Takings.{as_list, frames_from, frames_rise, frames_read, frames_stamped, step_same}
use Rattle.ledger_audit.proofs.Counting.{count, counted_once}

times-append : (c : Crossing) (xs ys : List Crossing) → times c (xs ++ ys) ≡ times c xs + times c ys
times-append c [] ys = omega arith
times-append c (x ∷ xs) ys = by (same_crossing c x) (times-append c xs ys)
  where
    by : (t : Bool) → times c (xs ++ ys) ≡ times c xs + times c ys → (if t then suc (times c (xs ++ ys)) else times c (xs ++ ys)) ≡ (if t then suc (times c xs) else times c xs) + times c ys
    by true e = omega (arith, e)
    by false e = e

abbrev end : Host → Dev → Option LinkEnd
end h d = Some (record { host = h; dev = d })

abbrev host_in : Option LinkEnd → ℕ
host_in None = 0
host_in (Some e) = e.host.0

abbrev dev_in : Option LinkEnd → ℕ
dev_in None = 0
dev_in (Some e) = e.dev.0

-- ---- a log of another host

module _ (c : Crossing) (h : Host) (apart : (d : Dev) → c.from ≢ end h d) where
  one_elsewhere : (d : Dev) (bytes : List ℕ) (n : ℕ) → n ≡ 0 → (if same_crossing c (crossing_from h d bytes) then suc n else n) ≡ 0
  one_elsewhere d bytes n z = by (same_crossing c (crossing_from h d bytes)) refl
    where
      by : (t : Bool) → same_crossing c (crossing_from h d bytes) ≡ t → (if t then suc n else n) ≡ 0
      by true t = absurd (apart d (ap (λ x. x.from) (crossing_is c (crossing_from h d bytes) t)))
      by false t = z

  frame_elsewhere : (d : Dev) (o : Option PlainStamped) (rest : List Crossing) → times c rest ≡ 0 → times c (sends_frame h d o ++ rest) ≡ 0
  frame_elsewhere d None rest z = z
  frame_elsewhere d (Some x) rest z = one_elsewhere d (stamped_bytes x) (times c rest) z

  sent_elsewhere : (s : NodeState) (es : List LogEvent) → s.here ≡ h → times c (sent_in s es) ≡ 0
  sent_elsewhere s [] e = refl
  sent_elsewhere s (Lost ∷ es) e = sent_elsewhere s es e
  sent_elsewhere s (Step (event.Inject k b o) ∷ es) e = sent_elsewhere (node_step s (event.Inject k b o)).node es ((step_same s (event.Inject k b o)).here ∙ e)
  sent_elsewhere s (Step (event.Frame d bytes) ∷ es) e = sent_elsewhere (node_step s (event.Frame d bytes)).node es ((step_same s (event.Frame d bytes)).here ∙ e)
  sent_elsewhere s (Step (event.Control bytes) ∷ es) e = sent_elsewhere (node_step s (event.Control bytes)).node es ((step_same s (event.Control bytes)).here ∙ e)
  sent_elsewhere s (Step event.Tick ∷ es) e = sent_elsewhere (node_step s event.Tick).node es ((step_same s event.Tick).here ∙ e)
  sent_elsewhere s (Step (event.Take d) ∷ es) e =
      subst (λ g. times c (sends_frame g d (node_step s (event.Take d)).frame ++ sent_in (node_step s (event.Take d)).node es) ≡ 0) (sym e)
      (frame_elsewhere d (node_step s (event.Take d)).frame (sent_in (node_step s (event.Take d)).node es) (sent_elsewhere (node_step s (event.Take d)).node es ((step_same s (event.Take d)).here ∙ e)))

-- ---- a log of this host

module _ (c : Crossing) (h : Host) (d : Dev) (from : c.from ≡ end h d) where
  -- a frame of the same bytes from the same device is one that the device gave
  one_here : (g : Host) (e : Dev) (x : PlainStamped) (m n : ℕ) → m ≤ n
      → (if same_crossing c (crossing_from g e (stamped_bytes x)) then suc m else m) ≤ (if e.0 == d.0 then (if bytes_eq c.bytes (stamped_bytes x) then suc n else n) else n)
  one_here g e x m n l = by (same_crossing c (crossing_from g e (stamped_bytes x))) refl (e.0 == d.0) refl (bytes_eq c.bytes (stamped_bytes x)) refl
    where
      by : (t : Bool) → same_crossing c (crossing_from g e (stamped_bytes x)) ≡ t → (u : Bool) → (e.0 == d.0) ≡ u → (w : Bool) → bytes_eq c.bytes (stamped_bytes x) ≡ w
          → (if t then suc m else m) ≤ (if u then (if w then suc n else n) else n)
      by false t true u true w = omega (arith, l)
      by false t true u false w = l
      by false t false u v w = l
      by true t true u true w = omega (arith, l)
      by true t true u false w =
          let is = crossing_is c (crossing_from g e (stamped_bytes x)) t in
          let b : bytes_eq c.bytes (stamped_bytes x) ≡ true = (bytes_eq-Decides c.bytes (stamped_bytes x)).1 (ap (λ y. y.bytes) is) in
          absurd (cc)
      by true t false u v w =
          let is = crossing_is c (crossing_from g e (stamped_bytes x)) t in
          let same : d.0 ≡ e.0 = ap dev_in (sym from ∙ ap (λ y. y.from) is) in
          absurd (eqb-false e.0 d.0 u (sym same))

  frame_here : (g : Host) (e : Dev) (o : Option PlainStamped) (rest : List Crossing) (frames : List PlainStamped) → times c rest ≤ count c.bytes frames
      → times c (sends_frame g e o ++ rest) ≤ count c.bytes ((if e.0 == d.0 then as_list o else []) ++ frames)
  frame_here g e None rest frames l = by (e.0 == d.0)
    where
      by : (u : Bool) → times c rest ≤ count c.bytes ((if u then [] else []) ++ frames)
      by true = l
      by false = l
  frame_here g e (Some x) rest frames l = by (e.0 == d.0) (one_here g e x (times c rest) (count c.bytes frames) l)
    where
      by : (u : Bool)
          → (if same_crossing c (crossing_from g e (stamped_bytes x)) then suc (times c rest) else times c rest) ≤
          (if u then (if bytes_eq c.bytes (stamped_bytes x) then suc (count c.bytes frames) else count c.bytes frames) else count c.bytes frames)
          → (if same_crossing c (crossing_from g e (stamped_bytes x)) then suc (times c rest) else times c rest) ≤ count c.bytes ((if u then x ∷ [] else []) ++ frames)
      by true k = k
      by false k = k

  sent_here : (s : NodeState) (es : List LogEvent) → times c (sent_in s es) ≤ count c.bytes (frames_from d s es)
  sent_here s [] = omega arith
  sent_here s (Lost ∷ es) = sent_here s es
  sent_here s (Step (event.Inject k b o) ∷ es) = sent_here (node_step s (event.Inject k b o)).node es
  sent_here s (Step (event.Frame e bytes) ∷ es) = sent_here (node_step s (event.Frame e bytes)).node es
  sent_here s (Step (event.Control bytes) ∷ es) = sent_here (node_step s (event.Control bytes)).node es
  sent_here s (Step event.Tick ∷ es) = sent_here (node_step s event.Tick).node es
  sent_here s (Step (event.Take e) ∷ es) =
      frame_here s.here e (node_step s (event.Take e)).frame (sent_in (node_step s (event.Take e)).node es) (frames_from d (node_step s (event.Take e)).node es) (sent_here (node_step s (event.Take e)).node es)

-- nothing is queued at first
lane_is : (n link d : ℕ) (lane : TxQueue) → slice_get (replicate n (no_lane link)) d ≡ Some lane → no_lane link ≡ lane
lane_is zero link d lane e = absurd (cc)
lane_is (suc n) link zero lane e = cc
lane_is (suc n) link (suc d) lane e = lane_is n link d lane e

nothing_fits : (queues : Queues) (link d : ℕ) → queues ≡ no_queues link → FitsAt [] d queues
nothing_fits queues link d e lane h =
    subst (NumbersFit []) (lane_is 9 link d lane (sym (ap (λ q. slice_get q d) e) ∙ h)) (record { ascend = tt; below = All-nil (λ n. n < link) })

-- a node of version 2 sends no frame twice
log_once : (c : Crossing) (h : Host) (d : Dev) → c.from ≡ end h d → (l : Logged) → IsOfTwo l → times c (sent_in l.node l.entries) ≤ 1
log_once c h d from l k =
    let a = frames_rise d [] l.node l.entries (nothing_fits l.node.queues k.begin.0 d.0 k.begin.1) tt in
    let n = counted_once c.bytes (frames_from d l.node l.entries) (frames_stamped d l.node l.entries k.fits k.version k.entries) (frames_read d l.node l.entries k.read) a in
    omega (arith, n, sent_here c h d from l.node l.entries)

-- ---- all logs

none_sent : (c : Crossing) (ls : List Logged) → AllByRecursion (λ m. times c (sent_in m.node m.entries) ≡ 0) ls → times c (all_sent ls) ≡ 0
none_sent c [] a = refl
none_sent c (l ∷ ls) a = omega (arith, times-append c (sent_in l.node l.entries) (all_sent ls), a.0, none_sent c ls a.1)

-- the crossing of an end is none of other hosts
module _ (c : Crossing) (h : Host) (d : Dev) (from : c.from ≡ end h d) where
  elsewhere : (l : Logged) → l.node.here.0 ≢ h.0 → times c (sent_in l.node l.entries) ≡ 0
  elsewhere l n = sent_elsewhere c l.node.here (λ e q. n (ap host_in (sym q ∙ from))) l.node l.entries refl

  all_elsewhere : (g : ℕ) (ls : List Logged) → g ≡ h.0 → AllByRecursion (λ m. m.node.here.0 ≢ g) ls → AllByRecursion (λ m. times c (sent_in m.node m.entries) ≡ 0) ls
  all_elsewhere g [] e a = tt
  all_elsewhere g (l ∷ ls) e a = (elsewhere l (λ q. a.0 (q ∙ sym e)), all_elsewhere g ls e a.1)

  comes_here : (g : Host) → g.0 ≡ h.0 → ComesFrom c g
  comes_here g e = subst (λ o. IsSomeAnd o (λ x. x.host.0 ≡ g.0)) (sym from) (sym e)

  logs_once : (ls : List Logged) → FromTwo c ls → HostsApart ls → times c (all_sent ls) ≤ 1
  logs_once [] k a = omega arith
  logs_once (l ∷ ls) k a = by k.0 a.0 (logs_once ls k.1 a.1) (l.node.here.0 == h.0) refl
    where
      by : (ComesFrom c l.node.here → IsOfTwo l) → AllByRecursion (λ m. m.node.here.0 ≢ l.node.here.0) ls → times c (all_sent ls) ≤ 1 → (t : Bool) → (l.node.here.0 == h.0) ≡ t → times c (sent_in l.node l.entries ++ all_sent ls) ≤ 1
      by is others m true t =
          let rest = none_sent c ls (all_elsewhere l.node.here.0 ls (eqb-true l.node.here.0 h.0 t) others) in
          omega (arith, times-append c (sent_in l.node l.entries) (all_sent ls), log_once c h d from l (is (comes_here l.node.here (eqb-true l.node.here.0 h.0 t))), rest)
      by is others m false t =
          let here = elsewhere l (eqb-false l.node.here.0 h.0 t) in
          omega (arith, times-append c (sent_in l.node l.entries) (all_sent ls), here, m)

-- what comes from no end was sent by nobody
from_nobody : (c : Crossing) → c.from ≡ None → (ls : List Logged) → AllByRecursion (λ m. times c (sent_in m.node m.entries) ≡ 0) ls
from_nobody c e [] = tt
from_nobody c e (l ∷ ls) = (sent_elsewhere c l.node.here (λ d q. absurd (let n : ◌≡◌ {A = Option LinkEnd} None (end l.node.here d) = sym e ∙ q in cc)) l.node l.entries refl, from_nobody c e ls)

pub all_once : (ls : List Logged) → HostsApart ls → (c : Crossing) → FromTwo c ls → times c (all_sent ls) ≤ 1
all_once ls a c k = by c.from refl
  where
    by : (o : Option LinkEnd) → c.from ≡ o → times c (all_sent ls) ≤ 1
    by None e = let z = none_sent c ls (from_nobody c e ls) in omega (arith, z)
    by (Some x) e = logs_once c x.host x.dev e ls k a

pub none_twice : (links : Cables) (ls : List Logged) → HostsApart ls → misfit links ls ≡ None → (c : Crossing) → FromTwo c ls → times c (crossings (all_accepted links 0 ls)) ≤ 1
unfolding misfit
none_twice links ls a e c k = omega (arith, all_once ls a c k, verdict_only (all_sent ls) [] (all_accepted links 0 ls) e (λ d. omega arith) c)
