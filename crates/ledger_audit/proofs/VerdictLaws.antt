-- What is answered of all logs.
use Rattle.std.proofs.Common.{◌≡◌, ◌≢◌, ◌↔◌, ℕ, ◌+◌, ◌<◌, ◌≤◌, cond, List, [], ◌∷◌, ◌++◌, map, length, take, get_or, Option, Some, None, refl, sym, ap, subst, ◌∙◌, arith, append_assoc, append-nil}
use Rattle.std.specs.Prelude.{◌-◌, sum_by}
use Rattle.std.specs.List.{filter}
use Rattle.std.proofs.lemmas.Grind.{take_at_read, flat_map-append}
use Rattle.std.proofs.lemmas.List.{take_all, map-append, length-map, length-take-le}
use Rattle.std.proofs.lemmas.List.Elements.{filter-append}
use Rattle.std.proofs.lemmas.List.Sums.{sum_by-cons}
use Rattle.std.proofs.lemmas.Bool.{eq-eqb, ne_eqb}
use Rattle.plan_base.specs.declared.ids.Host.{Host}
use Rattle.plan_base.specs.declared.ids.Family.{Family}
use Rattle.network_config.specs.declared.node.Log.{Log}
use Rattle.network_config.specs.declared.event.LogEvent.{LogEvent}
use Rattle.dv_routing.specs.Sorted.{sorted_into}
use Rattle.node_core_spec.specs.declared.acts.Act.{Act}
use Rattle.node_core_spec.specs.State.{NodeState}
use Rattle.node_core_spec.specs.Counts.{act_sum, act_granted, act_hops, act_evals, act_left}
use Rattle.node_core_spec.proofs.CountLaws.{act_sum-append}
use Rattle.node_log.specs.Runs.{acts_of, node_by}
use Rattle.net_world_spec.specs.World.{Cables}
use Rattle.bound_ledger.specs.declared.row.Row.{Row}
use Rattle.ledger_audit.specs.Crossings.{Crossing, Arrival, Over, first_over, crossings, AtMost}
use Rattle.ledger_audit.specs.Runs.{accepts, sends, numbered_arrivals, accepted_in, sent_in, acts_in}
use Rattle.ledger_audit.specs.Audits.{Logged, all_accepted, all_sent, misfit, granted_sum, hops, evals, left_sum, queued_sum, on_the_way, row_of, AddsUp}
use Rattle.ledger_audit.proofs.Multisets.{verdict_only, verdict_always}
use Rattle.ledger_audit.proofs.Balances.{adds_up}
use Rattle.ledger_audit.proofs.ActLaws.{none_capped}
use Rattle.ledger_audit.proofs.LimitLaws.{sent_few, accepted_few, granted_few}
use Rattle.ledger_audit.specs.declared.judging.Over as code
use Rattle.ledger_audit.specs.declared.reckoning.AuditState.{AuditState}
use Rattle.ledger_audit.specs.declared.verdict.Verdict.{Verdict}
use Rattle.ledger_audit.specs.declared.verdict.Verdict.TheVariants.{Yes, No}
use Rattle.ledger_audit.specs.Tallies.{Tallied, AreFew}
use Rattle.ledger_audit.specs.Books.{capped, counts_in, acts_counts}
use Rattle.ledger_audit.specs.Pasts.{Past, nothing, with_entry, with_entries, with_log, with_logs, arrivals_of, injected_families, IsReckoned, logged_of}
use Rattle.ledger_audit.specs.Ledgers.{all_acts, hosts_of, is_from, by_hosts, families_of, ledger_of, verdict_by, verdict_of, IsYes, over_in, Pays, row_in}

-- ---- a past is what the definitions say of its logs

abbrev past : List Host → List Crossing → List Arrival → List Act → Past
past hosts sent accepted acts = record { hosts = hosts; sent = sent; accepted = accepted; acts = acts }

entries_are : (links : Cables) (log n : ℕ) (s : NodeState) (es : List LogEvent) (p : Past)
    → with_entries links log n s es p ≡ past p.hosts (p.sent ++ sent_in s es) (p.accepted ++ accepted_in links log n s es) (p.acts ++ acts_in s es)
unfolding with_entry
entries_are links log n s [] p = λ i. past p.hosts (sym (append-nil p.sent) i) (sym (append-nil p.accepted) i) (sym (append-nil p.acts) i)
entries_are links log n s (e ∷ es) p =
    entries_are links log (n + 1) (node_by s e) es (with_entry links log (n + 1) s e p)
    ∙ (λ i. past p.hosts
    (append_assoc p.sent (sends s e) (sent_in (node_by s e) es) i)
    (append_assoc p.accepted (numbered_arrivals log (n + 1) (accepts links s e)) (accepted_in links log (n + 1) (node_by s e) es) i)
    (append_assoc p.acts (acts_of s e) (acts_in (node_by s e) es) i))

logs_are : (links : Cables) (k : ℕ) (ls : List Logged) (p : Past)
    → with_logs links k ls p ≡ past (p.hosts ++ hosts_of ls) (p.sent ++ all_sent ls) (p.accepted ++ all_accepted links k ls) (p.acts ++ all_acts ls)
logs_are links k [] p = λ i. past (sym (append-nil p.hosts) i) (sym (append-nil p.sent) i) (sym (append-nil p.accepted) i) (sym (append-nil p.acts) i)
logs_are links k (l ∷ ls) p =
    logs_are links (k + 1) ls (with_log links (k + 1) l p)
    ∙ ap (λ q. past ((q.hosts ++ l.node.here ∷ []) ++ hosts_of ls) (q.sent ++ all_sent ls) (q.accepted ++ all_accepted links (k + 1) ls) (q.acts ++ all_acts ls))
    (entries_are links (k + 1) 0 l.node l.entries p)
    ∙ (λ i. past
    (append_assoc p.hosts (l.node.here ∷ []) (hosts_of ls) i)
    (append_assoc p.sent (sent_in l.node l.entries) (all_sent ls) i)
    (append_assoc p.accepted (accepted_in links (k + 1) 0 l.node l.entries) (all_accepted links (k + 1) ls) i)
    (append_assoc p.acts (acts_in l.node l.entries) (all_acts ls) i))

abbrev whole : Cables → List Logged → Past
whole links ls = past (hosts_of ls) (all_sent ls) (all_accepted links 0 ls) (all_acts ls)

whole_is : (links : Cables) (ls : List Logged) → with_logs links 0 ls nothing ≡ whole links ls
whole_is links ls = logs_are links 0 ls nothing

-- ---- counts

sums_are : (c : Act → ℕ) (ls : List Logged) → act_sum c (all_acts ls) ≡ sum_by (λ l. act_sum c (acts_in l.node l.entries)) ls
sums_are c [] = none c
  where
    none : (c : Act → ℕ) → act_sum c [] ≡ 0
    none c = omega (arith, act_sum-append c [] [])
sums_are c (l ∷ ls) =
    omega (arith, act_sum-append c (acts_in l.node l.entries) (all_acts ls), sums_are c ls, sum_by-cons (λ x. act_sum c (acts_in x.node x.entries)) l ls)

module _ (links : Cables) (ls : List Logged) (r : AuditState) (k : IsReckoned links ls r) where
  pub hosts_are : r.hosts ≡ hosts_of ls
  hosts_are = k.holds.hosts ∙ ap (λ p. p.hosts) (whole_is links ls)

  sent_are : Tallied (all_sent ls) [] r.tallies
  sent_are = subst (λ p. Tallied p.sent [] r.tallies) (whole_is links ls) k.holds.sent

  accepted_are : arrivals_of r.arrived ≡ all_accepted links 0 ls
  accepted_are = k.holds.accepted ∙ ap (λ p. p.accepted) (whole_is links ls)

  few_are : AreFew (all_sent ls) (arrivals_of r.arrived)
  few_are = (
    omega (arith, sent_few ls k.limits, k.few),
    omega (arith, ap length accepted_are, accepted_few links 0 ls k.limits, k.few),
  )

  injected_are : r.injected ≡ injected_families (all_acts ls)
  injected_are = k.holds.families ∙ ap (λ p. injected_families p.acts) (whole_is links ls)

  -- the frame that doesn't fit
  pub misfit_is : (o : Option code.Over) → ((sent : List Crossing) → AreFew sent (arrivals_of r.arrived) → Tallied sent [] r.tallies → over_in o ≡ first_over sent [] (arrivals_of r.arrived)) → over_in o ≡ misfit links ls
  unfolding misfit
  misfit_is o h = h (all_sent ls) few_are sent_are ∙ ap (first_over (all_sent ls) []) accepted_are

  pub fits_adds : misfit links ls ≡ None → (f : Family) → AddsUp f links ls
  unfolding misfit
  fits_adds e f = adds_up f links ls k.begin k.read (λ c. omega (arith, verdict_only (all_sent ls) [] (all_accepted links 0 ls) e (λ d. omega arith) c))

  -- where logs fit, no family paid and left more than it was granted, so no count stood still
  counts_are : misfit links ls ≡ None → (f : Family) → counts_in f r.book ≡ acts_counts f (all_acts ls)
  counts_are e f =
      let g : act_sum (act_granted f) (all_acts ls) ≡ granted_sum f ls = sums_are (act_granted f) ls in
      let h : act_sum (act_hops f) (all_acts ls) ≡ hops f ls = sums_are (act_hops f) ls in
      let v : act_sum (act_evals f) (all_acts ls) ≡ evals f ls = sums_are (act_evals f) ls in
      let l : act_sum (act_left f) (all_acts ls) ≡ left_sum f ls = sums_are (act_left f) ls in
      k.holds.counts f ∙ ap (λ p. capped (acts_counts f p.acts)) (whole_is links ls)
      ∙ none_capped (acts_counts f (all_acts ls)) (omega (arith, fits_adds e f, g, h, v, l)) (omega (arith, granted_few f ls k.limits, k.few, g))

  granted_is : misfit links ls ≡ None → (f : Family) → (counts_in f r.book).granted ≡ granted_sum f ls
  granted_is e f = ap (λ c. c.granted) (counts_are e f) ∙ sums_are (act_granted f) ls

  hops_are : misfit links ls ≡ None → (f : Family) → (counts_in f r.book).hops ≡ hops f ls
  hops_are e f = ap (λ c. c.hops) (counts_are e f) ∙ sums_are (act_hops f) ls

  evals_are : misfit links ls ≡ None → (f : Family) → (counts_in f r.book).evals ≡ evals f ls
  evals_are e f = ap (λ c. c.evals) (counts_are e f) ∙ sums_are (act_evals f) ls

  left_is : misfit links ls ≡ None → (f : Family) → (counts_in f r.book).left ≡ left_sum f ls
  left_is e f = ap (λ c. c.left) (counts_are e f) ∙ sums_are (act_left f) ls

  pub fits_pays : misfit links ls ≡ None → (f : Family) → Pays (counts_in f r.book)
  fits_pays e f = omega (arith, fits_adds e f, granted_is e f, hops_are e f, evals_are e f, left_is e f)

  live_is : misfit links ls ≡ None → (f : Family)
      → (counts_in f r.book).granted - ((counts_in f r.book).hops + (counts_in f r.book).evals + (counts_in f r.book).left) ≡ queued_sum f ls + on_the_way f links ls
  live_is e f = omega (arith, fits_adds e f, granted_is e f, hops_are e f, evals_are e f, left_is e f)

  row_is : misfit links ls ≡ None → (f : Family) → row_in r.book f ≡ (f, row_of f links ls)
  row_is e f = λ i. (f, record { granted = granted_is e f i; hops = hops_are e f i; evals = evals_are e f i; live = live_is e f i; left = left_is e f i })

  -- and the rows are the ledger
  pub rows_are : misfit links ls ≡ None → map (row_in r.book) (by_hosts (sorted_into [] r.hosts) r.injected) ≡ ledger_of links ls
  unfolding ledger_of families_of
  rows_are e =
      ap (λ g. map g (by_hosts (sorted_into [] r.hosts) r.injected)) (λ i f. row_is e f i)
      ∙ (λ i. map (λ f. (f, row_of f links ls)) (by_hosts (sorted_into [] (hosts_are i)) (injected_are i)))

-- ---- the answer

pub answers_no : (links : Cables) (ls : List Logged) (log event accepted sent : ℕ) → ◌≡◌ {A = Option Over} (Some (record { log = log; event = event; accepted = accepted; sent = sent })) (misfit links ls)
    → No log event accepted sent ≡ verdict_of links ls
answers_no links ls log event accepted sent e = ap (λ o. verdict_by o (ledger_of links ls)) e

pub answers_yes : (links : Cables) (ls : List Logged) (rows : List (Family × Row)) → ◌≡◌ {A = Option Over} None (misfit links ls) → rows ≡ ledger_of links ls → Yes rows ≡ verdict_of links ls
answers_yes links ls rows e is = ap Yes is ∙ ap (λ o. verdict_by o (ledger_of links ls)) e

-- logs fit where the answer says so
pub yes_fits : (links : Cables) (ls : List Logged) (v : Verdict) → v ≡ verdict_of links ls → IsYes v → misfit links ls ≡ None
yes_fits links ls v e y = by (misfit links ls) (subst IsYes e y)
  where
    by : (o : Option Over) → IsYes (verdict_by o (ledger_of links ls)) → o ≡ None
    by None h = refl
    by (Some o) h = absurd h

-- and they fit exactly where each frame was accepted at most as often as it was sent
pub yes_sent : (links : Cables) (ls : List Logged) → IsYes (verdict_of links ls) ↔ AtMost (crossings (all_accepted links 0 ls)) (all_sent ls)
unfolding misfit
yes_sent links ls = (
  λ y k. omega (arith, verdict_only (all_sent ls) [] (all_accepted links 0 ls) (yes_fits links ls (verdict_of links ls) refl y) (λ d. omega arith) k),
  λ h. subst (λ o. IsYes (verdict_by o (ledger_of links ls))) (sym (verdict_always (all_sent ls) [] (all_accepted links 0 ls) (λ k. omega (arith, h k)))) tt,
)

-- ---- rows, one family and one host after the other

pub no_rows : {X : Type 0} (rows : List X) → rows ≡ rows ++ []
no_rows rows = sym (append-nil rows)

module _ {Y : Type 0} (g : Family → Y) (h : Host) (fs : List Family) (i : ℕ) (d f : Family) (l : i < length fs) (is : f ≡ get_or fs i d) (old mid : List Y) (before : mid ≡ old ++ map g (filter (is_from h) (take i fs))) where
  here : map g (filter (is_from h) (take (i + 1) fs)) ≡ map g (filter (is_from h) (take i fs)) ++ map g (filter (is_from h) (f ∷ []))
  here = ap (λ t. map g (filter (is_from h) t)) ((take_at_read fs i d l).1 ∙ ap (λ b. take i fs ++ b ∷ []) (sym is))
      ∙ ap (map g) (filter-append (is_from h) (take i fs) (f ∷ [])) ∙ map-append g (filter (is_from h) (take i fs)) (filter (is_from h) (f ∷ []))

  all : old ++ map g (filter (is_from h) (take (i + 1) fs)) ≡ mid ++ map g (filter (is_from h) (f ∷ []))
  all = ap (λ t. old ++ t) here ∙ sym (append_assoc old (map g (filter (is_from h) (take i fs))) (map g (filter (is_from h) (f ∷ [])))) ∙ ap (λ t. t ++ map g (filter (is_from h) (f ∷ []))) (sym before)

  pub row_next : (new : List Y) → new ≡ mid ++ map g (filter (is_from h) (f ∷ [])) → new ≡ old ++ map g (filter (is_from h) (take (i + 1) fs))
  row_next new e = e ∙ sym all

-- a family of another host has no row there
pub row_apart : {Y : Type 0} (g : Family → Y) (h : Host) (f : Family) (rows : List Y) → f.source.0 ≢ h.0 → rows ≡ rows ++ map g (filter (is_from h) (f ∷ []))
row_apart g h f rows n = sym (append-nil rows) ∙ ap (λ b. rows ++ map g (cond b (f ∷ []) [])) (sym (ne_eqb f.source.0 h.0 n))

-- one of this host has
pub row_own : {Y : Type 0} (g : Family → Y) (h : Host) (f : Family) (rows new : List Y) → f.source.0 ≡ h.0 → new ≡ rows ++ g f ∷ [] → new ≡ rows ++ map g (filter (is_from h) (f ∷ []))
row_own g h f rows new n e = e ∙ ap (λ b. rows ++ map g (cond b (f ∷ []) [])) (sym (eq-eqb f.source.0 h.0 n))

pub rows_put : {Y : Type 0} (g : Family → Y) (h : Host) (fs : List Family) (i : ℕ) (old new : List Y) → length fs ≤ i → new ≡ old ++ map g (filter (is_from h) (take i fs)) → new ≡ old ++ map g (filter (is_from h) fs)
rows_put g h fs i old new l e = e ∙ ap (λ t. old ++ map g (filter (is_from h) t)) (take_all i fs l)

pub host_put : {Y : Type 0} (g : Family → Y) (fs : List Family) (hosts : List Host) (i : ℕ) (d h : Host) (mid new : List Y) → i < length hosts → h ≡ get_or hosts i d
    → mid ≡ map g (by_hosts (take i hosts) fs) → new ≡ mid ++ map g (filter (is_from h) fs) → new ≡ map g (by_hosts (take (i + 1) hosts) fs)
host_put g fs hosts i d h mid new l is before e =
    e ∙ ap (λ t. t ++ map g (filter (is_from h) fs)) before ∙ sym (map-append g (by_hosts (take i hosts) fs) (filter (is_from h) fs))
    ∙ ap (λ t. map g (by_hosts (take i hosts) fs ++ t)) (sym (append-nil (filter (is_from h) fs)))
    ∙ ap (map g) (sym (flat_map-append (λ x. filter (is_from x) fs) (take i hosts) (h ∷ [])))
    ∙ ap (λ t. map g (by_hosts t fs)) (ap (λ b. take i hosts ++ b ∷ []) is ∙ sym (take_at_read hosts i d l).1)

pub hosts_put : {Y : Type 0} (g : Family → Y) (fs : List Family) (hosts : List Host) (i : ℕ) (new : List Y) → length hosts ≤ i → new ≡ map g (by_hosts (take i hosts) fs) → new ≡ map g (by_hosts hosts fs)
hosts_put g fs hosts i new l e = e ∙ ap (λ t. map g (by_hosts t fs)) (take_all i hosts l)

-- ---- logs, one after the other

pub no_logs : (links : Cables) (r : AuditState) → ((ls : Cables) → IsReckoned ls [] r) → IsReckoned links [] r
no_logs links r h = h links

logged_next : (logs : List Log) (i : ℕ) (l : Log) → i < length logs → l ≡ get_or logs i l → map logged_of (take i logs) ++ logged_of l ∷ [] ≡ map logged_of (take (i + 1) logs)
logged_next logs i l less is = sym (map-append logged_of (take i logs) (l ∷ [])) ∙ ap (map logged_of) (ap (λ b. take i logs ++ b ∷ []) is ∙ sym (take_at_read logs i l less).1)

pub next_log : (links : Cables) (logs : List Log) (i : ℕ) (l : Log) (r : AuditState) → i < length logs → l ≡ get_or logs i l → IsReckoned links (map logged_of (take i logs) ++ logged_of l ∷ []) r
    → IsReckoned links (map logged_of (take (i + 1) logs)) r
next_log links logs i l r less is k = subst (λ ls. IsReckoned links ls r) (logged_next logs i l less is) k

pub all_logs : (links : Cables) (logs : List Log) (i : ℕ) (r : AuditState) → length logs ≤ i → IsReckoned links (map logged_of (take i logs)) r → IsReckoned links (map logged_of logs) r
all_logs links logs i r l k = subst (λ ls. IsReckoned links (map logged_of ls) r) (take_all i logs l) k

logs_counted : (logs : List Log) (i : ℕ) → i < length logs → length (map logged_of (take i logs)) + 1 ≡ i + 1
logs_counted logs i l = omega (arith, length-map (take i logs) logged_of, length-take-le i logs (omega (arith, l)))

pub log_number : (logs : List Log) (i n : ℕ) → i < length logs → n ≡ i + 1 → length (map logged_of (take i logs)) + 1 ≡ n
log_number logs i n l e = logs_counted logs i l ∙ sym e
