-- What the code keeps of logs, one act, one frame, one entry and one log after the other.
use Rattle.std.proofs.Common.{◌≡◌, ℕ, suc, ◌+◌, ◌<◌, ◌≤◌, true, false, if◌then◌else◌, List, [], ◌∷◌, ◌++◌, length, take, get_or, Option, Some, None, refl, sym, ap, subst, ◌∙◌, arith, append-nil, append_assoc}
use Rattle.std.specs.Prelude.{Result, Ok, Err, OnOk}
use Rattle.std.specs.List.{cons_option, All, AllByRecursion}
use Rattle.std.proofs.lemmas.Grind.{take_at_read}
use Rattle.std.proofs.lemmas.List.{take_all, length-append, length-take-le, map-append}
use Rattle.std.proofs.lemmas.List.Elements.{filter_map-append}
use Rattle.plan_base.specs.declared.stamp.Stamp.{Stamp}
use Rattle.plan_base.specs.declared.stamp.Version.{Version}
use Rattle.plan_base.specs.declared.stamp.Version.TheVariants.{Two}
use Rattle.plan_base.specs.declared.ids.Host.{Host}
use Rattle.plan_base.specs.declared.ids.Dev.{Dev}
use Rattle.plan_base.specs.declared.ids.Family.{Family}
use Rattle.packet_frame.specs.declared.frame.PlainFrame.{PlainFrame}
use Rattle.packet_frame.specs.declared.frame.PlainStamped.{PlainStamped}
use Rattle.packet_frame.specs.Stamped.{stamped_bytes, BearsStamp, AcceptsBy}
use Rattle.packet_frame.specs.Decoding.{read_by}
use Rattle.packet_frame.proofs.Versions.{accepted_by as read_again}
use Rattle.packet_frame.specs.Spelled.{IsOnItsWay, version_of as version_by}
use Rattle.network_config.specs.declared.node.NodeConfig.{NodeConfig}
use Rattle.network_config.specs.declared.event.Event.{Event}
use Rattle.network_config.specs.declared.event.Event.TheVariants as event
use Rattle.network_config.specs.declared.event.LogEvent.{LogEvent}
use Rattle.network_config.specs.declared.event.LogEvent.TheVariants.{Step, Lost}
use Rattle.network_config.specs.NodeRules.{KeepsNodeEvent, KeepsEntry}
use Rattle.service_api.specs.Services.{ServiceState}
use Rattle.node_core_spec.specs.declared.acts.Act.{Act}
use Rattle.node_core_spec.specs.declared.acts.Act.TheVariants.{NoMemory}
use Rattle.node_core_spec.specs.State.{NodeState, new_node}
use Rattle.node_core_spec.specs.Node.{node_step}
use Rattle.node_log.specs.Runs.{acts_of, node_by, node_after}
use Rattle.net_world_spec.specs.declared.lines.LinkEnd.{LinkEnd}
use Rattle.net_world_spec.specs.World.{Cables}
use Rattle.ledger_audit.specs.Crossings.{Crossing, Arrival}
use Rattle.ledger_audit.specs.Runs.{is_accepted, accepts, sends, numbered_arrivals}
use Rattle.ledger_audit.specs.Audits.{Logged, version_in}
use Rattle.ledger_audit.specs.Spelling.{Begins, FrameReads, EntryReads, EntriesRead, ReadsAgain}
use Rattle.ledger_audit.proofs.Versions.{version_told, told_plain}
use Rattle.ledger_audit.proofs.Refusals.{none_event}
use Rattle.ledger_audit.specs.declared.keys.CrossingKey.{CrossingKey}
use Rattle.ledger_audit.specs.declared.reckoning.Arrived.{Arrived}
use Rattle.ledger_audit.specs.declared.reckoning.AuditState.{AuditState}
use Rattle.ledger_audit.specs.Keys.{crossing_of}
use Rattle.ledger_audit.specs.Tallies.{none as no_frames, one_sent, tally_in, Changes}
use Rattle.ledger_audit.specs.Books.{none as no_sums, capped, counts_in, act_row, with_row, acts_counts}
use Rattle.ledger_audit.specs.Pasts.{Past, nothing, with_acts, with_sent, with_accepted, with_host, arrived_from, accepted_by, taken_by, TakenReads, with_frames, with_entry, with_entries, with_log}
use Rattle.ledger_audit.specs.Pasts.{with_logs, arrival_of, arrivals_of, injected_by, injected_families, Holds, KeepsLimits, IsReckoned}
use Rattle.ledger_audit.proofs.TallyLaws.{tallied_sent}
use Rattle.ledger_audit.proofs.ActLaws.{row_capped, counts_push, no_counts, act_apart}

-- ---- acts

injected_push : (acts : List Act) (a : Act) → injected_families (acts ++ a ∷ []) ≡ injected_families acts ++ cons_option (injected_by a) []
unfolding injected_families
injected_push acts a = filter_map-append injected_by acts (a ∷ [])

pub act_held : (a : Act) (p : Past) (old new : AuditState) → Holds old p → ((f : Family) → counts_in f new.book ≡ with_row f (act_row a) (counts_in f old.book))
    → new.hosts ≡ old.hosts → new.tallies ≡ old.tallies → new.arrived ≡ old.arrived → (o : Option Family) → o ≡ injected_by a → new.injected ≡ old.injected ++ cons_option o [] → Holds new (with_acts (a ∷ []) p)
act_held a p old new h counted hosts tallies arrived o is more = record {
  hosts = hosts ∙ h.hosts;
  sent = λ c. ap (tally_in c) tallies ∙ h.sent c;
  accepted = ap arrivals_of arrived ∙ h.accepted;
  counts = λ f. counted f ∙ ap (with_row f (act_row a)) (h.counts f) ∙ row_capped f a (acts_counts f p.acts) ∙ ap capped (sym (counts_push f p.acts a));
  families = more ∙ ap (λ x. old.injected ++ cons_option x []) is ∙ ap (λ l. l ++ cons_option (injected_by a) []) h.families ∙ sym (injected_push p.acts a);
}

-- a past with the same acts
with_same : (r : AuditState) (p : Past) (xs ys : List Act) → xs ≡ ys → Holds r (with_acts xs p) → Holds r (with_acts ys p)
with_same r p xs ys e h = subst (λ l. Holds r (with_acts l p)) e h

acts_both : (p : Past) (xs ys : List Act) → with_acts ys (with_acts xs p) ≡ with_acts (xs ++ ys) p
acts_both p xs ys = λ i. record { hosts = p.hosts; sent = p.sent; accepted = p.accepted; acts = append_assoc p.acts xs ys i }

pub no_acts : (r : AuditState) (p : Past) → Holds r p → Holds r (with_acts [] p)
no_acts r p h = subst (Holds r) (λ i. record { hosts = p.hosts; sent = p.sent; accepted = p.accepted; acts = sym (append-nil p.acts) i }) h

-- the act at a place, behind those in front of it
pub next_act : (r : AuditState) (p : Past) (acts : List Act) (i : ℕ) (a : Act) → i < length acts → a ≡ get_or acts i a
    → Holds r (with_acts (a ∷ []) (with_acts (take i acts) p)) → Holds r (with_acts (take (i + 1) acts) p)
next_act r p acts i a l is h =
    with_same r p (take i acts ++ a ∷ []) (take (i + 1) acts) (ap (λ b. take i acts ++ b ∷ []) is ∙ sym (take_at_read acts i a l).1)
    (subst (Holds r) (acts_both p (take i acts) (a ∷ [])) h)

pub all_acts : (r : AuditState) (p : Past) (acts : List Act) (i : ℕ) → length acts ≤ i → Holds r (with_acts (take i acts) p) → Holds r (with_acts acts p)
all_acts r p acts i l h = with_same r p (take i acts) acts (take_all i acts l) h

-- ---- frames

none_sent : (p : Past) → p ≡ with_sent [] p
none_sent p = λ i. record { hosts = p.hosts; sent = sym (append-nil p.sent) i; accepted = p.accepted; acts = p.acts }

none_accepted : (p : Past) → p ≡ with_accepted [] p
none_accepted p = λ i. record { hosts = p.hosts; sent = p.sent; accepted = sym (append-nil p.accepted) i; acts = p.acts }

pub only_accepted : (r : AuditState) (p : Past) (xs : List Arrival) → Holds r (with_accepted xs p) → Holds r (with_accepted xs (with_sent [] p))
only_accepted r p xs h = subst (λ q. Holds r (with_accepted xs q)) (none_sent p) h

pub only_sent : (r : AuditState) (p : Past) (xs : List Crossing) → Holds r (with_sent xs p) → Holds r (with_accepted [] (with_sent xs p))
only_sent r p xs h = subst (Holds r) (none_accepted (with_sent xs p)) h

pub neither : (r : AuditState) (p : Past) → Holds r p → Holds r (with_accepted [] (with_sent [] p))
neither r p h = only_sent r p [] (subst (Holds r) (none_sent p) h)

pub no_arrival : (r : AuditState) (p : Past) → Holds r p → Holds r (with_accepted [] p)
no_arrival r p h = subst (Holds r) (none_accepted p) h

pub no_taking : (r : AuditState) (p : Past) → Holds r p → Holds r (with_sent [] p)
no_taking r p h = subst (Holds r) (none_sent p) h

-- an accepted frame more
pub arrival_held : (p : Past) (old new : AuditState) (a : Arrived) (c : Crossing) → Holds old p → crossing_of a.key ≡ c
    → new.hosts ≡ old.hosts → new.tallies ≡ old.tallies → new.book ≡ old.book → new.injected ≡ old.injected → new.arrived ≡ old.arrived ++ a ∷ []
    → Holds new (with_accepted (record { log = a.log; event = a.event; crossing = c } ∷ []) p)
arrival_held p old new a c h is hosts tallies book injects more = record {
  hosts = hosts ∙ h.hosts;
  sent = λ d. ap (tally_in d) tallies ∙ h.sent d;
  accepted = ap arrivals_of more ∙ map-append arrival_of old.arrived (a ∷ []) ∙ ap (λ l. l ++ arrival_of a ∷ []) h.accepted
      ∙ (λ i. p.accepted ++ record { log = a.log; event = a.event; crossing = is i } ∷ []);
  counts = λ f. ap (counts_in f) book ∙ h.counts f;
  families = injects ∙ h.families;
}

-- bytes that the acts refuse are no frame more
pub arrived_not : (r : AuditState) (p : Past) (log n : ℕ) (from : Option LinkEnd) (bytes : List ℕ) (acts : List Act) → is_accepted acts ≡ false
    → Holds r p → Holds r (with_accepted (numbered_arrivals log n (arrived_from from bytes acts)) p)
arrived_not r p log n from bytes acts e h = subst (λ b. Holds r (with_accepted (numbered_arrivals log n (if b then record { from = from; bytes = bytes } ∷ [] else [])) p)) (sym e) (no_arrival r p h)

-- others are one
pub arrived_so : (p : Past) (old new : AuditState) (log n : ℕ) (from : Option LinkEnd) (bytes : List ℕ) (acts : List Act) (key : CrossingKey) → is_accepted acts ≡ true → crossing_of key ≡ record { from = from; bytes = bytes }
    → new.hosts ≡ old.hosts → new.tallies ≡ old.tallies → new.book ≡ old.book → new.injected ≡ old.injected → new.arrived ≡ old.arrived ++ record { log = log; event = n; key = key } ∷ []
    → Holds old p → Holds new (with_accepted (numbered_arrivals log n (arrived_from from bytes acts)) p)
arrived_so p old new log n from bytes acts key e is hosts tallies book injects more h =
    subst (λ b. Holds new (with_accepted (numbered_arrivals log n (if b then record { from = from; bytes = bytes } ∷ [] else [])) p)) (sym e)
    (arrival_held p old new (record { log = log; event = n; key = key }) (record { from = from; bytes = bytes }) h is hosts tallies book injects more)

-- a frame more that was sent
pub sent_held : (p : Past) (old new : AuditState) (x c : Crossing) → Holds old p → x ≡ c → Changes one_sent x old.tallies new.tallies
    → new.hosts ≡ old.hosts → new.arrived ≡ old.arrived → new.book ≡ old.book → new.injected ≡ old.injected → Holds new (with_sent (c ∷ []) p)
sent_held p old new x c h is changes hosts arrived book injects = record {
  hosts = hosts ∙ h.hosts;
  sent = tallied_sent p.sent c old.tallies new.tallies h.sent (subst (λ y. Changes one_sent y old.tallies new.tallies) is changes);
  accepted = ap arrivals_of arrived ∙ h.accepted;
  counts = λ f. ap (counts_in f) book ∙ h.counts f;
  families = injects ∙ h.families;
}

-- ---- frames that are read again

way_of : (x : PlainFrame) → BearsStamp x → IsOnItsWay x
way_of (PlainFrame.Packet p) b = tt
way_of (PlainFrame.Advert a) b = tt
way_of (PlainFrame.Ask bound c) b = absurd b

told_so : (o : Option Stamp) (x : PlainFrame) (bytes : List ℕ) → AcceptsBy (version_by o) bytes (record { stamp = o; frame = x }) → version_in (stamped_bytes (record { stamp = o; frame = x })) ≡ version_by o
unfolding stamped_bytes
told_so None x bytes a = told_plain x
told_so (Some s) x bytes a = sym (ap version_in a.is) ∙ version_told Two bytes (record { stamp = Some s; frame = x }) a (way_of x a.read.0)

-- bytes that are accepted as a frame are read as it again
pub frame_reads : (x : PlainStamped) (bytes : List ℕ) → AcceptsBy (version_by x.stamp) bytes x → FrameReads (Some x)
frame_reads x bytes a =
    ap (λ v. read_by v (stamped_bytes x)) (told_so x.stamp x.frame bytes a)
    ∙ ap (read_by (version_by x.stamp)) (sym a.is) ∙ read_again (version_by x.stamp) bytes x a

-- ---- entries

accepts_are : (links : Cables) (node : NodeState) (e : Event) → accepted_by links node.here e (node_step node e).acts ≡ accepts links node (Step e)
accepts_are links node (event.Inject c b o) = refl
accepts_are links node (event.Frame d bytes) = refl
accepts_are links node (event.Control bytes) = refl
accepts_are links node event.Tick = refl
accepts_are links node (event.Take d) = refl

sends_are : (node : NodeState) (e : Event) → taken_by node.here e (node_step node e).frame ≡ sends node (Step e)
sends_are node (event.Inject c b o) = refl
sends_are node (event.Frame d bytes) = refl
sends_are node (event.Control bytes) = refl
sends_are node event.Tick = refl
sends_are node (event.Take d) = refl

-- a step of a node at this host, with these acts and this frame
pub event_held : (r : AuditState) (p : Past) (links : Cables) (log n : ℕ) (node : NodeState) (e : Event) (h : Host) (acts : List Act) (frame : Option PlainStamped)
    → h ≡ node.here → acts ≡ (node_step node e).acts → frame ≡ (node_step node e).frame → Holds r (with_frames links log n h e acts frame (with_acts acts p)) → Holds r (with_entry links log n node (Step e) p)
unfolding with_entry
event_held r p links log n node e h acts frame here made taken held =
    subst (λ q. Holds r q) (λ i. with_accepted (numbered_arrivals log n (accepts_are links node e i)) (with_sent (sends_are node e i) (with_acts (node_step node e).acts p)))
    (subst (λ q. Holds r q) (λ i. with_frames links log n (here i) e (made i) (taken i) (with_acts (made i) p)) held)

reads_none : (node : NodeState) (e : Event) → ((d : Dev) → e ≡ event.Take d → ⊥) → FrameReads (node_step node e).frame
reads_none node e n = subst FrameReads (sym (none_event node e n)) tt

-- what arrives are bytes, and the frame that is taken is read again
pub event_reads : (v : Version) (node : NodeState) (e : Event) (frame : Option PlainStamped) → KeepsNodeEvent v e → frame ≡ (node_step node e).frame → TakenReads e frame → EntryReads node (Step e)
event_reads v node (event.Inject c b o) frame k is t = (tt, reads_none node (event.Inject c b o) (λ d q. absurd cc))
event_reads v node (event.Frame d bytes) frame k is t = (k.1.are_bytes, reads_none node (event.Frame d bytes) (λ e q. absurd cc))
event_reads v node (event.Control bytes) frame k is t = (tt, reads_none node (event.Control bytes) (λ d q. absurd cc))
event_reads v node event.Tick frame k is t = (tt, reads_none node event.Tick (λ d q. absurd cc))
event_reads v node (event.Take d) frame k is t = (tt, subst FrameReads is t)

-- an entry that found no memory: its act counts for no family, and injects none
pub lost_held : (r : AuditState) (p : Past) (links : Cables) (log n : ℕ) (node : NodeState) → Holds r p → Holds r (with_entry links log n node Lost p)
unfolding with_entry
lost_held r p links log n node h =
    neither r (with_acts (acts_of node Lost) p) (act_held NoMemory p r r h (λ f. act_apart NoMemory r.book refl f) refl refl refl None refl (sym (append-nil r.injected)))

entries_more : (links : Cables) (log n : ℕ) (s : NodeState) (es fs : List LogEvent) (p : Past)
    → with_entries links log n s (es ++ fs) p ≡ with_entries links log (n + length es) (node_after s es) fs (with_entries links log n s es p)
unfolding node_after
entries_more links log n s [] fs p = let e : n ≡ n + 0 = omega arith in ap (λ k. with_entries links log k s fs p) e
entries_more links log n s (e ∷ es) fs p =
    let k : n + 1 + length es ≡ n + suc (length es) = omega arith in
    entries_more links log (n + 1) (node_by s e) es fs (with_entry links log (n + 1) s e p)
    ∙ ap (λ m. with_entries links log m (node_after (node_by s e) es) fs (with_entries links log (n + 1) (node_by s e) es (with_entry links log (n + 1) s e p))) k

-- the entry at a place, behind those in front of it
pub next_entry : (r : AuditState) (p : Past) (links : Cables) (log n : ℕ) (s : NodeState) (es : List LogEvent) (i : ℕ) (e : LogEvent) → i < length es → e ≡ get_or es i e → n ≡ i + 1
    → Holds r (with_entry links log n (node_after s (take i es)) e (with_entries links log 0 s (take i es) p)) → Holds r (with_entries links log 0 s (take (i + 1) es) p)
next_entry r p links log n s es i e l is number h =
    let count : n ≡ 0 + length (take i es) + 1 = omega (arith, number, length-take-le i es (omega (arith, l))) in
    let before = with_entries links log 0 s (take i es) p in
    subst (Holds r)
    (ap (λ k. with_entry links log k (node_after s (take i es)) e before) count
    ∙ sym (entries_more links log 0 s (take i es) (e ∷ []) p)
    ∙ ap (λ l. with_entries links log 0 s l p) (ap (λ b. take i es ++ b ∷ []) is ∙ sym (take_at_read es i e l).1))
    h

pub all_entries : (r : AuditState) (p : Past) (links : Cables) (log : ℕ) (s : NodeState) (es : List LogEvent) (i : ℕ) → length es ≤ i
    → Holds r (with_entries links log 0 s (take i es) p) → Holds r (with_entries links log 0 s es p)
all_entries r p links log s es i l h = subst (λ fs. Holds r (with_entries links log 0 s fs p)) (take_all i es l) h

reads_push : (s : NodeState) (es : List LogEvent) (e : LogEvent) → EntriesRead s es → EntryReads (node_after s es) e → EntriesRead s (es ++ e ∷ [])
unfolding node_after
reads_push s [] e r k = (k, tt)
reads_push s (x ∷ es) e r k = (r.0, reads_push (node_by s x) es e r.1 k)

pub next_reads : (s : NodeState) (es : List LogEvent) (i : ℕ) (e : LogEvent) → i < length es → e ≡ get_or es i e → EntriesRead s (take i es) → EntryReads (node_after s (take i es)) e → EntriesRead s (take (i + 1) es)
next_reads s es i e l is r k =
    subst (EntriesRead s) (ap (λ b. take i es ++ b ∷ []) is ∙ sym (take_at_read es i e l).1) (reads_push s (take i es) e r k)

pub all_reads : (s : NodeState) (es : List LogEvent) (i : ℕ) → length es ≤ i → EntriesRead s (take i es) → EntriesRead s es
all_reads s es i l r = subst (EntriesRead s) (take_all i es l) r

-- ---- logs

-- nothing so far
pub nothing_held : (r : AuditState) → r.hosts ≡ [] → ((c : Crossing) → tally_in c r.tallies ≡ no_frames) → r.arrived ≡ [] → ((f : Family) → counts_in f r.book ≡ no_sums) → r.injected ≡ [] → Holds r nothing
unfolding injected_families
nothing_held r hosts tallies arrived book injects = record {
  hosts = hosts;
  sent = tallies;
  accepted = ap arrivals_of arrived;
  counts = λ f. book f ∙ no_counts f;
  families = injects;
}

logs_more : (links : Cables) (k : ℕ) (ls : List Logged) (l : Logged) (p : Past) → with_logs links k (ls ++ l ∷ []) p ≡ with_log links (k + length ls + 1) l (with_logs links k ls p)
logs_more links k [] l p = let e : k + 1 ≡ k + 0 + 1 = omega arith in ap (λ n. with_log links n l p) e
logs_more links k (x ∷ ls) l p =
    let e : k + 1 + length ls + 1 ≡ k + suc (length ls) + 1 = omega arith in
    logs_more links (k + 1) ls l (with_log links (k + 1) x p) ∙ ap (λ n. with_log links n l (with_logs links (k + 1) ls (with_log links (k + 1) x p))) e

all_push : (P : Logged → Type 0) (ls : List Logged) (l : Logged) → AllByRecursion P ls → P l → AllByRecursion P (ls ++ l ∷ [])
all_push P [] l a h = (h, tt)
all_push P (x ∷ ls) l a h = (a.0, all_push P ls l a.1 h)

pub host_held : (p : Past) (old new : AuditState) (h : Host) → Holds old p → new.hosts ≡ old.hosts ++ h ∷ [] → new.tallies ≡ old.tallies → new.arrived ≡ old.arrived → new.book ≡ old.book
    → new.injected ≡ old.injected → Holds new (with_host h p)
host_held p old new h k hosts tallies arrived book injects = record {
  hosts = hosts ∙ ap (λ l. l ++ h ∷ []) k.hosts;
  sent = λ c. ap (tally_in c) tallies ∙ k.sent c;
  accepted = ap arrivals_of arrived ∙ k.accepted;
  counts = λ f. ap (counts_in f) book ∙ k.counts f;
  families = injects ∙ k.families;
}

begins : (c : NodeConfig) (s : ServiceState) (es : List LogEvent) → Begins (record { node = new_node c s; entries = es })
unfolding new_node
begins c s es = (c.link, refl)

here_is : (c : NodeConfig) (s : ServiceState) → c.here ≡ (new_node c s).here
unfolding new_node
here_is c s = refl

limits_of : (c : NodeConfig) (s : ServiceState) (es : List LogEvent) → length es ≤ 50000 → All (KeepsEntry c.version) es → KeepsLimits (record { node = new_node c s; entries = es })
unfolding new_node
limits_of c s es few keeps = record { few = few; entries = keeps }

-- a log more
pub log_reckoned : (links : Cables) (ls : List Logged) (number : ℕ) (c : NodeConfig) (s : ServiceState) (es : List LogEvent) (old new : AuditState) → IsReckoned links ls old → length ls + 1 ≡ number → number ≤ 16
    → length es ≤ 50000 → All (KeepsEntry c.version) es
    → Holds new (with_host c.here (with_entries links number 0 (new_node c s) es (with_logs links 0 ls nothing))) → EntriesRead (new_node c s) es → IsReckoned links (ls ++ record { node = new_node c s; entries = es } ∷ []) new
log_reckoned links ls number c s es old new k is most few keeps held reads =
    let l : Logged = record { node = new_node c s; entries = es } in
    let before = with_logs links 0 ls nothing in
    let n : number ≡ 0 + length ls + 1 = omega (arith, is) in
    record {
      holds = subst (Holds new)
          (ap (λ h. with_host h (with_entries links number 0 (new_node c s) es before)) (here_is c s) ∙ ap (λ m. with_log links m l before) n ∙ sym (logs_more links 0 ls l nothing))
          held;
      begin = all_push Begins ls l k.begin (begins c s es);
      read = all_push ReadsAgain ls l k.read reads;
      few = omega (arith, length-append ls (l ∷ []), is, most);
      limits = all_push KeepsLimits ls l k.limits (limits_of c s es few keeps);
    }

-- what two facts of a result that is well give
pub on_both : {T E : Type 0} (A B C : Type 0) (r : Result T E) → (A → B → C) → OnOk r A → OnOk r B → OnOk r C
on_both A B C (Ok x) f a b = f a b
on_both A B C (Err e) f a b = a
