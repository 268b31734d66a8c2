-- The file of an audit and its logs, as they are taken of the files.
use Rattle.std.proofs.Common.{◌≡◌, inl, ℕ, ◌+◌, ◌<◌, ◌≤◌, IsTrue, List, [], ◌∷◌, ◌++◌, map, length, take, drop, get_or, Result, Ok, Err, IfOk, refl, sym, ap, subst, ◌∙◌, arith}
use Rattle.std.proofs.lemmas.Grind.{take_at_read}
use Rattle.std.proofs.lemmas.List.{take_all, drop_all, drop_more, map-append, length-append, length-map}
use Rattle.node_io.specs.Causes.{HasRisen}
use Rattle.node_io.specs.FileMaps.{FileMap, MayName}
use Rattle.node_io.specs.FileStates.{FilesState, OnlyReads}
use Rattle.node_io.specs.Sinks.{SinkState}
use Rattle.plan_base.specs.declared.ids.Host.{Host}
use Rattle.network_config.specs.declared.node.Log.{Log}
use Rattle.command_files.specs.declared.audit.AuditFile.{AuditFile}
use Rattle.command_files.specs.AuditFiles.{audit_of}
use Rattle.node_core_spec.specs.State.{new_node}
use Rattle.net_world_spec.specs.World.{Cables}
use Rattle.ledger_audit.specs.Audits.{Logged}
use Rattle.ledger_audit.specs.declared.reckoning.AuditState.{AuditState}
use Rattle.ledger_audit.specs.Pasts.{IsReckoned, IsReckoning, logged_of}
use Rattle.ledger_audit.specs.Ledgers.{hosts_of, verdict_of}
use Rattle.ledger_audit.specs.Texts.{audit_text}
use Rattle.ledger_audit.proofs.VerdictLaws.{hosts_are}
use Rattle.planet_commands.specs.declared.status.Cause.{Cause}
use Rattle.planet_commands.specs.declared.status.Cause.TheVariants.{Done, Usage, Refused, ReadFault, WriteFault, LinkFault, SpawnFault, NoMemory, NodesFailed}
use Rattle.planet_commands.specs.Said.{Said, nothing, outside, says, lines_said, said_then}
use Rattle.planet_commands.specs.Takes.{Untaken, TakeResult, Takes}
use Rattle.planet_commands.specs.Renders.{Prints}
use Rattle.planet_commands_fleet.specs.Audits.{log_said, hosts_in, logs_said, fit_text, text_said, audit_said, FramesRead, MayNames, names_in, AsksLogs, TakesLogs, AuditsRead, AuditsFile}
use Rattle.planet_commands_fleet.proofs.LogTaking.{untaken_then}

-- ---- readings, one after the other

reads_none : (s : FilesState) → OnlyReads s s
reads_none s = record { observable = refl; held = refl; made = refl; writing = refl; target = refl; write_faults = refl; later = omega arith }

reads_both : (a b c : FilesState) → OnlyReads a b → OnlyReads b c → OnlyReads a c
reads_both a b c x y = record {
  observable = y.observable ∙ x.observable;
  held = y.held ∙ x.held;
  made = y.made ∙ x.made;
  writing = y.writing ∙ x.writing;
  target = y.target ∙ x.target;
  write_faults = y.write_faults ∙ x.write_faults;
  later = omega (arith, x.later, y.later);
}

-- no name more
stays : (names : List (List ℕ)) (old : List (List ℕ)) → MayNames names old old
stays [] old = refl
stays (n ∷ ns) old = (old, (inl refl, stays ns old))

named_then : (xs ys : List (List ℕ)) (a b c : List (List ℕ)) → MayNames xs a b → MayNames ys b c → MayNames (xs ++ ys) a c
named_then [] ys a b c x y = subst (λ l. MayNames ys l c) x y
named_then (n ∷ xs) ys a b c x y = (x.0, (x.1.0, named_then xs ys x.0 b c x.1.1 y))

one_named : (n : List ℕ) (a b : List (List ℕ)) → MayName a b n → MayNames (n ∷ []) a b
one_named n a b h = (b, (h, refl))

-- ---- logs, one after the other

-- so many logs were read and kept, and what is said is what is said of the names that are left
pub record Along (links : Cables) (all : List (List ℕ)) (i : ℕ) (old new : FilesState) (r : AuditState) : Type 0 where
  pub logs : List Log
  pub count : length logs ≡ i
  pub only : OnlyReads old new
  pub asked : MayNames (take i all) old.asked new.asked
  pub kept : IsReckoned links (map logged_of logs) r
  pub front : IsTrue old.observable → logs_said (take i all) [] old.held ≡ says logs
  pub said : IsTrue old.observable → logs_said all [] old.held ≡ logs_said (drop i all) logs old.held

pub along_none : (links : Cables) (all : List (List ℕ)) (s : FilesState) (r : AuditState) → IsReckoned links [] r → Along links all 0 s s r
along_none links all s r k = record { logs = []; count = refl; only = reads_none s; asked = refl; kept = k; front = λ seen. refl; said = λ seen. refl }

-- what is said of what is said of the first is said of the second
then_then : {A B C : Type 0} (s : Said A) (first : A → Said B) (second : B → Said C) (both : A → Said C) → ((x : A) → both x ≡ said_then (first x) second)
    → said_then s both ≡ said_then (said_then s first) second
then_then nothing first second both e = refl
then_then (outside r) first second both e = refl
then_then (says x) first second both e = e x

-- what names say behind others
said_behind : (names more : List (List ℕ)) (logs : List Log) (files : FileMap) → logs_said (names ++ more) logs files ≡ said_then (logs_said names logs files) (λ ls. logs_said more ls files)
said_behind [] more logs files = refl
said_behind (n ∷ names) more logs files =
    then_then (log_said (length logs + 1) (hosts_in logs) n files) (λ l. logs_said names (logs ++ l ∷ []) files) (λ ls. logs_said more ls files)
    (λ l. logs_said (names ++ more) (logs ++ l ∷ []) files) (λ l. said_behind names more (logs ++ l ∷ []) files)

hosts_of_logs : (logs : List Log) → hosts_of (map logged_of logs) ≡ hosts_in logs
unfolding new_node
hosts_of_logs [] = refl
hosts_of_logs (l ∷ logs) = ap (λ hs. l.node.here ∷ hs) (hosts_of_logs logs)

module _ (links : Cables) (all : List (List ℕ)) (i : ℕ) (n : ℕ) (name : List ℕ) (old mid new : FilesState) (r : AuditState) (k : Along links all i old mid r) (less : i < length all) (is : name ≡ get_or all i name) (number : n ≡ i + 1) where
  left_from_here : drop i all ≡ name ∷ drop (i + 1) all
  left_from_here = drop_more all i name less ∙ ap (λ m. m ∷ drop (i + 1) all) (sym is)

  names : take (i + 1) all ≡ take i all ++ name ∷ []
  names = (take_at_read all i name less).1 ∙ ap (λ m. take i all ++ m ∷ []) (sym is)

  log_is : length k.logs + 1 ≡ n
  log_is = omega (arith, k.count, number)

  hosts : r.hosts ≡ hosts_in k.logs
  hosts = hosts_are links (map logged_of k.logs) r k.kept ∙ hosts_of_logs k.logs

  -- what is said of the names that are left, by the first of them
  next_said : IsTrue old.observable → logs_said all [] old.held ≡ said_then (log_said n r.hosts name mid.held) (λ l. logs_said (drop (i + 1) all) (k.logs ++ l ∷ []) old.held)
  next_said seen =
      k.said seen ∙ ap (λ ns. logs_said ns k.logs old.held) left_from_here
      ∙ ap (λ m. said_then (log_said m (hosts_in k.logs) name old.held) (λ l. logs_said (drop (i + 1) all) (k.logs ++ l ∷ []) old.held)) log_is
      ∙ ap (λ hs. said_then (log_said n hs name old.held) (λ l. logs_said (drop (i + 1) all) (k.logs ++ l ∷ []) old.held)) (sym hosts)
      ∙ ap (λ f. said_then (log_said n r.hosts name f) (λ l. logs_said (drop (i + 1) all) (k.logs ++ l ∷ []) old.held)) (sym k.only.held)

  -- the first of them, by what the code knows
  this_said : log_said (length k.logs + 1) (hosts_in k.logs) name old.held ≡ log_said n r.hosts name mid.held
  this_said =
      ap (λ m. log_said m (hosts_in k.logs) name old.held) log_is
      ∙ ap (λ hs. log_said n hs name old.held) (sym hosts)
      ∙ ap (λ f. log_said n r.hosts name f) (sym k.only.held)

  -- with it one more log is said
  front_next : (l : Log) → log_said n r.hosts name mid.held ≡ says l → IsTrue old.observable → logs_said (take (i + 1) all) [] old.held ≡ says (k.logs ++ l ∷ [])
  front_next l e seen =
      ap (λ ns. logs_said ns [] old.held) names ∙ said_behind (take i all) (name ∷ []) [] old.held
      ∙ ap (λ s. said_then s (λ ls. logs_said (name ∷ []) ls old.held)) (k.front seen)
      ∙ ap (λ s. said_then s (λ x. says (k.logs ++ x ∷ []))) (this_said ∙ e)

  seen_too : IsTrue old.observable → IsTrue mid.observable
  seen_too seen = subst IsTrue (sym k.only.observable) seen

  grew : MayName mid.asked new.asked name → MayNames (take (i + 1) all) old.asked new.asked
  grew m = subst (λ ns. MayNames ns old.asked new.asked) (sym names) (named_then (take i all) (name ∷ []) old.asked mid.asked new.asked k.asked (one_named name mid.asked new.asked m))

  -- the log was taken and kept
  pub along_next : (l : Log) (kept : AuditState) → Takes (log_said n r.hosts name) name mid new (Ok l)
      → ((ls : List Logged) → IsReckoned links ls r → length ls + 1 ≡ n → IsReckoned links (ls ++ logged_of l ∷ []) kept) → Along links all (i + 1) old new kept
  along_next l kept t adds = record {
    logs = k.logs ++ l ∷ [];
    count = omega (arith, length-append k.logs (l ∷ []), k.count);
    only = reads_both old mid new k.only t.only;
    asked = grew t.asked;
    kept = subst (λ ls. IsReckoned links ls kept) (sym (map-append logged_of k.logs (l ∷ [])))
        (adds (map logged_of k.logs) k.kept (omega (arith, length-map k.logs logged_of, k.count, number)));
    front = λ seen. front_next l (t.did (seen_too seen)) seen;
    said = λ seen. next_said seen ∙ ap (λ s. said_then s (λ x. logs_said (drop (i + 1) all) (k.logs ++ x ∷ []) old.held)) (t.did (seen_too seen));
  }

  asks : MayName mid.asked new.asked name → AsksLogs all old new
  asks m = record { before = i; logs = k.logs; asked = grew m; say = k.front }

  stop_is_untaken : (c : Cause) → Untaken (log_said n r.hosts name) mid new c → Untaken (logs_said all []) old new c
  stop_is_untaken (Refused q) u = (u.0, λ seen. next_said seen ∙ ap (λ s. said_then s (λ x. logs_said (drop (i + 1) all) (k.logs ++ x ∷ []) old.held)) (u.1 (seen_too seen)))
  stop_is_untaken ReadFault u = later_rose u
    where
      later_rose : HasRisen mid.read_faults new.read_faults → HasRisen old.read_faults new.read_faults
      later_rose h = omega (arith, h, k.only.later)
  stop_is_untaken NoMemory u = tt
  stop_is_untaken Done u = elim u [ ]
  stop_is_untaken Usage u = elim u [ ]
  stop_is_untaken WriteFault u = elim u [ ]
  stop_is_untaken LinkFault u = elim u [ ]
  stop_is_untaken SpawnFault u = elim u [ ]
  stop_is_untaken (NodesFailed h s) u = elim u [ ]

  -- it wasn't taken
  pub along_stopped : (c : Cause) → Takes (log_said n r.hosts name) name mid new (Err c) → TakesLogs links all old new (Err c)
  along_stopped c t = record { only = reads_both old mid new k.only t.only; asks = asks t.asked; did = stop_is_untaken c t.did }

  -- it was taken, and found no memory
  pub along_poor : (l : Log) → Takes (log_said n r.hosts name) name mid new (Ok l) → TakesLogs links all old new (Err NoMemory)
  along_poor l t = record { only = reads_both old mid new k.only t.only; asks = asks t.asked; did = tt }

-- the names of the code's own values are those of the definitions
pub takes_named : (k : ℕ) (hs hosts : List Host) (w name : List ℕ) (mid new : FilesState) (res : Result Log Cause) → hs ≡ hosts → w ≡ name → Takes (log_said k hs w) w mid new res → Takes (log_said k hosts name) name mid new res
takes_named k hs hosts w name mid new res e f t = subst (λ x. Takes (log_said k x name) name mid new res) e (subst (λ x. Takes (log_said k hs x) x mid new res) f t)

pub along_all : (links : Cables) (all : List (List ℕ)) (i : ℕ) (old new : FilesState) (r : AuditState) → length all ≤ i → Along links all i old new r → TakesLogs links all old new (Ok r)
along_all links all i old new r less k = record {
  only = k.only;
  asks = record {
    before = i;
    logs = k.logs;
    asked = subst (λ ns. MayNames ns old.asked new.asked) (take_all i all less ∙ sym (take_all (i + 1) all (omega (arith, less)))) k.asked;
    say = k.front;
  };
  did = (k.logs, (k.kept, λ seen. k.said seen ∙ ap (λ ns. logs_said ns k.logs old.held) (drop_all i all less)));
}

-- ---- the text

-- what is said is one value
said_or : {A : Type 0} → A → Said A → A
said_or d nothing = d
said_or d (outside r) = d
said_or d (says v) = v

pub says_same : {A : Type 0} (v w : A) → says v ≡ says w → v ≡ w
unfolding said_or
says_same v w e = ap (said_or v) e

-- the logs were read, and their text was written
pub read_all : (a : AuditFile) (old new : FilesState) (r : AuditState) (c : Cause) (x y : SinkState) → TakesLogs a.links a.logs old new (Ok r)
    → ((ls : List Logged) → IsReckoned a.links ls r → Prints (audit_text (verdict_of a.links ls)) c x y) → AuditsRead a old new c x y
read_all a old new r c x y t prints = record {
  taken = Ok (fit_text a t.did.0);
  only = t.only;
  asks = t.asks;
  did = λ seen. ap (λ s. said_then s (λ logs. says (fit_text a logs))) (t.did.1.1 seen);
  frames = λ seen logs e. subst FramesRead (says_same t.did.0 logs (sym (t.did.1.1 seen) ∙ e)) t.did.1.0.read;
  acts = prints (map logged_of t.did.0) t.did.1.0;
}

-- they weren't
pub read_not : (a : AuditFile) (old new : FilesState) (c : Cause) (x : SinkState) → TakesLogs a.links a.logs old new (Err c) → AuditsRead a old new c x x
read_not a old new c x t = record {
  taken = Err c;
  only = t.only;
  asks = t.asks;
  did = untaken_then (logs_said a.logs []) (λ held logs. says (fit_text a logs)) [] old new c t.did;
  frames = tt;
  acts = (refl, refl);
}

-- what is kept of logs
pub is_kept : (a : AuditFile) (old new : FilesState) (r : AuditState) → TakesLogs a.links a.logs old new (Ok r) → IsReckoning r
is_kept a old new r t = record { links = a.links; logs = map logged_of t.did.0; is = t.did.1.0 }

-- ---- the file, and then its logs

module _ (name : List ℕ) (old mid new : FilesState) (c : Cause) (x y : SinkState) where
  by_result : (a : AuditFile) → Takes (lines_said audit_of name) name old mid (Ok a) → OnlyReads mid new → (taken : Result (List ℕ) Cause) → TakeResult (λ held. text_said held a) mid new taken → TakeResult (audit_said name) old new taken
  by_result a t o (Ok text) d = λ seen. ap (λ s. said_then s (text_said old.held)) (t.did seen) ∙ ap (λ h. text_said h a) (sym t.only.held) ∙ d (subst IsTrue (sym t.only.observable) seen)
  by_result a t o (Err why) d = by_cause why d
    where
      by_cause : (w : Cause) → Untaken (λ held. text_said held a) mid new w → Untaken (audit_said name) old new w
      by_cause (Refused r) u = (u.0, λ seen. ap (λ s. said_then s (text_said old.held)) (t.did seen) ∙ ap (λ h. text_said h a) (sym t.only.held) ∙ u.1 (subst IsTrue (sym t.only.observable) seen))
      by_cause ReadFault u = rose u
        where
          rose : HasRisen mid.read_faults new.read_faults → HasRisen old.read_faults new.read_faults
          rose h = omega (arith, h, t.only.later)
      by_cause NoMemory u = tt
      by_cause Done u = elim u [ ]
      by_cause Usage u = elim u [ ]
      by_cause WriteFault u = elim u [ ]
      by_cause LinkFault u = elim u [ ]
      by_cause SpawnFault u = elim u [ ]
      by_cause (NodesFailed h s) u = elim u [ ]

  by_frames : (a : AuditFile) → Takes (lines_said audit_of name) name old mid (Ok a) → (taken : Result (List ℕ) Cause)
      → IfOk taken (λ text. IsTrue mid.observable → (logs : List Log) → logs_said a.logs [] mid.held ≡ says logs → FramesRead logs)
      → IfOk taken (λ text. IsTrue old.observable → (b : AuditFile) (logs : List Log) → lines_said audit_of name old.held ≡ says b → logs_said b.logs [] old.held ≡ says logs → FramesRead logs)
  by_frames a t (Ok text) h = λ seen b logs n e.
      h (subst IsTrue (sym t.only.observable) seen) logs (ap (logs_said a.logs []) t.only.held ∙ ap (λ x. logs_said x.logs [] old.held) (says_same a b (sym (t.did seen) ∙ n)) ∙ e)
  by_frames a t (Err why) h = tt

  -- the file was taken, and its logs were read as far as they aren't refused
  pub file_taken : (a : AuditFile) → Takes (lines_said audit_of name) name old mid (Ok a) → AuditsRead a mid new c x y → AuditsFile name old new c x y
  file_taken a t r = record {
    taken = r.taken;
    only = reads_both old mid new t.only r.only;
    asked = record {
      before = r.asks.before;
      logs = r.asks.logs;
      names = take (r.asks.before + 1) a.logs;
      asked = (mid.asked, (t.asked, r.asks.asked));
      named = λ seen. ap (λ s. take (r.asks.before + 1) (names_in s)) (sym (t.did seen));
      say = λ seen.
          ap (λ s. logs_said (take r.asks.before (names_in s)) [] old.held) (t.did seen)
          ∙ ap (λ h. logs_said (take r.asks.before a.logs) [] h) (sym t.only.held)
          ∙ r.asks.say (subst IsTrue (sym t.only.observable) seen);
    };
    did = by_result a t r.only r.taken r.did;
    frames = by_frames a t r.taken r.frames;
    acts = r.acts;
  }

-- it wasn't
pub file_untaken : (name : List ℕ) (old new : FilesState) (c : Cause) (x : SinkState) → Takes (lines_said audit_of name) name old new (Err c) → AuditsFile name old new c x x
file_untaken name old new c x t = record {
  taken = Err c;
  only = t.only;
  asked = record {
    before = 0;
    logs = [];
    names = take (0 + 1) (names_in (lines_said audit_of name old.held));
    asked = (new.asked, (t.asked, stays (take (0 + 1) (names_in (lines_said audit_of name old.held))) new.asked));
    named = λ seen. refl;
    say = λ seen. refl;
  };
  did = untaken_then (lines_said audit_of name) text_said name old new c t.did;
  frames = tt;
  acts = (refl, refl);
}
