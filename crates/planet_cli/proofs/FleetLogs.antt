-- Logs that files are seen to say to an audit: each keeps its rules, and no two are of one host.
use Rattle.std.proofs.Common.{◌≡◌, ◌≢◌, ℕ, ◌+◌, Bool, true, false, cond, nat_lt, List, [], ◌∷◌, ◌++◌, map, length, Option, Some, None, Result, Ok, Err, refl, sym, subst, eqb}
use Rattle.std.specs.Prelude.{All}
use Rattle.std.specs.List.{AllByRecursion}
use Rattle.std.proofs.lemmas.Bool.{eqb-false}
use Rattle.std.proofs.lemmas.List.Elements.{All-head, All-tail}
use Rattle.plan_base.specs.declared.stamp.Version.{Version}
use Rattle.plan_base.specs.declared.stamp.Version.TheVariants.{Two}
use Rattle.line_reader.specs.declared.fault.LineFault.{LineFault}
use Rattle.line_reader.specs.declared.fault.LineFault.TheVariants as faults
use Rattle.line_reader.specs.declared.fault.LineReason.TheVariants.{TwiceNamed}
use Rattle.line_reader.proofs.Keeping.{either_false}
use Rattle.network_config.specs.Hosts.{is_listed}
use Rattle.network_config.specs.NodeRules.{KeepsEntry, KeepsLog}
use Rattle.network_config.specs.declared.node.Log.{Log}
use Rattle.network_config.specs.declared.event.LogEvent.{LogEvent}
use Rattle.network_config.specs.declared.event.LogEvent.TheVariants.{Step, Lost}
use Rattle.node_files.specs.Logs.{log_of}
use Rattle.node_files.proofs.LogLaws.{log_rules}
use Rattle.node_io.specs.FileMaps.{FileMap, file_at}
use Rattle.node_core_spec.specs.State.{new_node}
use Rattle.node_core_spec.specs.Fits.{NodeFits, comes_fit}
use Rattle.ledger_audit.specs.Audits.{Logged}
use Rattle.ledger_audit.specs.Spelling.{Begins, ReadsAgain}
use Rattle.ledger_audit.specs.Crossings.{Crossing}
use Rattle.ledger_audit.specs.Once.{EntriesFit, ComesFrom, FromTwo, HostsApart}
use Rattle.ledger_audit.specs.Pasts.{logged_of}
use Rattle.planet_commands.specs.declared.status.Refusal.TheVariants.{TooLong, Log as OfLog}
use Rattle.planet_commands.specs.Said.{Said, nothing, outside, says, said_by, said_at, line_limit, lines_said, said_then}
use Rattle.planet_commands_fleet.specs.Audits.{said_of, of_new_host, log_said, hosts_in, logs_said}
use Rattle.planet_commands_fleet.proofs.FileTaking.{says_same}
use Rattle.planet_cli.proofs.NodeKeeping.{event_fits, begins}

-- ---- one log

-- what the law of version 2 asks of a log, but for the version and the frames
pub record Kept (x : Logged) : Type 0 where
  pub fits : NodeFits x.node
  pub begin : Begins x
  pub entries : x.node.version ≡ Two → EntriesFit Two x.entries

entries_fit : (v : Version) (es : List LogEvent) → All (KeepsEntry v) es → v ≡ Two → EntriesFit Two es
entries_fit v [] a two = tt
entries_fit v (Step e ∷ es) a two =
    (subst (λ w. comes_fit w e) two (event_fits v e (All-head (KeepsEntry v) (Step e) es a)), entries_fit v es (All-tail (KeepsEntry v) (Step e) es a) two)
entries_fit v (Lost ∷ es) a two = entries_fit v es (All-tail (KeepsEntry v) Lost es a) two

log_kept : (l : Log) → KeepsLog l → Kept (logged_of l)
unfolding new_node
log_kept l k = record { fits = begins l.node l.missing k.node; begin = (l.node.link, refl); entries = λ two. entries_fit l.node.version l.events k.events two }

-- what a file is seen to say as a log keeps the rules of logs
said_keeps : (name : List ℕ) (files : FileMap) (l : Log) → lines_said log_of name files ≡ says l → KeepsLog l
said_keeps name files l e = by_file (file_at files name) e
  where
    by_read : (bytes : List ℕ) (r : Result Log LineFault) → log_of bytes ≡ r → said_by r ≡ says l → KeepsLog l
    by_read bytes (Ok v) is e = subst KeepsLog (says_same v l e) (log_rules bytes (Ok v) is)
    by_read bytes (Err (faults.Line n reason)) is e = absurd cc
    by_read bytes (Err faults.NoMemory) is e = absurd cc

    by_length : (bytes : List ℕ) (long : Bool) → cond long (outside TooLong) (said_by (log_of bytes)) ≡ says l → KeepsLog l
    by_length bytes true e = absurd cc
    by_length bytes false e = by_read bytes (log_of bytes) refl e

    by_file : (o : Option (List ℕ)) → said_at line_limit (λ b. said_by (log_of b)) o ≡ says l → KeepsLog l
    by_file None e = absurd cc
    by_file (Some bytes) e = by_length bytes (nat_lt line_limit (length bytes)) e

-- ---- all logs

all_push : (P : Logged → Type 0) (logs : List Log) (l : Log) → AllByRecursion P (map logged_of logs) → P (logged_of l) → AllByRecursion P (map logged_of (logs ++ l ∷ []))
all_push P [] l a h = (h, tt)
all_push P (x ∷ logs) l a h = (a.0, all_push P logs l a.1 h)

apart_push : (logs : List Log) (l : Log) → is_listed l.node.here (hosts_in logs) ≡ false → HostsApart (map logged_of logs) → HostsApart (map logged_of (logs ++ l ∷ []))
unfolding new_node
apart_push [] l e h = (tt, tt)
apart_push (x ∷ logs) l e h =
    let split = either_false (eqb x.node.here.0 l.node.here.0) (is_listed l.node.here (hosts_in logs)) e in
    (all_push (λ m. m.node.here.0 ≢ x.node.here.0) logs l h.0 (λ q. eqb-false x.node.here.0 l.node.here.0 split.0 (sym q)), apart_push logs l split.1 h.1)

pub record Apart (logs : List Log) : Type 0 where
  pub kept : AllByRecursion Kept (map logged_of logs)
  pub hosts : HostsApart (map logged_of logs)

none_apart : Apart []
none_apart = record { kept = tt; hosts = tt }

-- a log more that is said behind these
log_apart : (k : ℕ) (name : List ℕ) (logs : List Log) (l : Log) (files : FileMap) → log_said k (hosts_in logs) name files ≡ says l → Apart logs → Apart (logs ++ l ∷ [])
log_apart k name logs l files e a = by_said (lines_said log_of name files) refl e
  where
    by_listed : (m : Log) (b : Bool) → is_listed m.node.here (hosts_in logs) ≡ b → KeepsLog m → cond b (outside (OfLog k 2 TwiceNamed)) (says m) ≡ says l → Apart (logs ++ l ∷ [])
    by_listed m true is keeps q = absurd cc
    by_listed m false is keeps q =
        subst (λ x. Apart (logs ++ x ∷ [])) (says_same m l q) (record { kept = all_push Kept logs m a.kept (log_kept m keeps); hosts = apart_push logs m is a.hosts })

    by_said : (s : Said Log) → lines_said log_of name files ≡ s → said_then (said_of k s) (of_new_host k (hosts_in logs)) ≡ says l → Apart (logs ++ l ∷ [])
    by_said nothing is q = absurd cc
    by_said (outside r) is q = absurd cc
    by_said (says m) is q = by_listed m (is_listed m.node.here (hosts_in logs)) refl (said_keeps name files m is) q

-- what is said behind a log, once that is said
then_apart : (k : ℕ) (name : List ℕ) (before logs : List Log) (files : FileMap) → Apart before → (more : Log → Said (List Log)) → ((l : Log) → Apart (before ++ l ∷ []) → more l ≡ says logs → Apart logs)
    → (s : Said Log) → log_said k (hosts_in before) name files ≡ s → said_then s more ≡ says logs → Apart logs
then_apart k name before logs files a more next nothing is q = absurd cc
then_apart k name before logs files a more next (outside r) is q = absurd cc
then_apart k name before logs files a more next (says l) is q = next l (log_apart k name before l files is a) q

logs_apart : (names : List (List ℕ)) (before logs : List Log) (files : FileMap) → Apart before → logs_said names before files ≡ says logs → Apart logs
logs_apart [] before logs files a e = subst Apart (says_same before logs e) a
logs_apart (name ∷ names) before logs files a e =
    then_apart (length before + 1) name before logs files a (λ x. logs_said names (before ++ x ∷ []) files) (λ l b q. logs_apart names (before ++ l ∷ []) logs files b q)
    (log_said (length before + 1) (hosts_in before) name files) refl e

pub said_apart : (names : List (List ℕ)) (logs : List Log) (files : FileMap) → logs_said names [] files ≡ says logs → Apart logs
said_apart names logs files e = logs_apart names [] logs files none_apart e

-- ---- what the laws ask of them

pub begins_all : (ls : List Logged) → AllByRecursion Kept ls → AllByRecursion Begins ls
begins_all [] k = tt
begins_all (x ∷ ls) k = (k.0.begin, begins_all ls k.1)

two_all : (c : Crossing) (ls : List Logged) → AllByRecursion Kept ls → AllByRecursion ReadsAgain ls → AllByRecursion (λ x. ComesFrom c x.node.here → x.node.version ≡ Two) ls → FromTwo c ls
two_all c [] k r v = tt
two_all c (x ∷ ls) k r v =
    (λ from. record { version = v.0 from; fits = k.0.fits; begin = k.0.begin; entries = k.0.entries (v.0 from); read = r.0 }, two_all c ls k.1 r.1 v.1)

versions : (c : Crossing) (logs : List Log) → AllByRecursion (λ l. ComesFrom c l.node.here → l.node.version ≡ Two) logs
    → AllByRecursion (λ x. ComesFrom c x.node.here → x.node.version ≡ Two) (map logged_of logs)
unfolding new_node
versions c [] a = tt
versions c (l ∷ logs) a = (a.0, versions c logs a.1)

pub of_two : (c : Crossing) (logs : List Log) → Apart logs → AllByRecursion ReadsAgain (map logged_of logs) → AllByRecursion (λ l. ComesFrom c l.node.here → l.node.version ≡ Two) logs
    → FromTwo c (map logged_of logs)
of_two c logs a r v = two_all c (map logged_of logs) a.kept r (versions c logs v)
