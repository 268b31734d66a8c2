-- An audit that is done wrote the text of its logs; and what holds of logs that fit.
use Rattle.std.proofs.Common.{◌≡◌, ℕ, IsTrue, List, [], map, Some, Result, Ok, Err, IfOk, MatchResult, refl, sym, ap, ◌∙◌, subst}
use Rattle.node_io.specs.FileStates.{FilesState}
use Rattle.network_config.specs.declared.node.Log.{Log}
use Rattle.node_io.specs.Outsides.{Outside}
use Rattle.node_io.specs.Sinks.{SinkState, Writes}
use Rattle.ledger_audit.proofs.Balances.{adds_up}
use Rattle.ledger_audit.proofs.Sendings.{none_twice}
use Rattle.ledger_audit.specs.Pasts.{logged_of}
use Rattle.ledger_audit.specs.Ledgers.{verdict_of}
use Rattle.ledger_audit.proofs.VerdictLaws.{yes_fits, yes_sent}
use Rattle.command_files.specs.declared.audit.AuditFile.{AuditFile}
use Rattle.command_files.specs.AuditFiles.{audit_of}
use Rattle.planet_commands.specs.declared.status.Cause.{Cause}
use Rattle.planet_commands.specs.declared.status.Cause.TheVariants.{Done}
use Rattle.planet_commands.specs.Said.{says, lines_said, said_then}
use Rattle.planet_commands.specs.Takes.{Untaken, TakeResult}
use Rattle.planet_commands.specs.Renders.{Prints}
use Rattle.planet_commands_fleet.specs.Audits.{logs_said, fit_text, text_said, audit_said, FramesRead, AsksAlong, AuditsFile}
use Rattle.planet_cli.specs.Requests.{request_of, audit}
use Rattle.planet_cli.specs.Calls.{Calls}
use Rattle.planet_cli.specs.Outcomes.{whole, outcome_by, WritesOut}
use Rattle.planet_cli.specs.Audited.{Audits, Fit, AllAddUp, AcceptOnce}
use Rattle.planet_cli.proofs.Giving.{done_found, is_written}
use Rattle.planet_cli.proofs.FleetLogs.{said_apart, begins_all, of_two}

said_is : (words : List (List ℕ)) (old : Outside) (a : AuditFile) (logs : List Log) (r : Audits words old.files a logs) → audit_said r.file old.files.held ≡ says (fit_text a logs)
said_is words old a logs r =
    ap (λ s. said_then s (text_said old.files.held)) r.names ∙ ap (λ s. said_then s (λ l. says (fit_text a l))) r.says

pub audit_writes : (words : List (List ℕ)) (cause : Cause) (old new : Outside) (n m : SinkState) → Calls (request_of words) cause old new n m
    → (a : AuditFile) (logs : List Log) → Audits words old.files a logs → cause ≡ Done → Writes old.out new.out (fit_text a logs)
audit_writes words cause old new n m call a logs r done =
    subst (λ s. WritesOut (outcome_by whole s) old.out new.out) (said_is words old a logs r)
    (is_written (Some (audit r.file)) cause old new n m (subst (λ q. Calls q cause old new n m) r.asked call) r.seen done)

pub audit_asks : (file : List ℕ) (cause : Cause) (old new : Outside) (n m : SinkState) → Calls (Some (audit file)) cause old new n m → AsksAlong file old.files new.files
audit_asks file cause old new n m call = call.does.1.asked

-- ---- logs that fit

-- the frames of logs that were audited to the end are read again
file_reads : (name : List ℕ) (files read : FilesState) (cause : Cause) (old new : SinkState) (a : AuditFile) (logs : List Log) → AuditsFile name files read cause old new → cause ≡ Done
    → IsTrue files.observable → lines_said audit_of name files.held ≡ says a → logs_said a.logs [] files.held ≡ says logs → FramesRead logs
file_reads name files read cause old new a logs t done seen names said = by t.taken t.did t.acts t.frames
  where
    by : (taken : Result (List ℕ) Cause) → TakeResult (audit_said name) files read taken → MatchResult taken (λ text. Prints text cause old new) (λ why. (cause ≡ why) × (new ≡ old))
        → IfOk taken (λ text. IsTrue files.observable → (b : AuditFile) (ls : List Log) → lines_said audit_of name files.held ≡ says b → logs_said b.logs [] files.held ≡ says ls → FramesRead ls)
        → FramesRead logs
    by (Ok text) d p f = f seen a logs names said
    by (Err why) d p f = absurd (subst (Untaken (audit_said name) files read) (sym p.0 ∙ done) d)

module _ (words : List (List ℕ)) (cause : Cause) (old new : Outside) (n m : SinkState) (call : Calls (request_of words) cause old new n m)
    (a : AuditFile) (logs : List Log) (r : Audits words old.files a logs) (done : cause ≡ Done) (fit : Fit a.links logs) where
  audit_was_asked : Calls (Some (audit r.file)) cause old new n m
  audit_was_asked = subst (λ q. Calls q cause old new n m) r.asked call

  frames : FramesRead logs
  frames = file_reads r.file old.files new.files audit_was_asked.found old.out new.out a logs audit_was_asked.does.1 (done_found (Some (audit r.file)) cause old new n m audit_was_asked done) r.seen r.names r.says

  pub audit_adds : AllAddUp a.links logs
  audit_adds f =
      adds_up f a.links (map logged_of logs) (begins_all (map logged_of logs) (said_apart a.logs logs old.files.held r.says).kept) frames ((yes_sent a.links (map logged_of logs)).0 fit)

  pub audit_once : AcceptOnce a.links logs
  audit_once c two =
      let apart = said_apart a.logs logs old.files.held r.says in
      none_twice a.links (map logged_of logs) apart.hosts (yes_fits a.links (map logged_of logs) (verdict_of a.links (map logged_of logs)) refl fit) c (of_two c logs apart frames two)
