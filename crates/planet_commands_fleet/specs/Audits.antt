-- The command `audit`: what its files say to it, and what is asked of them.
use Rattle.std.specs.Prelude.{◌≡◌, ℕ, ◌+◌, if◌then◌else◌, IsTrue, List, [], ◌∷◌, ◌++◌, length, map, take, Result, Ok, Err, IfOk, MatchResult}
use Rattle.std.specs.List.{AllByRecursion}
use Rattle.plan_base.specs.declared.ids.Host.{Host}
use Rattle.network_config.specs.Hosts.{is_listed}
use Rattle.network_config.specs.declared.node.Log.{Log}
use Rattle.node_files.specs.Logs.{log_of}
use Rattle.line_reader.specs.declared.fault.LineReason.TheVariants.{TwiceNamed}
use Rattle.node_io.specs.FileMaps.{FileMap, MayName}
use Rattle.node_io.specs.FileStates.{FilesState, OnlyReads}
use Rattle.node_io.specs.Sinks.{SinkState}
use Rattle.net_world_spec.specs.World.{Cables}
use Rattle.ledger_audit.specs.Spelling.{ReadsAgain}
use Rattle.command_files.specs.declared.audit.AuditFile.{AuditFile}
use Rattle.command_files.specs.AuditFiles.{audit_of}
use Rattle.ledger_audit.specs.declared.reckoning.AuditState.{AuditState}
use Rattle.ledger_audit.specs.Pasts.{IsReckoned, logged_of}
use Rattle.ledger_audit.specs.Ledgers.{verdict_of}
use Rattle.ledger_audit.specs.Texts.{audit_text}
use Rattle.planet_commands.specs.declared.status.Cause.{Cause}
use Rattle.planet_commands.specs.declared.status.Cause.TheVariants.{Refused}
use Rattle.planet_commands.specs.declared.status.Refusal.{Refusal}
use Rattle.planet_commands.specs.declared.status.Refusal.TheVariants.{Line, TooLong, Log as OfLog, LogTooLong}
use Rattle.planet_commands.specs.Said.{Said, nothing, outside, says, lines_said, said_then}
use Rattle.planet_commands.specs.Takes.{Untaken, TakeResult}
use Rattle.planet_commands.specs.Renders.{Prints}

-- the refusal of a file of lines, reported as that of the log with this number
abbrev pub refusal_of : ℕ → Refusal → Refusal
refusal_of k (Line n reason) = OfLog k n reason
refusal_of k TooLong = LogTooLong k
refusal_of k r = r

-- the same of a cause
abbrev pub cause_of : ℕ → Cause → Cause
cause_of k (Refused r) = Refused (refusal_of k r)
cause_of k c = c

-- what a file says as the log with this number
abbrev pub said_of : {A : Type 0} → ℕ → Said A → Said A
said_of k nothing = nothing
said_of k (outside r) = outside (refusal_of k r)
said_of k (says v) = says v

-- a log of a host that no log before it has
abbrev pub of_new_host : ℕ → List Host → Log → Said Log
of_new_host k hosts l = if is_listed l.node.here hosts then outside (OfLog k 2 TwiceNamed) else says l

-- what the file of this name says as the log with this number, behind those of these hosts
abbrev pub log_said : ℕ → List Host → List ℕ → FileMap → Said Log
log_said k hosts name files = said_then (said_of k (lines_said log_of name files)) (of_new_host k hosts)

abbrev pub hosts_in : List Log → List Host
hosts_in logs = map (λ l. l.node.here) logs

-- what the files of these names say, in order, behind these logs: all logs, or the first refusal
abbrev pub logs_said : List (List ℕ) → List Log → FileMap → Said (List Log)
logs_said [] logs files = says logs
logs_said (name ∷ names) logs files =
    said_then (log_said (length logs + 1) (hosts_in logs) name files) (λ l. logs_said names (logs ++ l ∷ []) files)

-- what is written of an audit's file and its logs
abbrev pub fit_text : AuditFile → List Log → List ℕ
fit_text a logs = audit_text (verdict_of a.links (map logged_of logs))

-- what the logs that a file names say
abbrev pub text_said : FileMap → AuditFile → Said (List ℕ)
text_said files a = said_then (logs_said a.logs [] files) (λ logs. says (fit_text a logs))

-- what the files say to `audit`: the text to write, or the first refusal
abbrev pub audit_said : List ℕ → FileMap → Said (List ℕ)
audit_said name files = said_then (lines_said audit_of name files) (text_said files)

-- each frame that these logs take is read again from its bytes
abbrev pub FramesRead : List Log → Type 0
FramesRead logs = AllByRecursion ReadsAgain (map logged_of logs)

-- ---- what is asked of the files

-- the names asked grew at most by these, in order, each once
abbrev pub MayNames : List (List ℕ) → List (List ℕ) → List (List ℕ) → Type 0
MayNames [] old new = new ≡ old
MayNames (name ∷ names) old new = (mid : List (List ℕ)) × (MayName old mid name × MayNames names mid new)

-- the logs that a file names, and none where it says none
abbrev pub names_in : Said AuditFile → List (List ℕ)
names_in (says a) = a.logs
names_in _ = []

-- the names asked grew at most by these, in order, each once, and up to the first that isn't of a log: those before the last
-- of them say these logs
pub record AsksLogs (names : List (List ℕ)) (old new : FilesState) : Type 0 where
  pub before : ℕ
  pub logs : List Log
  pub asked : MayNames (take (before + 1) names) old.asked new.asked
  pub say : IsTrue old.observable → logs_said (take before names) [] old.held ≡ says logs

-- the names asked grew at most by the file and by the logs that it names, in order, each once, and up to the first that isn't of
-- a log: those before the last of them say these logs
pub record AsksAlong (name : List ℕ) (old new : FilesState) : Type 0 where
  pub before : ℕ
  pub logs : List Log
  pub names : List (List ℕ)
  pub asked : MayNames (name ∷ names) old.asked new.asked
  pub named : IsTrue old.observable → names ≡ take (before + 1) (names_in (lines_said audit_of name old.held))
  pub say : IsTrue old.observable → logs_said (take before (names_in (lines_said audit_of name old.held))) [] old.held ≡ says logs

-- logs were read, and the code keeps what is to be kept of them; or the first one that wasn't read
abbrev pub LogsResult : Cables → List (List ℕ) → FilesState → FilesState → Result AuditState Cause → Type 0
LogsResult links names old new (Ok r) =
    (logs : List Log) × (IsReckoned links (map logged_of logs) r × (IsTrue old.observable → logs_said names [] old.held ≡ says logs))
LogsResult links names old new (Err cause) = Untaken (logs_said names []) old new cause

-- the files of these names were read, as far as they aren't refused
pub record TakesLogs (links : Cables) (names : List (List ℕ)) (old new : FilesState) (result : Result AuditState Cause) : Type 0 where
  pub only : OnlyReads old new
  pub asks : AsksLogs names old new
  pub did : LogsResult links names old new result

-- the logs that a file names were read, as far as they aren't refused, and where all say something their text is written
pub record AuditsRead (a : AuditFile) (files read : FilesState) (cause : Cause) (old new : SinkState) : Type 0 where
  pub taken : Result (List ℕ) Cause
  pub only : OnlyReads files read
  pub asks : AsksLogs a.logs files read
  pub did : TakeResult (λ held. text_said held a) files read taken
  pub frames : IfOk taken (λ text. IsTrue files.observable → (logs : List Log) → logs_said a.logs [] files.held ≡ says logs → FramesRead logs)
  pub acts : MatchResult taken (λ text. Prints text cause old new) (λ why. (cause ≡ why) × (new ≡ old))

-- the file and its logs were read, as far as they aren't refused, and where all of them say something its text is written
pub record AuditsFile (name : List ℕ) (files read : FilesState) (cause : Cause) (old new : SinkState) : Type 0 where
  pub taken : Result (List ℕ) Cause
  pub only : OnlyReads files read
  pub asked : AsksAlong name files read
  pub did : TakeResult (audit_said name) files read taken
  pub frames : IfOk taken (λ text. IsTrue files.observable → (a : AuditFile) (logs : List Log)
      → lines_said audit_of name files.held ≡ says a → logs_said a.logs [] files.held ≡ says logs → FramesRead logs)
  pub acts : MatchResult taken (λ text. Prints text cause old new) (λ why. (cause ≡ why) × (new ≡ old))
