-- What a file says to `replay`, by what it says; one that says a log begins as no schedule.
use Rattle.std.proofs.Common.{◌≡◌, ℕ, Bool, true, false, List, [], ◌∷◌, Option, Some, None, Ok, Err, refl, ap, ◌∙◌}
use Rattle.std.specs.Prelude.{if◌then◌else◌}
use Rattle.std.specs.Str.{bytes_eq}
use Rattle.std.proofs.lemmas.Slice.Eq.{bytes_eq-Decides}
use lib.Chars.{codes}
use Rattle.plan_base.specs.declared.stamp.Version.{Version}
use Rattle.plan_base.specs.declared.stamp.Version.TheVariants.{One, Two}
use Rattle.network_config.specs.declared.schedule.Schedule.{Schedule}
use Rattle.network_config.specs.declared.node.Log.{Log}
use Rattle.line_reader.specs.declared.fault.LineFault.TheVariants as faults
use Rattle.line_reader.specs.declared.fault.LineReason.TheVariants.{BadHeader}
use Rattle.line_reader.specs.Headers.{version_in}
use Rattle.line_reader.specs.Lines.{lines}
use Rattle.line_reader.specs.Files.{read_on}
use Rattle.schedule_text.specs.Schedules.{schedule_of, schedule_format, step, nothing_read}
use Rattle.node_files.specs.Logs.{log_of, log_format, log_step_at, nothing_logged}
use Rattle.planet_commands.specs.Said.{says}
use Rattle.planet_commands_run.specs.Schedules.{replayed_by, replayed_of, as_log, replay_text, log_trace, run_said, schedule_said}

-- a first line is not that of a schedule and of a log
other_line : (line : List ℕ) (v : Version) → version_in (codes "planet log ") line ≡ Some v → version_in (codes "planet schedule ") line ≡ None
other_line line v is = by (bytes_eq line (codes "planet log 1")) (bytes_eq line (codes "planet log 2")) refl refl is
  where
    by : (a b : Bool) → bytes_eq line (codes "planet log 1") ≡ a → bytes_eq line (codes "planet log 2") ≡ b → (if a then Some One else if b then Some Two else None) ≡ Some v
        → version_in (codes "planet schedule ") line ≡ None
    by true b p q e = ap (version_in (codes "planet schedule ")) ((bytes_eq-Decides line (codes "planet log 1")).0 p)
    by false true p q e = ap (version_in (codes "planet schedule ")) ((bytes_eq-Decides line (codes "planet log 2")).0 q)
    by false false p q e = absurd cc

-- a log's first line
log_begins : (ls : List (List ℕ)) (l : Log) → read_on log_format 1 ls nothing_logged ≡ Ok l → read_on schedule_format 1 ls nothing_read ≡ Err (faults.Line 1 BadHeader)
unfolding read_on log_step_at step
log_begins [] l e = absurd (cc)
log_begins (line ∷ more) l e = by_header (version_in (codes "planet log ") line) refl e
  where
    by_header : (o : Option Version) → version_in (codes "planet log ") line ≡ o → read_on log_format 1 (line ∷ more) nothing_logged ≡ Ok l
        → read_on schedule_format 1 (line ∷ more) nothing_read ≡ Err (faults.Line 1 BadHeader)
    by_header (Some v) is h = rw (other_line line v is) refl
    by_header None is h = absurd (cc)

-- so what it says is the log
log_replayed : (bytes : List ℕ) (l : Log) → log_of bytes ≡ Ok l → replayed_of bytes ≡ as_log (log_of bytes)
unfolding schedule_of
log_replayed bytes l e = ap (λ s. replayed_by s bytes) (log_begins (lines bytes) l e)

-- a file that says a log says its trace to `replay`
pub log_said : (bytes : List ℕ) (l : Log) → log_of bytes ≡ Ok l → schedule_said bytes ≡ says (log_trace l)
unfolding schedule_said
log_said bytes l e = ap run_said (log_replayed bytes l e ∙ ap as_log e)

-- and one that says a schedule its run
pub replay_said_is : (bytes : List ℕ) (s : Schedule) → schedule_of bytes ≡ Ok s → schedule_said bytes ≡ says (replay_text s)
unfolding schedule_said
replay_said_is bytes s e = ap (λ r. run_said (replayed_by r bytes)) e
