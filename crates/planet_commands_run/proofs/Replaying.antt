-- What a file that is replayed says, by what was read of it.
use Rattle.std.proofs.Common.{◌≡◌, ◌⊎◌, inl, inr, ℕ, true, false, if◌then◌else◌, List, Result, Ok, Err, refl, sym, ap, ◌∙◌, subst}
use Rattle.network_config.specs.declared.schedule.Schedule.{Schedule}
use Rattle.network_config.specs.declared.node.Log.{Log}
use Rattle.line_reader.specs.declared.fault.LineFault.{LineFault}
use Rattle.line_reader.specs.declared.fault.LineFault.TheVariants as faults
use Rattle.schedule_text.specs.Schedules.{schedule_of}
use Rattle.node_files.specs.Logs.{log_of}
use Rattle.node_io.specs.Sinks.{SinkState}
use Rattle.file_laws.specs.Refusals.{FaultHolds}
use Rattle.file_laws.proofs.ScheduleHolds.{schedule_holds}
use Rattle.file_laws.proofs.LogHolds.{log_holds}
use Rattle.planet_commands.specs.Causes.{cause_of}
use Rattle.planet_commands.specs.declared.status.Cause.{Cause}
use Rattle.planet_commands.specs.declared.status.Cause.TheVariants.{NoMemory}
use Rattle.planet_commands.specs.Takes.{Refuses}
use Rattle.planet_commands.specs.Renders.{Prints, Renders}
use Rattle.planet_commands.proofs.Rendering.{renders_none, renders_text}
use Rattle.planet_commands_run.specs.Schedules.{Replayed, as_log, is_header_fault, replayed_by, replayed_of, replay_text, log_trace, run_said, schedule_said}

line_refuses : (fault : LineFault) (cause : Cause) → FaultHolds fault → cause ≡ cause_of fault → Refuses (run_said (Err fault)) cause
line_refuses (faults.Line n reason) cause own is = subst (Refuses (run_said (Err (faults.Line n reason)))) (sym is) (own, refl)
line_refuses faults.NoMemory cause own is = absurd own

-- why bytes say nothing to replay: memory, or a first refusal that is none and holds none
abbrev Unread : Result Replayed LineFault → LineFault → Type 0
Unread read fault = (fault ≡ faults.NoMemory) ⊎ (FaultHolds fault × (read ≡ Err fault))

run_refuses : (read : Result Replayed LineFault) (fault : LineFault) (cause : Cause) → Unread read fault → cause ≡ cause_of fault → Refuses (run_said read) cause
run_refuses read fault cause (inr u) is = subst (λ x. Refuses (run_said x) cause) (sym u.1) (line_refuses fault cause u.0 is)
run_refuses read fault cause (inl none) is =
    let wants : cause ≡ NoMemory = is ∙ ap cause_of none in
    subst (Refuses (run_said read)) (sym wants) tt

module _ (bytes : List ℕ) where
  no_text : (fault : LineFault) (cause : Cause) (s : SinkState) → Unread (replayed_of bytes) fault → cause ≡ cause_of fault → Renders (schedule_said bytes) cause s s
  unfolding schedule_said
  no_text fault cause s h is = renders_none (schedule_said bytes) cause s (run_refuses (replayed_of bytes) fault cause h is)

  -- a schedule
  pub schedule_printed : (x : Schedule) (cause : Cause) (a b : SinkState) → schedule_of bytes ≡ Ok x → Prints (replay_text x) cause a b → Renders (schedule_said bytes) cause a b
  unfolding schedule_said
  schedule_printed x cause a b e p = renders_text (schedule_said bytes) (replay_text x) cause a b (ap (λ r. run_said (replayed_by r bytes)) e) p

  module _ (fault : LineFault) (h : (fault ≡ faults.NoMemory) ⊎ (schedule_of bytes ≡ Err fault)) where
    pub other_header : is_header_fault fault ≡ true → replayed_of bytes ≡ as_log (log_of bytes)
    other_header b = elim h [
      | inl none ↦ absurd (let e : false ≡ is_header_fault fault = sym (ap is_header_fault none) in cc)
      | inr e ↦ ap (λ r. replayed_by r bytes) e ∙ ap (λ t. if t then as_log (log_of bytes) else Err fault) b
    ]

    pub schedule_refused : (cause : Cause) (s : SinkState) → is_header_fault fault ≡ false → cause ≡ cause_of fault → Renders (schedule_said bytes) cause s s
    schedule_refused cause s b is = elim h [
      | inl none ↦ no_text fault cause s (inl none) is
      | inr e ↦ no_text fault cause s (inr (schedule_holds bytes fault e, ap (λ r. replayed_by r bytes) e ∙ ap (λ t. if t then as_log (log_of bytes) else Err fault) b)) is
    ]

  -- a log
  module _ (other : replayed_of bytes ≡ as_log (log_of bytes)) where
    pub log_printed : (x : Log) (cause : Cause) (a b : SinkState) → log_of bytes ≡ Ok x → Prints (log_trace x) cause a b → Renders (schedule_said bytes) cause a b
    unfolding schedule_said
    log_printed x cause a b e p = renders_text (schedule_said bytes) (log_trace x) cause a b (ap run_said (other ∙ ap as_log e)) p

    pub log_refused : (fault : LineFault) (cause : Cause) (s : SinkState) → (fault ≡ faults.NoMemory) ⊎ (log_of bytes ≡ Err fault) → cause ≡ cause_of fault → Renders (schedule_said bytes) cause s s
    log_refused fault cause s h is = elim h [
      | inl none ↦ no_text fault cause s (inl none) is
      | inr e ↦ no_text fault cause s (inr (log_holds bytes fault e, other ∙ ap as_log e)) is
    ]
