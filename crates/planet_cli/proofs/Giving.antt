-- From what a call found to what it gives, with its note.
use Rattle.std.proofs.Common.{◌≡◌, ◌≢◌, ◌⊎◌, inl, inr, IsTrue, Option, Some, None, refl, sym, ◌∙◌, subst}
use Rattle.node_io.specs.Causes.{HasRisen}
use Rattle.node_io.specs.FileMaps.{FileMap}
use Rattle.node_io.specs.Outsides.{Outside}
use Rattle.node_io.specs.Sinks.{SinkState, Writes, FailsIn}
use Rattle.planet_commands.specs.Causes.{IfRefused, Gives}
use Rattle.planet_commands.specs.Own.{IsOwn}
use Rattle.planet_commands.specs.Notes.{note_text, Notes, told, no_memory, failed}
use Rattle.planet_commands.specs.declared.status.Cause.{Cause}
use Rattle.planet_commands.specs.declared.status.Cause.TheVariants.{Done, Usage, Refused, ReadFault, WriteFault, LinkFault, SpawnFault, NoMemory, NodesFailed}
use Rattle.planet_commands.specs.declared.status.Refusal.{Refusal}
use Rattle.planet_commands.proofs.Telling.{notes_give}
use Rattle.planet_cli.specs.Kinds.{file_said}
use Rattle.planet_cli.specs.Requests.{Request, on_file, inject, fleet, audit, node, grow}
use Rattle.fleet_run.specs.Asks.{ask_line}
use Rattle.planet_commands.specs.Said.{Said, nothing, outside, says}
use Rattle.planet_commands_fleet.specs.Audits.{audit_said}
use Rattle.planet_commands_fleet.specs.Asks.{ask_said}
use Rattle.planet_commands_fleet.specs.Fleets.{fleet_said}
use Rattle.planet_commands_fleet.specs.Nodes.{config_said}
use Rattle.planet_cli.specs.Calls.{Calls}
use Rattle.planet_cli.specs.Outcomes.{Outcome, unasked, refused, whole, runs, outcome_by, outcome_of, IsWhole, IsAccepted, WritesOut, BeginsOut}
use Rattle.planet_cli.specs.Laws.{WhereInjected}
use Rattle.planet_cli.proofs.Ending.{ends}

module _ (found given : Cause) (X : Type 0) (gives : Gives found given X) where
  -- a fact of the cause that holds of `NoMemory` and of a fault of writing
  pub fact_carries_over : (P : Cause → Type 0) → P NoMemory → P WriteFault → P found → P given
  fact_carries_over P m w h = elim gives [
    | inl same ↦ subst P (sym same) h
    | inr other ↦ elim other [ inl none ↦ subst P (sym none) m | inr unwritten ↦ subst P (sym unwritten.0) w ]
  ]

  -- another cause is what was found
  pub found_so : (c : Cause) → NoMemory ≢ c → WriteFault ≢ c → given ≡ c → found ≡ c
  found_so c m w e = fact_carries_over (λ g. g ≡ c → found ≡ c) (λ n. absurd (m n)) (λ n. absurd (w n)) (λ n. n) e

  -- where no note failed, what was found is given, or `NoMemory`
  pub found_is_given : (wanted : Cause) → (found ≡ wanted) ⊎ (found ≡ NoMemory) → Gives wanted given X
  found_is_given wanted h = elim gives [
    | inl same ↦ elim h [ inl e ↦ inl (same ∙ e) | inr n ↦ inr (inl (same ∙ n)) ]
    | inr other ↦ inr other
  ]

  pub well : (¬ X) → (found ≡ Done) ⊎ (found ≡ NoMemory) → (given ≡ Done) ⊎ (given ≡ NoMemory)
  well written h = elim (found_is_given Done h) [
    | inl e ↦ inl e
    | inr other ↦ elim other [ inl n ↦ inr n | inr w ↦ absurd (written w.1) ]
  ]

of_refusal : {P Q : Refusal → Type 0} (c : Cause) → ((r : Refusal) → P r → Q r) → IfRefused c P → IfRefused c Q
of_refusal (Refused r) f h = f r h
of_refusal Done f h = tt
of_refusal Usage f h = tt
of_refusal ReadFault f h = tt
of_refusal WriteFault f h = tt
of_refusal LinkFault f h = tt
of_refusal SpawnFault f h = tt
of_refusal NoMemory f h = tt
of_refusal (NodesFailed host s) f h = tt

note_written : (found given : Cause) (n m : SinkState) → Notes found n m given → Writes n m (note_text given) ⊎ ((given ≡ WriteFault) × ((note : Cause) × FailsIn n m (note_text note)))
note_written found given n m (told w) = inl w
note_written found given n m (no_memory w) = inl w
note_written found given n m (failed cause is f) = inr (refl, (cause, f))

-- only words that are no command ask for nothing
made_asked : {A : Type 0} (made : A → Outcome) (s : Said A) → ((v : A) → made v ≢ unasked) → outcome_by made s ≢ unasked
made_asked made nothing h e = cc
made_asked made (outside r) h e = cc
made_asked made (says v) h e = h v e

asked_none : (q : Option Request) (files : FileMap) → outcome_of q files ≡ unasked → q ≡ None
asked_none None files e = refl
asked_none (Some (on_file kind file)) files e = absurd (made_asked whole (file_said kind file files) (λ v h. cc) e)
asked_none (Some (inject file)) files e = absurd (made_asked (λ a. whole (ask_line a)) (ask_said file files) (λ v h. cc) e)
asked_none (Some (fleet file)) files e = absurd (made_asked (λ f. runs) (fleet_said file files) (λ v h. cc) e)
asked_none (Some (node file turns)) files e = absurd (made_asked (λ c. runs) (config_said file files) (λ v h. cc) e)
asked_none (Some (grow seed k)) files e = absurd (cc)
asked_none (Some (audit file)) files e = absurd (made_asked whole (audit_said file files) (λ v h. cc) e)

module _ (q : Option Request) (cause : Cause) (old new : Outside) (n m : SinkState) (call : Calls q cause old new n m) where
  pub call_gives_cause : Gives call.found cause (HasRisen n.faults m.faults)
  call_gives_cause = notes_give call.found cause n m call.notes

  pub usage_asks : cause ≡ Usage → q ≡ None
  usage_asks e = asked_none q old.files.held ((ends q call.found old new call.does).usage (found_so call.found cause (HasRisen n.faults m.faults) call_gives_cause Usage (λ x. cc) (λ x. cc) e))

  refusal : IfRefused cause (λ r. IsOwn r × ((IsTrue old.files.observable → outcome_of q old.files.held ≡ refused r) × (new.out ≡ old.out)))
  refusal = fact_carries_over call.found cause (HasRisen n.faults m.faults) call_gives_cause
      (λ c. IfRefused c (λ r. IsOwn r × ((IsTrue old.files.observable → outcome_of q old.files.held ≡ refused r) × (new.out ≡ old.out)))) tt tt (ends q call.found old new call.does).refusal

  pub is_refused : IsTrue old.files.observable → IfRefused cause (λ r. outcome_of q old.files.held ≡ refused r)
  is_refused seen = of_refusal cause (λ r h. h.1.0 seen) refusal

  pub is_own : IfRefused cause IsOwn
  is_own = of_refusal cause (λ r h. h.0) refusal

  pub is_silent : IfRefused cause (λ r. new.out ≡ old.out)
  is_silent = of_refusal cause (λ r h. h.1.1) refusal

  pub is_told : IsTrue old.files.observable → (r : Refusal) → outcome_of q old.files.held ≡ refused r → ¬ (HasRisen old.files.read_faults new.files.read_faults)
      → Gives (Refused r) cause (HasRisen n.faults m.faults)
  is_told seen r e p = found_is_given call.found cause (HasRisen n.faults m.faults) call_gives_cause (Refused r) ((ends q call.found old new call.does).told seen r e p)

  pub done_found : cause ≡ Done → call.found ≡ Done
  done_found e = found_so call.found cause (HasRisen n.faults m.faults) call_gives_cause Done (λ x. cc) (λ x. cc) e

  pub is_accepted : IsTrue old.files.observable → cause ≡ Done → IsAccepted (outcome_of q old.files.held)
  is_accepted seen e = (ends q call.found old new call.does).accepted seen (done_found e)

  pub is_written : IsTrue old.files.observable → cause ≡ Done → WritesOut (outcome_of q old.files.held) old.out new.out
  is_written seen e = (ends q call.found old new call.does).done seen (done_found e)

  pub is_begun : IsTrue old.files.observable → BeginsOut (outcome_of q old.files.held) old.out new.out
  is_begun seen = (ends q call.found old new call.does).begun seen

  pub is_complete : IsTrue old.files.observable → IsWhole (outcome_of q old.files.held) → ¬ (HasRisen old.files.read_faults new.files.read_faults) → ¬ (HasRisen old.out.faults new.out.faults)
      → ¬ (HasRisen n.faults m.faults) → WhereInjected q (¬ (HasRisen old.link.faults new.link.faults)) → (cause ≡ Done) ⊎ (cause ≡ NoMemory)
  is_complete seen w p f k l = well call.found cause (HasRisen n.faults m.faults) call_gives_cause k ((ends q call.found old new call.does).complete seen w p f l)

  -- the note of the cause was written, or the notes failed in the note of what was found or of `NoMemory`
  pub is_noted : Writes n m (note_text cause) ⊎ ((cause ≡ WriteFault) × ((note : Cause) × FailsIn n m (note_text note)))
  is_noted = note_written call.found cause n m call.notes

-- words that are no command
pub usage_given : (cause : Cause) (old new : Outside) (n m : SinkState) → Calls None cause old new n m → Gives Usage cause (HasRisen n.faults m.faults)
usage_given cause old new n m call = subst (λ f. Gives f cause (HasRisen n.faults m.faults)) call.does.0 (call_gives_cause None cause old new n m call)
