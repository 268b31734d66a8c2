-- How `grow` ends, and what a cut note is.
use Rattle.std.proofs.Common.{◌≡◌, ◌⊎◌, inl, inr, ℕ, Option, Some, refl, ◌∙◌, subst}
use Rattle.node_io.specs.Causes.{HasRisen}
use Rattle.node_io.specs.Outsides.{Outside}
use Rattle.node_io.specs.Sinks.{SinkState, Writes, FailsIn}
use Rattle.planet_commands.specs.Notes.{note_text, Notes, told, no_memory, failed}
use Rattle.planet_commands.specs.declared.status.Cause.{Cause}
use Rattle.planet_commands.specs.declared.status.Cause.TheVariants.{Done, WriteFault, NoMemory}
use Rattle.planet_cli.specs.Requests.{Request, grow}
use Rattle.planet_cli.specs.Calls.{Calls}
use Rattle.planet_cli.proofs.Asking.{grown_so}
use Rattle.planet_cli.proofs.Giving.{call_gives_cause}

pub grow_so : (seed k : ℕ) (cause : Cause) (old new : Outside) (n m : SinkState) → Calls (Some (grow seed k)) cause old new n m
    → (cause ≡ Done) ⊎ ((cause ≡ NoMemory) ⊎ ((cause ≡ WriteFault) × (HasRisen old.out.faults new.out.faults ⊎ HasRisen n.faults m.faults)))
grow_so seed k cause old new n m call = elim (call_gives_cause (Some (grow seed k)) cause old new n m call) [
  | inl same ↦ elim (grown_so seed k call.found old.out new.out call.does.1) [
    | inl done ↦ inl (same ∙ done)
    | inr other ↦ elim other [ inl poor ↦ inr (inl (same ∙ poor)) | inr w ↦ inr (inr (same ∙ w.0, inl w.1)) ]
  ]
  | inr other ↦ elim other [ inl poor ↦ inr (inl poor) | inr unwritten ↦ inr (inr (unwritten.0, inr unwritten.1)) ]
]

cut_by : (found cause : Cause) (n m : SinkState) → Notes found n m cause → Writes n m (note_text cause) ⊎ ((cause ≡ WriteFault) × (FailsIn n m (note_text found) ⊎ FailsIn n m (note_text NoMemory)))
cut_by found cause n m (told w) = inl w
cut_by found cause n m (no_memory w) = inl w
cut_by found cause n m (failed note is f) = inr (refl, elim is [ inl e ↦ inl (subst (λ c. FailsIn n m (note_text c)) e f) | inr e ↦ inr (subst (λ c. FailsIn n m (note_text c)) e f) ])

pub cut_note : (q : Option Request) (cause : Cause) (old new : Outside) (n m : SinkState) (call : Calls q cause old new n m)
    → Writes n m (note_text cause) ⊎ ((cause ≡ WriteFault) × (FailsIn n m (note_text call.found) ⊎ FailsIn n m (note_text NoMemory)))
cut_note q cause old new n m call = cut_by call.found cause n m call.notes
