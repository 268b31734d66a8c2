-- What the answer of the checking says of a program.
use Rattle.std.proofs.Common.{◌≡◌, ◌≢◌, ◌∙◌, refl, subst}
use Rattle.std.specs.Prelude.{Result, Ok, Err, IsErrAnd, MatchResult}
use Rattle.plan_base.specs.declared.tree.Program.{Program}
use Rattle.plan_types_spec.specs.declared.type_fault.TypeFault.{TypeFault}
use Rattle.plan_types_spec.specs.declared.type_fault.TypeFault.TheVariants.{NoMemory}
use Rattle.plan_base.specs.WellFormed.{IsWellFormedProgram, ProgramHasTypes}
use Rattle.plan_types_spec.specs.Typing.{Typed}
use Rattle.plan_types_spec.specs.TypingFills.{Fills}
use Rattle.plan_types_spec.specs.TypingOrder.{annotated_program}
use Rattle.plan_types.specs.Checks.{Gives}
use Rattle.checked_chunks.specs.Kept.{IsChecked}
use Rattle.plan_types.proofs.Formed.{filled_formed}
use Rattle.checked_chunks.proofs.Whole.{program_whole}
use Rattle.plan_types_spec.proofs.Programs.{annotated_sound, annotated_complete, fills_itself, fills_full, depths_kept}

-- an answer fills the draft in, and keeps what a checked program keeps
pub checked_by : (d k : Program) → annotated_program d ≡ Ok k → IsWellFormedProgram d → Fills d k × IsChecked k
checked_by d k h w =
    let a = annotated_sound d k h in
    (a.0, record { typed = a.1; formed = filled_formed d k w a.0; full = program_whole k a.1 })

-- where no type is missing, the program itself keeps it
pub full_by : (d k : Program) → annotated_program d ≡ Ok k → IsWellFormedProgram d → ProgramHasTypes d → IsChecked d
full_by d k h w f =
    let a = annotated_sound d k h in
    record { typed = subst (λ z. Typed z) (fills_full d k f a.0) a.1; formed = w; full = f }

no_memory_by : (f : TypeFault) → (f ≢ NoMemory → ⊥) → f ≡ NoMemory
no_memory_by NoMemory h = refl
no_memory_by _ h = absurd (h (λ e. cc))

matched_by : (d p : Program) (r : Result Program TypeFault) → Gives (annotated_program d) r → annotated_program d ≡ Ok p → MatchResult r (λ k. k ≡ p) (λ f. f ≡ NoMemory)
matched_by d p (Ok k) h e = cc
matched_by d p (Err f) h e = no_memory_by f (λ n. let w = h n in cc)

-- where a typed program fills the draft in, it is the answer
pub only_by : (d p : Program) (r : Result Program TypeFault) → Gives (annotated_program d) r → IsWellFormedProgram d → Fills d p → Typed p → MatchResult r (λ k. k ≡ p) (λ f. f ≡ NoMemory)
only_by d p r h w f t = matched_by d p r h (annotated_complete d p (depths_kept d w) f t)

pub refused_only : (d p : Program) (r : Result Program TypeFault) (e : TypeFault) → IsErrAnd r (λ f. f ≡ e) → Gives (annotated_program d) (Err e) → IsWellFormedProgram d → Fills d p → Typed p → MatchResult r (λ k. k ≡ p) (λ f. f ≡ NoMemory)
refused_only d p (Ok k) e h g w f t = absurd h
refused_only d p (Err x) e h g w f t = h ∙ only_by d p (Err e) g w f t

-- a typed program is the answer itself
pub typed_by : (d : Program) (r : Result Program TypeFault) → Gives (annotated_program d) r → IsWellFormedProgram d → Typed d → MatchResult r (λ k. k ≡ d) (λ f. f ≡ NoMemory)
typed_by d r h w t = matched_by d d r h (annotated_complete d d (depths_kept d w) (fills_itself d t) t)
