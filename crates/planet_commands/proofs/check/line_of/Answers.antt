use Rattle.std.proofs.Common.{◌≡◌, ◌⊎◌, inl, inr, ℕ, List, Err, refl, sym, ap, ◌∙◌, subst}
use Rattle.program_text.specs.declared.fault.TextFault.{TextFault}
use Rattle.program_text.specs.declared.fault.TextFault.TheVariants as texts
use Rattle.program_text.specs.Reasons.{fault_byte}
use Rattle.program_text.specs.Texts.{program_of}
use Rattle.file_laws.specs.ProgramRefusals.{HoldsNoMemory}
use Rattle.file_laws.proofs.ProgramTexts.{text_own}
use Rattle.planet_commands.specs.Causes.{text_cause}
use Rattle.planet_commands.specs.declared.status.Refusal.TheVariants.{At}
use Rattle.planet_commands.specs.declared.status.Cause.{Cause}
use Rattle.planet_commands.specs.declared.status.Cause.TheVariants.{Refused}
use Rattle.planet_commands.specs.Takes.{Refuses}
use Rattle.planet_commands.specs.Checks.{sizes_of, program_said}
use Rattle.planet_commands.proofs.check.line_of.Goals as goal

-- the cause of a refusal that holds no `NoMemory` is the refusal
text_told : (fault : TextFault) → HoldsNoMemory fault → text_cause fault ≡ Refused (At (fault_byte fault) fault)
text_told (texts.Lex f) own = refl
text_told (texts.Parse f) own = refl
text_told (texts.Ty f at) own = refl
text_told texts.NoMemory own = absurd own

-- a text that is no program
text_refused : (text : List ℕ) (fault : TextFault) (cause : Cause) → (fault ≡ texts.NoMemory) ⊎ (program_of text ≡ Err fault) → cause ≡ text_cause fault → Refuses (program_said text) cause
unfolding program_said
text_refused text fault cause (inl none) is = subst (Refuses (program_said text)) (sym (is ∙ ap text_cause none)) tt
text_refused text fault cause (inr e) is =
    let own = text_own text fault e in
    subst (Refuses (program_said text)) (sym (is ∙ text_told fault own)) (own, ap sizes_of e)

pub returns-in-Err : goal.returns-in-Err
returns-in-Err c = text_refused _ _ _ c.in-Err.ensures.fault c.from.ensures
