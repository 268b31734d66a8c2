-- Refusals of what bytes say, by cases of what they hold.
use Rattle.std.proofs.Common.{◌≡◌, ◌⊎◌, inl, inr, ℕ, List, Result, Err, refl, sym, ap, ◌∙◌, subst}
use Rattle.line_reader.specs.declared.fault.LineFault.{LineFault}
use Rattle.line_reader.specs.declared.fault.LineFault.TheVariants as faults
use Rattle.packet_frame.specs.Decoding.{read_by}
use Rattle.file_laws.specs.Refusals.{FaultHolds}
use Rattle.planet_commands.specs.Causes.{cause_of}
use Rattle.planet_commands.specs.declared.status.Refusal.TheVariants.{Line}
use Rattle.planet_commands.specs.declared.status.Cause.{Cause}
use Rattle.planet_commands.specs.declared.status.Cause.TheVariants.{Done, Usage, Refused, ReadFault, WriteFault, LinkFault, SpawnFault, NoMemory, NodesFailed}
use Rattle.planet_commands.specs.Said.{Said, outside, said_by, said_then}
use Rattle.planet_commands.specs.Takes.{Refuses}
use Rattle.planet_commands.specs.Shows.{version_shown, framed_said, decoded_said}

line_refuses : (A : Type 0) (fault : LineFault) (cause : Cause) → FaultHolds fault → cause ≡ cause_of fault → Refuses {A = A} (said_by (Err fault)) cause
line_refuses A (faults.Line n reason) cause own is = subst (Refuses {A = A} (outside (Line n reason))) (sym is) (own, refl)
line_refuses A faults.NoMemory cause own is = absurd own

-- what a reader of lines answered, of which no first refusal is or holds `NoMemory`
pub lines_refuse : {A : Type 0} (read : Result A LineFault) (fault : LineFault) (cause : Cause) → ((e : LineFault) → read ≡ Err e → FaultHolds e) → (fault ≡ faults.NoMemory) ⊎ (read ≡ Err fault) → cause ≡ cause_of fault
    → Refuses (said_by read) cause
lines_refuse {A} read fault cause own (inr e) is = subst (λ x. Refuses (said_by x) cause) (sym e) (line_refuses A fault cause (own fault e) is)
lines_refuse read fault cause own (inl none) is =
    let wants : cause ≡ NoMemory = is ∙ ap cause_of none in
    subst (Refuses (said_by read)) (sym wants) tt

-- where no value is said, nothing is said of it
pub then_refuses : {A B : Type 0} (said : Said A) (more : A → Said B) (cause : Cause) → Refuses said cause → Refuses (said_then said more) cause
then_refuses said more (Refused r) h = (h.0, ap (λ s. said_then s more) h.1)
then_refuses said more NoMemory h = tt
then_refuses said more Done h = elim h [ ]
then_refuses said more Usage h = elim h [ ]
then_refuses said more ReadFault h = elim h [ ]
then_refuses said more WriteFault h = elim h [ ]
then_refuses said more LinkFault h = elim h [ ]
then_refuses said more SpawnFault h = elim h [ ]
then_refuses said more (NodesFailed host s) h = elim h [ ]

-- bytes that no hex digits stand for
pub decoding_still_refuses : (said : Said (List ℕ)) (cause : Cause) → Refuses said cause → Refuses (decoded_said said) cause
decoding_still_refuses said cause h = then_refuses said (λ bytes. framed_said (read_by (version_shown bytes) bytes)) cause h
