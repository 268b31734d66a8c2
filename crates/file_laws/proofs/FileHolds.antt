-- What each line of a file refuses, the file refuses.
use Rattle.std.proofs.Common.{◌≡◌, ℕ, ◌+◌, Bool, true, false, cond, List, [], ◌∷◌, Option, Some, None, Result, Ok, Err, refl, ap, subst}
use Rattle.plan_base.specs.declared.stamp.Version.{Version}
use Rattle.line_reader.specs.declared.fault.LineReason.{LineReason}
use Rattle.line_reader.specs.declared.fault.LineReason.TheVariants.{BadHeader}
use Rattle.line_reader.specs.declared.fault.LineFault.{LineFault}
use Rattle.line_reader.specs.declared.fault.LineFault.TheVariants as faults
use Rattle.line_reader.specs.Lines.{lines}
use Rattle.line_reader.specs.Reads.{and_then}
use Rattle.line_reader.specs.Files.{Format, at_line, read_on, file_of}
use Rattle.line_reader.specs.Headers.{next_by_version}
use Rattle.line_reader.proofs.LineLaws.{err_is}
use Rattle.file_laws.specs.Refusals.{FaultHolds}
use Rattle.file_laws.proofs.LineHolds.{Holds}

-- what holds of a refusal
abbrev pub OnRefusal : {A : Type 0} → Result A LineFault → Type 0
OnRefusal r = (e : LineFault) → r ≡ Err e → FaultHolds e

pub done_refuses : {A : Type 0} (x : A) → OnRefusal {A = A} (Ok x)
done_refuses x e q = absurd cc

pub none_refuses : {A : Type 0} (d : LineFault) → FaultHolds d → OnRefusal {A = A} (Err d)
none_refuses {A} d h e q = subst FaultHolds (err_is {B = A} d e q) h

pub either_refuses : {A : Type 0} (t : Bool) (a b : Result A LineFault) → OnRefusal a → OnRefusal b → OnRefusal (cond t a b)
either_refuses true a b h k = h
either_refuses false a b h k = k

pub at_line_refuses : {A : Type 0} (number : ℕ) (r : Result A LineReason) → Holds r → OnRefusal (at_line number r)
at_line_refuses number (Ok x) h = done_refuses x
at_line_refuses number (Err d) h = none_refuses (faults.Line number d) (h d refl)

pub version_holds : {A : Type 0} (number : ℕ) (next : Version → A) (v : Option Version) → OnRefusal (next_by_version number next v)
version_holds number next (Some version) = done_refuses (next version)
version_holds number next None = none_refuses (faults.Line number BadHeader) tt

then_refuses : {S T : Type 0} (r : Result S LineFault) (f : S → Result T LineFault) → OnRefusal r → ((x : S) → OnRefusal (f x)) → OnRefusal (and_then r f)
then_refuses (Ok x) f h k e q = k x e q
then_refuses {S} {T} (Err d) f h k e q = h e (ap (λ z. Err z) (err_is {B = T} d e q))

read_holds : {S T : Type 0} (f : Format S T) → ((number : ℕ) (line : List ℕ) (s : S) → OnRefusal (f.step number line s)) → ((number : ℕ) (s : S) → OnRefusal (f.finish number s))
    → (ls : List (List ℕ)) (number : ℕ) (s : S) → OnRefusal (read_on f number ls s)
unfolding read_on
read_holds f step finish [] number s = finish number s
read_holds f step finish (line ∷ ls) number s = then_refuses (f.step number line s) _ (step number line s) (λ t. read_holds f step finish ls (number + 1) t)

-- what holds of what each line and the end refuse holds of what the file is refused for
pub file_holds : {S T : Type 0} (f : Format S T) (begin : S) → ((number : ℕ) (line : List ℕ) (s : S) → OnRefusal (f.step number line s)) → ((number : ℕ) (s : S) → OnRefusal (f.finish number s))
    → (bytes : List ℕ) → OnRefusal (file_of f begin bytes)
file_holds f begin step finish bytes = read_holds f step finish (lines bytes) 1 begin
