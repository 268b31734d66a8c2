-- Where a refusal stands: at one of the lines or behind the last.
use Rattle.std.proofs.Common.{◌≡◌, ℕ, ◌+◌, ◌≤◌, Bool, true, false, cond, List, [], ◌∷◌, length, Option, Some, None, Result, Ok, Err, refl, subst, arith}
use Rattle.plan_base.specs.declared.stamp.Version.{Version}
use Rattle.line_reader.specs.declared.fault.LineReason.{LineReason}
use Rattle.line_reader.specs.declared.fault.LineReason.TheVariants.{BadHeader}
use Rattle.line_reader.specs.declared.fault.LineFault.{LineFault}
use Rattle.line_reader.specs.declared.fault.LineFault.TheVariants as faults
use Rattle.line_reader.specs.Reads.{and_then}
use Rattle.line_reader.specs.Files.{Format, at_line}
use Rattle.line_reader.specs.Headers.{next_by_version}
use Rattle.line_reader.specs.Inside.{after_lines, Placed, OnFault, RefusesRead}
use Rattle.line_reader.proofs.Keeping.{IfStep}
use Rattle.line_reader.proofs.LineLaws.{err_is}

pub fault_done : {B : Type 0} (high : ℕ) (x : B) → OnFault {B = B} high (Ok x)
fault_done high x e h = absurd cc

pub fault_here : {B : Type 0} (high n : ℕ) (r : LineReason) → 1 ≤ n → n ≤ high → OnFault {B = B} high (Err (faults.Line n r))
fault_here {B} high n r low le e h = subst (Placed high) (err_is {B = B} (faults.Line n r) e h) (low, le)

pub at_line_placed : {B : Type 0} (high n : ℕ) (r : Result B LineReason) → 1 ≤ n → n ≤ high → OnFault high (at_line n r)
at_line_placed high n (Ok x) low le = fault_done high x
at_line_placed {B} high n (Err r) low le = fault_here {B = B} high n r low le

pub either_placed : {B : Type 0} (high : ℕ) (t : Bool) (a b : Result B LineFault) → OnFault high a → OnFault high b → OnFault high (cond t a b)
either_placed high true a b h k = h
either_placed high false a b h k = k

pub version_placed : {B : Type 0} (number : ℕ) (next : Version → B) (v : Option Version) → 1 ≤ number → OnFault number (next_by_version number next v)
version_placed number next (Some version) low = fault_done number (next version)
version_placed {B} number next None low = fault_here {B = B} number number BadHeader low (omega arith)

-- a format whose steps and ends refuse at lines read so far, where B says which lines a state may still refuse
pub record Places {S T : Type 0} (f : Format S T) (B : ℕ → S → Type 0) : Type 0 where
  pub later : (number : ℕ) (s : S) → B number s → B (number + 1) s
  pub kept : (number : ℕ) (line : List ℕ) (s : S) → 1 ≤ number → B number s → IfStep (B number) (f.step number line s)
  pub step : (number : ℕ) (line : List ℕ) (s : S) → 1 ≤ number → B number s → OnFault number (f.step number line s)
  pub finish : (number : ℕ) (s : S) → 1 ≤ number → B number s → OnFault number (f.finish number s)

-- what holds of a state holds behind lines
kept_behind : {S T : Type 0} (f : Format S T) (B : ℕ → S → Type 0) → Places f B → (ls : List (List ℕ)) (number : ℕ) (s t : S) → 1 ≤ number → B number s → after_lines f number ls s ≡ Ok t → B (number + length ls) t
unfolding after_lines
kept_behind f B p [] number s t low b e =
    let same : s ≡ t = cc in
    let here : number ≡ number + length {A = List ℕ} [] = omega arith in
    subst (λ n. B n t) here (subst (λ x. B number x) same b)
kept_behind {S} {T} f B p (line ∷ ls) number s t low b e = by (f.step number line s) refl e (λ x q h. kept_behind f B p ls (number + 1) x t (omega arith) (p.later number x (p.kept number line s low b x q)) h)
  where
    by : (r : Result S LineFault) → f.step number line s ≡ r → and_then r (λ x. after_lines f (number + 1) ls x) ≡ Ok t
        → ((x : S) → f.step number line s ≡ Ok x → after_lines f (number + 1) ls x ≡ Ok t → B (number + 1 + length ls) t) → B (number + length (line ∷ ls)) t
    by (Ok x) is q more = let there : number + 1 + length ls ≡ number + length (line ∷ ls) = omega arith in subst (λ n. B n t) there (more x is q)
    by (Err d) is q more = absurd cc

-- such a format refuses lines that were read
pub refuses_read : {S T : Type 0} (f : Format S T) (begin : S) (B : ℕ → S → Type 0) → Places f B → B 1 begin → RefusesRead f begin
refuses_read f begin B p b = record {
  step = λ ls line s e. p.step (1 + length ls) line s (omega arith) (kept_behind f B p ls 1 begin s (omega arith) b e);
  finish = λ ls s e. p.finish (1 + length ls) s (omega arith) (kept_behind f B p ls 1 begin s (omega arith) b e);
}
