-- What the shared lines of node files keep, and where they refuse.
use Rattle.std.proofs.Common.{◌≡◌, ◌⊎◌, inl, inr, ℕ, ◌+◌, ◌≤◌, ◌<◌, ◌^◌, List, length, Option, Some, None, Result, Ok, Err, refl, arith}
use Rattle.std.specs.Str.{bytes_eq}
use Rattle.plan_base.specs.declared.tree.Program.{Program}
use Rattle.checked_chunks.specs.Kept.{IsChecked}
use Rattle.plan_base.specs.declared.stamp.Version.{Version}
use Rattle.plan_base.specs.declared.stamp.Version.TheVariants.{One, Two}
use Rattle.network_config.specs.NodeRules.{first_link}
use Rattle.line_reader.specs.declared.fault.LineReason.{LineReason}
use Rattle.line_reader.specs.declared.fault.LineReason.TheVariants.{BadHeader}
use Rattle.line_reader.specs.declared.fault.LineFault.{LineFault}
use Rattle.line_reader.specs.declared.fault.LineFault.TheVariants as faults
use Rattle.line_reader.specs.Lines.{lines, words}
use Rattle.line_reader.specs.Files.{Format, is_skipped, file_of}
use Rattle.line_reader.specs.Reads.{end_at}
use Rattle.line_reader.specs.Numbers.{number_at}
use Rattle.line_reader.proofs.Keeping.{IfRead, InRange, then_keeps, done_keeps, number_is, IfStep, step_done, step_none, at_line_keeps, either_keeps}
use Rattle.line_reader.specs.Inside.{OnFault, RefusesRead}
use Rattle.line_reader.proofs.LineLaws.{refused_placed}
use Rattle.line_reader.proofs.Placing.{fault_done, fault_here, at_line_placed, either_placed}
use Rattle.node_files.specs.Parts.{last_number, header_line, usual_line}
use Rattle.node_files.specs.Answers.{Accepted, Refused}

-- the program so far, if there is one, is checked
abbrev pub HasChecked : Option Program → Type 0
HasChecked None = Unit {0}
HasChecked (Some p) = IsChecked p

-- the number of a node's first frames is below 2^64
pub link_small : (version : Version) → first_link version < 2 ^ 64
link_small One = omega arith
link_small Two = omega arith

pub last_number_is : (low high : ℕ) (ws : List (List ℕ)) → IfRead (InRange low high) (last_number low high ws)
unfolding last_number
last_number_is low high ws =
    then_keeps (InRange low high) (number_at low high ws) _ (λ n hn.
    then_keeps (InRange low high) (end_at n.1) _ (λ u hu.
    done_keeps (InRange low high) n.0 (number_is low high ws n hn)))

pub header_keeps : {A : Type 0} (P : A → Type 0) (header : List ℕ) (number : ℕ) (line : List ℕ) (s : A) → P s → IfStep P (header_line header number line s)
header_keeps P header number line s p = either_keeps P (bytes_eq line header) _ _ (step_done P s p) (step_none P (faults.Line number BadHeader))

pub usual_keeps : {A : Type 0} (P : A → Type 0) (number : ℕ) (line : List ℕ) (s : A) (read : List (List ℕ) → Result A LineReason) → P s → ((ws : List (List ℕ)) → IfRead P (read ws)) → IfStep P (usual_line number line s read)
usual_keeps P number line s read p h = either_keeps P (is_skipped line) _ _ (step_done P s p) (at_line_keeps P number (read (words line)) (h (words line)))

pub header_placed : {A : Type 0} (header : List ℕ) (number : ℕ) (line : List ℕ) (s : A) → 1 ≤ number → OnFault number (header_line header number line s)
header_placed {A} header number line s low = either_placed number (bytes_eq line header) _ _ (fault_done number s) (fault_here {B = A} number number BadHeader low (omega arith))

pub usual_placed : {A : Type 0} (number : ℕ) (line : List ℕ) (s : A) (read : List (List ℕ) → Result A LineReason) → 1 ≤ number → OnFault number (usual_line number line s read)
usual_placed number line s read low = either_placed number (is_skipped line) _ _ (fault_done number s) (at_line_placed number number (read (words line)) low (omega arith))

answered_by : {T : Type 0} (answer : List ℕ → Result T LineFault) (bytes : List ℕ) (r : Result T LineFault) → answer bytes ≡ r → OnFault (1 + length (lines bytes)) r → Accepted answer bytes ⊎ Refused answer bytes
answered_by answer bytes (Ok s) e h = inl (record { value = s; says = e })
answered_by answer bytes (Err (faults.Line n r)) e h =
    let p = h (faults.Line n r) refl in
    inr (record { line = n; reason = r; refused = e; from = p.0; to = omega (arith, p.1) })
answered_by answer bytes (Err faults.NoMemory) e h = absurd (h faults.NoMemory refl)

-- a file has a value or a first refusal
pub value_or_refusal : {S T : Type 0} (f : Format S T) (begin : S) → RefusesRead f begin → (bytes : List ℕ) → Accepted (file_of f begin) bytes ⊎ Refused (file_of f begin) bytes
value_or_refusal f begin places bytes = answered_by (file_of f begin) bytes (file_of f begin bytes) refl (λ e h. refused_placed f begin bytes e places h)
