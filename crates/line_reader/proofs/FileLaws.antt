-- How a file is read line by line, and what the answer of a whole reading says.
use Rattle.std.proofs.Common.{◌≡◌, ◌⊎◌, inl, inr, ℕ, ◌+◌, List, [], ◌∷◌, Result, Ok, Err, refl, sym, subst, ◌∙◌}
use Rattle.std.specs.Prelude.{IfOk, IfErr, MatchResult}
use Rattle.line_reader.specs.declared.fault.LineFault.{LineFault}
use Rattle.line_reader.specs.declared.fault.LineFault.TheVariants as faults
use Rattle.line_reader.specs.Lines.{lines}
use Rattle.line_reader.specs.Reads.{FileFails, FileGives}
use Rattle.line_reader.specs.Files.{Format, read_on}

-- a line that is inside the format
pub file_more : {S T : Type 0} (f : Format S T) (number : ℕ) (rest line more : List ℕ) (s t : S) (total : Result T LineFault)
    → lines rest ≡ line ∷ lines more → f.step number line s ≡ Ok t → read_on f number (lines rest) s ≡ total → read_on f (number + 1) (lines more) t ≡ total
unfolding read_on
file_more f number rest line more s t total split is so_far =
    let one : read_on f number (lines rest) s ≡ read_on f (number + 1) (lines more) t = rw (split, is) refl in
    sym one ∙ so_far

-- a line that is outside
pub file_stop : {S T : Type 0} (f : Format S T) (number : ℕ) (rest line more : List ℕ) (s : S) (e : LineFault) (total : Result T LineFault)
    → lines rest ≡ line ∷ lines more → FileFails e (f.step number line s) → read_on f number (lines rest) s ≡ total → FileFails e total
unfolding read_on
file_stop f number rest line more s faults.NoMemory total split is so_far = tt
file_stop f number rest line more s (faults.Line n r) total split is so_far =
    let one : read_on f number (lines rest) s ≡ Err (faults.Line n r) = rw (split, is) refl in
    sym so_far ∙ one

-- the end of the file
file_end : {S T : Type 0} (f : Format S T) (number : ℕ) (rest : List ℕ) (s : S) (total : Result T LineFault)
    → lines rest ≡ [] → read_on f number (lines rest) s ≡ total → total ≡ f.finish number s
unfolding read_on
file_end f number rest s total split so_far =
    let one : read_on f number (lines rest) s ≡ f.finish number s = rw split refl in
    sym so_far ∙ one

abbrev same : {T : Type 0} → T → T
same s = s

pub file_done : {S T : Type 0} (f : Format S T) (number : ℕ) (rest : List ℕ) (s : S) (total r : Result T LineFault)
    → lines rest ≡ [] → read_on f number (lines rest) s ≡ total → FileGives same r (f.finish number s) → FileGives same r total
file_done f number rest s total r split so_far e = subst (λ z. FileGives same r z) (sym (file_end f number rest s total split so_far)) e

-- ---- what the answer of a whole reading says

pub is_found : {T : Type 0} (r total : Result T LineFault) → FileGives same r total → IfOk r (λ s. total ≡ Ok s)
is_found (Ok s) total e = e
is_found (Err e) total h = tt

pub is_only : {T : Type 0} (r total : Result T LineFault) → FileGives same r total → (s : T) → total ≡ Ok s → MatchResult r (λ t. t ≡ s) (λ e. e ≡ faults.NoMemory)
is_only (Ok t) total h s e = let both = sym h ∙ e in cc
is_only (Err faults.NoMemory) total h s e = refl
is_only (Err (faults.Line n r)) total h s e = absurd (let both = sym h ∙ e in cc)

pub is_fault : {T : Type 0} (r total : Result T LineFault) → FileGives same r total → IfErr r (λ e. (e ≡ faults.NoMemory) ⊎ (total ≡ Err e))
is_fault (Ok t) total h = tt
is_fault (Err faults.NoMemory) total h = inl refl
is_fault (Err (faults.Line n r)) total h = inr h

pub is_keeping : {T : Type 0} (P : T → Type 0) (r total : Result T LineFault) → FileGives same r total → ((s : T) → total ≡ Ok s → P s) → IfOk r P
is_keeping P (Ok s) total h k = k s h
is_keeping P (Err e) total h k = tt
