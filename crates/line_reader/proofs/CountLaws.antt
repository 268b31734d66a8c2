-- A line that says nothing moves the lines behind it, and changes nothing else.
use Rattle.std.proofs.Common.{◌≡◌, ℕ, ◌+◌, ◌<◌, List, [], ◌∷◌, ◌++◌, length, Result, Ok, Err, refl, sym, ap, subst, ◌∙◌, arith}
use Rattle.std.proofs.lemmas.Bool.{lt-leb}
use Rattle.line_reader.specs.declared.fault.LineFault.{LineFault}
use Rattle.line_reader.specs.declared.fault.LineReason.{LineReason}
use Rattle.line_reader.specs.Lines.{lines}
use Rattle.line_reader.specs.Reads.{◌>>=◌, and_then}
use Rattle.line_reader.specs.Files.{Format, read_on, file_of}
use Rattle.line_reader.specs.Inside.{after_lines}
use Rattle.line_reader.specs.Counting.{moved_line, moved_by, CountsOnly}

-- what is read, changed by a function
abbrev pub changed_read : {A : Type 0} → (A → A) → Result A LineReason → Result A LineReason
changed_read f (Ok x) = Ok (f x)
changed_read f (Err e) = Err e

pub then_changed : {A B : Type 0} (f : B → B) (r : Result A LineReason) (g h : A → Result B LineReason) → ((x : A) → g x ≡ changed_read f (h x)) → (r >>= g) ≡ changed_read f (r >>= h)
then_changed f (Ok x) g h k = k x
then_changed f (Err e) g h k = refl

-- a line behind the first ones has a number one higher
pub moved_more : (first number : ℕ) → first < number → moved_line first number ≡ number + 1
moved_more first number lt = rw (lt-leb number first lt) refl

-- lines that were read in front of others
pub read_behind : {S T : Type 0} (f : Format S T) (before more : List (List ℕ)) (number : ℕ) (s t : S) → after_lines f number before s ≡ Ok t → read_on f number (before ++ more) s ≡ read_on f (number + length before) more t
unfolding after_lines read_on
read_behind f [] more number s t e =
    let same : s ≡ t = cc in
    let here : number ≡ number + length {A = List ℕ} [] = omega arith in
    ap (λ x. read_on f number more x) same ∙ ap (λ (n : ℕ). read_on f n more t) here
read_behind {S} {T} f (line ∷ before) more number s t e = behind (f.step number line s) refl (λ h q. read_behind f before more (number + 1) h t q) e
  where
    shift : (r : Result T LineFault) → read_on f (number + 1 + length before) more t ≡ r → read_on f (number + length (line ∷ before)) more t ≡ r
    shift r q = let n : number + 1 + length before ≡ number + length (line ∷ before) = omega arith in subst (λ k. read_on f k more t ≡ r) n q

    behind : (r : Result S LineFault) → f.step number line s ≡ r
        → ((h : S) → after_lines f (number + 1) before h ≡ Ok t → read_on f (number + 1) (before ++ more) h ≡ read_on f (number + 1 + length before) more t)
        → and_then r (λ h. after_lines f (number + 1) before h) ≡ Ok t
        → and_then (f.step number line s) (λ h. read_on f (number + 1) (before ++ more) h) ≡ read_on f (number + length (line ∷ before)) more t
    behind (Ok h) is again q = ap (λ z. and_then z (λ h. read_on f (number + 1) (before ++ more) h)) is ∙ sym (shift _ (sym (again h q)))
    behind (Err d) is again q = absurd cc

then_moved : {S T : Type 0} (first : ℕ) (change : S → S) (r : Result S LineFault) (g h : S → Result T LineFault) → ((x : S) → g (change x) ≡ moved_by first (λ t. t) (h x))
    → and_then (moved_by first change r) g ≡ moved_by first (λ t. t) (and_then r h)
then_moved first change (Ok x) g h k = k x
then_moved first change (Err e) g h k = refl

pub read_moved : {S T : Type 0} (f : Format S T) (shift : ℕ → S → S) → CountsOnly f shift → (ls : List (List ℕ)) (first number : ℕ) (s : S) → first < number
    → read_on f (number + 1) ls (shift first s) ≡ moved_by first (λ t. t) (read_on f number ls s)
unfolding read_on
read_moved f shift c [] first number s lt = c.finish first number s lt
read_moved f shift c (line ∷ ls) first number s lt =
    ap (λ z. and_then z (λ t. read_on f (number + 1 + 1) ls t)) (c.step first number line s lt)
    ∙ then_moved first (shift first) (f.step number line s) (λ t. read_on f (number + 1 + 1) ls t) (λ t. read_on f (number + 1) ls t) (λ x. read_moved f shift c ls first (number + 1) x (omega (arith, lt)))

skip_line : {S T : Type 0} (f : Format S T) (number : ℕ) (line : List ℕ) (more : List (List ℕ)) (s : S) → f.step number line s ≡ Ok s → read_on f number (line ∷ more) s ≡ read_on f (number + 1) more s
unfolding read_on
skip_line f number line more s e = ap (λ z. and_then z (λ g. read_on f (number + 1) more g)) e

-- a line that leaves what was read as it is
pub line_counts : {S T : Type 0} (f : Format S T) (shift : ℕ → S → S) (begin s : S) (bytes more : List ℕ) (before after : List (List ℕ)) (line : List ℕ) → CountsOnly f shift
    → after_lines f 1 before begin ≡ Ok s → f.step (1 + length before) line s ≡ Ok s → shift (length before) s ≡ s
    → lines bytes ≡ before ++ after → lines more ≡ before ++ line ∷ after → file_of f begin more ≡ moved_by (length before) (λ x. x) (file_of f begin bytes)
line_counts f shift begin s bytes more before after line c said stays fixed is longer =
    let short : read_on f 1 (lines bytes) begin ≡ read_on f (1 + length before) after s = ap (λ ls. read_on f 1 ls begin) is ∙ read_behind f before after 1 begin s said in
    let long : read_on f 1 (lines more) begin ≡ read_on f (1 + length before + 1) after s = ap (λ ls. read_on f 1 ls begin) longer
    ∙ (read_behind f before (line ∷ after) 1 begin s said ∙ skip_line f (1 + length before) line after s stays) in
    let there = read_moved f shift c after (length before) (1 + length before) s (omega arith) in
    long ∙ (ap (λ x. read_on f (1 + length before + 1) after x) (sym fixed) ∙ (there ∙ ap (λ r. moved_by (length before) (λ x. x) r) (sym short)))
