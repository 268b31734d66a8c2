-- A format whose steps go over lines that were moved only counts its lines, and leaves behind the first ones what doesn't move.
use Rattle.std.proofs.Common.{◌≡◌, ℕ, ◌+◌, ◌≤◌, true, List, [], ◌∷◌, length, Result, Ok, Err, refl, sym, ap, subst, ◌∙◌, arith}
use Rattle.std.proofs.lemmas.Bool.{le-leb}
use Rattle.line_reader.specs.declared.fault.LineFault.{LineFault}
use Rattle.line_reader.specs.Counting.{moved_line, moved_by, CountsOnly}
use Rattle.line_reader.specs.Files.{Format, is_skipped}
use Rattle.line_reader.specs.Inside.{after_lines}
use Rattle.line_reader.specs.Reads.{and_then}
use Rattle.line_reader.proofs.CountLaws.{moved_more, line_counts}
use Rattle.top_laws.specs.Skipping.{SkipsLines}

-- each line and the end go over, whatever stands before them
pub record Moves {S T : Type 0} (f : Format S T) (shift : ℕ → S → S) : Type 0 where
  pub step : (first number : ℕ) (line : List ℕ) (s : S) → f.step (moved_line first number) line (shift first s) ≡ moved_by first (shift first) (f.step number line s)
  pub finish : (first number : ℕ) (s : S) → f.finish (moved_line first number) (shift first s) ≡ moved_by first (λ t. t) (f.finish number s)

pub moved_not : (first number : ℕ) → number ≤ first → moved_line first number ≡ number
moved_not first number le = rw (le-leb number first le) refl

pub moves_count : {S T : Type 0} (f : Format S T) (shift : ℕ → S → S) → Moves f shift → CountsOnly f shift
moves_count f shift m = record {
  step = λ first number line s lt. ap (λ n. f.step n line (shift first s)) (sym (moved_more first number lt)) ∙ m.step first number line s;
  finish = λ first number s lt. ap (λ n. f.finish n (shift first s)) (sym (moved_more first number lt)) ∙ m.finish first number s;
}

-- ---- what doesn't move

-- what is read behind the first lines at most is where it was
stays : {S T : Type 0} (f : Format S T) (shift : ℕ → S → S) → Moves f shift → (ls : List (List ℕ)) (first number : ℕ) (s t : S) → number + length ls ≤ first + 1 → shift first s ≡ s → after_lines f number ls s ≡ Ok t → shift first t ≡ t
unfolding after_lines
stays f shift m [] first number s t le fixed e =
    let same : s ≡ t = cc in
    subst (λ x. shift first x ≡ x) same fixed
stays {S} {T} f shift m (line ∷ ls) first number s t le fixed e =
    by (f.step number line s) refl e (λ x is q. stays f shift m ls first (number + 1) x t (omega (arith, le)) is q)
  where
    here : moved_line first number ≡ number
    here = moved_not first number (omega (arith, le))

    again : f.step number line s ≡ moved_by first (shift first) (f.step number line s)
    again = ap (λ x. f.step number line x) (sym fixed) ∙ (ap (λ n. f.step n line (shift first s)) (sym here) ∙ m.step first number line s)

    ok_is : (x y : S) → ◌≡◌ {A = Result S LineFault} (Ok x) (Ok y) → x ≡ y
    ok_is x y h = cc

    by : (r : Result S LineFault) → f.step number line s ≡ r → and_then r (λ x. after_lines f (number + 1) ls x) ≡ Ok t
        → ((x : S) → shift first x ≡ x → after_lines f (number + 1) ls x ≡ Ok t → shift first t ≡ t) → shift first t ≡ t
    by (Ok x) is q more = more x (sym (ok_is x (shift first x) (sym is ∙ (again ∙ ap (λ r. moved_by first (shift first) r) is)))) q
    by (Err d) is q more = absurd cc

-- ---- a line more

-- lines that say nothing leave a state in which they may come
pub record Skips {S T : Type 0} (f : Format S T) (begin : S) (shift : ℕ → S → S) (Outside : S → Type 0) : Type 0 where
  pub step : (number : ℕ) (line : List ℕ) (s : S) → is_skipped line ≡ true → Outside s → f.step number line s ≡ Ok s
  pub fixed : (first : ℕ) → 1 ≤ first → shift first begin ≡ begin
  pub header : Outside begin → ⊥

pub skips_lines : {S T : Type 0} (f : Format S T) (begin : S) (shift : ℕ → S → S) (Outside : S → Type 0) → Moves f shift → Skips f begin shift Outside → SkipsLines f begin Outside
unfolding after_lines
skips_lines {S} f begin shift Outside m k bytes more before after line has skipped end =
    let s = end.inside.state in
    line_counts f shift begin s bytes more before after line (moves_count f shift m) end.inside.said
    (k.step (1 + length before) line s skipped end.outside)
    (outside_is_fixed before s end.inside.said end.outside)
    has.without has.with
  where
    outside_is_fixed : (ls : List (List ℕ)) (s : S) → after_lines f 1 ls begin ≡ Ok s → Outside s → shift (length ls) s ≡ s
    outside_is_fixed [] s e o = let same : begin ≡ s = cc in absurd (k.header (subst Outside (sym same) o))
    outside_is_fixed (l ∷ ls) s e o = stays f shift m (l ∷ ls) (length (l ∷ ls)) 1 begin s (omega arith) (k.fixed (length (l ∷ ls)) (omega arith)) e
