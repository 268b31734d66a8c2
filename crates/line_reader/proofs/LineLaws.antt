-- Lines before a refusal are inside the format, and a refusal stands at a line that was read.
use Rattle.std.proofs.Common.{◌≡◌, ℕ, zero, suc, ◌+◌, ◌≤◌, ◌<◌, List, [], ◌∷◌, ◌++◌, length, take, Result, Ok, Err, refl, sym, ap, subst, ◌∙◌, arith, append-nil, append_assoc, length-append}
use Rattle.line_reader.specs.declared.fault.LineReason.{LineReason}
use Rattle.line_reader.specs.declared.fault.LineFault.{LineFault}
use Rattle.line_reader.specs.declared.fault.LineFault.TheVariants as faults
use Rattle.line_reader.specs.Lines.{lines}
use Rattle.line_reader.specs.Reads.{and_then}
use Rattle.line_reader.specs.Files.{Format, read_on, file_of}
use Rattle.line_reader.specs.Inside.{after_lines, AreInside, Placed, OnFault, RefusesRead}

abbrev failed_line : {B : Type 0} → LineFault → Result B LineFault
failed_line e = Err e

pub err_is : {B : Type 0} (d e : LineFault) → failed_line {B = B} d ≡ failed_line e → d ≡ e
err_is d e h = cc

placed_to : (high more : ℕ) (e : LineFault) → high ≤ more → Placed high e → Placed more e
placed_to high more (faults.Line n r) le p = (p.0, omega (arith, p.1, le))
placed_to high more faults.NoMemory le p = p

-- ---- lines one after another

pub no_lines : {S T : Type 0} (f : Format S T) (number : ℕ) (s : S) → after_lines f number [] s ≡ Ok s
unfolding after_lines
no_lines f number s = refl

-- one line, and then others
pub then_lines : {S T : Type 0} (f : Format S T) (number : ℕ) (line : List ℕ) (ls : List (List ℕ)) (s t u : S) → f.step number line s ≡ Ok t → after_lines f (number + 1) ls t ≡ Ok u → after_lines f number (line ∷ ls) s ≡ Ok u
unfolding after_lines
then_lines f number line ls s t u e k = ap (λ z. and_then z (λ x. after_lines f (number + 1) ls x)) e ∙ k

by_lines : {S T : Type 0} (f : Format S T) (number : ℕ) (line : List ℕ) (ls : List (List ℕ)) (end : List ℕ) (r : Result S LineFault) (s t u : S) → f.step number line s ≡ r
    → and_then r (λ x. after_lines f (number + 1) ls x) ≡ Ok t → ((x : S) → after_lines f (number + 1) ls x ≡ Ok t → after_lines f (number + 1) (ls ++ end ∷ []) x ≡ Ok u) → after_lines f number (line ∷ (ls ++ end ∷ [])) s ≡ Ok u
by_lines f number line ls end (Ok x) s t u is e more = then_lines f number line (ls ++ end ∷ []) s x u is (more x e)
by_lines f number line ls end (Err d) s t u is e more = absurd cc

-- one line behind others
pub push_line : {S T : Type 0} (f : Format S T) (ls : List (List ℕ)) (number : ℕ) (line : List ℕ) (s t u : S) → after_lines f number ls s ≡ Ok t → f.step (number + length ls) line t ≡ Ok u → after_lines f number (ls ++ line ∷ []) s ≡ Ok u
unfolding after_lines
push_line f [] number line s t u e k =
    let here : number + length {A = List ℕ} [] ≡ number = omega arith in
    let same : s ≡ t = cc in
    then_lines f number line [] s u u (subst (λ n. f.step n line s ≡ Ok u) here (subst (λ x. f.step (number + length {A = List ℕ} []) line x ≡ Ok u) (sym same) k)) (no_lines f (number + 1) u)
push_line f (first ∷ ls) number line s t u e k =
    let next : number + length (first ∷ ls) ≡ number + 1 + length ls = omega arith in
    by_lines f number first ls line (f.step number first s) s t u refl e (λ x q. push_line f ls (number + 1) line x t u q (subst (λ n. f.step n line t ≡ Ok u) next k))

-- ---- before a refusal

module _ {S T : Type 0} (f : Format S T) (begin : S) (places : RefusesRead f begin) where
  -- some lines were read, and others are still to come
  record Behind (ls : List (List ℕ)) (s : S) : Type 0 where
    said : after_lines f 1 ls begin ≡ Ok s

  next_is : (ls : List (List ℕ)) (line : List ℕ) → 1 + length ls + 1 ≡ 1 + length (ls ++ line ∷ [])
  next_is ls line = omega (arith, length-append ls (line ∷ []))

  behind_more : (ls : List (List ℕ)) (line : List ℕ) (s t : S) → Behind ls s → f.step (1 + length ls) line s ≡ Ok t → Behind (ls ++ line ∷ []) t
  behind_more ls line s t b e = record { said = push_line f ls 1 line begin s t b.said e }

  stands : (ls rest : List (List ℕ)) (s : S) → Behind ls s → OnFault (1 + length ls + length rest) (read_on f (1 + length ls) rest s)
  unfolding read_on
  stands ls [] s b e h = placed_to (1 + length ls) (1 + length ls + length {A = List ℕ} []) e (omega arith) (places.finish ls s b.said e h)
  stands ls (line ∷ rest) s b e h = by (f.step (1 + length ls) line s) refl h (λ t q. stands (ls ++ line ∷ []) rest t (behind_more ls line s t b q))
    where
      by : (r : Result S LineFault) → f.step (1 + length ls) line s ≡ r → and_then r (λ t. read_on f (1 + length ls + 1) rest t) ≡ Err e
          → ((t : S) → f.step (1 + length ls) line s ≡ Ok t → OnFault (1 + length (ls ++ line ∷ []) + length rest) (read_on f (1 + length (ls ++ line ∷ [])) rest t)) → Placed (1 + length ls + length (line ∷ rest)) e
      by (Ok t) is q more =
          placed_to (1 + length (ls ++ line ∷ []) + length rest) (1 + length ls + length (line ∷ rest)) e (omega (arith, length-append ls (line ∷ [])))
          (more t is e (subst (λ n. read_on f n rest t ≡ Err e) (next_is ls line) q))
      by (Err d) is q more = placed_to (1 + length ls) (1 + length ls + length (line ∷ rest)) e (omega arith) (places.step ls line s b.said e (is ∙ ap (λ z. failed_line z) (err_is {B = T} d e q)))

  reaches : (k : ℕ) (ls rest : List (List ℕ)) (s : S) (n : ℕ) (r : LineReason) → Behind ls s → read_on f (1 + length ls) rest s ≡ Err (faults.Line n r) → length ls + k < n → AreInside f begin (ls ++ take k rest)
  unfolding read_on
  reaches zero ls rest s n r b e lt = subst (λ all. AreInside f begin all) (sym (append-nil ls)) (record { state = s; said = b.said })
  reaches (suc k) ls [] s n r b e lt = subst (λ all. AreInside f begin all) (sym (append-nil ls)) (record { state = s; said = b.said })
  reaches (suc k) ls (line ∷ rest) s n r b e lt = by (f.step (1 + length ls) line s) refl e (λ t q h. reaches k (ls ++ line ∷ []) rest t n r (behind_more ls line s t b q) h (omega (arith, lt, length-append ls (line ∷ []))))
    where
      by : (o : Result S LineFault) → f.step (1 + length ls) line s ≡ o → and_then o (λ t. read_on f (1 + length ls + 1) rest t) ≡ Err (faults.Line n r)
          → ((t : S) → f.step (1 + length ls) line s ≡ Ok t → read_on f (1 + length (ls ++ line ∷ [])) rest t ≡ Err (faults.Line n r) → AreInside f begin ((ls ++ line ∷ []) ++ take k rest)) → AreInside f begin (ls ++ line ∷ take k rest)
      by (Ok t) is q more = subst (λ all. AreInside f begin all) (append_assoc ls (line ∷ []) (take k rest)) (more t is (subst (λ m. read_on f m rest t ≡ Err (faults.Line n r)) (next_is ls line) q))
      by (Err d) is q more =
          let p = places.step ls line s b.said (faults.Line n r) (is ∙ ap (λ z. failed_line z) (err_is {B = T} d (faults.Line n r) q)) in
          absurd (omega (arith, p.1, lt))

  nothing_behind : Behind [] begin
  nothing_behind = record { said = no_lines f 1 begin }

-- a refusal stands at one of the lines or behind the last
pub refused_placed : {S T : Type 0} (f : Format S T) (begin : S) (bytes : List ℕ) (e : LineFault) → RefusesRead f begin → file_of f begin bytes ≡ Err e → Placed (1 + length (lines bytes)) e
refused_placed f begin bytes e places h = stands f begin places [] (lines bytes) begin (nothing_behind f begin places) e h

-- every line before the refused one is inside the format
pub before_inside : {S T : Type 0} (f : Format S T) (begin : S) (bytes : List ℕ) (n k : ℕ) (r : LineReason) → RefusesRead f begin → file_of f begin bytes ≡ Err (faults.Line n r) → k < n → AreInside f begin (take k (lines bytes))
before_inside f begin bytes n k r places e lt = reaches f begin places k [] (lines bytes) begin n r (nothing_behind f begin places) e (omega (arith, lt))
