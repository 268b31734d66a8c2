-- Written lines lead a reading from one state to another, in any format.
use Rattle.std.proofs.Common.{◌≡◌, ℕ, ◌+◌, false, List, [], ◌∷◌, ◌++◌, length, Result, Ok, Err, sym, ap, subst, ◌∙◌, arith, append-nil, append_assoc}
use Rattle.std.specs.List.{All}
use Rattle.std.specs.Str.{bytes_eq}
use lib.Chars.{codes}
use Rattle.std.proofs.lemmas.List.Elements.{All-head, All-tail}
use Rattle.line_reader.specs.declared.fault.LineFault.{LineFault}
use Rattle.line_reader.specs.declared.programs.OpenProgram.{OpenProgram}
use Rattle.line_reader.specs.Reads.{and_then}
use Rattle.line_reader.specs.Files.{Format, read_on, file_of}
use Rattle.line_reader.specs.Inside.{after_lines}
use Rattle.line_reader.specs.Programs.{with_line}
use Rattle.line_reader.proofs.CountLaws.{read_behind}
use Rattle.line_reader.proofs.LineLaws.{no_lines, then_lines}
use Rattle.schedule_text.specs.Written.{spread, IsTextLine}
use Rattle.schedule_text.proofs.WordLaws.{Free, spread_lines}

-- lines lead from one state to another, whatever their numbers
abbrev pub Leads : {S T : Type 0} → Format S T → List (List ℕ) → S → S → Type 0
Leads format ls s t = (number : ℕ) → after_lines format number ls s ≡ Ok t

pub leads-nil : {S T : Type 0} (f : Format S T) (s : S) → Leads f [] s s
leads-nil f s number = no_lines f number s

pub leads-cons : {S T : Type 0} (f : Format S T) (line : List ℕ) (ls : List (List ℕ)) (s t u : S) → ((number : ℕ) → f.step number line s ≡ Ok t) → Leads f ls t u → Leads f (line ∷ ls) s u
leads-cons f line ls s t u e k number = then_lines f number line ls s t u (e number) (k (number + 1))

then_more : {S : Type 0} (r : Result S LineFault) (next all : S → Result S LineFault) (t : S) (u : Result S LineFault) → ((x : S) → next x ≡ Ok t → all x ≡ u) → and_then r next ≡ Ok t → and_then r all ≡ u
then_more (Ok x) next all t u k e = k x e
then_more (Err d) next all t u k e = absurd cc

-- lines behind others
pub behind_lines : {S T : Type 0} (f : Format S T) (xs ys : List (List ℕ)) (number : ℕ) (s t u : S) → after_lines f number xs s ≡ Ok t → after_lines f (number + length xs) ys t ≡ Ok u → after_lines f number (xs ++ ys) s ≡ Ok u
unfolding after_lines
behind_lines f [] ys number s t u e k =
    let same : s ≡ t = cc in
    let here : number + length {A = List ℕ} [] ≡ number = omega arith in
    subst (λ x. after_lines f number ys x ≡ Ok u) (sym same) (subst (λ (n : ℕ). after_lines f n ys t ≡ Ok u) here k)
behind_lines f (line ∷ xs) ys number s t u e k =
    let next : number + length (line ∷ xs) ≡ number + 1 + length xs = omega arith in
    then_more (f.step number line s) (λ x. after_lines f (number + 1) xs x) (λ x. after_lines f (number + 1) (xs ++ ys) x) t (Ok u)
    (λ x q. behind_lines f xs ys (number + 1) x t u q (subst (λ (n : ℕ). after_lines f n ys t ≡ Ok u) next k)) e

-- lines that lead to the end of a file say what the file says
pub said_by : {S T : Type 0} (f : Format S T) (ls : List (List ℕ)) (s t : S) (x : Result T LineFault) → Free 10 ls → after_lines f 1 ls s ≡ Ok t → f.finish (1 + length ls) t ≡ x → file_of f s (spread ls) ≡ x
unfolding read_on
said_by f ls s t x free leads end =
    ap (λ v. read_on f 1 v s) (spread_lines ls free ∙ sym (append-nil ls))
    ∙ (read_behind f ls [] 1 s t leads ∙ end)

-- ---- the text of a program

-- a program with lines more
abbrev pub with_text : OpenProgram → List (List ℕ) → OpenProgram
with_text begun text = record begun { text = begun.text ++ spread text }

text_more : (begun : OpenProgram) (line : List ℕ) (text : List (List ℕ)) → with_text (with_line begun line) text ≡ with_text begun (line ∷ text)
unfolding spread
text_more begun line text =
    let one : (begun.text ++ line ++ 10 ∷ []) ++ spread text ≡ (begun.text ++ line) ++ 10 ∷ spread text = append_assoc (begun.text ++ line) (10 ∷ []) (spread text) in
    let two : (begun.text ++ line) ++ 10 ∷ spread text ≡ begun.text ++ (line ++ 10 ∷ spread text) = append_assoc begun.text line (10 ∷ spread text) in
    ap (λ (t : List ℕ). record begun { text = t }) (one ∙ two)

text_none : (begun : OpenProgram) → begun ≡ with_text begun []
unfolding spread
text_none begun = ap (λ (t : List ℕ). record begun { text = t }) (sym (append-nil begun.text))

-- lines of a text are taken as they are, in a format whose state has the program
pub text_leads : {S T : Type 0} (f : Format S T) (inside : OpenProgram → S)
    → ((number : ℕ) (line : List ℕ) (begun : OpenProgram) → bytes_eq line (codes "end program") ≡ false → f.step number line (inside begun) ≡ Ok (inside (with_line begun line)))
    → (text : List (List ℕ)) (begun : OpenProgram) → All IsTextLine text → Leads f text (inside begun) (inside (with_text begun text))
text_leads f inside step [] begun k = subst (λ p. Leads f [] (inside begun) (inside p)) (text_none begun) (leads-nil f (inside begun))
text_leads f inside step (line ∷ text) begun k =
    subst (λ p. Leads f (line ∷ text) (inside begun) (inside p)) (text_more begun line text)
    (leads-cons f line text (inside begun) (inside (with_line begun line)) (inside (with_text (with_line begun line) text))
    (λ number. step number line begun (All-head IsTextLine line text k).1)
    (text_leads f inside step text (with_line begun line) (All-tail IsTextLine line text k)))
