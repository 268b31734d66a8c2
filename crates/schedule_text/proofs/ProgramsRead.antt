-- The programs of a schedule are read as they are written.
use Rattle.std.proofs.Common.{◌≡◌, ℕ, ◌+◌, ◌<◌, ◌≤◌, true, false, cond, List, [], ◌∷◌, ◌++◌, length, map, Ok, Err, refl, sym, ap, subst, ◌∙◌, arith, append-nil, append_assoc, length-append}
use Rattle.std.specs.List.{All, list_any, flat_map}
use Rattle.std.specs.Str.{bytes_eq}
use lib.Chars.{codes}
use Rattle.std.proofs.lemmas.List.Folds.{list_any-append}
use Rattle.std.proofs.lemmas.List.Elements.{All-head, All-tail}
use Rattle.plan_base.specs.declared.tree.Program.{Program}
use Rattle.plan_base.specs.Words.{is_name}
use Rattle.line_reader.specs.declared.fault.LineReason.TheVariants.{BadWord, TwiceNamed, TooMany}
use Rattle.line_reader.specs.Lines.{spaced_words}
use Rattle.line_reader.specs.Files.{at_line}
use Rattle.line_reader.specs.Programs.{program_in}
use Rattle.schedule_text.specs.declared.reading.NamedProgram.{NamedProgram}
use Rattle.schedule_text.specs.declared.reading.BegunProgram.{BegunProgram}
use Rattle.schedule_text.specs.declared.reading.Reading.{Reading}
use Rattle.schedule_text.specs.declared.reading.Stage.TheVariants as stages
use Rattle.schedule_text.specs.Parts.{is_called}
use Rattle.schedule_text.specs.Schedules.{begun_at, program_line, named_program, close_program, network_rest, network_line, with_more, staying, step, file_after, schedule_format}
use Rattle.line_reader.proofs.Keeping.{either_false}
use Rattle.line_reader.proofs.LineLaws.{no_lines, then_lines}
use Rattle.line_reader.specs.Inside.{after_lines}
use Rattle.schedule_text.specs.Written.{spread, NamedText, program_lines, IsTextLine, IsNamedText, NamesDiffer}
use Rattle.schedule_text.proofs.WordLaws.{Free, name_free}
use Rattle.schedule_text.proofs.ReadSteps.{then_ok, not_ok, below_ok, Leads, leads-nil, leads-append}
use Rattle.schedule_text.proofs.NetworkRead.{file_at, network_step_ok}

abbrev pub titled_program : NamedText → NamedProgram
titled_program p = named_program p.name p.program

abbrev pub with_programs : Reading → List NamedProgram → Reading
with_programs s ps = record s { programs = ps }

-- ---- the first line

abbrev first_words : NamedText → List (List ℕ)
first_words p = codes "program" ∷ p.name ∷ []

first_free : (p : NamedText) → is_name p.name ≡ true → Free 32 (first_words p)
first_free p name = (refl, ((name_free p.name name).0, tt))

begins_ok : (p : NamedText) (s : Reading) (number : ℕ) → length s.programs < 64 → is_name p.name ≡ true → list_any (is_called p.name) s.programs ≡ false
    → program_line number (p.name ∷ []) s ≡ Ok (begun_at number p.name)
unfolding program_line
begins_ok p s number room name new =
    then_ok _ tt _ _ (below_ok (length s.programs) 64 TooMany room)
    (then_ok _ p.name _ _ (ap (λ b. cond b (Ok p.name) (Err BadWord)) name)
    (then_ok _ tt _ _ (not_ok (list_any (is_called p.name) s.programs) TwiceNamed new) refl))

begins_said : (p : NamedText) (s : Reading) (number : ℕ) (begun : BegunProgram) → program_line number (p.name ∷ []) s ≡ Ok begun → network_line number (first_words p) s ≡ Ok (stages.Inside begun, s)
unfolding network_line network_rest
begins_said p s number begun e = then_ok (program_line number (p.name ∷ []) s) begun _ _ e refl

-- ---- the lines of the text

text_step : (line : List ℕ) (begun : BegunProgram) (s : Reading) (number : ℕ) → bytes_eq line (codes "end program") ≡ false
    → schedule_format.step number line (file_at (stages.Inside begun) s) ≡ Ok (file_at (stages.Inside (with_more begun line)) s)
unfolding step
text_step line begun s number e = ap (λ b. file_after (cond b (at_line begun.source.line (staying stages.Network (close_program begun s))) (Ok (stages.Inside (with_more begun line), s)))) e

close_ok : (begun : BegunProgram) (s : Reading) (program : Program) → program_in begun.source.text ≡ Ok program → close_program begun s ≡ Ok (with_programs s (s.programs ++ named_program begun.name program ∷ []))
unfolding close_program
close_ok begun s program e = then_ok (program_in begun.source.text) program _ _ e refl

end_step : (begun : BegunProgram) (s : Reading) (program : Program) (number : ℕ) → program_in begun.source.text ≡ Ok program
    → schedule_format.step number (codes "end program") (file_at (stages.Inside begun) s) ≡ Ok (file_at stages.Network (with_programs s (s.programs ++ named_program begun.name program ∷ [])))
unfolding step
end_step begun s program number e = ap (λ r. file_after (at_line begun.source.line (staying stages.Network r))) (close_ok begun s program e)

more_text : (begun : BegunProgram) (line : List ℕ) (text : List (List ℕ)) (program : Program) → program_in (begun.source.text ++ spread (line ∷ text)) ≡ Ok program
    → program_in ((with_more begun line).source.text ++ spread text) ≡ Ok program
unfolding spread
more_text begun line text program e =
    let front = begun.source.text in
    let one : (front ++ line ++ 10 ∷ []) ++ spread text ≡ (front ++ line) ++ 10 ∷ spread text = append_assoc (front ++ line) (10 ∷ []) (spread text) in
    let two : (front ++ line) ++ 10 ∷ spread text ≡ front ++ (line ++ 10 ∷ spread text) = append_assoc front line (10 ∷ spread text) in
    ap program_in (one ∙ two) ∙ e

no_text : (begun : BegunProgram) (program : Program) → program_in (begun.source.text ++ spread []) ≡ Ok program → program_in begun.source.text ≡ Ok program
unfolding spread
no_text begun program e = ap program_in (sym (append-nil begun.source.text)) ∙ e

inside_read : (text : List (List ℕ)) (begun : BegunProgram) (s : Reading) (program : Program) (number : ℕ) → All IsTextLine text → program_in (begun.source.text ++ spread text) ≡ Ok program
    → after_lines schedule_format number (text ++ codes "end program" ∷ []) (file_at (stages.Inside begun) s) ≡ Ok (file_at stages.Network (with_programs s (s.programs ++ named_program begun.name program ∷ [])))
inside_read [] begun s program number k e =
    let last = file_at stages.Network (with_programs s (s.programs ++ named_program begun.name program ∷ [])) in
    then_lines schedule_format number (codes "end program") [] (file_at (stages.Inside begun) s) last last (end_step begun s program number (no_text begun program e)) (no_lines schedule_format (number + 1) last)
inside_read (line ∷ text) begun s program number k e =
    then_lines schedule_format number line (text ++ codes "end program" ∷ []) (file_at (stages.Inside begun) s) (file_at (stages.Inside (with_more begun line)) s) _
    (text_step line begun s number (All-head IsTextLine line text k).1)
    (inside_read text (with_more begun line) s program (number + 1) (All-tail IsTextLine line text k) (more_text begun line text program e))

-- ---- a program, and programs

program_read : (p : NamedText) (s : Reading) → length s.programs < 64 → IsNamedText p → list_any (is_called p.name) s.programs ≡ false
    → Leads (program_lines p) (file_at stages.Network s) (file_at stages.Network (with_programs s (s.programs ++ titled_program p ∷ [])))
program_read p s room k new number =
    then_lines schedule_format number (spaced_words (first_words p)) (p.text ++ codes "end program" ∷ []) (file_at stages.Network s) (file_at (stages.Inside (begun_at number p.name)) s) _
    (network_step_ok (codes "program") (p.name ∷ []) s s (stages.Inside (begun_at number p.name)) number (first_free p k.name) refl (begins_said p s number (begun_at number p.name) (begins_ok p s number room k.name new)))
    (inside_read p.text (begun_at number p.name) s p.program (number + 1) k.lines k.says)

fresh_name : (seen : List NamedText) (p : NamedText) (rest : List NamedText) → NamesDiffer (seen ++ p ∷ rest) → list_any (is_called p.name) (map titled_program seen) ≡ false
fresh_name [] p rest d = refl
fresh_name (q ∷ qs) p rest d =
    let e = sym (list_any-append (λ x. bytes_eq q.name x.name) qs (p ∷ rest)) ∙ d.0 in
    let k = either_false (list_any (λ x. bytes_eq q.name x.name) qs) (list_any (λ x. bytes_eq q.name x.name) (p ∷ rest)) e in
    let n = either_false (bytes_eq q.name p.name) (list_any (λ x. bytes_eq q.name x.name) rest) k.1 in
    rw (n.0, fresh_name qs p rest d.1) refl

map-length : {X Y : Type 0} (f : X → Y) (xs : List X) → length (map f xs) ≡ length xs
map-length f [] = refl
map-length f (x ∷ xs) = omega (arith, map-length f xs)

pub map-push : {X Y : Type 0} (f : X → Y) (xs : List X) (x : X) → map f xs ++ f x ∷ [] ≡ map f (xs ++ x ∷ [])
map-push f [] x = refl
map-push f (y ∷ ys) x = ap (λ z. f y ∷ z) (map-push f ys x)

-- programs are read behind others
pub programs_read : (rest seen : List NamedText) (s : Reading) → length (seen ++ rest) ≤ 64 → NamesDiffer (seen ++ rest) → All IsNamedText rest
    → Leads (flat_map program_lines rest) (file_at stages.Network (with_programs s (map titled_program seen))) (file_at stages.Network (with_programs s (map titled_program (seen ++ rest))))
programs_read [] seen s few differ all =
    subst (λ ps.
    Leads [] (file_at stages.Network
    (with_programs s (map titled_program seen))) (file_at stages.Network (with_programs s (map titled_program ps)))) (sym (append-nil seen)) (leads-nil (file_at stages.Network
    (with_programs s (map titled_program seen))))
programs_read (p ∷ rest) seen s few differ all =
    let e : (seen ++ p ∷ []) ++ rest ≡ seen ++ p ∷ rest = append_assoc seen (p ∷ []) rest in
    let room : length (map titled_program seen) < 64 = omega (arith, few, length-append seen (p ∷ rest), map-length titled_program seen) in
    let one = program_read p (with_programs s (map titled_program seen)) room (All-head IsNamedText p rest all) (fresh_name seen p rest differ) in
    let first = subst (λ ps. Leads (program_lines p) (file_at stages.Network (with_programs s (map titled_program seen))) (file_at stages.Network (with_programs s ps))) (map-push titled_program seen p) one in
    let last = subst (λ ps. Leads (flat_map program_lines rest) (file_at stages.Network (with_programs s (map titled_program (seen ++ p ∷ [])))) (file_at stages.Network (with_programs s (map titled_program ps)))) e
    (programs_read rest (seen ++ p ∷ []) s (subst (λ ps. length ps ≤ 64) (sym e) few) (subst NamesDiffer (sym e) differ) (All-tail IsNamedText p rest all)) in
    leads-append (program_lines p) (flat_map program_lines rest) (file_at stages.Network (with_programs s (map titled_program seen)))
    (file_at stages.Network (with_programs s (map titled_program (seen ++ p ∷ []))))
    (file_at stages.Network (with_programs s (map titled_program (seen ++ p ∷ rest)))) first last
