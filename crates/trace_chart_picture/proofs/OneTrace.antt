-- A trace that is read is the only one that prints as its bytes.
use Rattle.std.proofs.Common.{◌≡◌, ℕ, true, false, List, [], ◌∷◌, ◌++◌, codes, refl, sym, ap, ◌∙◌}
use Rattle.std.specs.Prelude.{Option, Some, None, IfSome}
use Rattle.std.specs.List.{All, flat_map}
use Rattle.std.proofs.lemmas.List.Elements.{All-head, All-tail, All-weaker}
use Rattle.trace_chart_picture.specs.Cuts.{has_blank}
use Rattle.trace_chart_picture.specs.Lines.{entry_text}
use Rattle.trace_chart_picture.specs.Traces.{as_line, row_text, entries_text, ledger_text, trace_text}
use Rattle.trace_chart_picture.specs.Reads.{lacks, IsEntry, IsRow, IsTrace, IsEntryLine, IsRowLine, IsTraceOf}
use Rattle.trace_chart_picture.specs.declared.line.Entry.{Entry}
use Rattle.trace_chart_picture.specs.declared.line.Row.{Row}
use Rattle.trace_chart_picture.specs.declared.line.Trace.{Trace}
use Rattle.trace_chart_picture.proofs.NoTrace.{first_same, rest_same, cons_text, word_not, text_is, entry_blank, row_blank, behind_text, behind_word, behind_more, behind_is, behind_one, behind_blank}
use Rattle.trace_chart_picture.proofs.Wrong.{row_one}

-- a text is one line, and that of no other good one
abbrev IsOnly : {A : Type 0} → (A → List ℕ) → (A → Type 0) → A → Type 0
IsOnly text Good x = (lacks 10 (text x) ≡ true) × ((y : _) → Good y → text y ≡ text x → y ≡ x)

-- two lists of lines up to words are the same list, and what follows is the same
same_list : {A : Type 0} (text : A → List ℕ) (Good : A → Type 0)
    → ((x : A) → Good x → lacks 10 (text x) ≡ true) → ((x : A) → has_blank (text x) ≡ true)
    → (a m b n : List ℕ) → lacks 10 a ≡ true → has_blank a ≡ false → lacks 10 b ≡ true → has_blank b ≡ false
    → (es xs : List A) → All Good es → All (IsOnly text Good) xs
    → flat_map (λ e. as_line (text e)) es ++ (as_line a ++ m) ≡ flat_map (λ e. as_line (text e)) xs ++ (as_line b ++ n)
    → (es ≡ xs) × (as_line a ++ m ≡ as_line b ++ n)
same_list text Good one blank a m b n aw ab bw bb [] [] good only e = (refl, e)
same_list text Good one blank a m b n aw ab bw bb (x ∷ es) [] good only e =
    absurd (word_not (text x) b (blank x) bb (first_same (text x) b (flat_map (λ y. as_line (text y)) es ++ (as_line a ++ m)) n (one x (All-head Good x es good)) bw
    (sym (cons_text text x es (as_line a ++ m)) ∙ e)))
same_list text Good one blank a m b n aw ab bw bb [] (y ∷ xs) good only e =
    let line = All-head (IsOnly text Good) y xs only in
    absurd (word_not (text y) a (blank y) ab (first_same (text y) a (flat_map (λ z. as_line (text z)) xs ++ (as_line b ++ n)) m line.0 aw
    (sym (cons_text text y xs (as_line b ++ n)) ∙ sym e)))
same_list text Good one blank a m b n aw ab bw bb (x ∷ es) (y ∷ xs) good only e =
    let line = All-head (IsOnly text Good) y xs only in
    let fine = All-head Good x es good in
    let left : List ℕ = flat_map (λ z. as_line (text z)) es ++ (as_line a ++ m) in
    let right : List ℕ = flat_map (λ z. as_line (text z)) xs ++ (as_line b ++ n) in
    let whole : as_line (text x) ++ left ≡ as_line (text y) ++ right = sym (cons_text text x es (as_line a ++ m)) ∙ e ∙ cons_text text y xs (as_line b ++ n) in
    let more = same_list text Good one blank a m b n aw ab bw bb es xs (All-tail Good x es good) (All-tail (IsOnly text Good) y xs only)
    (rest_same (text x) (text y) left right (one x fine) line.0 whole) in
    let same : x ≡ y = line.1 x fine (first_same (text x) (text y) left right (one x fine) line.0 whole) in
    (ap (λ z. z ∷ es) same ∙ ap (λ z. y ∷ z) more.0, more.1)

only_entries : (es : List Entry) → All IsEntryLine es → All (IsOnly entry_text IsEntry) es
only_entries es k = All-weaker IsEntryLine (IsOnly entry_text IsEntry) (λ e x. (x.one, x.only)) es k

only_rows : (rs : List Row) → All IsRowLine rs → All (IsOnly row_text IsRow) rs
only_rows rs k = All-weaker IsRowLine (IsOnly row_text IsRow) (λ r x. (x.one, x.only)) rs k

-- a line that isn't the other
word_differs : codes "ledger" ≡ codes "end" → ⊥
word_differs e = absurd cc

same_ledger : (a b : Option (List Row)) → IfSome a (All IsRow) → IfSome b (All IsRowLine) → behind_text a ≡ behind_text b → a ≡ b
same_ledger None None j k e = refl
same_ledger None (Some rows) j k e =
    absurd (word_differs (sym (first_same (codes "end") (codes "ledger") [] (behind_more (Some rows)) refl refl (e ∙ sym (behind_is (Some rows))))))
same_ledger (Some rows) None j k e =
    absurd (word_differs (first_same (codes "ledger") (codes "end") (behind_more (Some rows)) [] refl refl (behind_is (Some rows) ∙ e)))
same_ledger (Some rows) (Some others) j k e =
    let more = rest_same (codes "ledger") (codes "ledger") (behind_more (Some rows)) (behind_more (Some others)) refl refl
    (behind_is (Some rows) ∙ e ∙ sym (behind_is (Some others))) in
    ap (λ (z : List Row). Some z) (same_list row_text IsRow row_one row_blank (codes "end") [] (codes "end") [] refl refl refl refl rows others j (only_rows others k) more).0

same_trace : (u t : Trace) → u.entries ≡ t.entries → u.ledger ≡ t.ledger → u ≡ t
same_trace u t a b = ap (λ x. record { entries = x; ledger = u.ledger }) a ∙ ap (λ x. record { entries = t.entries; ledger = x }) b

-- bytes that a trace of such lines prints as are those of no other trace
pub only_trace : (bytes : List ℕ) (t : Trace) → trace_text t ≡ bytes → All IsEntryLine t.entries → IfSome t.ledger (All IsRowLine) → IsTraceOf bytes t
only_trace bytes t e j k = record { text = e; only = λ u good h. both u good (h ∙ sym e) }
  where
    both : (u : Trace) → IsTrace u → trace_text u ≡ trace_text t → u ≡ t
    both u good h =
        let bodies = rest_same (codes "planet trace 1") (codes "planet trace 1") (entries_text u.entries ++ behind_text u.ledger) (entries_text t.entries ++ behind_text t.ledger)
        refl refl (sym (text_is u) ∙ h ∙ text_is t) in
        let parts = same_list entry_text IsEntry (λ x g. g.one) entry_blank (behind_word u.ledger) (behind_more u.ledger) (behind_word t.ledger) (behind_more t.ledger)
        (behind_one u.ledger) (behind_blank u.ledger) (behind_one t.ledger) (behind_blank t.ledger) u.entries t.entries good.entries (only_entries t.entries j)
        (ap (λ (z : List ℕ). entries_text u.entries ++ z) (behind_is u.ledger) ∙ bodies ∙ ap (λ (z : List ℕ). entries_text t.entries ++ z) (sym (behind_is t.ledger))) in
        same_trace u t parts.0 (same_ledger u.ledger t.ledger good.rows k (sym (behind_is u.ledger) ∙ parts.1 ∙ behind_is t.ledger))

-- what is read
pub read_trace : (bytes rest : List ℕ) (es : List Entry) (rows : Option (List Row)) → as_line (codes "planet trace 1") ++ rest ≡ bytes
    → entries_text es ++ (ledger_text rows ++ as_line (codes "end")) ≡ rest → All IsEntryLine es × IfSome rows (All IsRowLine) → IsTraceOf bytes (record { entries = es; ledger = rows })
unfolding trace_text
read_trace bytes rest es rows a b k =
    only_trace bytes (record { entries = es; ledger = rows }) (ap (λ (z : List ℕ). as_line (codes "planet trace 1") ++ z) b ∙ a) k.0 k.1
