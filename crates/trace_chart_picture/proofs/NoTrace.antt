-- Bytes that go wrong at a line are those of no trace.
use Rattle.std.proofs.Common.{◌≡◌, inl, inr, ℕ, ◌+◌, Bool, true, false, List, [], ◌∷◌, ◌++◌, length, codes, refl, sym, ap, ◌∙◌, append_assoc}
use Rattle.std.specs.Prelude.{Option, Some, None, IfSome}
use Rattle.std.specs.List.{All, flat_map}
use Rattle.std.specs.Fmt.{decimal}
use Rattle.std.proofs.lemmas.List.Elements.{All-head, All-tail, All-weaker}
use Rattle.trace_chart_picture.specs.Cuts.{before, after, has_blank, capped}
use Rattle.trace_chart_picture.specs.Lines.{entry_text, line_text, family_text}
use Rattle.trace_chart_picture.specs.Traces.{as_line, row_text, rows_text, entries_text, ledger_text, trace_text}
use Rattle.trace_chart_picture.specs.Reads.{lacks, IsEntry, IsRow, IsTrace, NotFirst, EndsWrong, RowsWrong, LedgerWrong, BodyWrong, GoesWrong, IsNoTrace, IsBadLine, IfLine, IsEntryLine, IsRowLine}
use Rattle.trace_chart_picture.specs.declared.line.Entry.{Entry}
use Rattle.trace_chart_picture.specs.declared.line.Row.{Row}
use Rattle.trace_chart_picture.specs.declared.line.Trace.{Trace}
use Rattle.trace_chart_picture.specs.declared.trace.TraceFault.{TraceFault}
use Rattle.trace_chart_picture.specs.declared.trace.TraceFault.TheVariants as fault
use Rattle.trace_chart_picture.proofs.Again.{blank_more}
use Rattle.trace_chart_picture.proofs.Fronts.{before_sign, after_sign, line_front}
use Rattle.trace_chart_picture.proofs.Wrong.{row_one}

-- ---- first lines

-- two texts whose first lines are the same bytes
pub first_same : (l m a b : List ℕ) → lacks 10 l ≡ true → lacks 10 m ≡ true → as_line l ++ a ≡ as_line m ++ b → l ≡ m
first_same l m a b j k e =
    sym (before_sign 10 l a j) ∙ ap (before 10) (sym (line_front l a) ∙ e ∙ line_front m b) ∙ before_sign 10 m b k

pub rest_same : (l m a b : List ℕ) → lacks 10 l ≡ true → lacks 10 m ≡ true → as_line l ++ a ≡ as_line m ++ b → a ≡ b
rest_same l m a b j k e =
    sym (after_sign 10 l a j) ∙ ap (after 10) (sym (line_front l a) ∙ e ∙ line_front m b) ∙ after_sign 10 m b k

true_not : (x : Bool) → x ≡ true → x ≡ false → ⊥
true_not true a b = absurd cc
true_not false a b = absurd cc

-- a word is no line with a blank
pub word_not : (l word : List ℕ) → has_blank l ≡ true → has_blank word ≡ false → l ≡ word → ⊥
word_not l word a b e = true_not (has_blank word) (ap has_blank (sym e) ∙ a) b

pub cons_text : {A : Type 0} (text : A → List ℕ) (x : A) (xs : List A) (more : List ℕ)
    → flat_map (λ e. as_line (text e)) (x ∷ xs) ++ more ≡ as_line (text x) ++ (flat_map (λ e. as_line (text e)) xs ++ more)
cons_text text x xs more = append_assoc (as_line (text x)) (flat_map (λ e. as_line (text e)) xs) more

-- lines up to a word, and as many as there are: what follows both is the same
same_rest : {A : Type 0} (text : A → List ℕ) (Good : A → Type 0)
    → ((x : A) → Good x → lacks 10 (text x) ≡ true) → ((x : A) → has_blank (text x) ≡ true)
    → (word more rest : List ℕ) → lacks 10 word ≡ true → has_blank word ≡ false → ((x : A) → Good x → NotFirst (text x) rest)
    → (es xs : List A) → All Good es → All (λ x. lacks 10 (text x) ≡ true) xs
    → flat_map (λ e. as_line (text e)) es ++ (as_line word ++ more) ≡ flat_map (λ e. as_line (text e)) xs ++ rest → as_line word ++ more ≡ rest
same_rest text Good one blank word more rest w b stop [] [] good free e = e
same_rest text Good one blank word more rest w b stop (x ∷ es) [] good free e =
    absurd (stop x (All-head Good x es good) (flat_map (λ y. as_line (text y)) es ++ (as_line word ++ more)) (sym (cons_text text x es (as_line word ++ more)) ∙ e))
same_rest text Good one blank word more rest w b stop [] (x ∷ xs) good free e =
    let line = All-head (λ y. lacks 10 (text y) ≡ true) x xs free in
    absurd (word_not (text x) word (blank x) b (first_same (text x) word (flat_map (λ y. as_line (text y)) xs ++ rest) more line w
    (sym (cons_text text x xs rest) ∙ sym e)))
same_rest text Good one blank word more rest w b stop (x ∷ es) (y ∷ xs) good free e =
    let line = All-head (λ z. lacks 10 (text z) ≡ true) y xs free in
    same_rest text Good one blank word more rest w b stop es xs (All-tail Good x es good) (All-tail (λ z. lacks 10 (text z) ≡ true) y xs free)
    (rest_same (text x) (text y) (flat_map (λ z. as_line (text z)) es ++ (as_line word ++ more)) (flat_map (λ z. as_line (text z)) xs ++ rest)
    (one x (All-head Good x es good)) line (sym (cons_text text x es (as_line word ++ more)) ∙ e ∙ cons_text text y xs rest))

-- ---- entries and rows have blanks

pub entry_blank : (e : Entry) → has_blank (entry_text e) ≡ true
unfolding entry_text
entry_blank e = blank_more (decimal e.event) (codes " " ++ line_text e.line) refl

pub row_blank : (r : Row) → has_blank (row_text r) ≡ true
unfolding row_text
row_blank r = blank_more (family_text r.family) _ refl

entry_lines : (es : List Entry) → All IsEntryLine es → All (λ e. lacks 10 (entry_text e) ≡ true) es
entry_lines es k = All-weaker IsEntryLine (λ e. lacks 10 (entry_text e) ≡ true) (λ e x. x.one) es k

row_lines : (rs : List Row) → All IsRowLine rs → All (λ r. lacks 10 (row_text r) ≡ true) rs
row_lines rs k = All-weaker IsRowLine (λ r. lacks 10 (row_text r) ≡ true) (λ r x. x.one) rs k

-- ---- the end of a trace

ends_right : (rest : List ℕ) (at n : ℕ) → as_line (codes "end") ++ [] ≡ rest → EndsWrong rest at n → ⊥
ends_right rest at n e (inl k) = k.0 [] e
ends_right rest at n e (inr k) = k.1 (sym (rest_same (codes "end") (codes "end") [] k.0 refl refl (e ∙ sym k.2)))

rows_right : (rows : List Row) (bytes : List ℕ) (at n : ℕ) → All IsRow rows → rows_text rows ++ (as_line (codes "end") ++ []) ≡ bytes → RowsWrong bytes at n → ⊥
rows_right rows bytes at n good e k =
    ends_right k.rest (capped (at + length k.rows)) n
    (same_rest row_text IsRow row_one row_blank (codes "end") [] k.rest refl refl k.stop rows k.rows good (row_lines k.rows k.one) (e ∙ sym k.whole)) k.wrong

-- the words behind the entries
abbrev pub behind_text : Option (List Row) → List ℕ
behind_text rows = ledger_text rows ++ (as_line (codes "end") ++ [])

ledger_right : (rows : Option (List Row)) (bytes : List ℕ) (at n : ℕ) → IfSome rows (All IsRow) → behind_text rows ≡ bytes → LedgerWrong bytes at n → ⊥
ledger_right None bytes at n good e (inl k) =
    word_differs (first_same (codes "ledger") (codes "end") k.0 [] refl refl (k.1 ∙ sym e))
  where
    word_differs : codes "ledger" ≡ codes "end" → ⊥
    word_differs e = absurd cc
ledger_right None bytes at n good e (inr k) = ends_right bytes at n e k.1
ledger_right (Some rows) bytes at n good e (inl k) =
    rows_right rows k.0 (capped (at + 1)) n good
    (rest_same (codes "ledger") (codes "ledger") (rows_text rows ++ (as_line (codes "end") ++ [])) k.0 refl refl
    (sym (append_assoc (as_line (codes "ledger")) (rows_text rows) (as_line (codes "end") ++ [])) ∙ e ∙ sym k.1)) k.2
ledger_right (Some rows) bytes at n good e (inr k) =
    k.0 (rows_text rows ++ (as_line (codes "end") ++ [])) (sym (append_assoc (as_line (codes "ledger")) (rows_text rows) (as_line (codes "end") ++ [])) ∙ e)

-- the word that stands behind the entries
abbrev pub behind_word : Option (List Row) → List ℕ
behind_word None = codes "end"
behind_word (Some rows) = codes "ledger"

abbrev pub behind_more : Option (List Row) → List ℕ
behind_more None = []
behind_more (Some rows) = rows_text rows ++ (as_line (codes "end") ++ [])

pub behind_is : (rows : Option (List Row)) → as_line (behind_word rows) ++ behind_more rows ≡ behind_text rows
behind_is None = refl
behind_is (Some rows) = sym (append_assoc (as_line (codes "ledger")) (rows_text rows) (as_line (codes "end") ++ []))

pub behind_one : (rows : Option (List Row)) → lacks 10 (behind_word rows) ≡ true
behind_one None = refl
behind_one (Some rows) = refl

pub behind_blank : (rows : Option (List Row)) → has_blank (behind_word rows) ≡ false
behind_blank None = refl
behind_blank (Some rows) = refl

body_right : (t : Trace) (bytes : List ℕ) (n : ℕ) → IsTrace t → entries_text t.entries ++ behind_text t.ledger ≡ bytes → BodyWrong bytes n → ⊥
body_right t bytes n good e k =
    let same = same_rest entry_text IsEntry (λ x g. g.one) entry_blank (behind_word t.ledger) (behind_more t.ledger) k.rest (behind_one t.ledger) (behind_blank t.ledger)
    k.stop t.entries k.entries good.entries (entry_lines k.entries k.one) (ap (λ (z : List ℕ). entries_text t.entries ++ z) (behind_is t.ledger) ∙ e ∙ sym k.whole) in
    ledger_right t.ledger k.rest (capped (2 + length k.entries)) n good.rows (sym (behind_is t.ledger) ∙ same) k.wrong

-- a trace as it is written
pub text_is : (t : Trace) → trace_text t ≡ as_line (codes "planet trace 1") ++ (entries_text t.entries ++ behind_text t.ledger)
unfolding trace_text
text_is t = refl

pub none : (bytes : List ℕ) (n : ℕ) → GoesWrong bytes n → IsNoTrace bytes
none bytes n (inl k) t good e = k.0 (entries_text t.entries ++ behind_text t.ledger) (sym (text_is t) ∙ e)
none bytes n (inr k) t good e =
    body_right t k.0 n good
    (rest_same (codes "planet trace 1") (codes "planet trace 1") (entries_text t.entries ++ behind_text t.ledger) k.0 refl refl (sym (text_is t) ∙ e ∙ sym k.1)) k.2

-- the line that goes wrong
bad_line : (bytes : List ℕ) (n : ℕ) → GoesWrong bytes n → IsBadLine bytes n
bad_line bytes n k = record { wrong = k; none = none bytes n k }

pub first_bad : (bytes : List ℕ) → NotFirst (codes "planet trace 1") bytes → IsBadLine bytes 1
first_bad bytes k = bad_line bytes 1 (inl (k, refl))

pub body_bad : (f : TraceFault) (bytes rest : List ℕ) → as_line (codes "planet trace 1") ++ rest ≡ bytes → IfLine f (BodyWrong rest) → IfLine f (IsBadLine bytes)
body_bad (fault.BadLine n) bytes rest e k = bad_line bytes n (inr (rest, e, k))
body_bad fault.NoMemory bytes rest e k = k
