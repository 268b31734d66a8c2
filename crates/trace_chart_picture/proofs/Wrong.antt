-- Where bytes go wrong as a trace, and that they are then those of none.
use Rattle.std.proofs.Common.{◌≡◌, ℕ, ◌+◌, ◌-◌, ◌≤◌, ◌<◌, ◌^◌, true, List, [], ◌∷◌, ◌++◌, length, length-append, codes, refl, sym, ap, subst, ◌∙◌, arith, append_assoc, append-nil}
use Rattle.std.specs.Prelude.{Option, Some, IfSome}
use Rattle.std.specs.List.{flat_map}
use Rattle.std.specs.Fmt.{decimal}
use Rattle.trace_chart_picture.specs.Cuts.{capped}
use Rattle.trace_chart_picture.specs.Lines.{entry_text, family_text}
use Rattle.trace_chart_picture.specs.Traces.{as_line, row_text, named_text}
use Rattle.trace_chart_picture.specs.Reads.{lacks, IsRow, IsReadAs, IsReadRow, IsEntryLine, IsRowLine, IsNoEntry, IsNoRow, IsNext, NoEntryFirst, NoRowFirst}
use Rattle.trace_chart_picture.specs.declared.line.Entry.{Entry}
use Rattle.trace_chart_picture.specs.declared.line.Row.{Row}
use Rattle.trace_chart_picture.proofs.Digits.{lacks-append, number_lacks, family_lacks}

-- ---- rows are lines

named_one : (name : List ℕ) (n : ℕ) → lacks 10 name ≡ true → n < 2 ^ 64 → lacks 10 (named_text name n) ≡ true
named_one name n a k = lacks-append 10 name (decimal n) a (number_lacks 10 n (omega arith) k)

named_more : (name : List ℕ) (n : ℕ) (text : List ℕ) → lacks 10 name ≡ true → n < 2 ^ 64 → lacks 10 text ≡ true → lacks 10 (named_text name n ++ text) ≡ true
named_more name n text a k b = lacks-append 10 (named_text name n) text (named_one name n a k) b

pub row_one : (r : Row) → IsRow r → lacks 10 (row_text r) ≡ true
unfolding row_text
row_one r k =
    let left : List ℕ = named_text (codes " left ") r.left in
    let live : List ℕ = named_text (codes " live ") r.live ++ left in
    let evals : List ℕ = named_text (codes " evals ") r.evals ++ live in
    let hops : List ℕ = named_text (codes " hops ") r.hops ++ evals in
    let granted : List ℕ = named_text (codes " granted ") r.granted ++ hops in
    lacks-append 10 (family_text r.family) granted (family_lacks 10 r.family (omega arith) k.family)
    (named_more (codes " granted ") r.granted hops refl k.granted (named_more (codes " hops ") r.hops evals refl k.hops
    (named_more (codes " evals ") r.evals live refl k.evals (named_more (codes " live ") r.live left refl k.live
    (named_one (codes " left ") r.left refl k.left)))))

-- ---- entries and rows that are added

pub no_entry_first : (bytes line more : List ℕ) → IsNext bytes line more → IsNoEntry line → NoEntryFirst bytes
no_entry_first bytes line more n none e k m t = none e k (n.only (entry_text e) m k.one t)

pub no_row_first : (bytes line more : List ℕ) → IsNext bytes line more → IsNoRow line → NoRowFirst bytes
no_row_first bytes line more n none r k m t = none r k (n.only (row_text r) m (row_one r k) t)

pub read_entry : (line : List ℕ) (e : Entry) → IsReadAs line e → lacks 10 line ≡ true → IsEntryLine e
read_entry line e k one = record { one = ap (lacks 10) k.text ∙ one; only = λ x g h. k.only x g (h ∙ k.text) }

pub read_row : (line : List ℕ) (r : Row) → IsReadRow line r → lacks 10 line ≡ true → IsRowLine r
read_row line r k one = record { one = ap (lacks 10) k.text ∙ one; only = λ x g h. k.only x g (h ∙ k.text) }

pub counted : (first n m before now more : ℕ) → before ≤ now → more ≡ now + 1 → n ≡ capped (first + (now - before)) → m ≡ capped (n + 1) → m ≡ capped (first + (more - before))
counted first n m before now more a b c d = omega (arith, a, b, c, d)

lines_push : {A : Type 0} (text : A → List ℕ) (xs : List A) (x : A) → flat_map text (xs ++ x ∷ []) ≡ flat_map text xs ++ text x
lines_push text [] x = append-nil (text x)
lines_push text (y ∷ ys) x = ap (λ (z : List ℕ). text y ++ z) (lines_push text ys x) ∙ sym (append_assoc (text y) (flat_map text ys) (text x))

-- what stands in front and what is left are together the same
pub line_more : {A : Type 0} (text : A → List ℕ) (xs : List A) (x : A) (rest line more all : List ℕ)
    → flat_map (λ e. as_line (text e)) xs ++ rest ≡ all → as_line line ++ more ≡ rest → text x ≡ line
    → flat_map (λ e. as_line (text e)) (xs ++ x ∷ []) ++ more ≡ all
line_more text xs x rest line more all a b e =
    ap (λ (z : List ℕ). z ++ more) (lines_push (λ y. as_line (text y)) xs x)
    ∙ append_assoc (flat_map (λ y. as_line (text y)) xs) (as_line (text x)) more
    ∙ ap (λ (z : List ℕ). flat_map (λ y. as_line (text y)) xs ++ z) (ap (λ (z : List ℕ). as_line z ++ more) e ∙ b) ∙ a

pub push_length : {A : Type 0} (xs : List A) (x : A) → length (xs ++ x ∷ []) ≡ length xs + 1
push_length xs x = length-append xs (x ∷ [])

pub if_some : {A : Type 0} (P : A → Type 0) (o : Option A) (x : A) → IfSome o P → o ≡ Some x → P x
if_some P o x k e = subst (λ z. IfSome z P) e k
