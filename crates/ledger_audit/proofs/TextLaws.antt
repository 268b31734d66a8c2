-- The rows of a ledger, one after the other.
use Rattle.std.proofs.Common.{◌≡◌, ℕ, ◌+◌, ◌<◌, List, [], ◌∷◌, ◌++◌, length, take, get_or, sym, ap, ◌∙◌, append-nil, append_assoc}
use Rattle.std.proofs.lemmas.Grind.{take_at_read, flat_map-append}
use Rattle.plan_base.specs.declared.ids.Family.{Family}
use Rattle.bound_ledger.specs.declared.row.Row.{Row}
use Rattle.ledger_audit.specs.Texts.{row_text, rows_text}

pub no_text : (out : List ℕ) → out ≡ out ++ rows_text []
unfolding rows_text
no_text out = sym (append-nil out)

pub next_row : (rows : List (Family × Row)) (i : ℕ) (d : Family × Row) (old mid new : List ℕ) → i < length rows → mid ≡ old ++ rows_text (take i rows) → new ≡ mid ++ row_text (get_or rows i d)
    → new ≡ old ++ rows_text (take (i + 1) rows)
unfolding rows_text
next_row rows i d old mid new l before e =
    let x = get_or rows i d in
    e ∙ ap (λ t. t ++ row_text x) before ∙ append_assoc old (rows_text (take i rows)) (row_text x)
    ∙ ap (λ t. old ++ (rows_text (take i rows) ++ t)) (sym (append-nil (row_text x)))
    ∙ ap (λ t. old ++ t) (sym (flat_map-append row_text (take i rows) (x ∷ [])) ∙ ap rows_text (sym (take_at_read rows i d l).1))
