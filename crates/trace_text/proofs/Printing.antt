-- The text of a ledger's rows, and that of the histories for which they stand.
use Rattle.std.proofs.Common.{◌≡◌, ℕ, Bool, ◌+◌, ◌≤◌, ◌<◌, List, [], ◌∷◌, ◌++◌, map, length, take, get_or, slice_get, Some, refl, sym, ap, ◌∙◌, append_assoc, arith}
use Rattle.std.specs.Prelude.{codes}
use Rattle.std.proofs.lemmas.List.{append-nil, take_all, map-append}
use Rattle.std.proofs.lemmas.List.Concat.{flat_map-append}
use Rattle.std.proofs.lemmas.Grind.{take_at_read}
use Rattle.std.proofs.lemmas.Option.{get_or_from_slice_get}
use Rattle.plan_base.specs.declared.ids.Family.{Family}
use Rattle.bound_ledger.specs.Rows.{FamilyRow, families_in, OneEach, counts_of}
use Rattle.net_world_spec.specs.declared.lines.Entry.{Entry}
use Rattle.net_world_spec.specs.declared.lines.Line.{Line}
use Rattle.net_world_spec.specs.World.{WorldState, entry_at}
use Rattle.net_world_spec.specs.Counts.{Balanced, live}
use Rattle.net_world_spec.specs.Texts.{families, counts_text, row_text, rows_text, ledger_text, entry_text, entries_text}
use Rattle.trace_text.specs.Printed.{printed_row, all_printed}
use Rattle.bound_ledger.specs.Stands.{Stands}
use Rattle.bound_ledger.proofs.ByFamily.{by_family, rows_by_family}

-- ---- printed rows

pub printed_none : all_printed [] ≡ []
unfolding all_printed
printed_none = refl

printed_more : (es : List FamilyRow) (e : FamilyRow) → all_printed (es ++ e ∷ []) ≡ all_printed es ++ printed_row e
unfolding all_printed
printed_more es e = flat_map-append printed_row es (e ∷ []) ∙ ap (λ r. all_printed es ++ r) (append-nil (printed_row e))

-- the rows so far, and the next one
pub printed_next : (rows : List FamilyRow) (i : ℕ) (e : FamilyRow) (old now new : List ℕ) → i < length rows → slice_get rows i ≡ Some e → now ≡ old ++ all_printed (take i rows) → new ≡ now ++ printed_row e
    → new ≡ old ++ all_printed (take (i + 1) rows)
printed_next rows i e old now new within is h n =
    n ∙ ap (λ x. x ++ printed_row e) h ∙ append_assoc old (all_printed (take i rows)) (printed_row e)
    ∙ ap (λ x. old ++ x) (sym (printed_more (take i rows) e) ∙ ap (λ x. all_printed (take i rows ++ x ∷ [])) (sym (get_or_from_slice_get rows i e e is)) ∙ ap all_printed (sym (take_at_read rows i e within).1))

pub printed_all : (rows : List FamilyRow) (i : ℕ) (old new : List ℕ) → length rows ≤ i → new ≡ old ++ all_printed (take i rows) → new ≡ old ++ all_printed rows
printed_all rows i old new e h = h ∙ ap (λ x. old ++ all_printed x) (take_all i rows e)

-- ---- the text of a history's ledger

module _ (h : List Entry) (w : WorldState) (rows : List FamilyRow) (s : Stands h rows) (law : (f : Family) → Balanced f h w) where
  row_printed : (f : Family) → printed_row (f, counts_of f rows) ≡ row_text h w f
  unfolding row_text
  row_printed f =
      let c = s.counts f in
      let l : (counts_of f rows).live ≡ live f w = omega (arith, c.live, (law f).law) in
      λ i. counts_text f (c.granted i) (c.hops i) (c.evals i) (l i) (c.left i)

  rows_printed : (fs : List Family) → all_printed (by_family (λ f. counts_of f rows) fs) ≡ rows_text h w fs
  unfolding all_printed rows_text
  rows_printed [] = refl
  rows_printed (f ∷ fs) = λ i. row_printed f i ++ rows_printed fs i

  pub ledger_printed : OneEach rows → all_printed rows ≡ rows_text h w (families h)
  ledger_printed d = ap all_printed (rows_by_family rows d) ∙ rows_printed (families_in rows) ∙ ap (rows_text h w) s.families

  pub ledger_put : (old begun counted new : List ℕ) → OneEach rows → begun ≡ old ++ codes "ledger\n" → counted ≡ begun ++ all_printed rows → new ≡ counted ++ codes "end\n" → new ≡ old ++ ledger_text h w
  unfolding ledger_text
  ledger_put old begun counted new d b c n =
      n ∙ ap (λ x. x ++ codes "end\n") (c ∙ (λ i. b i ++ ledger_printed d i))
      ∙ append_assoc (old ++ codes "ledger\n") (rows_text h w (families h)) (codes "end\n")
      ∙ append_assoc old (codes "ledger\n") (rows_text h w (families h) ++ codes "end\n")

-- ---- the lines of an event

pub lines_none : (frames : Bool) (n : ℕ) (lines : List Line) (old : List ℕ) → old ≡ old ++ entries_text frames (map (entry_at n) (take 0 lines))
unfolding entries_text
lines_none frames n lines old = sym (append-nil old)

entries_more : (frames : Bool) (es : List Entry) (e : Entry) → entries_text frames (es ++ e ∷ []) ≡ entries_text frames es ++ entry_text frames e
unfolding entries_text
entries_more frames es e = flat_map-append (entry_text frames) es (e ∷ []) ∙ ap (λ r. entries_text frames es ++ r) (append-nil (entry_text frames e))

-- the lines so far, and the next one
pub lines_next : (frames : Bool) (n : ℕ) (lines : List Line) (i : ℕ) (l : Line) (old now new : List ℕ) → i < length lines → l ≡ get_or lines i l → now ≡ old ++ entries_text frames (map (entry_at n) (take i lines))
    → new ≡ now ++ entry_text frames (entry_at n l) → new ≡ old ++ entries_text frames (map (entry_at n) (take (i + 1) lines))
lines_next frames n lines i l old now new within is h e =
    let before = map (entry_at n) (take i lines) in
    let next : map (entry_at n) (take (i + 1) lines) ≡ before ++ entry_at n l ∷ [] =
    ap (map (entry_at n)) ((take_at_read lines i l within).1 ∙ ap (λ x. take i lines ++ x ∷ []) (sym is)) ∙ map-append (entry_at n) (take i lines) (l ∷ []) in
    e ∙ ap (λ x. x ++ entry_text frames (entry_at n l)) h ∙ append_assoc old (entries_text frames before) (entry_text frames (entry_at n l))
    ∙ ap (λ x. old ++ x) (sym (entries_more frames before (entry_at n l)) ∙ ap (entries_text frames) (sym next))

pub lines_all : (frames : Bool) (n : ℕ) (lines : List Line) (i : ℕ) (old new : List ℕ) → length lines ≤ i → new ≡ old ++ entries_text frames (map (entry_at n) (take i lines)) → new ≡ old ++ entries_text frames (map (entry_at n) lines)
lines_all frames n lines i old new e h = h ∙ ap (λ x. old ++ entries_text frames (map (entry_at n) x)) (take_all i lines e)
