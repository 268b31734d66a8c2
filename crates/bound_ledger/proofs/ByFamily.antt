-- The rows of a ledger as a list of families with their counts.
use Rattle.std.proofs.Common.{◌≡◌, false, cond, List, [], ◌∷◌, map, Some, refl, sym, ap, ◌∙◌}
use Rattle.std.specs.Prelude.{unwrap_or}
use Rattle.std.specs.List.{IsDistinct, AllByRecursion}
use Rattle.std.specs.Map.{lookup}
use Rattle.plan_base.specs.declared.ids.Family.{Family}
use Rattle.bound_ledger.specs.declared.row.Row.{Row}
use Rattle.bound_ledger.specs.Counts.{nothing}
use Rattle.bound_ledger.specs.Rows.{FamilyRow, same_family, families_in, OneEach, counts_of, row_of}
use Rattle.bound_ledger.proofs.RowLaws.{same_self, same_turned, counts_some}
use Rattle.net_world_spec.specs.declared.lines.Entry.{Entry}
use Rattle.net_world_spec.specs.Texts.{families}
use Rattle.bound_ledger.specs.Stands.{Stands}

-- a row further on is found behind one of another family
found_behind : (e x : FamilyRow) (es : List FamilyRow) → same_family e.0 x.0 ≡ false → counts_of x.0 (e ∷ es) ≡ counts_of x.0 es
unfolding counts_of row_of
found_behind e x es h = ap (λ b. unwrap_or (cond b (Some e.1) (lookup (same_family x.0) es)) nothing) (same_turned x.0 e.0 ∙ h)

found_first : (e : FamilyRow) (es : List FamilyRow) → counts_of e.0 (e ∷ es) ≡ e.1
unfolding row_of
found_first e es = counts_some e.0 (e ∷ es) e.1 (ap (λ b. cond b (Some e.1) (lookup (same_family e.0) es)) (same_self e.0))

abbrev pub by_family : (Family → Row) → List Family → List FamilyRow
by_family counts fs = map (λ f. (f, counts f)) fs

-- rows whose counts are given by their families
behind_all : (e : FamilyRow) (es rest : List FamilyRow) → AllByRecursion (λ f. same_family e.0 f ≡ false) (families_in rest) → by_family (λ f. counts_of f (e ∷ es)) (families_in rest) ≡ by_family (λ f. counts_of f es) (families_in rest)
behind_all e es [] h = refl
behind_all e es (x ∷ xs) h = λ i. (x.0, found_behind e x es h.0 i) ∷ behind_all e es xs h.1 i

pub rows_by_family : (rows : List FamilyRow) → OneEach rows → rows ≡ by_family (λ f. counts_of f rows) (families_in rows)
unfolding IsDistinct
rows_by_family [] d = refl
rows_by_family (e ∷ es) d = λ i. (e.0, sym (found_first e es) i) ∷ (rows_by_family es d.1 ∙ sym (behind_all e es es d.0)) i

pub standing_rows : (h : List Entry) (rows : List FamilyRow) → OneEach rows → Stands h rows → rows ≡ by_family (λ f. counts_of f rows) (families h)
standing_rows h rows d s = rows_by_family rows d ∙ ap (by_family (λ f. counts_of f rows)) s.families
