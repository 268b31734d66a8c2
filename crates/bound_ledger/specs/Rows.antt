-- The rows of a ledger, in order of first grant, and what its calls do to them.
use Rattle.std.specs.Prelude.{ℕ, Bool, ◌==◌, ◌&&◌, if◌then◌else◌, List, [], ◌∷◌, ◌++◌, map, Option, is_some, unwrap_or}
use Rattle.std.specs.Map.{lookup, keys_of}
use Rattle.std.specs.List.{IsDistinct}
use Rattle.plan_base.specs.declared.ids.Family.{Family}
use Rattle.bound_ledger.specs.declared.row.Row.{Row}
use Rattle.bound_ledger.specs.Counts.{nothing, more}

-- a family with its row
abbrev pub FamilyRow : Type 0
FamilyRow = Family × Row

-- whether these are the same family
unfoldable pub same_family : Family → Family → Bool
same_family f g = (f.source.0 == g.source.0) && (f.serial == g.serial)

-- the families of the rows, in order
abbrev pub families_in : List FamilyRow → List Family
families_in rows = keys_of rows

-- no family has two rows
abbrev pub OneEach : List FamilyRow → Type 0
OneEach rows = IsDistinct same_family (families_in rows)

-- the row of a family, where it has one
unfoldable pub row_of : Family → List FamilyRow → Option Row
row_of f rows = lookup (same_family f) rows

-- the counts of a family, which are none where it has no row
unfoldable pub counts_of : Family → List FamilyRow → Row
counts_of f rows = unwrap_or (row_of f rows) nothing

-- a row, changed where it is this family's
abbrev pub change : (Row → Row) → Family → FamilyRow → FamilyRow
change move f e = if same_family f e.0 then (e.0, move e.1) else e

-- the rows with that of a family changed, and no other
unfoldable pub changed_rows : (Row → Row) → Family → List FamilyRow → List FamilyRow
changed_rows move f rows = map (change move f) rows

-- the rows with n more granted to a family, in a new last row where it has none
unfoldable pub with_grant : Family → ℕ → List FamilyRow → List FamilyRow
with_grant f n rows = if is_some (row_of f rows) then changed_rows (more n) f rows else rows ++ (f, more n nothing) ∷ []
