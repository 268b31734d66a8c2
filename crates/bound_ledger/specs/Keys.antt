-- How the rows are kept, by a key for each family.
use Rattle.std.specs.Prelude.{◌<◌, ◌^◌, List, length, map, All}
use Rattle.plan_base.specs.declared.ids.Family.{Family}
use Rattle.bound_ledger.specs.declared.key.FamilyKey.{FamilyKey}
use Rattle.bound_ledger.specs.declared.row.Row.{Row}
use Rattle.bound_ledger.specs.Counts.{InBalance}
use Rattle.bound_ledger.specs.Rows.{FamilyRow}

-- the key of a family
abbrev pub key_of : Family → FamilyKey
key_of f = record { host = f.source.0; serial = f.serial }

-- the family of a key
abbrev pub family_of : FamilyKey → Family
family_of k = record { source = record { 0 = k.host }; serial = k.serial }

abbrev pub row_at : FamilyKey × Row → FamilyRow
row_at e = (family_of e.0, e.1)

-- the rows as contracts see them
unfoldable pub rows_at : List (FamilyKey × Row) → List FamilyRow
rows_at entries = map row_at entries

-- each row is in balance, and there are fewer than 2^32
pub record AreKept (entries : List (FamilyKey × Row)) : Type 0 where
  pub balanced : All (λ e. InBalance e.1) entries
  pub few : length entries < 2 ^ 32
