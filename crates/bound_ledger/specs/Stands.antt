-- Which histories the rows of a ledger stand for.
use Rattle.std.specs.Prelude.{◌≡◌, ◌+◌, List}
use Rattle.plan_base.specs.declared.ids.Family.{Family}
use Rattle.bound_ledger.specs.declared.row.Row.{Row}
use Rattle.bound_ledger.specs.Rows.{FamilyRow, families_in, counts_of}
use Rattle.net_world_spec.specs.declared.lines.Entry.{Entry}
use Rattle.net_world_spec.specs.Counts as count
use Rattle.net_world_spec.specs.Texts as texts

-- a row has the counts of a family over a history, and what was granted and neither paid nor left is live
pub record IsCount (h : List Entry) (f : Family) (r : Row) : Type 0 where
  pub granted : r.granted ≡ count.granted_sum f h
  pub hops : r.hops ≡ count.hops f h
  pub evals : r.evals ≡ count.evals f h
  pub left : r.left ≡ count.left_sum f h
  pub live : count.granted_sum f h ≡ count.hops f h + count.evals f h + r.live + count.left_sum f h

-- the rows are those of a history's families in the order of their first grants, each with its family's counts, and a family
-- without a row has none
pub record Stands (h : List Entry) (rows : List FamilyRow) : Type 0 where
  pub families : families_in rows ≡ texts.families h
  pub counts : (f : Family) → IsCount h f (counts_of f rows)
