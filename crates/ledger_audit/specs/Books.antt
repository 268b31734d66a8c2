-- What families were granted, paid and left, as the code counts it.
use Rattle.std.specs.Prelude.{◌≡◌, ◌+◌, min, if◌then◌else◌, List, Option, Some, None, unwrap_or}
use Rattle.std.specs.Map.{lookup}
use Rattle.plan_base.specs.declared.ids.Family.{Family}
use Rattle.node_core_spec.specs.declared.acts.Act.{Act}
use Rattle.node_core_spec.specs.declared.acts.Act.TheVariants.{Injected, Queued, Ended, Dropped}
use Rattle.node_core_spec.specs.Counts.{is_family, act_sum, act_granted, act_hops, act_evals, act_left}
use Rattle.ledger_audit.specs.declared.keys.FamilyKey.{FamilyKey}
use Rattle.ledger_audit.specs.declared.book.Counts.{Counts}
use Rattle.ledger_audit.specs.declared.book.FamilyTotals.{FamilyTotals}
use Rattle.ledger_audit.specs.Keys.{family_of}

-- no counts
abbrev pub none : Counts
none = record { granted = 0; hops = 0; evals = 0; left = 0 }

-- both in sum; a sum stands still at the last value of 64 bits
abbrev pub plus : Counts → Counts → Counts
plus a b = record {
  granted = min (a.granted + b.granted) 18446744073709551615;
  hops = min (a.hops + b.hops) 18446744073709551615;
  evals = min (a.evals + b.evals) 18446744073709551615;
  left = min (a.left + b.left) 18446744073709551615;
}

-- counts that stood still at the last value of 64 bits
abbrev pub capped : Counts → Counts
capped c = record {
  granted = min c.granted 18446744073709551615;
  hops = min c.hops 18446744073709551615;
  evals = min c.evals 18446744073709551615;
  left = min c.left 18446744073709551615;
}

-- the counts of a family among entries
unfoldable pub counts_of : Family → List (FamilyKey × Counts) → Counts
counts_of f es = unwrap_or (lookup (λ k. is_family f (family_of k)) es) none

-- the counts of a family in the code
abbrev pub counts_in : Family → FamilyTotals → Counts
counts_in f b = counts_of f b.rows.entries

-- one family has these counts now, and the others what they had
abbrev pub IsSet : Family → Counts → FamilyTotals → FamilyTotals → Type 0
IsSet g counts old new = (f : Family) → counts_in f new ≡ (if is_family f g then counts else counts_in f old)

-- these were added to the counts of one family, and nothing to those of others
abbrev pub Adds : Family → Counts → FamilyTotals → FamilyTotals → Type 0
Adds g more old new = (f : Family) → counts_in f new ≡ (if is_family f g then plus (counts_in f old) more else counts_in f old)

-- the family for which an act counts, if there is one, and what
abbrev pub act_row : Act → Option (Family × Counts)
act_row (Injected f bound) = Some (f, record { granted = bound; hops = 0; evals = 0; left = 0 })
act_row (Queued d f bound) = Some (f, record { granted = 0; hops = 1; evals = 0; left = 0 })
act_row (Ended f o evals rest) = Some (f, record { granted = 0; hops = 0; evals = evals; left = rest })
act_row (Dropped r f bound) = Some (f, record { granted = 0; hops = 0; evals = 0; left = bound })
act_row _ = None

-- the counts of a family, with what such a row adds to them
abbrev pub with_row : Family → Option (Family × Counts) → Counts → Counts
with_row f None counts = counts
with_row f (Some x) counts = if is_family f x.0 then plus counts x.1 else counts

-- what an act counts for a family
abbrev pub act_counts : Family → Act → Counts
act_counts f a = record { granted = act_granted f a; hops = act_hops f a; evals = act_evals f a; left = act_left f a }

-- what acts count for a family
abbrev pub acts_counts : Family → List Act → Counts
acts_counts f acts = record {
  granted = act_sum (act_granted f) acts;
  hops = act_sum (act_hops f) acts;
  evals = act_sum (act_evals f) acts;
  left = act_sum (act_left f) acts;
}
