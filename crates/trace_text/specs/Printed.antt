-- The rows of a ledger as they are written.
use Rattle.std.specs.Prelude.{ℕ, List}
use Rattle.std.specs.List.{flat_map}
use Rattle.bound_ledger.specs.Rows.{FamilyRow}
use Rattle.net_world_spec.specs.Texts.{counts_text}

-- a family with its counts
abbrev pub printed_row : FamilyRow → List ℕ
printed_row e = counts_text e.0 e.1.granted e.1.hops e.1.evals e.1.live e.1.left

-- the rows in order
unfoldable pub all_printed : List FamilyRow → List ℕ
all_printed rows = flat_map printed_row rows
