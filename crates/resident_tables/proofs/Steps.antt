-- The steps of the loops over rows.
use Rattle.std.proofs.Common.{◌≡◌, ℕ, true, false, List, [], ◌∷◌, refl}
use Rattle.service_api.specs.declared.row.Row.{Row}
use Rattle.resident_tables.specs.Moved.{all_put}
use Rattle.service_api.specs.Rows.{row_key, put_row, is_live, living}
use Rattle.resident_tables.specs.Layers.{put_all}

-- rows that are put as the items of a list
pub puts_are : (puts rows : List Row) → all_put row_key puts rows ≡ put_all puts rows
puts_are [] rows = refl
puts_are (x ∷ xs) rows = puts_are xs (put_row x rows)

pub kept_first : (now : ℕ) (x : Row) (xs : List Row) → is_live now x ≡ true → living now (x ∷ xs) ≡ x ∷ living now xs
kept_first now x xs e = rw e

pub gone_first : (now : ℕ) (x : Row) (xs : List Row) → is_live now x ≡ false → living now (x ∷ xs) ≡ living now xs
gone_first now x xs e = rw e
