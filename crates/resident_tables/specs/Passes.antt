-- An index as rows go: the two halves of an entry, and the marks of rows, which say where each will stand.
use Rattle.std.specs.Prelude.{ℕ, ◌+◌, ◌/◌, ◌%◌, List, [], ◌∷◌, if◌then◌else◌}
use Rattle.service_api.specs.declared.row.Row.{Row}
use Rattle.service_api.specs.Rows.{is_live}

-- the lower half of an entry, a place
unfoldable pub place_of : ℕ → ℕ
place_of e = e % 4294967296

-- the upper half of an entry, a mark
unfoldable pub mark_of : ℕ → ℕ
mark_of e = e / 4294967296

-- the mark of a row before which so many stay: where it will stand, or where it goes, how many there are
abbrev pub mark_here : ℕ → ℕ → ℕ → Row → ℕ
mark_here now all left r = if is_live now r then left else all

-- how many stay up to a row before which so many do
abbrev pub left_here : ℕ → ℕ → Row → ℕ
left_here now left r = if is_live now r then left + 1 else left

-- the marks of rows before which so many stay
abbrev pub marks : ℕ → ℕ → ℕ → List Row → List ℕ
marks now all left [] = []
marks now all left (r ∷ rs) = mark_here now all left r ∷ marks now all (left_here now left r) rs
