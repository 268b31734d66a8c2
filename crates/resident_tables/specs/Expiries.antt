-- Until when rows stay, and what those take that go.
use Rattle.std.specs.Prelude.{ℕ, ◌≤◌, min, if◌then◌else◌, List, [], ◌∷◌, All}
use Rattle.std.specs.List.{sum_by}
use Rattle.service_api.specs.declared.row.Row.{Row}
use Rattle.service_api.specs.Rows.{row_size, is_live}

-- no row goes before this tick
abbrev pub AllStay : ℕ → List Row → Type 0
AllStay e rows = All (λ r. e ≤ r.expiry) rows

-- the bytes of a row that goes at a tick
abbrev pub size_gone : ℕ → Row → ℕ
size_gone now r = if is_live now r then 0 else row_size r

-- the bytes of the rows that go
abbrev pub expired_size : ℕ → List Row → ℕ
expired_size now rows = sum_by (size_gone now) rows

-- the least of a bound and the ticks at which rows go
abbrev pub least_expiry : ℕ → List Row → ℕ
least_expiry bound [] = bound
least_expiry bound (r ∷ rs) = least_expiry (min bound r.expiry) rs
