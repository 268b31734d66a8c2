-- The counts of a table's rows, and what they are after a put and a removal.
use Rattle.std.specs.Prelude.{◌≡◌, ℕ, ◌+◌, ◌-◌, ◌<◌, ◌≤◌, Bool, true, false, ◌&&◌, nat_le, if◌then◌else◌, List, length, Option, Some, None}
use Rattle.service_api.specs.declared.row.Row.{Row}
use Rattle.service_api.specs.Rows.{row_size, rows_size, put_row, fits}
use Rattle.resident_tables.specs.declared.counts.Counts.{Counts}

abbrev pub counts_of : List Row → Counts
counts_of rows = record { rows = length rows; bytes = rows_size rows }

-- the limits of a table
abbrev pub within : Counts → Bool
within c = nat_le c.rows 1024 && nat_le c.bytes 1048576

-- the counts without a row that was there
abbrev pub counts_less : Option Row → Counts → Counts
counts_less (Some r) c = record { rows = c.rows - 1; bytes = c.bytes - row_size r }
counts_less None c = c

-- the counts with a row of this size in place of that one
abbrev pub counts_put : Option Row → ℕ → Counts → Counts
counts_put old size c = record { rows = (counts_less old c).rows + 1; bytes = (counts_less old c).bytes + size }

-- the counts, where they keep the limits
abbrev pub if_within : Counts → Option Counts
if_within c = if within c then Some c else None

-- a row that was there is among those counted
abbrev pub HasRow : Option Row → Counts → Type 0
HasRow (Some r) c = (0 < c.rows) × (row_size r ≤ c.bytes)
HasRow None c = Unit {0}

-- whether the rows keep the limits after a put, and their counts then
abbrev pub IsFit : Row → List Row → Option Counts → Type 0
IsFit r rows (Some c) = (fits (put_row r rows) ≡ true) × (c ≡ counts_of (put_row r rows))
IsFit r rows None = fits (put_row r rows) ≡ false

-- the bytes of the changed rows, if there was a change
abbrev pub bytes_after : Option Counts → ℕ → ℕ
bytes_after (Some c) bytes = c.bytes
bytes_after None bytes = bytes
