-- Rows of a table: what a list of them is after a put, a removal and a tick, what a look-up finds, and the limits.
use Rattle.std.specs.Prelude.{ℕ, ◌+◌, Bool, ◌&&◌, if◌then◌else◌, nat_lt, nat_le, ℤ, pos, ◌+ℤ◌, List, length, filter, Option, Some, None}
use Rattle.std.specs.List.{sum_by}
use Rattle.std.specs.Ordering.{int_eq}
use Rattle.containers.specs.Keys.{Key, first_of_key, put, without}
use Rattle.plan_base.specs.declared.tree.Ty.{Ty}
use Rattle.plan_base.specs.declared.tree.Value.{Value}
use Rattle.plan_base.specs.Sizes.{type_size, weight}
use Rattle.plan_base.specs.SameTypes.{same_type}
use Rattle.service_api.specs.declared.row.Row.{Row}

abbrev pub row_key : Row → Key
row_key r = record { name = r.name; number = r.key }

-- the rows with this one in the place of the row of its key, or at the end
abbrev pub put_row : Row → List Row → List Row
put_row r rows = put row_key r rows

-- the rows but for that of the key
abbrev pub without_row : Key → List Row → List Row
without_row k rows = without row_key k rows

-- the row of the key
abbrev pub found_row : Key → List Row → Option Row
found_row k rows = first_of_key row_key k rows

-- its expiry lies after the tick
abbrev pub is_live : ℕ → Row → Bool
is_live now r = nat_lt now r.expiry

-- the rows that are there at a tick
abbrev pub living : ℕ → List Row → List Row
living now rows = filter (is_live now) rows

-- the value of a row that was kept at this type and is there at this tick
abbrev pub value_at : Ty → ℕ → Row → Option Value
value_at t now r = if same_type r.ty t && is_live now r then Some r.value else None

abbrev pub value_in : Ty → ℕ → Option Row → Option Value
value_in t now (Some r) = value_at t now r
value_in t now None = None

-- the value that a look-up by key and type finds at a tick
abbrev pub got : Key → Ty → ℕ → List Row → Option Value
got k t now rows = value_in t now (found_row k rows)

-- the bytes of a row: its name, eight, and its type and value in marshalled form
unfoldable pub row_size : Row → ℕ
row_size r = length r.name + 8 + type_size r.ty + weight r.value

abbrev pub rows_size : List Row → ℕ
rows_size rows = sum_by row_size rows

-- at most 1,024 rows and 1,048,576 bytes
abbrev pub fits : List Row → Bool
fits rows = nat_le (length rows) 1024 && nat_le (rows_size rows) 1048576

-- the last key, which isn't given out
abbrev pub last_key : ℤ
last_key = pos 9223372036854775807

-- the key that a table with this next key gives out
abbrev pub fresh_key : ℤ → Option ℤ
fresh_key «next» = if int_eq «next» last_key then None else Some «next»

-- its next key afterwards
abbrev pub key_after : ℤ → ℤ
key_after «next» = if int_eq «next» last_key then «next» else «next» +ℤ pos 1
