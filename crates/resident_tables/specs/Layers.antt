-- A layer of changes over a table's rows: removals first, and then puts.
use Rattle.std.specs.Prelude.{◌≡◌, ℕ, ℤ, true, List, [], ◌∷◌, length, Option, Some, None, refl}
use Rattle.std.specs.Coded.{Coded, code_by, coded×, coded_list, coded_ℤ, coded_option}
use Rattle.containers.specs.Keys.{Key}
use Rattle.service_api.specs.declared.row.Row.{Row}
use Rattle.service_api.specs.contracts.row.Row as row
use Rattle.service_api.specs.Rows.{put_row, without_row}
use Rattle.resident_tables.specs.declared.counts.Counts.{Counts}
use Rattle.resident_tables.specs.contracts.counts.Counts as counts
use Rattle.resident_tables.specs.declared.gone.Gone.{Gone}
use Rattle.resident_tables.specs.contracts.gone.Gone as gone
use Rattle.resident_tables.specs.Counted.{counts_of, within}

-- what was removed, what was put, the counts of the changed rows once there was a change, and the next key
pub record Layer : Type 0 where
  pub gone : List Gone
  pub puts : List Row
  pub counted : Option Counts
  pub «next» : ℤ

abbrev pub layer_code : Coded Layer
layer_code = code_by (List Gone × (List Row × (Option Counts × ℤ)))
    (coded× (coded_list gone.the_row.coded)
    (coded× (coded_list row.the_row.coded)
    (coded× (coded_option counts.the_row.coded) coded_ℤ))) (λ o. (o.gone, (o.puts, (o.counted, o.«next»)))) (λ p. record {
      gone =
          p.0;
      puts = p.1.0;
      counted = p.1.1.0;
      «next» = p.1.1.1;
    }) (λ _. refl)

abbrev pub gone_key : Gone → Key
gone_key g = record { name = g.name; number = g.key }

-- all rows put, in order
abbrev pub put_all : List Row → List Row → List Row
put_all [] rows = rows
put_all (r ∷ rs) rows = put_all rs (put_row r rows)

-- the rows without those of the keys
abbrev pub without_all : List Gone → List Row → List Row
without_all [] rows = rows
without_all (g ∷ gs) rows = without_all gs (without_row (gone_key g) rows)

-- the rows after the changes
abbrev pub over : List Row → Layer → List Row
over base o = put_all o.puts (without_all o.gone base)

-- for how many rows there must be room
abbrev pub room_of : Layer → ℕ
room_of o = length o.puts

-- the counts of a layer are those of the rows that it makes of these, which keep the limits
abbrev pub IsCounted : List Row → Layer → Option Counts → Type 0
IsCounted base o None = (o.gone ≡ []) × (o.puts ≡ [])
IsCounted base o (Some c) = (c ≡ counts_of (over base o)) × (within c ≡ true)

-- the layer was used over these rows alone
abbrev pub IsOver : List Row → Layer → Type 0
IsOver base o = IsCounted base o o.counted
