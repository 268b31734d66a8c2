-- A table: its rows, its next key, and for how many more rows there is room; what its calls answer.
use Rattle.std.specs.Prelude.{◌≡◌, ℕ, ℤ, true, false, List, Option, Some, None, Result, Ok, Err, IsSome, refl}
use Rattle.std.specs.Coded.{Coded, code_by, coded×, coded_list, coded_ℕ, coded_ℤ}
use Rattle.plan_base.specs.declared.tree.Ty.{Ty}
use Rattle.plan_base.specs.declared.tree.Value.{Value}
use Rattle.service_api.specs.declared.row.Row.{Row}
use Rattle.service_api.specs.contracts.row.Row as row
use Rattle.service_api.specs.Rows.{put_row, fits}
use Rattle.resident_tables.specs.declared.fault.TableFault.{TableFault}
use Rattle.resident_tables.specs.declared.fault.TableFault.TheVariants.{TableFull, NotFound, NoMemory}

pub record Table : Type 0 where
  pub rows : List Row
  pub «next» : ℤ
  pub spare : ℕ

abbrev pub table_code : Coded Table
table_code = code_by (List Row × (ℤ × ℕ))
    (coded× (coded_list row.the_row.coded)
    (coded× coded_ℤ coded_ℕ)) (λ t. (t.rows, (t.«next», t.spare))) (λ p. record { rows = p.0; «next» = p.1.0; spare = p.1.1 }) (λ _.
    refl)

-- the row of these parts
abbrev pub row_of : List ℕ → ℤ → Ty → Value → ℕ → Row
row_of name key ty value expiry = record { name = name; key = key; ty = ty; value = value; expiry = expiry }

-- what a put answers and leaves: TableFull exactly where the rows would pass the limits, and nothing changes then
abbrev pub IsPut : List Row → Row → Result (Unit {0}) TableFault → List Row → Type 0
IsPut old r (Ok _) new = (fits (put_row r old) ≡ true) × (new ≡ put_row r old)
IsPut old r (Err TableFull) new = (fits (put_row r old) ≡ false) × (new ≡ old)
IsPut old r (Err NoMemory) new = (fits (put_row r old) ≡ true) × (new ≡ old)
IsPut old r (Err NotFound) new = ⊥

-- what a look-up answers: the value where there is one, and NotFound exactly where there is none
abbrev pub IsGot : Option Value → Result Value TableFault → Type 0
IsGot o (Ok v) = o ≡ Some v
IsGot o (Err NotFound) = o ≡ None
IsGot o (Err NoMemory) = IsSome o
IsGot o (Err TableFull) = ⊥
