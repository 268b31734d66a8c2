-- What a registry holds, and what it stands for.
use Rattle.std.specs.Prelude.{◌≡◌, ℤ, ◌≤◌, Bool, true, false, List, Option, Some, None, refl}
use Rattle.std.specs.Coded.{Coded, code_by, coded×, coded_list, coded_bool, coded_ℤ, coded_option}
use Rattle.service_api.specs.declared.row.Row.{Row}
use Rattle.service_api.specs.contracts.row.Row as row
use Rattle.service_api.specs.Services.{Rows, ServiceState, AreGoodRows}
use Rattle.service_registry_spec.specs.Offered.{InstalledPackages}
use Rattle.service_registry_spec.specs.Serving.{offer}
use Rattle.resident_tables.specs.Tables.{Table}
use Rattle.resident_tables.specs.Layers.{Layer, over, IsOver, room_of}

-- the packages that are there; the rows and the next key; those at the open `begin`; whether `ready` was answered since the last `call`
pub record RegistryState : Type 0 where
  pub there : InstalledPackages
  pub rows : Rows
  pub begun : Option Rows
  pub ready : Bool

abbrev pub present_code : Coded InstalledPackages
present_code = code_by (Bool × (Bool × Bool)) (coded× coded_bool (coded× coded_bool coded_bool)) (λ p. (p.net, (p.resident, p.host)))
    (λ p. record { net = p.0; resident = p.1.0; host = p.1.1 }) (λ _. refl)

abbrev pub rows_code : Coded Rows
rows_code = code_by (List Row × ℤ) (coded× (coded_list row.the_row.coded) coded_ℤ) (λ r. (r.rows, r.«next»))
    (λ p. record { rows = p.0; «next» = p.1 }) (λ _. refl)

abbrev pub held_code : Coded RegistryState
held_code = code_by (InstalledPackages × (Rows × (Option Rows × Bool)))
    (coded× present_code
    (coded× rows_code
    (coded× (coded_option rows_code) coded_bool))) (λ h. (h.there, (h.rows, (h.begun, h.ready)))) (λ p. record {
      there =
          p.0;
      rows = p.1.0;
      begun = p.1.1.0;
      ready = p.1.1.1;
    }) (λ _. refl)

abbrev pub standing : RegistryState → ServiceState
standing h = record { offer = offer h.there; rows = h.rows; begun = h.begun; ready = h.ready }

-- ---- tables and the changes of a visit

abbrev pub rows_of : Table → Rows
rows_of t = record { rows = t.rows; «next» = t.«next» }

-- the rows after the changes, and the next key after them
abbrev pub rows_over : Table → Layer → Rows
rows_over t o = record { rows = over t.rows o; «next» = o.«next» }

-- the changes, where a `begin` is open
abbrev pub opened : Bool → Layer → Option Layer
opened true o = Some o
opened false o = None

abbrev pub rows_now : Table → Option Layer → Rows
rows_now t None = rows_of t
rows_now t (Some o) = rows_over t o

abbrev pub rows_begun : Table → Option Layer → Option Rows
rows_begun t None = None
rows_begun t (Some o) = Some (rows_of t)

-- what is held of a table and the changes over it, if a `begin` is open
abbrev pub held_registry : InstalledPackages → Table → Option Layer → Bool → RegistryState
held_registry p t o ready = record { there = p; rows = rows_now t o; begun = rows_begun t o; ready = ready }

-- changes that were used over the table alone and leave good rows, for which there is room after `ready`
pub record IsOpen (t : Table) (o : Layer) (ready : Bool) : Type 0 where
  pub base : IsOver t.rows o
  pub good : AreGoodRows (rows_over t o)
  pub room : ready ≡ true → room_of o ≤ t.spare

-- what holds of the changes of a visit, if a `begin` is open
abbrev pub IsKept : Table → Option Layer → Bool → Type 0
IsKept t None ready = ready ≡ false
IsKept t (Some o) ready = IsOpen t o ready
