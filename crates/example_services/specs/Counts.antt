-- What the services hold, and what they stand for.
use Rattle.std.specs.Prelude.{ℤ, pos, ◌≤ℤ◌, false, [], Option, Some, None}
use Rattle.service_api.specs.Rows.{last_key}
use Rattle.service_api.specs.Services.{Rows, ServiceState}
use Rattle.example_services.specs.declared.services.Counts.{Counts}
use Rattle.example_services.specs.Serving.{offer}

-- the number of a count, from 1 to the last
abbrev pub IsNumber : ℤ → Type 0
IsNumber number = (pos 1 ≤ℤ number) × (number ≤ℤ last_key)

abbrev pub IsOptionNumber : Option ℤ → Type 0
IsOptionNumber (Some number) = IsNumber number
IsOptionNumber None = Unit {0}

abbrev pub AreNumbers : Counts → Type 0
AreNumbers c = IsNumber c.number × IsOptionNumber c.begun

-- a table without rows, whose next key is the number of the next count
abbrev pub counting : ℤ → Rows
counting number = record { rows = []; «next» = number }

abbrev pub counting_at : Option ℤ → Option Rows
counting_at (Some number) = Some (counting number)
counting_at None = None

abbrev pub standing : Counts → ServiceState
standing c = record { offer = offer; rows = counting c.number; begun = counting_at c.begun; ready = c.is_ready }

-- none was called, and no `begin` is open
abbrev pub opening : ServiceState
opening = record { offer = offer; rows = counting (pos 1); begun = None; ready = false }
