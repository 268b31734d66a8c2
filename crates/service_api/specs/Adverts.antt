-- When an advert keeps its limits.
use Rattle.std.specs.Prelude.{ℕ, ◌<◌, ◌≤◌, ◌^◌, Bool, true, nat_lt, IsTrue, Option, Some, None, List, [], ◌∷◌, length}
use Rattle.service_api.specs.declared.advert.AdvertRow.{AdvertRow}
use Rattle.service_api.specs.declared.advert.Advert.{Advert}

-- whether a host comes after the one before it, where there is one
abbrev pub is_above : Option ℕ → ℕ → Bool
is_above None host = true
is_above (Some before) host = nat_lt before host

-- hosts ascend, and no cost is over 65,535
abbrev pub RowsFit : Option ℕ → List AdvertRow → Type 0
RowsFit before [] = Unit {0}
RowsFit before (r ∷ rs) = (IsTrue (is_above before r.host.0) × (r.host.0 < 2 ^ 32)) × (r.cost ≤ 65535) × RowsFit (Some r.host.0) rs

-- at most 32 rows, whose hosts ascend
abbrev pub AdvertFits : Advert → Type 0
AdvertFits a = (a.host.0 < 2 ^ 32) × (length a.rows ≤ 32) × RowsFit None a.rows
