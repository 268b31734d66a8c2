-- What contracts see of a keyed list: its items, and for how many more there is room.
use Rattle.std.specs.Prelude.{ℕ, List, refl}
use Rattle.std.specs.Coded.{Coded, code_by, coded×, coded_list, coded_ℕ}

pub record Roomy (R : Type 0) : Type 0 where
  pub items : List R
  pub spare : ℕ

abbrev pub roomy_code : {R : Type 0} → Coded R → Coded (Roomy R)
roomy_code {R} r = code_by (List R × ℕ) (coded× (coded_list r) coded_ℕ) (λ t. (t.items, t.spare)) (λ p. record { items = p.0; spare = p.1 }) (λ _. refl)
