-- Families in order.
use Rattle.std.specs.Prelude.{◌≡◌, ◌⊎◌, ◌<◌, List, [], ◌∷◌}
use Rattle.std.specs.List.{AllByRecursion}
use Rattle.plan_base.specs.declared.ids.Family.{Family}

-- one family is before another: by host, and under one host by serial number
abbrev pub IsBefore : Family → Family → Type 0
IsBefore f g = (f.source.0 < g.source.0) ⊎ ((f.source.0 ≡ g.source.0) × (f.serial < g.serial))

-- each family is before all behind it
abbrev pub InOrder : List Family → Type 0
InOrder [] = Unit {0}
InOrder (f ∷ fs) = AllByRecursion (IsBefore f) fs × InOrder fs

-- a family stands in a list
abbrev pub IsIn : Family → List Family → Type 0
IsIn f [] = ⊥
IsIn f (g ∷ gs) = (f ≡ g) ⊎ IsIn f gs
