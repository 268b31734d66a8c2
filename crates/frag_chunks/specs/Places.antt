-- Where a key stands.
use Rattle.std.specs.Prelude.{ℕ, suc, if◌then◌else◌, ℤ, List, [], ◌∷◌, Option, Some, None}
use Rattle.std.specs.Option.{option_map}
use Rattle.std.specs.Ordering.{int_eq}
use Rattle.frag_chunks.specs.declared.holding.Entry.{Entry}
use Rattle.frag_chunks.specs.declared.gather.Held.{Held}
use Rattle.frag_chunks.specs.Gathers.{held_of}

abbrev pub position : ℤ → List Entry → Option ℕ
position k [] = None
position k (e ∷ es) = if int_eq e.key k then Some 0 else option_map (λ i. suc i) (position k es)

-- what is held of an entry, where there is one
abbrev pub entry_held : Option Entry → Option Held
entry_held None = None
entry_held (Some e) = Some (held_of e.key e.holding)
