-- The lowest and the highest number on the wire.
use Rattle.std.specs.Prelude.{ℕ, List, [], ◌∷◌, Option, Some, None, min, max}
use Rattle.net_world_spec.specs.declared.lines.FrameOnWire.{FrameOnWire}

abbrev pub at_most : ℕ → Option ℕ → ℕ
at_most n None = n
at_most n (Some m) = min n m

-- the least number of a frame on the wire, if there is one
unfoldable pub lowest : List FrameOnWire → Option ℕ
lowest [] = None
lowest (x ∷ xs) = Some (at_most x.number (lowest xs))

abbrev pub at_least : ℕ → Option ℕ → ℕ
at_least n None = n
at_least n (Some m) = max n m

-- the greatest number of a frame on the wire, if there is one
unfoldable pub highest : List FrameOnWire → Option ℕ
highest [] = None
highest (x ∷ xs) = Some (at_least x.number (highest xs))
