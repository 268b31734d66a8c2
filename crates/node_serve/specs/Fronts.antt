-- Bytes of which a prefix was written.
use Rattle.std.specs.Prelude.{ℕ, List, ◌++◌, ◌≡◌, take}
use Rattle.node_io.specs.FileMaps.{FileMap, WritesMore}

pub record AppendsFront (old new bytes : List ℕ) : Type 0 where
  pub count : ℕ
  pub is : new ≡ old ++ take count bytes

pub record WritesFront (old new : FileMap) (name bytes : List ℕ) : Type 0 where
  pub count : ℕ
  pub is : WritesMore old new name (take count bytes)
