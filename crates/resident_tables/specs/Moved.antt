-- Items that are put into a list, one after the other.
use Rattle.std.specs.Prelude.{List, [], ◌∷◌}
use Rattle.containers.specs.Keys.{Key, put}

-- the list with all these items put, in order
abbrev pub all_put : {R : Type 0} → (R → Key) → List R → List R → List R
all_put key [] old = old
all_put key (x ∷ xs) old = all_put key xs (put key x old)
