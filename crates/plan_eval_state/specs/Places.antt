-- Places on a stack, which is a list with the last item first.
use Rattle.std.specs.Prelude.{ℕ, reverse, slice_get, List, Option}

-- the item at a place, counted from the bottom
unfoldable pub at_place : {A : Type 0} → List A → ℕ → Option A
at_place xs i = slice_get (reverse xs) i
