-- The order of keys: by their numbers, and then by the bytes of their names.
use Rattle.std.specs.Ordering.{nat_cmp, int_cmp, ordering_then}
use Rattle.std.specs.Cmp.Lexicographic.{slice_cmp}
use Rattle.std.specs.declared.cmp.Ordering.{Ordering}
use Rattle.containers.specs.Keys.{Key}

unfoldable pub key_cmp : Key → Key → Ordering
key_cmp a b = ordering_then (int_cmp a.number b.number) (slice_cmp nat_cmp a.name b.name)
