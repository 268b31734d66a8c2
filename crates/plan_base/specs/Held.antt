-- The bytes of a text, wherever they stand.
use Rattle.std.specs.Prelude.{ℕ, List}
use Rattle.plan_base.specs.declared.text.TextRepr.{TextRepr}
use Rattle.plan_base.specs.declared.text.TextRepr.TheVariants.{Short, Long}

abbrev pub held_bytes : TextRepr → List ℕ
held_bytes (Short few) = few
held_bytes (Long all) = all.items
