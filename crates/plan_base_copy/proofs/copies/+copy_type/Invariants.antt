use Rattle.std.proofs.Common.{◌≡◌, take}
use Rattle.plan_base_copy.proofs.copies.+copy_type.Given as goal

abbrev pub invariant-copy_types-loop-t : goal.invariant-copy_types-loop-t
invariant-copy_types-loop-t l = l.done ≡ take l.t-index l.types
