use Rattle.std.proofs.Common.{◌≡◌, take}
use Rattle.plan_base_copy.proofs.copied.copy_items.Given as goal

abbrev pub invariant-loop-item : goal.invariant-loop-item
invariant-loop-item g l = l.done ≡ take l.item-index l.items
