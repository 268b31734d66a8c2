use Rattle.std.proofs.Common.{arith}
use Rattle.plan_parser.proofs.Items.{values_last, types_last}
use Rattle.plan_parser.proofs.item.tuple_of.Goals as goal

pub loop-item-preserved : goal.loop-item-preserved
loop-item-preserved c = grind (arith, values_last, types_last)
