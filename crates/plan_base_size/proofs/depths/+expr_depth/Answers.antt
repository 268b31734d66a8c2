use Rattle.std.proofs.Common.{arith}
use Rattle.plan_base.specs.Trees.{trees}
use Rattle.plan_base.proofs.SizeLaws.{expr_depth_out}
use Rattle.plan_base_size.proofs.depths.+expr_depth.Goals as goal

pub expr_depth-returns-in-Tuple : goal.expr_depth-returns-in-Tuple
expr_depth-returns-in-Tuple t c = grind (arith, expr_depth_out, trees)

pub expr_depth-returns-in-If : goal.expr_depth-returns-in-If
expr_depth-returns-in-If t c = grind (arith, expr_depth_out, trees)

pub expr_depth-returns-in-Let : goal.expr_depth-returns-in-Let
expr_depth-returns-in-Let t c = grind (arith, expr_depth_out, trees)

pub expr_depth-returns-in-Not : goal.expr_depth-returns-in-Not
expr_depth-returns-in-Not t c = grind (arith, expr_depth_out, trees)

pub expr_depth-returns-in-Try : goal.expr_depth-returns-in-Try
expr_depth-returns-in-Try t c = grind (arith, expr_depth_out, trees)

pub expr_depth-returns-in-OnRemote : goal.expr_depth-returns-in-OnRemote
expr_depth-returns-in-OnRemote t c = grind (arith, expr_depth_out, trees)

pub expr_depth-returns-in-OnNeighbor : goal.expr_depth-returns-in-OnNeighbor
expr_depth-returns-in-OnNeighbor t c = grind (arith, expr_depth_out, trees)

pub expr_depth-returns-in-Unit : goal.expr_depth-returns-in-Unit
expr_depth-returns-in-Unit t c = grind (arith, expr_depth_out, trees)

pub expr_depth-returns-in-Unit-2 : goal.expr_depth-returns-in-Unit-2
expr_depth-returns-in-Unit-2 t c = grind (arith, expr_depth_out, trees)

pub expr_depth-returns-in-Unit-3 : goal.expr_depth-returns-in-Unit-3
expr_depth-returns-in-Unit-3 t c = grind (arith, expr_depth_out, trees)

pub expr_depth-returns-in-Unit-4 : goal.expr_depth-returns-in-Unit-4
expr_depth-returns-in-Unit-4 t c = grind (arith, expr_depth_out, trees)

pub expr_depth-returns-in-Unit-5 : goal.expr_depth-returns-in-Unit-5
expr_depth-returns-in-Unit-5 t c = grind (arith, expr_depth_out, trees)

pub expr_depth-returns-in-Unit-6 : goal.expr_depth-returns-in-Unit-6
expr_depth-returns-in-Unit-6 t c = grind (arith, expr_depth_out, trees)

pub expr_depth-returns-in-Unit-7 : goal.expr_depth-returns-in-Unit-7
expr_depth-returns-in-Unit-7 t c = grind (arith, expr_depth_out, trees)

pub expr_depth-returns-in-Unit-8 : goal.expr_depth-returns-in-Unit-8
expr_depth-returns-in-Unit-8 t c = grind (arith, expr_depth_out, trees)

pub expr_depth-returns-in-Unit-9 : goal.expr_depth-returns-in-Unit-9
expr_depth-returns-in-Unit-9 t c = grind (arith, expr_depth_out, trees)

pub expr_depth-returns-in-Unit-10 : goal.expr_depth-returns-in-Unit-10
expr_depth-returns-in-Unit-10 t c = grind (arith, expr_depth_out, trees)

pub expr_depth-returns-in-Unit-11 : goal.expr_depth-returns-in-Unit-11
expr_depth-returns-in-Unit-11 t c = grind (arith, expr_depth_out, trees)
