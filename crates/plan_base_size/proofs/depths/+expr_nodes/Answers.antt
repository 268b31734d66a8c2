use Rattle.std.proofs.Common.{arith}
use Rattle.plan_base.specs.Trees.{trees}
use Rattle.plan_base.proofs.SizeLaws.{expr_nodes_out}
use Rattle.plan_base_size.proofs.depths.+expr_nodes.Goals as goal

pub expr_nodes-returns-in-Tuple : goal.expr_nodes-returns-in-Tuple
expr_nodes-returns-in-Tuple t c = grind (arith, expr_nodes_out, trees)

pub expr_nodes-returns-in-If : goal.expr_nodes-returns-in-If
expr_nodes-returns-in-If t c = grind (arith, expr_nodes_out, trees)

pub expr_nodes-returns-in-Let : goal.expr_nodes-returns-in-Let
expr_nodes-returns-in-Let t c = grind (arith, expr_nodes_out, trees)

pub expr_nodes-returns-in-Not : goal.expr_nodes-returns-in-Not
expr_nodes-returns-in-Not t c = grind (arith, expr_nodes_out, trees)

pub expr_nodes-returns-in-Try : goal.expr_nodes-returns-in-Try
expr_nodes-returns-in-Try t c = grind (arith, expr_nodes_out, trees)

pub expr_nodes-returns-in-OnNeighbor : goal.expr_nodes-returns-in-OnNeighbor
expr_nodes-returns-in-OnNeighbor t c = grind (arith, expr_nodes_out, trees)

pub expr_nodes-returns-in-Unit : goal.expr_nodes-returns-in-Unit
expr_nodes-returns-in-Unit t c = grind (arith, expr_nodes_out, trees)

pub expr_nodes-returns-in-Unit-2 : goal.expr_nodes-returns-in-Unit-2
expr_nodes-returns-in-Unit-2 t c = grind (arith, expr_nodes_out, trees)

pub expr_nodes-returns-in-Unit-3 : goal.expr_nodes-returns-in-Unit-3
expr_nodes-returns-in-Unit-3 t c = grind (arith, expr_nodes_out, trees)

pub expr_nodes-returns-in-Unit-4 : goal.expr_nodes-returns-in-Unit-4
expr_nodes-returns-in-Unit-4 t c = grind (arith, expr_nodes_out, trees)

pub expr_nodes-returns-in-Unit-5 : goal.expr_nodes-returns-in-Unit-5
expr_nodes-returns-in-Unit-5 t c = grind (arith, expr_nodes_out, trees)

pub expr_nodes-returns-in-Unit-6 : goal.expr_nodes-returns-in-Unit-6
expr_nodes-returns-in-Unit-6 t c = grind (arith, expr_nodes_out, trees)

pub expr_nodes-returns-in-Unit-7 : goal.expr_nodes-returns-in-Unit-7
expr_nodes-returns-in-Unit-7 t c = grind (arith, expr_nodes_out, trees)

pub expr_nodes-returns-in-Unit-8 : goal.expr_nodes-returns-in-Unit-8
expr_nodes-returns-in-Unit-8 t c = grind (arith, expr_nodes_out, trees)

pub expr_nodes-returns-in-Unit-9 : goal.expr_nodes-returns-in-Unit-9
expr_nodes-returns-in-Unit-9 t c = grind (arith, expr_nodes_out, trees)

pub expr_nodes-returns-in-Unit-10 : goal.expr_nodes-returns-in-Unit-10
expr_nodes-returns-in-Unit-10 t c = grind (arith, expr_nodes_out, trees)

pub expr_nodes-returns-in-Unit-11 : goal.expr_nodes-returns-in-Unit-11
expr_nodes-returns-in-Unit-11 t c = grind (arith, expr_nodes_out, trees)
