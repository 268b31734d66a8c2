use Rattle.std.proofs.Common.{arith}
use Rattle.plan_base.specs.Trees.{trees}
use Rattle.plan_base.proofs.SizeLaws.{expr_size_out}
use Rattle.plan_base_size.proofs.sizes.+expr_size.Goals as goal

pub expr_size-returns-in-Tuple : goal.expr_size-returns-in-Tuple
expr_size-returns-in-Tuple t c = grind (arith, expr_size_out, trees)

pub expr_size-returns-in-If : goal.expr_size-returns-in-If
expr_size-returns-in-If t c = grind (arith, expr_size_out, trees)

pub expr_size-returns-in-Let : goal.expr_size-returns-in-Let
expr_size-returns-in-Let t c = grind (arith, expr_size_out, trees)

pub expr_size-returns-in-Not : goal.expr_size-returns-in-Not
expr_size-returns-in-Not t c = grind (arith, expr_size_out, trees)

pub expr_size-returns-in-Try : goal.expr_size-returns-in-Try
expr_size-returns-in-Try t c = grind (arith, expr_size_out, trees)

pub expr_size-returns-in-OnNeighbor : goal.expr_size-returns-in-OnNeighbor
expr_size-returns-in-OnNeighbor t c = grind (arith, expr_size_out, trees)

pub expr_size-returns-in-Unit : goal.expr_size-returns-in-Unit
expr_size-returns-in-Unit t c = grind (arith, expr_size_out, trees)
