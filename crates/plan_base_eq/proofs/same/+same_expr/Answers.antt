use Rattle.std.proofs.Common.{arith}
use Rattle.plan_base.specs.Trees.{trees}
use Rattle.plan_base.proofs.SizeLaws.{expr_nodes_out}
use Rattle.plan_base_eq.proofs.Alike.{unlike}
use Rattle.plan_base_eq.proofs.same.+same_expr.Goals as goal

pub same_expr-same_leaf-requires-in-Unit : goal.same_expr-same_leaf-requires-in-Unit
same_expr-same_leaf-requires-in-Unit t c = record { leaf = grind (arith, trees) }

pub same_expr-same_leaf-requires-in-Str : goal.same_expr-same_leaf-requires-in-Str
same_expr-same_leaf-requires-in-Str t c = record { leaf = grind (arith, trees) }

pub same_expr-same_leaf-requires : goal.same_expr-same_leaf-requires
same_expr-same_leaf-requires t c = record { leaf = grind (arith, trees) }

pub same_expr-same_pair-requires-in-Then : goal.same_expr-same_pair-requires-in-Then
same_expr-same_pair-requires-in-Then t c = grind (arith, trees)

pub same_expr-same_pair-requires : goal.same_expr-same_pair-requires
same_expr-same_pair-requires t c = grind (arith, trees)

pub same_expr-same_row-requires-in-Tuple : goal.same_expr-same_row-requires-in-Tuple
same_expr-same_row-requires-in-Tuple t c = grind (arith, trees)

pub same_expr-same_row-requires : goal.same_expr-same_row-requires
same_expr-same_row-requires t c = grind (arith, trees)

pub same_expr-same_more-requires-in-If : goal.same_expr-same_more-requires-in-If
same_expr-same_more-requires-in-If t c = grind (arith, trees)

pub same_expr-same_more-requires : goal.same_expr-same_more-requires
same_expr-same_more-requires t c = grind (arith, trees)

pub same_pair-same_both-requires : goal.same_pair-same_both-requires
same_pair-same_both-requires t c = grind (arith, trees, expr_nodes_out)

pub same_pair-same_both-requires-in-And-other : goal.same_pair-same_both-requires-in-And-other
same_pair-same_both-requires-in-And-other t c = grind (arith, trees, expr_nodes_out)

pub same_pair-same_both-requires-in-Or-other : goal.same_pair-same_both-requires-in-Or-other
same_pair-same_both-requires-in-Or-other t c = grind (arith, trees, expr_nodes_out)

pub same_pair-same_both-requires-then-eq : goal.same_pair-same_both-requires-then-eq
same_pair-same_both-requires-then-eq t c = grind (arith, trees, expr_nodes_out)

pub same_pair-same_both-requires-then-is : goal.same_pair-same_both-requires-then-is
same_pair-same_both-requires-then-is t c = grind (arith, trees, expr_nodes_out)

pub same_pair-same_both-requires-then-is-2 : goal.same_pair-same_both-requires-then-is-2
same_pair-same_both-requires-then-is-2 t c = grind (arith, trees, expr_nodes_out)

pub same_pair-returns-in-Then-other : goal.same_pair-returns-in-Then-other
same_pair-returns-in-Then-other t c = grind (arith, trees)

pub same_pair-returns-in_default-other : goal.same_pair-returns-in_default-other
same_pair-returns-in_default-other t c = unlike c.in-Then.is (c.in_default-other.not-Then c.in-Then.a c.in-Then.b)

pub same_pair-returns-in-And-other : goal.same_pair-returns-in-And-other
same_pair-returns-in-And-other t c = grind (arith, trees)

pub same_pair-returns-in_default-other-2 : goal.same_pair-returns-in_default-other-2
same_pair-returns-in_default-other-2 t c = unlike c.in-And.is (c.in_default-other-2.not-And c.in-And.a c.in-And.b)

pub same_pair-returns-in-Or-other : goal.same_pair-returns-in-Or-other
same_pair-returns-in-Or-other t c = grind (arith, trees)

pub same_pair-returns-in_default-other-3 : goal.same_pair-returns-in_default-other-3
same_pair-returns-in_default-other-3 t c = unlike c.in-Or.is (c.in_default-other-3.not-Or c.in-Or.a c.in-Or.b)

pub same_pair-returns-then-eq : goal.same_pair-returns-then-eq
same_pair-returns-then-eq t c = grind (arith, trees)

pub same_pair-returns-else-eq : goal.same_pair-returns-else-eq
same_pair-returns-else-eq t c = grind (arith, trees)

pub same_pair-returns-in_default-other-4 : goal.same_pair-returns-in_default-other-4
same_pair-returns-in_default-other-4 t c = unlike c.in-Binary.is (c.in_default-other-4.not-Binary c.in-Binary.op c.in-Binary.a c.in-Binary.b)

pub same_pair-returns-then-is : goal.same_pair-returns-then-is
same_pair-returns-then-is t c = grind (arith, trees)

pub same_pair-returns-else-is : goal.same_pair-returns-else-is
same_pair-returns-else-is t c = grind (arith, trees)

pub same_pair-returns-in_default-other-5 : goal.same_pair-returns-in_default-other-5
same_pair-returns-in_default-other-5 t c = unlike c.in-Foldl.is (c.in_default-other-5.not-Foldl c.in-Foldl.f c.in-Foldl.a c.in-Foldl.l)

pub same_pair-returns-then-is-2 : goal.same_pair-returns-then-is-2
same_pair-returns-then-is-2 t c = grind (arith, trees)

pub same_pair-returns-else-is-2 : goal.same_pair-returns-else-is-2
same_pair-returns-else-is-2 t c = grind (arith, trees)

pub same_pair-returns-in_default-other-6 : goal.same_pair-returns-in_default-other-6
same_pair-returns-in_default-other-6 t c = unlike c.in-Foldr.is (c.in_default-other-6.not-Foldr c.in-Foldr.f c.in-Foldr.a c.in-Foldr.l)

pub same_pair-returns-in_default : goal.same_pair-returns-in_default
same_pair-returns-in_default t c = grind (arith, trees)

pub same_row-same_exprs-requires : goal.same_row-same_exprs-requires
same_row-same_exprs-requires t c = grind (arith, trees, expr_nodes_out)

pub same_row-same_exprs-requires-then-is : goal.same_row-same_exprs-requires-then-is
same_row-same_exprs-requires-then-is t c = grind (arith, trees, expr_nodes_out)

pub same_row-same_exprs-requires-then-is-2 : goal.same_row-same_exprs-requires-then-is-2
same_row-same_exprs-requires-then-is-2 t c = grind (arith, trees, expr_nodes_out)

pub same_row-same_expr-requires : goal.same_row-same_expr-requires
same_row-same_expr-requires t c = grind (arith, trees, expr_nodes_out)

pub same_row-same_expr-requires-then-i-j : goal.same_row-same_expr-requires-then-i-j
same_row-same_expr-requires-then-i-j t c = grind (arith, trees, expr_nodes_out)

pub same_row-same_expr-requires-in-Eval-other : goal.same_row-same_expr-requires-in-Eval-other
same_row-same_expr-requires-in-Eval-other t c = grind (arith, trees, expr_nodes_out)

pub same_row-same_expr-requires-in-Try-other : goal.same_row-same_expr-requires-in-Try-other
same_row-same_expr-requires-in-Try-other t c = grind (arith, trees, expr_nodes_out)

pub same_row-same_clauses-requires : goal.same_row-same_clauses-requires
same_row-same_clauses-requires t c = grind (arith, trees, expr_nodes_out)

pub same_row-returns-in-Tuple-other : goal.same_row-returns-in-Tuple-other
same_row-returns-in-Tuple-other t c = grind (arith, trees)

pub same_row-returns-in_default-other : goal.same_row-returns-in_default-other
same_row-returns-in_default-other t c = unlike c.in-Tuple.is (c.in_default-other.not-Tuple c.in-Tuple.es)

pub same_row-returns-then-is : goal.same_row-returns-then-is
same_row-returns-then-is t c = grind (arith, trees)

pub same_row-returns-else-is : goal.same_row-returns-else-is
same_row-returns-else-is t c = grind (arith, trees)

pub same_row-returns-in_default-other-2 : goal.same_row-returns-in_default-other-2
same_row-returns-in_default-other-2 t c = unlike c.in-Call.is (c.in_default-other-2.not-Call c.in-Call.f c.in-Call.es)

pub same_row-returns-then-is-2 : goal.same_row-returns-then-is-2
same_row-returns-then-is-2 t c = grind (arith, trees)

pub same_row-returns-else-is-2 : goal.same_row-returns-else-is-2
same_row-returns-else-is-2 t c = grind (arith, trees)

pub same_row-returns-in_default-other-3 : goal.same_row-returns-in_default-other-3
same_row-returns-in_default-other-3 t c = unlike c.in-ChunkOf.is (c.in_default-other-3.not-ChunkOf c.in-ChunkOf.f c.in-ChunkOf.es)

pub same_row-returns-in-Not-other : goal.same_row-returns-in-Not-other
same_row-returns-in-Not-other t c = grind (arith, trees)

pub same_row-returns-in_default-other-4 : goal.same_row-returns-in_default-other-4
same_row-returns-in_default-other-4 t c = unlike c.in-Not.is (c.in_default-other-4.not-Not c.in-Not.a)

pub same_row-returns-then-i-j : goal.same_row-returns-then-i-j
same_row-returns-then-i-j t c = grind (arith, trees)

pub same_row-returns-else-i-j : goal.same_row-returns-else-i-j
same_row-returns-else-i-j t c = grind (arith, trees)

pub same_row-returns-in_default-other-5 : goal.same_row-returns-in_default-other-5
same_row-returns-in_default-other-5 t c = unlike c.in-Part.is (c.in_default-other-5.not-Part c.in-Part.i c.in-Part.a)

pub same_row-returns-in-Eval-other : goal.same_row-returns-in-Eval-other
same_row-returns-in-Eval-other t c = grind (arith, trees)

pub same_row-returns-in_default-other-6 : goal.same_row-returns-in_default-other-6
same_row-returns-in_default-other-6 t c = unlike c.in-Eval.is (c.in_default-other-6.not-Eval c.in-Eval.c)

pub same_row-returns-then-same_expr : goal.same_row-returns-then-same_expr
same_row-returns-then-same_expr t c = grind (arith, trees)

pub same_row-returns-else-same_expr : goal.same_row-returns-else-same_expr
same_row-returns-else-same_expr t c = grind (arith, trees)

pub same_row-returns-in_default-other-7 : goal.same_row-returns-in_default-other-7
same_row-returns-in_default-other-7 t c = unlike c.in-Try.is (c.in_default-other-7.not-Try c.in-Try.a c.in-Try.cs)

pub same_row-returns-in_default : goal.same_row-returns-in_default
same_row-returns-in_default t c = grind (arith, trees)

pub same_more-same_expr-requires : goal.same_more-same_expr-requires
same_more-same_expr-requires t c = grind (arith, trees, expr_nodes_out)

pub same_more-same_both-requires : goal.same_more-same_both-requires
same_more-same_both-requires t c = grind (arith, trees, expr_nodes_out)

pub same_more-same_both-requires-then-is-2 : goal.same_more-same_both-requires-then-is-2
same_more-same_both-requires-then-is-2 t c = grind (arith, trees, expr_nodes_out)

pub same_more-same_expr-requires-then-is-3 : goal.same_more-same_expr-requires-then-is-3
same_more-same_expr-requires-then-is-3 t c = grind (arith, trees, expr_nodes_out)

pub same_more-same_both-requires-then-same_expr-2 : goal.same_more-same_both-requires-then-same_expr-2
same_more-same_both-requires-then-same_expr-2 t c = grind (arith, trees, expr_nodes_out)

pub same_more-same_both-requires-in-OnNeighbor-other : goal.same_more-same_both-requires-in-OnNeighbor-other
same_more-same_both-requires-in-OnNeighbor-other t c = grind (arith, trees, expr_nodes_out)

pub same_more-same_both-requires-then-same_both : goal.same_more-same_both-requires-then-same_both
same_more-same_both-requires-then-same_both t c = grind (arith, trees, expr_nodes_out)

pub same_more-returns-then-same_expr : goal.same_more-returns-then-same_expr
same_more-returns-then-same_expr t c = grind (arith, trees)

pub same_more-returns-else-same_expr : goal.same_more-returns-else-same_expr
same_more-returns-else-same_expr t c = grind (arith, trees)

pub same_more-returns-in_default-other : goal.same_more-returns-in_default-other
same_more-returns-in_default-other t c = unlike c.in-If.is (c.in_default-other.not-If c.in-If.c c.in-If.a c.in-If.b)

pub same_more-returns-then-is-2 : goal.same_more-returns-then-is-2
same_more-returns-then-is-2 t c = grind (arith, trees)

pub same_more-returns-else-is-2 : goal.same_more-returns-else-is-2
same_more-returns-else-is-2 t c = grind (arith, trees)

pub same_more-returns-in_default-other-2 : goal.same_more-returns-in_default-other-2
same_more-returns-in_default-other-2 t c = unlike c.in-Let.is (c.in_default-other-2.not-Let c.in-Let.x c.in-Let.t c.in-Let.a c.in-Let.b)

pub same_more-returns-then-same_expr-2 : goal.same_more-returns-then-same_expr-2
same_more-returns-then-same_expr-2 t c = grind (arith, trees)

pub same_more-returns-else-same_expr-2 : goal.same_more-returns-else-same_expr-2
same_more-returns-else-same_expr-2 t c = grind (arith, trees)

pub same_more-returns-in_default-other-3 : goal.same_more-returns-in_default-other-3
same_more-returns-in_default-other-3 t c = unlike c.in-OnRemote.is (c.in_default-other-3.not-OnRemote c.in-OnRemote.c c.in-OnRemote.h c.in-OnRemote.n c.in-OnRemote.r)

pub same_more-returns-then-same_both : goal.same_more-returns-then-same_both
same_more-returns-then-same_both t c = grind (arith, trees)

pub same_more-returns-else-same_both : goal.same_more-returns-else-same_both
same_more-returns-else-same_both t c = grind (arith, trees)

pub same_more-returns-in_default-other-4 : goal.same_more-returns-in_default-other-4
same_more-returns-in_default-other-4 t c = unlike c.in-OnNeighbor.is (c.in_default-other-4.not-OnNeighbor c.in-OnNeighbor.c c.in-OnNeighbor.h c.in-OnNeighbor.n c.in-OnNeighbor.d)

pub same_more-returns-in_default : goal.same_more-returns-in_default
same_more-returns-in_default t c = grind (arith, trees)

pub same_clause-returns-then-same_option_name : goal.same_clause-returns-then-same_option_name
same_clause-returns-then-same_option_name t c = grind (arith, trees)

pub same_clause-returns-else-same_option_name : goal.same_clause-returns-else-same_option_name
same_clause-returns-else-same_option_name t c = grind (arith, trees)
