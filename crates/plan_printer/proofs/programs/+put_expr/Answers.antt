use Rattle.std.proofs.Common.{◌++◌, arith, append_assoc}
use Rattle.std.specs.Prelude.{codes}
use Rattle.std.proofs.lemmas.Result.{on_ok_weaker}
use Rattle.plan_base.specs.Trees.{trees}
use Rattle.plan_base.proofs.SizeLaws.{expr_nodes_out}
use Rattle.plan_printer_spec.specs.Printed.{expr_text}
use Rattle.plan_printer.proofs.PrintLaws.{expr_text_out, pieces_put}
use Rattle.plan_printer.proofs.programs.+put_expr.Goals as goal

pub put_expr-put_args-requires : goal.put_expr-put_args-requires
put_expr-put_args-requires t c = grind (arith, trees, expr_nodes_out)

pub put_expr-put_call-requires : goal.put_expr-put_call-requires
put_expr-put_call-requires t c = grind (arith, trees, expr_nodes_out)

pub put_expr-put_call-requires-in-ChunkOf : goal.put_expr-put_call-requires-in-ChunkOf
put_expr-put_call-requires-in-ChunkOf t c = grind (arith, trees, expr_nodes_out)

pub put_expr-put_choice-requires : goal.put_expr-put_choice-requires
put_expr-put_choice-requires t c = grind (arith, trees, expr_nodes_out)

pub put_expr-put_binding-requires : goal.put_expr-put_binding-requires
put_expr-put_binding-requires t c = grind (arith, trees, expr_nodes_out)

pub put_expr-put_both-requires : goal.put_expr-put_both-requires
put_expr-put_both-requires t c = grind (arith, trees, expr_nodes_out)

pub put_expr-put_both-requires-in-And : goal.put_expr-put_both-requires-in-And
put_expr-put_both-requires-in-And t c = grind (arith, trees, expr_nodes_out)

pub put_expr-put_both-requires-in-Or : goal.put_expr-put_both-requires-in-Or
put_expr-put_both-requires-in-Or t c = grind (arith, trees, expr_nodes_out)

pub put_expr-put_around-requires : goal.put_expr-put_around-requires
put_expr-put_around-requires t c = grind (arith, trees, expr_nodes_out)

pub put_expr-put_around-requires-in-Eval : goal.put_expr-put_around-requires-in-Eval
put_expr-put_around-requires-in-Eval t c = grind (arith, trees, expr_nodes_out)

pub put_expr-put_operation-requires : goal.put_expr-put_operation-requires
put_expr-put_operation-requires t c = grind (arith, trees, expr_nodes_out)

pub put_expr-put_part-requires : goal.put_expr-put_part-requires
put_expr-put_part-requires t c = grind (arith, trees, expr_nodes_out)

pub put_expr-put_try-requires : goal.put_expr-put_try-requires
put_expr-put_try-requires t c = grind (arith, trees, expr_nodes_out)

pub put_expr-put_fold-requires : goal.put_expr-put_fold-requires
put_expr-put_fold-requires t c = grind (arith, trees, expr_nodes_out)

pub put_expr-put_fold-requires-in-Foldr : goal.put_expr-put_fold-requires-in-Foldr
put_expr-put_fold-requires-in-Foldr t c = grind (arith, trees, expr_nodes_out)

pub put_expr-put_remote-requires : goal.put_expr-put_remote-requires
put_expr-put_remote-requires t c = grind (arith, trees, expr_nodes_out)

pub put_expr-put_neighbour-requires : goal.put_expr-put_neighbour-requires
put_expr-put_neighbour-requires t c = grind (arith, trees, expr_nodes_out)

pub put_expr-returns-in-Unit : goal.put_expr-returns-in-Unit
put_expr-returns-in-Unit t c = grind (arith, trees, expr_text_out)

pub put_expr-returns-in-Bool : goal.put_expr-returns-in-Bool
put_expr-returns-in-Bool t c = grind (arith, trees, expr_text_out)

pub put_expr-returns-in-Int : goal.put_expr-returns-in-Int
put_expr-returns-in-Int t c = grind (arith, trees, expr_text_out)

pub put_expr-returns-in-Char : goal.put_expr-returns-in-Char
put_expr-returns-in-Char t c = grind (arith, trees, expr_text_out)

pub put_expr-returns-in-Str : goal.put_expr-returns-in-Str
put_expr-returns-in-Str t c = grind (arith, trees, expr_text_out)

pub put_expr-returns-in-Blob : goal.put_expr-returns-in-Blob
put_expr-returns-in-Blob t c = grind (arith, trees, expr_text_out)

pub put_expr-returns-in-Host : goal.put_expr-returns-in-Host
put_expr-returns-in-Host t c = grind (arith, trees, expr_text_out)

pub put_expr-returns-in-Dev : goal.put_expr-returns-in-Dev
put_expr-returns-in-Dev t c = grind (arith, trees, expr_text_out)

pub put_expr-returns-in-Nil : goal.put_expr-returns-in-Nil
put_expr-returns-in-Nil t c = grind (arith, trees, expr_text_out)

pub put_expr-returns-in-Var : goal.put_expr-returns-in-Var
put_expr-returns-in-Var t c = grind (arith, trees, expr_text_out)

pub put_expr-returns-in-Tuple : goal.put_expr-returns-in-Tuple
put_expr-returns-in-Tuple t c = grind (arith, trees, expr_text_out)

pub put_expr-returns-in-Call : goal.put_expr-returns-in-Call
put_expr-returns-in-Call t c = grind (arith, trees, expr_text_out)

pub put_expr-returns-in-ChunkOf : goal.put_expr-returns-in-ChunkOf
put_expr-returns-in-ChunkOf t c = grind (arith, trees, expr_text_out)

pub put_expr-returns-in-If : goal.put_expr-returns-in-If
put_expr-returns-in-If t c = grind (arith, trees, expr_text_out)

pub put_expr-returns-in-Let : goal.put_expr-returns-in-Let
put_expr-returns-in-Let t c = grind (arith, trees, expr_text_out)

pub put_expr-returns-in-Then : goal.put_expr-returns-in-Then
put_expr-returns-in-Then t c = grind (arith, trees, expr_text_out)

pub put_expr-returns-in-And : goal.put_expr-returns-in-And
put_expr-returns-in-And t c = grind (arith, trees, expr_text_out)

pub put_expr-returns-in-Or : goal.put_expr-returns-in-Or
put_expr-returns-in-Or t c = grind (arith, trees, expr_text_out)

pub put_expr-returns-in-Not : goal.put_expr-returns-in-Not
put_expr-returns-in-Not t c = grind (arith, trees, expr_text_out)

pub put_expr-returns-in-Binary : goal.put_expr-returns-in-Binary
put_expr-returns-in-Binary t c = grind (arith, trees, expr_text_out)

pub put_expr-returns-in-Part : goal.put_expr-returns-in-Part
put_expr-returns-in-Part t c = grind (arith, trees, expr_text_out)

pub put_expr-returns-in-Raise : goal.put_expr-returns-in-Raise
put_expr-returns-in-Raise t c = grind (arith, trees, expr_text_out)

pub put_expr-returns-in-Try : goal.put_expr-returns-in-Try
put_expr-returns-in-Try t c = grind (arith, trees, expr_text_out)

pub put_expr-returns-in-Foldl : goal.put_expr-returns-in-Foldl
put_expr-returns-in-Foldl t c = grind (arith, trees, expr_text_out)

pub put_expr-returns-in-Foldr : goal.put_expr-returns-in-Foldr
put_expr-returns-in-Foldr t c = grind (arith, trees, expr_text_out)

pub put_expr-returns-in-Eval : goal.put_expr-returns-in-Eval
put_expr-returns-in-Eval t c = grind (arith, trees, expr_text_out)

pub put_expr-returns-in-OnRemote : goal.put_expr-returns-in-OnRemote
put_expr-returns-in-OnRemote t c = grind (arith, trees, expr_text_out)

pub put_expr-returns-in-OnNeighbor : goal.put_expr-returns-in-OnNeighbor
put_expr-returns-in-OnNeighbor t c = grind (arith, trees, expr_text_out)

pub put_around-returns : goal.put_around-returns
put_around-returns t c = grind (arith, append_assoc)

pub put_both-returns : goal.put_both-returns
put_both-returns t c = grind (arith, append_assoc)

pub put_choice-returns : goal.put_choice-returns
put_choice-returns t c = grind (arith, append_assoc)

pub put_binding-returns : goal.put_binding-returns
put_binding-returns t c = grind (arith, append_assoc)

pub put_operation-returns : goal.put_operation-returns
put_operation-returns t c = grind (arith, append_assoc)

pub put_part-returns : goal.put_part-returns
put_part-returns t c = grind (arith, append_assoc)

pub put_try-returns : goal.put_try-returns
put_try-returns t c = grind (arith, append_assoc)

pub put_fold-returns : goal.put_fold-returns
put_fold-returns t c = grind (arith, append_assoc)

pub put_remote-returns : goal.put_remote-returns
put_remote-returns t c = grind (arith, append_assoc)

pub put_call-returns : goal.put_call-returns
put_call-returns t c = grind (arith, append_assoc)

pub put_args-returns : goal.put_args-returns
put_args-returns t c = grind (arith, append_assoc)

pub put_clause-returns : goal.put_clause-returns
put_clause-returns t c = grind (arith, append_assoc)

pub put_neighbour-returns : goal.put_neighbour-returns
put_neighbour-returns t c =
    on_ok_weaker c.put_both-2.result
    (λ last. pieces_put c.args.out.now (codes "OnNeighbor(" ++ expr_text c.args.chunk.now ++ codes ", " ++ expr_text c.args.host.now ++ codes ", ")
    (expr_text c.args.bound.now) (codes ", ") (expr_text c.args.device.now) (codes ")") _ _ c.in_ok-put_both.ensures last)
    c.put_both-2.ensures
