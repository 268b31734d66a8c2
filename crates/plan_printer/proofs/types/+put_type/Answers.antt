use Rattle.std.proofs.Common.{arith}
use Rattle.plan_base.specs.Trees.{trees}
use Rattle.plan_printer.proofs.PrintLaws.{type_text_out}
use Rattle.plan_printer.proofs.types.+put_type.Goals as goal

pub put_type-returns-in-Unit : goal.put_type-returns-in-Unit
put_type-returns-in-Unit t c = grind (arith, trees, type_text_out)

pub put_type-returns-in-Bool : goal.put_type-returns-in-Bool
put_type-returns-in-Bool t c = grind (arith, trees, type_text_out)

pub put_type-returns-in-Int : goal.put_type-returns-in-Int
put_type-returns-in-Int t c = grind (arith, trees, type_text_out)

pub put_type-returns-in-Char : goal.put_type-returns-in-Char
put_type-returns-in-Char t c = grind (arith, trees, type_text_out)

pub put_type-returns-in-Str : goal.put_type-returns-in-Str
put_type-returns-in-Str t c = grind (arith, trees, type_text_out)

pub put_type-returns-in-Blob : goal.put_type-returns-in-Blob
put_type-returns-in-Blob t c = grind (arith, trees, type_text_out)

pub put_type-returns-in-Host : goal.put_type-returns-in-Host
put_type-returns-in-Host t c = grind (arith, trees, type_text_out)

pub put_type-returns-in-Dev : goal.put_type-returns-in-Dev
put_type-returns-in-Dev t c = grind (arith, trees, type_text_out)

pub put_type-returns-in-Chunk : goal.put_type-returns-in-Chunk
put_type-returns-in-Chunk t c = grind (arith, trees, type_text_out)
