use Rattle.std.proofs.Common.{arith, append_assoc}
use Rattle.plan_base.specs.Trees.{trees}
use Rattle.plan_printer.proofs.ValueLaws.{value_text_out}
use Rattle.plan_printer.proofs.values.+put_value.Goals as goal

pub put_value-returns-in-Unit : goal.put_value-returns-in-Unit
put_value-returns-in-Unit t c = grind (arith, trees, value_text_out)

pub put_value-returns-in-Bool : goal.put_value-returns-in-Bool
put_value-returns-in-Bool t c = grind (arith, trees, value_text_out)

pub put_value-returns-in-Int : goal.put_value-returns-in-Int
put_value-returns-in-Int t c = grind (arith, trees, value_text_out)

pub put_value-returns-in-Char : goal.put_value-returns-in-Char
put_value-returns-in-Char t c = grind (arith, trees, value_text_out)

pub put_value-returns-in-Str : goal.put_value-returns-in-Str
put_value-returns-in-Str t c = grind (arith, trees, value_text_out)

pub put_value-returns-in-Blob : goal.put_value-returns-in-Blob
put_value-returns-in-Blob t c = grind (arith, trees, value_text_out)

pub put_value-returns-in-Host : goal.put_value-returns-in-Host
put_value-returns-in-Host t c = grind (arith, trees, value_text_out)

pub put_value-returns-in-Dev : goal.put_value-returns-in-Dev
put_value-returns-in-Dev t c = grind (arith, trees, value_text_out)

pub put_value-returns-in-Chunk : goal.put_value-returns-in-Chunk
put_value-returns-in-Chunk t c = grind (arith, trees, value_text_out)

pub put_value-returns-in-Tuple : goal.put_value-returns-in-Tuple
put_value-returns-in-Tuple t c = grind (arith, trees, value_text_out)

pub put_between-returns : goal.put_between-returns
put_between-returns t c = grind (arith, append_assoc)
