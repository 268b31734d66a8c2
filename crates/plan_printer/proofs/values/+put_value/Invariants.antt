use Rattle.std.proofs.Common.{◌≡◌, ◌++◌, [], drop}
use Rattle.std.specs.Prelude.{codes}
use Rattle.plan_printer_spec.specs.Pieces.{listed_pieces}
use Rattle.plan_printer_spec.specs.Printed.{value_text}
use Rattle.plan_printer.proofs.values.+put_value.Given as goal

abbrev pub invariant-put_values-loop-v : goal.invariant-put_values-loop-v
invariant-put_values-loop-v l = l.out ++ listed_pieces (codes ", ") l.separator value_text (drop l.v-index l.values) ≡ l.initial.out ++ listed_pieces (codes ", ") [] value_text l.values
