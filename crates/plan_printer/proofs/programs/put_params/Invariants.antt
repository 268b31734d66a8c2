use Rattle.std.proofs.Common.{◌≡◌, ◌++◌, [], drop}
use Rattle.std.specs.Prelude.{codes}
use Rattle.plan_printer_spec.specs.Pieces.{listed_pieces}
use Rattle.plan_printer_spec.specs.Printed.{param_text}
use Rattle.plan_printer.proofs.programs.put_params.Given as goal

abbrev pub invariant-loop-param : goal.invariant-loop-param
invariant-loop-param l = l.out ++ listed_pieces (codes ", ") l.separator param_text (drop l.param-index l.params) ≡ l.initial.out ++ listed_pieces (codes ", ") [] param_text l.params
