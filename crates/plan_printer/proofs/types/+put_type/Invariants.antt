use Rattle.std.proofs.Common.{◌≡◌, ◌++◌, [], drop}
use Rattle.plan_printer_spec.specs.Pieces.{listed_pieces}
use Rattle.plan_printer_spec.specs.Printed.{type_text}
use Rattle.plan_printer.proofs.types.+put_type.Given as goal

abbrev pub invariant-put_types-loop-t : goal.invariant-put_types-loop-t
invariant-put_types-loop-t l = l.out ++ listed_pieces l.between l.separator type_text (drop l.t-index l.types) ≡ l.initial.out ++ listed_pieces l.between [] type_text l.types
