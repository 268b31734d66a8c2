use Rattle.std.proofs.Common.{◌≡◌, ◌++◌, drop}
use Rattle.std.specs.List.{flat_map}
use Rattle.plan_printer_spec.specs.Printed.{exn_text}
use Rattle.plan_printer.proofs.programs.put_exns.Given as goal

abbrev pub invariant-loop-name : goal.invariant-loop-name
invariant-loop-name l = l.out ++ flat_map exn_text (drop l.name-index l.names) ≡ l.initial.out ++ flat_map exn_text l.names
