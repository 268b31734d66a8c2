use Rattle.std.proofs.Common.{◌≡◌, ◌++◌, drop}
use Rattle.std.specs.List.{flat_map}
use Rattle.plan_printer_spec.specs.Printed.{fun_text}
use Rattle.plan_printer.proofs.programs.put_funs.Given as goal

abbrev pub invariant-loop-fun : goal.invariant-loop-fun
invariant-loop-fun l = l.out ++ flat_map fun_text (drop l.fun-index l.funs) ≡ l.initial.out ++ flat_map fun_text l.funs
