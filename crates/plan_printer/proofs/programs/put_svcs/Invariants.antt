use Rattle.std.proofs.Common.{◌≡◌, ◌++◌, drop}
use Rattle.std.specs.List.{flat_map}
use Rattle.plan_printer_spec.specs.Printed.{svc_text}
use Rattle.plan_printer.proofs.programs.put_svcs.Given as goal

abbrev pub invariant-loop-svc : goal.invariant-loop-svc
invariant-loop-svc l = l.out ++ flat_map svc_text (drop l.svc-index l.svcs) ≡ l.initial.out ++ flat_map svc_text l.svcs
