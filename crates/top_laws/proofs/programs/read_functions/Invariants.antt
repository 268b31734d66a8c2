use Rattle.std.proofs.Common.{◌≡◌, true, take}
use Rattle.std.specs.List.{list_all}
use Rattle.top_laws.specs.Exact.{function_exact}
use Rattle.top_laws.proofs.programs.read_functions.Given as goal

abbrev pub invariant-loop-f : goal.invariant-loop-f
invariant-loop-f l = list_all function_exact (take l.f-index l.functions) ≡ true
