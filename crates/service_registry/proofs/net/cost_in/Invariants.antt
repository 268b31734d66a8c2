use Rattle.std.proofs.Common.{◌≡◌, length}
use Rattle.service_api.specs.Services.{Rows}
use Rattle.service_registry_spec.specs.Answers as spec
use Rattle.service_registry.proofs.net.cost_in.Given as goal

abbrev pub invariant-loop-rest : goal.invariant-loop-rest
invariant-loop-rest l = (rows : Rows) → spec.cost_in l.routes l.host rows ≡ spec.cost_in l.rest l.host rows

abbrev pub decreases-loop-rest : goal.decreases-loop-rest
decreases-loop-rest l = length l.rest
