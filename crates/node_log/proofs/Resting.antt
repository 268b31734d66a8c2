-- New services have no visit open.
use Rattle.std.proofs.Common.{◌≡◌, ap}
use Rattle.service_api.specs.Services.{ServiceState}
use Rattle.service_registry_spec.specs.Offered.{InstalledPackages}
use Rattle.service_registry_spec.specs.Beginning.{opening_standing}
use Rattle.node_core.specs.Turns.{IsResting}

pub new_rests : (s : ServiceState) (p : InstalledPackages) → s ≡ opening_standing p → IsResting s
new_rests s p is = record { closed = ap (λ t. t.begun) is; waits = ap (λ t. t.ready) is }
