use Rattle.std.proofs.Common.{◌≡◌, length}
use Rattle.service_registry_spec.specs.Beginning as spec
use Rattle.service_registry.proofs.installed_packages.is_missing.Given as goal

abbrev pub invariant-loop-rest : goal.invariant-loop-rest
invariant-loop-rest l = spec.is_missing l.missing l.wanted ≡ spec.is_missing l.rest l.wanted

abbrev pub decreases-loop-rest : goal.decreases-loop-rest
decreases-loop-rest l = length l.rest
