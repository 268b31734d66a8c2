use Rattle.std.proofs.Common.{◌≡◌, take}
use Rattle.std.specs.Prelude.{map}
use Rattle.service_registry.specs.RegistryState.{standing}
use Rattle.service_registry_spec.specs.Beginning.{opening_standing, present_without}
use Rattle.planet_commands.proofs.services.services_of.Given as goal

abbrev pub invariant-loop-spec : goal.invariant-loop-spec
invariant-loop-spec l = map standing l.services ≡ map (λ spec. opening_standing (present_without spec.missing)) (take l.spec-index l.hosts)
