use Rattle.std.proofs.Common.{◌≡◌, map, take}
use Rattle.service_registry_spec.specs.Answers as spec
use Rattle.service_registry.proofs.net.hop_values.Given as goal

abbrev pub invariant-loop-neighbour : goal.invariant-loop-neighbour
invariant-loop-neighbour l = l.values ≡ map (λ n. spec.hop_value n.0 n.1) (take l.neighbour-index l.neighbours)
