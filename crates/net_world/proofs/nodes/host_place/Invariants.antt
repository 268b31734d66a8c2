use Rattle.std.proofs.Common.{◌≡◌, ◌+◌, length}
use Rattle.std.specs.List.{position_from}
use Rattle.node_core_spec.specs.State.{is_host}
use Rattle.net_world.proofs.nodes.host_place.Given as goal

abbrev pub invariant-loop-rest : goal.invariant-loop-rest
invariant-loop-rest g l = record {
  place : position_from (λ n. is_host n.here l.host) 0 l.nodes ≡ position_from (λ n. is_host n.here l.host) l.at l.rest;
  within : l.at + length l.rest ≡ length l.nodes;
}

abbrev pub decreases-loop-rest : goal.decreases-loop-rest
decreases-loop-rest g l = length l.rest
