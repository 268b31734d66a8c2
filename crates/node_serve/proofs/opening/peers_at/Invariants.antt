use Rattle.std.proofs.Common.{◌≡◌, ◌∷◌, map, take}
use Rattle.network_config.specs.Hosts.{dev_of}
use Rattle.node_log.specs.Runs.{peer}
use Rattle.node_serve.proofs.opening.peers_at.Given as goal

abbrev pub invariant-loop-port : goal.invariant-loop-port
invariant-loop-port l = l.peers ≡ peer (dev_of 0) l.control ∷ map (λ p. peer p.0 p.1) (take l.port-index l.ports)
