use Rattle.std.proofs.Common.{◌≡◌, length}
use Rattle.service_api.specs.Routes as spec
use Rattle.service_api.proofs.router.hop_in.Given as goal

abbrev pub invariant-loop-rest : goal.invariant-loop-rest
invariant-loop-rest l = spec.hop_in l.rows l.host ≡ spec.hop_in l.rest l.host

abbrev pub decreases-loop-rest : goal.decreases-loop-rest
decreases-loop-rest l = length l.rest
