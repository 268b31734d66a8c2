use Rattle.std.proofs.Common.{◌≡◌, length}
use Rattle.service_api.specs.Schemes as spec
use Rattle.service_api.proofs.matching.same_all.Given as goal

abbrev pub invariant-loop-wanted : goal.invariant-loop-wanted
invariant-loop-wanted l = spec.same_all l.a l.schemes l.types ≡ spec.same_all l.a l.wanted l.declared

abbrev pub decreases-loop-wanted : goal.decreases-loop-wanted
decreases-loop-wanted l = length l.wanted
