use Rattle.std.proofs.Common.{◌≡◌, length}
use Rattle.plan_meaning.specs.Meaning as spec
use Rattle.remote_calls.proofs.way.leads_to.Given as goal

abbrev pub invariant-loop-rest : goal.invariant-loop-rest
invariant-loop-rest l =
    spec.leads_to l.neighbours l.dev l.host ≡ spec.leads_to l.rest l.dev l.host

abbrev pub decreases-loop-rest : goal.decreases-loop-rest
decreases-loop-rest l = length l.rest
