use Rattle.std.proofs.Common.{◌≡◌, length, option_copied}
use Rattle.service_api.specs.Schemes as spec
use Rattle.service_api.proofs.matching.taken_among.Given as goal

abbrev pub invariant-loop-wanted : goal.invariant-loop-wanted
invariant-loop-wanted l = spec.taken_among l.schemes l.types (option_copied l.later) ≡ spec.taken_among l.wanted l.declared (option_copied l.later)

abbrev pub decreases-loop-wanted : goal.decreases-loop-wanted
decreases-loop-wanted l = length l.wanted
