use Rattle.std.proofs.Common.{◌≡◌, take}
use Rattle.fleet_run.specs.Fleets.{fleet_starts}
use Rattle.fleet_run.proofs.words.starts_of.Given as goal

abbrev pub invariant-loop-kid : goal.invariant-loop-kid
invariant-loop-kid l = l.starts ≡ fleet_starts (take l.kid-index l.kids)
