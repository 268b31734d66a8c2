use Rattle.std.proofs.Common.{◌≡◌, length}
use Rattle.trace_chart_picture.specs.Cuts.{after}
use Rattle.trace_chart_picture.proofs.cuts.after.Given as goal

abbrev pub invariant-loop-rest : goal.invariant-loop-rest
invariant-loop-rest l = after l.sign l.text ≡ after l.sign l.rest

abbrev pub decreases-loop-rest : goal.decreases-loop-rest
decreases-loop-rest l = length l.rest
