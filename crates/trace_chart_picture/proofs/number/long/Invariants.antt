use Rattle.std.proofs.Common.{◌≡◌, drop}
use Rattle.trace_chart_picture.specs.Cuts.{number_from}
use Rattle.trace_chart_picture.proofs.number.long.Given as goal

abbrev pub invariant-loop-d : goal.invariant-loop-d
invariant-loop-d l = number_from 0 l.word ≡ number_from l.n (drop l.d-index l.word)
