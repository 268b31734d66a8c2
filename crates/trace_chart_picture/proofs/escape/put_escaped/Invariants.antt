use Rattle.std.proofs.Common.{◌≡◌, ◌++◌, drop}
use Rattle.trace_chart_picture.specs.Escapes.{escaped_text, escaped_from}
use Rattle.trace_chart_picture.proofs.escape.put_escaped.Given as goal

abbrev pub invariant-loop-b : goal.invariant-loop-b
invariant-loop-b l = l.out ++ escaped_from l.seen (drop l.b-index l.text) ≡ l.initial.out ++ escaped_text l.text
