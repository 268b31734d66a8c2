use Rattle.std.proofs.Common.{◌≡◌, ◌≤◌, ◌++◌, ◌-◌, length, take, drop}
use Rattle.trace_chart_picture.specs.Cuts.{before}
use Rattle.trace_chart_picture.proofs.cuts.before.Given as goal

abbrev pub invariant-loop-i : goal.invariant-loop-i
invariant-loop-i l = record {
  within : l.i ≤ length l.text;
  whole : before l.sign l.text ≡ take l.i l.text ++ before l.sign (drop l.i l.text);
}

abbrev pub decreases-loop-i : goal.decreases-loop-i
decreases-loop-i l = length l.text - l.i
