use Rattle.std.proofs.Common.{◌≡◌, ◌≤◌, ◌+◌, ◌-◌, ◌++◌, length}
use Rattle.std.specs.List.{All}
use Rattle.trace_chart_picture.specs.Cuts.{capped}
use Rattle.trace_chart_picture.specs.Reads.{IsEntryLine}
use Rattle.trace_chart_picture.specs.Traces.{entries_text}
use Rattle.trace_chart_picture.proofs.trace.add_entries.Given as goal

abbrev pub invariant-loop-line : goal.invariant-loop-line
invariant-loop-line l = record {
  whole : entries_text l.entries ++ l.rest ≡ entries_text l.initial.entries ++ l.initial.rest;
  more : length l.initial.entries ≤ length l.entries;
  number : l.number ≡ capped (l.initial.number + (length l.entries - length l.initial.entries));
  one : All IsEntryLine l.initial.entries → All IsEntryLine l.entries;
}

abbrev pub decreases-loop-line : goal.decreases-loop-line
decreases-loop-line l = length l.rest
