use Rattle.std.proofs.Common.{◌≡◌, ◌≤◌, ◌+◌, ◌-◌, ◌++◌, length}
use Rattle.std.specs.List.{All}
use Rattle.trace_chart_picture.specs.Cuts.{capped}
use Rattle.trace_chart_picture.specs.Reads.{IsRowLine}
use Rattle.trace_chart_picture.specs.Traces.{rows_text}
use Rattle.trace_chart_picture.proofs.trace.add_rows.Given as goal

abbrev pub invariant-loop-line : goal.invariant-loop-line
invariant-loop-line l = record {
  whole : rows_text l.rows ++ l.rest ≡ rows_text l.initial.rows ++ l.initial.rest;
  more : length l.initial.rows ≤ length l.rows;
  number : l.number ≡ capped (l.initial.number + (length l.rows - length l.initial.rows));
  one : All IsRowLine l.initial.rows → All IsRowLine l.rows;
}

abbrev pub decreases-loop-line : goal.decreases-loop-line
decreases-loop-line l = length l.rest
