use Rattle.std.proofs.Common.{◌≡◌, ◌+◌, ◌-◌, ◌≤◌, ◌++◌, length, map, take, drop}
use Rattle.service_api.specs.Rows.{living}
use Rattle.resident_tables.specs.Passes.{place_of, mark_of, marks}
use Rattle.resident_tables.proofs.passes.mark_rows.Given as goal

abbrev pub invariant-loop-i : goal.invariant-loop-i
invariant-loop-i l = record {
  places : map place_of l.order ≡ l.initial.order;
  marks : take l.i (map mark_of l.order) ++ marks l.now (length l.rows) l.left (drop l.i l.rows) ≡ marks l.now (length l.rows) 0 l.rows;
  counted : l.left + length (living l.now (drop l.i l.rows)) ≡ length (living l.now l.rows);
  few : l.left ≤ l.i;
}

abbrev pub decreases-loop-i : goal.decreases-loop-i
decreases-loop-i l = length l.rows - l.i
