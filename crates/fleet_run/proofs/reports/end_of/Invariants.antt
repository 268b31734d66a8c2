use Rattle.std.proofs.Common.{◌≡◌, ◌≤◌, length, drop}
use Rattle.fleet_run.specs.Fleets.{fleet_end}
use Rattle.fleet_run.proofs.reports.end_of.Given as goal

abbrev pub invariant-loop-i : goal.invariant-loop-i
invariant-loop-i l = record {
  within : l.i ≤ length l.kids;
  same : fleet_end l.kids l.statuses ≡ fleet_end (drop l.i l.kids) (drop l.i l.statuses);
}
