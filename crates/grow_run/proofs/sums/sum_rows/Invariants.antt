use Rattle.std.proofs.Common.{◌≡◌, ◌-◌, ◌*◌, ◌^◌, take}
use Rattle.bound_ledger.specs.Rows.{OneEach}
use Rattle.grow_run.specs.Summaries.{SumsHaveRoom, row_sums}
use Rattle.grow_run.proofs.sums.sum_rows.Given as goal

abbrev pub invariant-loop-i : goal.invariant-loop-i
invariant-loop-i l = record {
  sums : l.sums ≡ row_sums (take l.i l.ledger);
  once : OneEach l.ledger;
  room : SumsHaveRoom ((2 ^ 32 - l.i) * 2 ^ 64) l.sums;
}
