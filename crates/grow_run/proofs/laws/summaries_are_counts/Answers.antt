use Rattle.std.proofs.Common.{refl}
use Rattle.grow_run.specs.Summaries.{summary_of, row_sums}
use Rattle.grow_run.proofs.Summing.{summary_is}
use Rattle.grow_run.proofs.laws.summaries_are_counts.Goals as goal

pub returns : goal.returns
returns c = λ seed n h w rows d s law. summary_is seed n h w rows (summary_of h) (row_sums rows) d s law refl refl
