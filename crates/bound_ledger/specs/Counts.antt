-- The counts of one family, and how they move.
use Rattle.std.specs.Prelude.{◌≡◌, ℕ, ◌+◌, ◌-◌, ◌<◌, ◌^◌}
use Rattle.bound_ledger.specs.declared.row.Row.{Row}

-- no counts
abbrev pub nothing : Row
nothing = record { granted = 0; hops = 0; evals = 0; live = 0; left = 0 }

-- n more granted
abbrev pub more : ℕ → Row → Row
more n r = record { granted = r.granted + n; hops = r.hops; evals = r.evals; live = r.live + n; left = r.left }

-- 1 of what is live pays a hop
abbrev pub hop_paid : Row → Row
hop_paid r = record { granted = r.granted; hops = r.hops + 1; evals = r.evals; live = r.live - 1; left = r.left }

-- n of what is live pay evals
abbrev pub paid : ℕ → Row → Row
paid n r = record { granted = r.granted; hops = r.hops; evals = r.evals + n; live = r.live - n; left = r.left }

-- n of what is live are left
abbrev pub quit : ℕ → Row → Row
quit n r = record { granted = r.granted; hops = r.hops; evals = r.evals; live = r.live - n; left = r.left + n }

-- what was granted is what was paid, what is live and what was left; and it is below 2^63
pub record InBalance (r : Row) : Type 0 where
  pub law : r.granted ≡ r.hops + r.evals + r.live + r.left
  pub limit : r.granted < 2 ^ 63
