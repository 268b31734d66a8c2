-- One evaluation leads to another: where the first asks nothing amiss, both end alike, and the second asks nothing amiss.
use Rattle.std.specs.Prelude.{◌≡◌}
use Rattle.plan_meaning.specs.Run.{RunStep}
use Rattle.plan_meaning.specs.Safe.{IsSafe}

pub record Leads {A : Type 0} (from to : RunStep A) : Type 0 where
  pub same : IsSafe from.asks → from.after ≡ to.after
  pub safe : IsSafe from.asks → IsSafe to.asks
