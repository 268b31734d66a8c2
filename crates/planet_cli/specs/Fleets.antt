-- How a fleet stands that a fault of children ended, and which lines stand after every answer.
use Rattle.std.specs.Prelude.{ℕ, IsTrue, ◌≡◌, ◌⊎◌, ◌+◌, ◌≤◌, List, length, take, drop}
use Rattle.network_config.specs.declared.fleet.Fleet.{Fleet}
use Rattle.node_io.specs.Causes.{HasRisen, one_more}
use Rattle.node_io.specs.Outsides.{Outside}
use Rattle.node_io.specs.Sinks.{SinkState, Writes, WritesPrefix}
use Rattle.fleet_run.specs.Children.{LeavesOpen, LeavesAllBut}
use Rattle.fleet_run.specs.Fleets.{fleet_starts, fleet_text}
use Rattle.fleet_run.specs.Runs.{Started, StartsPrefix}

-- a start failed: a prefix of the starts was asked, those that run were waited for, up to a further fault, and no line was written
pub record Unstarted (f : Fleet) (old new : Outside) : Type 0 where
  pub starts : StartsPrefix (fleet_starts f.children) old.children new.children
  pub waited : (new.children.children ≡ old.children.children)
      ⊎ (HasRisen (one_more old.children.faults) new.children.faults × LeavesOpen old.children.children new.children.children)
  pub out : new.out ≡ old.out

-- a waiting failed: all were started, and the lines of all that were waited for before it were written
pub record Unwaited (f : Fleet) (old new : Outside) : Type 0 where
  pub starts : Started (fleet_starts f.children) old.children new.children
  pub statuses : List ℕ
  pub given : IsTrue old.children.observable → statuses ≡ take (length statuses) (drop old.children.started old.children.statuses)
  pub left : LeavesAllBut (length statuses + 1) (length f.children) old.children.children new.children.children
  pub lines : Writes old.out new.out (fleet_text f.children statuses)

-- a prefix of the lines of some statuses was written, of one a child at most
pub record WritesLines (f : Fleet) (old new : SinkState) : Type 0 where
  pub statuses : List ℕ
  pub few : length statuses ≤ length f.children
  pub lines : WritesPrefix old new (fleet_text f.children statuses)
