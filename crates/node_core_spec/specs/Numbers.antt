-- The numbers of the frames that a device sends: they ascend, and are below its next one.
use Rattle.std.specs.Prelude.{◌≡◌, ℕ, ◌<◌, List, [], ◌∷◌, ◌++◌, slice_get, Option, Some, None, All}
use Rattle.std.specs.List.{flat_map}
use Rattle.packet_frame.specs.declared.frame.PlainStamped.{PlainStamped}
use Rattle.plan_base.specs.declared.stamp.Stamp.{Stamp}
use Rattle.node_core_spec.specs.declared.acts.TxQueue.{TxQueue}
use Rattle.node_core_spec.specs.State.{Queues}

-- the number of a frame, if it bears a stamp
abbrev pub link_in : Option Stamp → List ℕ
link_in None = []
link_in (Some s) = s.link ∷ []

abbrev pub numbers_in : List PlainStamped → List ℕ
numbers_in xs = flat_map (λ x. link_in x.stamp) xs

-- each number is below all behind it, so no two are the same
abbrev pub Ascend : List ℕ → Type 0
Ascend [] = Unit {0}
Ascend (n ∷ ns) = All (λ m. n < m) ns × Ascend ns

-- the numbers before, and those of a device's queue, ascend and are below its next one
pub record NumbersFit (before : List ℕ) (lane : TxQueue) : Type 0 where
  pub ascend : Ascend (before ++ numbers_in lane.frames)
  pub below : All (λ n. n < lane.number) (before ++ numbers_in lane.frames)

-- the same of the queue on a device, where there is one
abbrev pub FitsAt : List ℕ → ℕ → Queues → Type 0
FitsAt before d queues = (lane : TxQueue) → slice_get queues d ≡ Some lane → NumbersFit before lane
