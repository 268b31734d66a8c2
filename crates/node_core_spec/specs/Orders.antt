-- How a device's queue changes at a step.
use Rattle.std.specs.Prelude.{◌≡◌, ℕ, List, [], ◌∷◌, ◌++◌, slice_get, Option, Some, None}
use Rattle.packet_frame.specs.declared.frame.PlainStamped.{PlainStamped}
use Rattle.node_core_spec.specs.declared.acts.TxQueue.{TxQueue}
use Rattle.node_core_spec.specs.State.{Queues}

-- the frames queued on a device, none where it isn't there
abbrev pub frames_of : Option TxQueue → List PlainStamped
frames_of None = []
frames_of (Some lane) = lane.frames

abbrev pub queue_at : Queues → ℕ → List PlainStamped
queue_at queues d = frames_of (slice_get queues d)

-- frames join a queue at its end, and leave it at its front
pub data MovesInOrder (old new : List PlainStamped) : Type 0 where
  joined : (more : List PlainStamped) → new ≡ old ++ more → MovesInOrder old new
  taken : (first : PlainStamped) → old ≡ first ∷ new → MovesInOrder old new
