-- What is queued on a device.
use Rattle.std.specs.Prelude.{◌≡◌, ℕ, Bool, true, false, List, [], ◌∷◌, length, slice_get, slice_set, Option, Some}
use Rattle.packet_frame.specs.declared.frame.PlainStamped.{PlainStamped}
use Rattle.node_core_spec.specs.declared.acts.TxQueue.{TxQueue}
use Rattle.node_core_spec.specs.State.{Queues}
use Rattle.node_core_spec.specs.Orders.{frames_of}

abbrev pub is_filled : List PlainStamped → Bool
is_filled [] = false
is_filled (x ∷ queue) = true

-- whether a device is there, and a frame in its queue
abbrev pub has_first : Option TxQueue → Bool
has_first o = is_filled (frames_of o)

-- the number of frames queued on a device, where it is there
abbrev pub queued_at : Option TxQueue → ℕ
queued_at o = length (frames_of o)

-- the first frame of a device was taken off
pub record TakesFirst (old : Queues) (at : ℕ) (first : PlainStamped) (new : Queues) : Type 0 where
  pub rest : List PlainStamped
  pub number : ℕ
  pub there : slice_get old at ≡ Some (record { frames = first ∷ rest; number = number })
  pub after : new ≡ slice_set old at (record { frames = rest; number = number })
