-- A frame on its way to a queue, and its acts by what it holds.
use Rattle.std.specs.Prelude.{ℕ}
use Rattle.plan_base.specs.declared.ids.Dev.{Dev}
use Rattle.packet_frame.specs.declared.frame.PlainStamped.{PlainStamped}
use Rattle.packet_frame.specs.declared.spelled.What.{What}
use Rattle.packet_frame.specs.declared.spelled.What.TheVariants as what
use Rattle.packet_frame.specs.Spelled.{what_of}
use Rattle.node_core_spec.specs.declared.acts.Act.{Act}
use Rattle.node_core_spec.specs.declared.acts.Act.TheVariants.{Queued, Dropped, AdvertQueued, AdvertDropped, AdvertSpent}
use Rattle.node_core_spec.specs.declared.acts.Reason.TheVariants as reason
use Rattle.node_core_spec.specs.declared.acts.Sending.{Sending}

-- where its device has room
abbrev pub queued_act : Dev → What → Act
queued_act d (what.Packet f left) = Queued d f left
queued_act d what.Advert = AdvertQueued d

-- where it has none; a packet is dropped with the bound that was paid
abbrev pub dropped_act : Dev → ℕ → What → Act
dropped_act d bound (what.Packet f left) = Dropped reason.QueueFull f bound
dropped_act d bound what.Advert = AdvertDropped d

-- where all its numbers were given
abbrev pub spent_act : Dev → ℕ → What → Act
spent_act d bound (what.Packet f left) = Dropped reason.LinkSpent f bound
spent_act d bound what.Advert = AdvertSpent d

-- the frame with its acts
abbrev pub sending_of : Dev → PlainStamped → ℕ → Sending
sending_of d x bound = record {
  dev = d;
  frame = x;
  queued = queued_act d (what_of x.frame);
  dropped = dropped_act d bound (what_of x.frame);
  spent = spent_act d bound (what_of x.frame);
}
