-- What the acts of a step count for a family, and the balance of a step.
use Rattle.std.specs.Prelude.{◌≡◌, ℕ, ◌+◌, Bool, ◌==◌, ◌&&◌, if◌then◌else◌, List, sum_by, Option, Some, None, Result, Ok, Err}
use Rattle.plan_base.specs.declared.ids.Dev.{Dev}
use Rattle.plan_base.specs.declared.ids.Family.{Family}
use Rattle.plan_base.specs.declared.tree.Packet.{Packet}
use Rattle.packet_frame.specs.declared.frame.PlainFrame.{PlainFrame}
use Rattle.packet_frame.specs.declared.frame.PlainStamped.{PlainStamped}
use Rattle.replay_window.specs.declared.window.Took.{Took}
use Rattle.replay_window.specs.declared.window.Took.TheVariants.{Fresh}
use Rattle.packet_frame.specs.declared.fault.FrameFault.{FrameFault}
use Rattle.packet_frame.specs.Decoding.{read_by}
use Rattle.network_config.specs.declared.event.Event.{Event}
use Rattle.network_config.specs.declared.event.Event.TheVariants as event
use Rattle.node_core_spec.specs.declared.acts.Act.{Act}
use Rattle.node_core_spec.specs.declared.acts.Act.TheVariants.{Injected, Ended, Queued, Dropped, Stale}
use Rattle.packet_frame.specs.declared.spelled.What.{What}
use Rattle.packet_frame.specs.declared.spelled.What.TheVariants as what
use Rattle.node_core_spec.specs.State.{Queues, NodeState}
use Rattle.node_core_spec.specs.Node.{NodeStep, takes_as}

-- whether these are the same family
unfoldable pub is_family : Family → Family → Bool
is_family f g = (f.source.0 == g.source.0) && (f.serial == g.serial)

-- a number, counted for one family only
unfoldable pub only : Family → Family → ℕ → ℕ
only f g n = if is_family f g then n else 0

-- ---- acts

abbrev pub act_granted : Family → Act → ℕ
act_granted f (Injected g bound) = only f g bound
act_granted f _ = 0

-- how many injections
abbrev pub act_injections : Family → Act → ℕ
act_injections f (Injected g bound) = only f g 1
act_injections f _ = 0

abbrev pub act_hops : Family → Act → ℕ
act_hops f (Queued d g bound) = only f g 1
act_hops f _ = 0

abbrev pub act_evals : Family → Act → ℕ
act_evals f (Ended g o evals rest) = only f g evals
act_evals f _ = 0

abbrev pub act_left : Family → Act → ℕ
act_left f (Ended g o evals rest) = only f g rest
act_left f (Dropped r g bound) = only f g bound
act_left f _ = 0

-- the bound of a frame of this family; adverts count nothing
abbrev pub what_left : Family → What → ℕ
what_left f (what.Packet g bound) = only f g bound
what_left f what.Advert = 0

-- the bound of a frame that was stale
abbrev pub act_stale : Family → Act → ℕ
act_stale f (Stale t w) = what_left f w
act_stale f _ = 0

-- a count over the acts of a step
unfoldable pub act_sum : (Act → ℕ) → List Act → ℕ
act_sum count acts = sum_by count acts

-- ---- frames

-- what a frame counts, by its packet; an advert counts nothing, and an ask belongs to no family yet
abbrev pub frame_count : (Packet → ℕ) → PlainFrame → ℕ
frame_count count (PlainFrame.Packet p) = count p
frame_count count _ = 0

-- a count over the frames of a queue, and over queues
unfoldable pub queue_sum : (PlainFrame → ℕ) → List PlainStamped → ℕ
queue_sum count queue = sum_by (λ x. count x.frame) queue

unfoldable pub queues_sum : (PlainFrame → ℕ) → Queues → ℕ
queues_sum count queues = sum_by (λ lane. queue_sum count lane.frames) queues

abbrev pub taken_sum : (PlainFrame → ℕ) → Option PlainStamped → ℕ
taken_sum count None = 0
taken_sum count (Some x) = count x.frame

abbrev pub packet_live : Family → Packet → ℕ
packet_live f p = only f p.family p.bound

-- the bound of a frame of this family
abbrev pub frame_live : Family → PlainFrame → ℕ
frame_live f = frame_count (packet_live f)

-- the sum of the bounds of a family's frames that are queued at a node
abbrev pub node_live : Family → NodeState → ℕ
node_live f node = queues_sum (frame_live f) node.queues

-- 1 for a packet of this family
abbrev pub packet_one : Family → Packet → ℕ
packet_one f p = only f p.family 1

abbrev pub frame_one : Family → PlainFrame → ℕ
frame_one f = frame_count (packet_one f)

-- the number of a family's packets that are queued at a node
abbrev pub node_packets : Family → NodeState → ℕ
node_packets f node = queues_sum (frame_one f) node.queues

-- ---- the balance of a step

-- a count of a frame where it was taken as fresh, and where it wasn't
abbrev pub if_fresh : Took → ℕ → ℕ
if_fresh Fresh n = n
if_fresh _ n = 0

abbrev pub if_stale : Took → ℕ → ℕ
if_stale Fresh n = 0
if_stale _ n = n

-- what comes in with a frame, and what is stale of it
abbrev pub stamped_came : Family → NodeState → Dev → PlainStamped → ℕ
stamped_came f node d x = if_fresh (takes_as node.seen d x.stamp) (frame_live f x.frame)

abbrev pub stamped_stale : Family → NodeState → Dev → PlainStamped → ℕ
stamped_stale f node d x = if_stale (takes_as node.seen d x.stamp) (frame_live f x.frame)

-- the same for bytes
abbrev pub bytes_came : Family → NodeState → Dev → Result PlainStamped FrameFault → ℕ
bytes_came f node d (Ok x) = stamped_came f node d x
bytes_came f node d (Err e) = 0

abbrev pub bytes_stale : Family → NodeState → Dev → Result PlainStamped FrameFault → ℕ
bytes_stale f node d (Ok x) = stamped_stale f node d x
bytes_stale f node d (Err e) = 0

-- the bound that comes in with an event, other than by an injection: that of a packet which is accepted and isn't stale
abbrev pub came : Family → NodeState → Event → ℕ
came f node (event.Frame d bytes) = bytes_came f node d (read_by node.version bytes)
came f node _ = 0

-- the bound of a packet that an event brings and that is stale
abbrev pub stale : Family → NodeState → Event → ℕ
stale f node (event.Frame d bytes) = bytes_stale f node d (read_by node.version bytes)
stale f node _ = 0

-- a step of a node: what was granted and what came in is what was paid and left, the growth of the queues, and the frame taken;
-- and what is stale is in its acts
pub record StepBalances (f : Family) (arrived late : ℕ) (old : NodeState) (step : NodeStep) : Type 0 where
  pub law : act_sum (act_granted f) step.acts + arrived + node_live f old
      ≡ act_sum (act_hops f) step.acts + act_sum (act_evals f) step.acts + act_sum (act_left f) step.acts + node_live f step.node +
      taken_sum (frame_live f) step.frame
  pub stale : act_sum (act_stale f) step.acts ≡ late
