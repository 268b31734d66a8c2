-- A frame on its way to a queue is that of the definition.
use Rattle.std.proofs.Common.{◌≡◌, ℕ, ◌-◌, Bool, true, false, Option, ap, sym, ◌∙◌, subst}
use Rattle.std.specs.Prelude.{IsTrue, Result, IfOk, if◌then◌else◌, slice_get}
use Rattle.plan_base.specs.declared.stamp.Stamp.{Stamp}
use Rattle.plan_base.specs.declared.ids.Dev.{Dev}
use Rattle.plan_base.specs.declared.ids.Host.{Host}
use Rattle.plan_base.specs.declared.memory.NoMemory.{NoMemory}
use Rattle.plan_base.specs.declared.tree.Packet.{Packet}
use Rattle.packet_frame.specs.declared.frame.PlainFrame.{PlainFrame}
use Rattle.packet_frame.specs.declared.frame.PlainStamped.{PlainStamped}
use Rattle.service_api.specs.declared.advert.Advert.{Advert}
use Rattle.packet_frame.specs.declared.spelled.What.{What}
use Rattle.packet_frame.specs.Spelled.{what_of, packet_frame, MayCarry}
use Rattle.node_core_spec.specs.declared.acts.Act.{Act}
use Rattle.node_core_spec.specs.declared.acts.Sending.{Sending}
use Rattle.node_core_spec.specs.State.{Queues}
use Rattle.node_core_spec.specs.Node.{has_room, queue_push, drop_act, send_act, send_queues, packet_sending, advert_sending}
use Rattle.node_core_parts.specs.Drops.{drop_by}
use Rattle.node_core_parts.proofs.Drops.{drop_is}
use Rattle.node_core_parts.specs.Leaving.{queued_act, dropped_act, spent_act, sending_of}

-- a packet, with 1 paid for the hop
pub packet_leaves : (m : Option Stamp) (d : Dev) (p : Packet) (x : PlainStamped) (bound left : ℕ) (s : Sending) → bound ≡ p.bound → left ≡ bound - 1
    → x ≡ packet_frame m p left → s ≡ sending_of d x bound → s ≡ packet_sending m (record { dev = d; packet = p })
packet_leaves m d p x bound left s b l e h =
    h ∙ (λ i. sending_of d (e i) (b i)) ∙ ap (λ n. sending_of d (packet_frame m p n) p.bound) (l ∙ ap (λ n. n - 1) b)

-- the same of a copy
pub copy_carries : (m : Option Stamp) (p q : Packet) → q ≡ p → MayCarry m p.handler → MayCarry m q.handler
copy_carries m p q e h = subst (λ (x : Packet). MayCarry m x.handler) (sym e) h

pub copy_leaves : (m : Option Stamp) (d : Dev) (p q : Packet) (r : Result Sending NoMemory) → q ≡ p → IfOk r (λ s. s ≡ packet_sending m (record { dev = d; packet = q }))
    → IfOk r (λ s. s ≡ packet_sending m (record { dev = d; packet = p }))
copy_leaves m d p q r e h = subst (λ (x : Packet). IfOk r (λ s. s ≡ packet_sending m (record { dev = d; packet = x }))) e h

-- an advert
pub advert_leaves : (m : Option Stamp) (d : Dev) (a : Advert) (x : PlainStamped) (link : Host × Dev) (s : Sending) → d ≡ link.1
    → x ≡ record { stamp = m; frame = PlainFrame.Advert a } → s ≡ sending_of d x 0 → s ≡ advert_sending m a link
advert_leaves m d a x link s l e h = h ∙ (λ i. sending_of (l i) (e i) 0)

-- ---- its acts, by what it holds

pub queued_is : (d : Dev) (x : PlainStamped) (bound : ℕ) (s : Sending) (w : What) (r : Act) → sending_of d x bound ≡ s → w ≡ what_of x.frame → r ≡ queued_act d w → r ≡ s.queued
queued_is d x bound s w r e f h = h ∙ ap (queued_act d) f ∙ ap (λ (s : Sending). s.queued) e

pub dropped_is : (d : Dev) (x : PlainStamped) (bound : ℕ) (s : Sending) (w : What) (r : Act) → sending_of d x bound ≡ s → w ≡ what_of x.frame → r ≡ dropped_act d bound w → r ≡ s.dropped
dropped_is d x bound s w r e f h = h ∙ ap (dropped_act d bound) f ∙ ap (λ (s : Sending). s.dropped) e

pub spent_is : (d : Dev) (x : PlainStamped) (bound : ℕ) (s : Sending) (w : What) (r : Act) → sending_of d x bound ≡ s → w ≡ what_of x.frame → r ≡ spent_act d bound w → r ≡ s.spent
spent_is d x bound s w r e f h = h ∙ ap (spent_act d bound) f ∙ ap (λ (s : Sending). s.spent) e

-- ---- it is queued or dropped as the definition has it

module _ (queues : Queues) (s : Sending) (d : Dev) (x : PlainStamped) (e : d ≡ s.dev) (f : x ≡ s.frame) where
  tested : (t : Bool) → t ≡ has_room queues d x → t ≡ has_room queues s.dev s.frame
  tested t h = h ∙ (λ i. has_room queues (e i) (f i))

  act_by : (t : Bool) (r : Act) → t ≡ has_room queues d x → r ≡ (if t then s.queued else drop_act (slice_get queues s.dev.0) s) → r ≡ send_act queues s
  unfolding send_act
  act_by t r h k = k ∙ ap (λ (u : Bool). if u then s.queued else drop_act (slice_get queues s.dev.0) s) (tested t h)

  queues_by : (t : Bool) (new : Queues) → t ≡ has_room queues d x → new ≡ (if t then queue_push queues s.dev s.frame (slice_get queues s.dev.0) else queues) → new ≡ send_queues queues s
  unfolding send_queues
  queues_by t new h k = k ∙ ap (λ (u : Bool). if u then queue_push queues s.dev s.frame (slice_get queues s.dev.0) else queues) (tested t h)

  pub room_so : (y : PlainStamped) → y ≡ s.frame → true ≡ has_room queues d x → IsTrue (has_room queues d y)
  room_so y g h = sym (h ∙ ap (has_room queues d) (f ∙ sym g))

  pub queued_so : (r : Act) → true ≡ has_room queues d x → r ≡ s.queued → r ≡ send_act queues s
  queued_so r h k = act_by true r h k

  pub queues_so : (y : PlainStamped) (new : Queues) → y ≡ s.frame → true ≡ has_room queues d x → new ≡ queue_push queues d y (slice_get queues d.0) → new ≡ send_queues queues s
  queues_so y new g h k = queues_by true new h (k ∙ (λ i. queue_push queues (e i) (g i) (slice_get queues (e i).0)))

  pub dropped_so : (r : Act) → false ≡ has_room queues d x → r ≡ drop_by (slice_get queues s.dev.0) s.dropped s.spent → r ≡ send_act queues s
  dropped_so r h l = act_by false r h (l ∙ drop_is (slice_get queues s.dev.0) s)

  pub stays_so : (new : Queues) → false ≡ has_room queues d x → new ≡ queues → new ≡ send_queues queues s
  stays_so new h k = queues_by false new h k
