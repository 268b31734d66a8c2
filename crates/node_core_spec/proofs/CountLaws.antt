-- Laws of the counts of a node.
use Rattle.std.proofs.Common.{◌≡◌, ℕ, zero, suc, ◌+◌, ◌-◌, ◌<◌, ◌≤◌, Bool, true, false, cond, List, [], ◌∷◌, ◌++◌, refl, sym, ap, ◌∙◌, arith, replicate, Option}
use Rattle.std.specs.Prelude.{sum_by, map, All, slice_set, slice_get, Some}
use Rattle.std.proofs.lemmas.List.Sums.{sum_by-cons, sum_by-append, sum_by_push, sum_by-set}
use Rattle.std.proofs.lemmas.List.Elements.{All-head, All-tail}
use Rattle.std.proofs.lemmas.Option.{slice_get_within, get_or_from_slice_get}
use Rattle.plan_base.specs.declared.ids.Family.{Family}
use Rattle.packet_frame.specs.declared.frame.PlainFrame.{PlainFrame}
use Rattle.packet_frame.specs.declared.frame.PlainStamped.{PlainStamped}
use Rattle.plan_base.specs.declared.stamp.Stamp.{Stamp}
use Rattle.node_core_spec.specs.declared.acts.TxQueue.{TxQueue}
use Rattle.plan_meaning.specs.declared.sent.Sent.{Sent}
use Rattle.node_core_spec.specs.declared.acts.Act.{Act}
use Rattle.node_core_spec.specs.declared.acts.Sending.{Sending}
use Rattle.node_core_spec.specs.State.{Queues, no_lane, no_queues}
use Rattle.node_core_spec.specs.Node.{packet_sending}
use Rattle.node_core_spec.specs.Counts.{only, is_family, act_sum, act_left, queue_sum, queues_sum}

cond-plus : (t : Bool) (a b : ℕ) → cond t (a + b) 0 ≡ cond t a 0 + cond t b 0
cond-plus true a b = refl
cond-plus false a b = refl

cond-le : (t : Bool) (a : ℕ) → cond t a 0 ≤ a
cond-le true a = omega arith
cond-le false a = omega arith

cond-zero : (t : Bool) → ◌≡◌ {A = ℕ} (cond t 0 0) 0
cond-zero true = refl
cond-zero false = refl

pub only-plus : (f g : Family) (a b : ℕ) → only f g (a + b) ≡ only f g a + only f g b
unfolding only
only-plus f g a b = cond-plus (is_family f g) a b

pub only-zero : (f g : Family) → only f g 0 ≡ 0
unfolding only
only-zero f g = cond-zero (is_family f g)

pub only-le : (f g : Family) (n : ℕ) → only f g n ≤ n
unfolding only
only-le f g n = cond-le (is_family f g) n

-- a hop of 1 and the rest make up a bound
pub only_hop : (f g : Family) (b : ℕ) → 0 < b → only f g 1 + only f g (b - 1) ≡ only f g b
only_hop f g b h = let e : b ≡ 1 + (b - 1) = omega arith in sym (ap (only f g) e ∙ only-plus f g 1 (b - 1))

pub act_sum-nil : (c : Act → ℕ) → act_sum c [] ≡ 0
unfolding act_sum
act_sum-nil c = refl

pub act_sum-cons : (c : Act → ℕ) (x : Act) (xs : List Act) → act_sum c (x ∷ xs) ≡ c x + act_sum c xs
unfolding act_sum
act_sum-cons c x xs = sum_by-cons c x xs

pub act_sum-append : (c : Act → ℕ) (xs ys : List Act) → act_sum c (xs ++ ys) ≡ act_sum c xs + act_sum c ys
unfolding act_sum
act_sum-append c xs ys = sum_by-append c xs ys

-- what a frame leaves that is dropped in place of being queued
abbrev pub dropped_left : Family → Sending → ℕ
dropped_left f s = act_left f s.dropped

module _ (count : PlainFrame → ℕ) where
  abbrev of_frame : PlainStamped → ℕ
  of_frame x = count x.frame

  abbrev of_lane : TxQueue → ℕ
  of_lane lane = queue_sum count lane.frames

  pub queue_sum-push : (queue : List PlainStamped) (x : PlainStamped) → queue_sum count (queue ++ x ∷ []) ≡ queue_sum count queue + count x.frame
  unfolding queue_sum
  queue_sum-push queue x = sum_by_push of_frame queue x

  pub queue_sum-cons : (x : PlainStamped) (queue : List PlainStamped) → queue_sum count (x ∷ queue) ≡ count x.frame + queue_sum count queue
  unfolding queue_sum
  queue_sum-cons x queue = sum_by-cons of_frame x queue

  pub queue_sum-nil : queue_sum count [] ≡ 0
  unfolding queue_sum
  queue_sum-nil = refl

  pub queues_sum-nil : queues_sum count [] ≡ 0
  unfolding queues_sum
  queues_sum-nil = refl

  pub queues_sum-cons : (lane : TxQueue) (queues : Queues) → queues_sum count (lane ∷ queues) ≡ queue_sum count lane.frames + queues_sum count queues
  unfolding queues_sum
  queues_sum-cons lane queues = sum_by-cons of_lane lane queues

  pub queues_sum-set : (queues : Queues) (d : ℕ) (old new : TxQueue) → slice_get queues d ≡ Some old
      → queues_sum count (slice_set queues d new) + queue_sum count old.frames ≡ queues_sum count queues + queue_sum count new.frames
  unfolding queues_sum
  queues_sum-set queues d old new e =
      let at = get_or_from_slice_get queues d old old e in
      let law = sum_by-set of_lane queues d new old (slice_get_within queues d old e) in
      omega (arith, ap of_lane at)

  -- nothing is queued at the beginning
  none_queued : (link n : ℕ) → queues_sum count (replicate n (no_lane link)) ≡ 0
  none_queued link zero = queues_sum-nil
  none_queued link (suc n) = omega (arith, queues_sum-cons (no_lane link) (replicate n (no_lane link)), queue_sum-nil, none_queued link n)

  pub no_queues_sum : (link : ℕ) → queues_sum count (no_queues link) ≡ 0
  no_queues_sum link = none_queued link 9

-- what packets of one family have is their sum, counted for that family
pub sent_live : (m : Option Stamp) (f g : Family) (outbox : List Sent) → All (λ s. s.packet.family ≡ g) outbox
    → sum_by (dropped_left f) (map (packet_sending m) outbox) ≡ only f g (sum_by (λ s. s.packet.bound) outbox)
sent_live m f g [] h = sym (only-zero f g)
sent_live m f g (s ∷ ss) h =
    let e : dropped_left f (packet_sending m s) ≡ only f g s.packet.bound = ap (λ x. only f x s.packet.bound) (All-head (λ s. s.packet.family ≡ g) s ss h) in
    let rest = sent_live m f g ss (All-tail (λ s. s.packet.family ≡ g) s ss h) in
    let sums = sum_by-cons (dropped_left f) (packet_sending m s) (map (packet_sending m) ss) in
    let bounds = ap (only f g) (sum_by-cons (λ s. s.packet.bound) s ss) in
    omega (arith, only-plus f g s.packet.bound (sum_by (λ s. s.packet.bound) ss))
