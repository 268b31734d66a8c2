-- Queues keep their room, and what each frame keeps, whatever that is.
use Rattle.std.proofs.Common.{◌≡◌, ℕ, ◌+◌, ◌≤◌, Bool, true, false, cond, List, [], ◌∷◌, refl, arith, length}
use Rattle.std.specs.Prelude.{slice_set, slice_get, not, Option, Some, None, All}
use Rattle.std.proofs.lemmas.List.Elements.{All-nil, All-head, All-tail, All-push, All-set, All-get_or, All-replicate}
use Rattle.std.proofs.lemmas.List.{length-append}
use Rattle.std.proofs.lemmas.Option.{slice_get_within, get_or_from_slice_get}
use Rattle.std.proofs.lemmas.Bool.Decides.{nat_tests}
use Rattle.plan_base.specs.declared.ids.Dev.{Dev}
use Rattle.packet_frame.specs.declared.frame.PlainStamped.{PlainStamped}
use Rattle.node_core_spec.specs.declared.acts.TxQueue.{TxQueue}
use Rattle.node_core_spec.specs.declared.acts.Sending.{Sending}
use Rattle.containers.proofs.Bools.{both_true}
use Rattle.node_core_spec.specs.State.{Queues, no_lane, no_queues}
use Rattle.packet_frame.specs.Spelled.{numbered_frame}
use Rattle.node_core_spec.specs.Node.{is_spent, lane_room, queue_room, has_room, lane_with, queue_push, send_queues, sends_queues}
use Rattle.node_core_spec.specs.Fits.{QueuesKeep}

abbrev Short : TxQueue → Type 0
Short lane = length lane.frames ≤ 64

one_more_fits : (lane : TxQueue) (x : PlainStamped) → queue_room (Some lane) x ≡ true → length lane.frames + 1 ≤ 64
one_more_fits lane x e = let h : lane_room lane ≡ true = (both_true (lane_room lane) (not (is_spent lane x.stamp)) e).0 in grind (arith, nat_tests)

short_of : (queues : Queues) (d : ℕ) (lane : TxQueue) → slice_get queues d ≡ Some lane → All Short queues → Short lane
short_of queues d lane e all = let h = All-get_or Short queues d lane (slice_get_within queues d lane e) all in rw (get_or_from_slice_get queues d lane lane e) at h

module _ (P : PlainStamped → Type 0) where
  abbrev Each : TxQueue → Type 0
  Each lane = All P lane.frames

  -- it holds of a frame whatever its number
  abbrev pub Whatever : Type 0
  Whatever = (n : ℕ) (x : PlainStamped) → P x → P (numbered_frame n x)

  lane_of : (queues : Queues) (d : ℕ) (lane : TxQueue) → slice_get queues d ≡ Some lane → All Each queues → Each lane
  lane_of queues d lane e all = let h = All-get_or Each queues d lane (slice_get_within queues d lane e) all in rw (get_or_from_slice_get queues d lane lane e) at h

  -- a queue set anew
  set_keeps : (queues : Queues) (d : ℕ) (lane : TxQueue) → Short lane → Each lane → QueuesKeep P queues → QueuesKeep P (slice_set queues d lane)
  set_keeps queues d lane s b q = record { room = All-set Short queues d lane s q.room; frames = All-set Each queues d lane b q.frames }

  push_cases : Whatever → (t : Bool) (queues : Queues) (d : Dev) (x : PlainStamped) (lane : TxQueue) → queue_room (Some lane) x ≡ t → slice_get queues d.0 ≡ Some lane → P x → QueuesKeep P queues
      → QueuesKeep P (cond t (queue_push queues d x (Some lane)) queues)
  push_cases a true queues d x lane n e h q = set_keeps queues d.0 (lane_with lane x)
      (omega (arith, one_more_fits lane x n, length-append lane.frames (numbered_frame lane.number x ∷ [])))
      (All-push P lane.frames (numbered_frame lane.number x) (lane_of queues d.0 lane e q.frames) (a lane.number x h)) q
  push_cases a false queues d x lane n e h q = q

  place_cases : Whatever → (o : Option TxQueue) (queues : Queues) (d : Dev) (x : PlainStamped) → slice_get queues d.0 ≡ o → P x → QueuesKeep P queues
      → QueuesKeep P (cond (queue_room o x) (queue_push queues d x o) queues)
  place_cases a None queues d x e h q = q
  place_cases a (Some lane) queues d x e h q = push_cases a (queue_room (Some lane) x) queues d x lane refl e h q

  abbrev pub Sends : Sending → Type 0
  Sends s = P s.frame

  pub send_keeps : Whatever → (queues : Queues) (s : Sending) → P s.frame → QueuesKeep P queues → QueuesKeep P (send_queues queues s)
  unfolding send_queues has_room
  send_keeps a queues s h q = place_cases a (slice_get queues s.dev.0) queues s.dev s.frame refl h q

  pub sends_keep : Whatever → (queues : Queues) (ss : List Sending) → All Sends ss → QueuesKeep P queues → QueuesKeep P (sends_queues queues ss)
  unfolding sends_queues
  sends_keep a queues [] h q = q
  sends_keep a queues (s ∷ ss) h q = sends_keep a (send_queues queues s) ss (All-tail Sends s ss h) (send_keeps a queues s (All-head Sends s ss h) q)

  -- a frame taken off, and the rest
  pub record Took (queues : Queues) (d : ℕ) (x : PlainStamped) (later : TxQueue) : Type 0 where
    pub frame : P x
    pub rest : QueuesKeep P (slice_set queues d later)

  pub took : (queues : Queues) (d n : ℕ) (x : PlainStamped) (queue : List PlainStamped) → slice_get queues d ≡ Some (record { frames = x ∷ queue; number = n }) → QueuesKeep P queues
      → Took queues d x (record { frames = queue; number = n })
  took queues d n x queue e q =
      let lane : TxQueue = record { frames = x ∷ queue; number = n } in
      let b = lane_of queues d lane e q.frames in
      let s = short_of queues d lane e q.room in
      record { frame = All-head P x queue b; rest = set_keeps queues d (record { frames = queue; number = n }) (omega arith) (All-tail P x queue b) q }

  pub none_kept : (link : ℕ) → QueuesKeep P (no_queues link)
  none_kept link = record { room = All-replicate Short 9 (no_lane link) (omega arith); frames = All-replicate Each 9 (no_lane link) (All-nil P) }
