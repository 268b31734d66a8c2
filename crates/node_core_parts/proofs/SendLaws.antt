-- One frame more to be queued, and what any frame may carry.
use Rattle.std.proofs.Common.{◌≡◌, List, [], ◌∷◌, ◌++◌, Option, Some, None, refl, ap}
use Rattle.plan_base.specs.declared.stamp.Stamp.{Stamp}
use Rattle.plan_base.specs.declared.name.Name.{Name}
use Rattle.packet_frame.specs.Spelled.{MayCarry}
use Rattle.node_core_spec.specs.declared.acts.Sending.{Sending}
use Rattle.node_core_spec.specs.State.{Queues}
use Rattle.node_core_spec.specs.Node.{send_act, send_queues, sends_acts, sends_queues}

pub sends_acts_none : (queues : Queues) → sends_acts queues [] ≡ []
unfolding sends_acts
sends_acts_none queues = refl

pub sends_queues_none : (queues : Queues) → sends_queues queues [] ≡ queues
unfolding sends_queues
sends_queues_none queues = refl

pub sends_acts_more : (queues : Queues) (ss : List Sending) (s : Sending) → sends_acts queues (ss ++ s ∷ []) ≡ sends_acts queues ss ++ send_act (sends_queues queues ss) s ∷ []
unfolding sends_acts sends_queues
sends_acts_more queues [] s = refl
sends_acts_more queues (x ∷ ss) s = ap (λ acts. send_act queues x ∷ acts) (sends_acts_more (send_queues queues x) ss s)

pub sends_queues_more : (queues : Queues) (ss : List Sending) (s : Sending) → sends_queues queues (ss ++ s ∷ []) ≡ send_queues (sends_queues queues ss) s
unfolding sends_queues
sends_queues_more queues [] s = refl
sends_queues_more queues (x ∷ ss) s = sends_queues_more (send_queues queues x) ss s

-- a packet without a handler goes in a frame with a stamp and in one without
pub plain_carried : (m : Option Stamp) (h : Option Name) → h ≡ None → MayCarry m h
plain_carried None h e = e
plain_carried (Some s) h e = tt
