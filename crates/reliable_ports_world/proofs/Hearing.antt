-- What is delivered once a note is heard.
use Rattle.std.proofs.Common.{◌≡◌, ◌<◌, ◌^◌, Bool, true, false, cond, length, Option, Some, refl, sym, subst, arith}
use Rattle.std.specs.Prelude.{◌==◌, nat_lt, ℤ}
use Rattle.std.proofs.lemmas.Bool.{eqb-false}
use Rattle.plan_base.specs.declared.ids.Host.{Host}
use Rattle.service_api.specs.declared.answer.Note.{Note}
use Rattle.reliable_ports.specs.Ends.{Body, Receiving, number_of, with_message}
use Rattle.reliable_ports.proofs.Steps.{delivers_on}
use Rattle.reliable_ports_world.specs.Ports.{PortState, price, said_to, heard_by, makes, second_pays, ack_event, acks, hears_message, hears_ack, hears_note}
use Rattle.reliable_ports_world.specs.Limits.{FewAfter}

acks_receiver : (s : PortState) → (acks s).receiver ≡ s.receiver
acks_receiver s = by (nat_lt s.second price)
  where
    by : (t : Bool) → (cond t s (makes (ack_event s.receiver) (second_pays s))).receiver ≡ s.receiver
    by true = refl
    by false = refl

-- what is delivered after a message
pub message_few : (o : Option (ℤ × Body)) (m : ℤ × Body) (s : PortState) → Some m ≡ o → FewAfter (hears_message o) s → length (with_message (number_of m.0) m.1 s.receiver).delivered < 2 ^ 62
message_few o m s e h =
    subst (λ (r : Receiving). length r.delivered < 2 ^ 62) (acks_receiver (heard_by (with_message (number_of m.0) m.1 s.receiver) s))
    (subst (λ (o : Option (ℤ × Body)). FewAfter (hears_message o) s) (sym e) h)

-- and before it
pub before_few : (o : Option (ℤ × Body)) (m : ℤ × Body) (s : PortState) → Some m ≡ o → FewAfter (hears_message o) s → length s.receiver.delivered < 2 ^ 62
before_few o m s e h = omega (arith, message_few o m s e h, delivers_on (number_of m.0) m.1 s.receiver)

-- a note of the second host
pub second_few : (g : Host) (x : Note) (s : PortState) → g.0 ≡ 2 → FewAfter (hears_note g x) s → FewAfter (hears_message (said_to 1 x)) s
second_few g x s e h = by (g.0 == 2) refl h
  where
    by : (t : Bool) → (g.0 == 2) ≡ t → length (cond t (hears_message (said_to 1 x) s) (cond (g.0 == 1) (hears_ack (said_to 2 x) s) s)).receiver.delivered < 2 ^ 62 → FewAfter (hears_message (said_to 1 x)) s
    by true w k = k
    by false w k = absurd (eqb-false g.0 2 w e)
