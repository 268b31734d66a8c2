-- Every script keeps the ends together.
use Rattle.std.proofs.Common.{◌≡◌, ℕ, zero, suc, ◌≤◌, Bool, true, false, if◌then◌else◌, List, [], ◌∷◌, ◌++◌, length, Option, Some, None, refl, ap, subst, arith, length-append}
use Rattle.std.specs.Prelude.{slice_get}
use Rattle.std.specs.List.{AllByRecursion}
use Rattle.reliable_ports.specs.Ends.{Body, Receiving, is_full, with_offer, held_at, with_message}
use Rattle.reliable_ports.specs.Scripts.{Sent, Exchange, Action, nothing_yet, offer, transmit, message_comes, ack_comes, happens, run}
use Rattle.reliable_ports.specs.Scripts.Action.{Offer, Transmit, Message_comes, Acknowledge, Ack_comes}
use Rattle.reliable_ports.proofs.Slots.{get_more}
use Rattle.reliable_ports.proofs.Steps.{message, Receives, Sends, receives_more, receives_message, delivers_on, sends_more, held_message, sends_ack}

-- a message of what was offered
abbrev pub IsOffered : List Body → Sent → Type 0
IsOffered os m = message m.0 os ≡ Some m.1

pub record Together (x : Exchange) : Type 0 where
  pub receives : Receives x.offers x.receiver
  pub sends : Sends x.offers x.sender
  pub acked : x.sender.acked ≤ length x.receiver.delivered
  pub messages : AllByRecursion (IsOffered x.offers) x.messages
  pub acks : AllByRecursion (λ n. n ≤ suc (length x.receiver.delivered)) x.acks

weaker : {X : Type 0} (P Q : X → Type 0) → ((x : X) → P x → Q x) → (xs : List X) → AllByRecursion P xs → AllByRecursion Q xs
weaker P Q f [] h = tt
weaker P Q f (x ∷ xs) h = (f x h.0, weaker P Q f xs h.1)

at_place : {X : Type 0} (P : X → Type 0) (xs : List X) (k : ℕ) (x : X) → AllByRecursion P xs → slice_get xs k ≡ Some x → P x
at_place P [] k x h e = absurd cc
at_place P (y ∷ xs) zero x h e = let s : y ≡ x = cc in subst P s h.0
at_place P (y ∷ xs) (suc k) x h e = at_place P xs k x h.1 e

message_more : (n : ℕ) (os : List Body) (b c : Body) → message n os ≡ Some c → message n (os ++ b ∷ []) ≡ Some c
message_more zero os b c h = absurd cc
message_more (suc i) os b c h = get_more os (b ∷ []) i c h

together_offer : (b : Body) (x : Exchange) → Together x → Together (offer b x)
together_offer b x h = by (is_full x.sender)
  where
    by : (t : Bool) → Together (if t then x else record { offers = x.offers ++ b ∷ []; sender = with_offer b x.sender; receiver = x.receiver; messages = x.messages; acks = x.acks })
    by true = h
    by false = record {
      receives = receives_more b x.offers x.receiver h.receives;
      sends = sends_more b x.offers x.sender h.sends;
      acked = h.acked;
      messages = weaker (IsOffered x.offers) (IsOffered (x.offers ++ b ∷ [])) (λ m e. message_more m.0 x.offers b m.1 e) x.messages h.messages;
      acks = h.acks;
    }

together_transmit : (seq : ℕ) (o : Option Body) (x : Exchange) → held_at seq x.sender ≡ o → Together x → Together (transmit seq o x)
together_transmit seq None x e h = h
together_transmit seq (Some b) x e h = record {
  receives = h.receives;
  sends = h.sends;
  acked = h.acked;
  messages = (held_message seq b x.offers x.sender h.sends e, h.messages);
  acks = h.acks;
}

together_message : (o : Option Sent) (x : Exchange) → (k : ℕ) → slice_get x.messages k ≡ o → Together x → Together (message_comes o x)
together_message None x k e h = h
together_message (Some m) x k e h =
    let more = delivers_on m.0 m.1 x.receiver in
    record {
      receives = receives_message m.0 m.1 x.offers x.receiver h.receives (at_place (IsOffered x.offers) x.messages k m h.messages e);
      sends = h.sends;
      acked = omega (arith, h.acked, more);
      messages = h.messages;
      acks = weaker (λ n. n ≤ suc (length x.receiver.delivered)) (λ n. n ≤ suc (length (with_message m.0 m.1 x.receiver).delivered)) (λ n l. omega (arith, l, more)) x.acks h.acks;
    }

pub prefix_length : (os : List Body) (r : Receiving) → Receives os r → length r.delivered ≤ length os
prefix_length os r h = omega (arith, length-append r.delivered h.rest, ap length h.prefix)

together_ack : (o : Option ℕ) (x : Exchange) → (k : ℕ) → slice_get x.acks k ≡ o → Together x → Together (ack_comes o x)
together_ack None x k e h = h
together_ack (Some next) x k e h =
    let small = at_place (λ n. n ≤ suc (length x.receiver.delivered)) x.acks k next h.acks e in
    let s = sends_ack next (length x.receiver.delivered) x.offers x.sender h.sends h.acked (prefix_length x.offers x.receiver h.receives) small in
    record { receives = h.receives; sends = s.0; acked = s.1; messages = h.messages; acks = h.acks }

together_happens : (a : Action) (x : Exchange) → Together x → Together (happens a x)
together_happens (Offer b) x h = together_offer b x h
together_happens (Transmit seq) x h = together_transmit seq (held_at seq x.sender) x refl h
together_happens (Message_comes k) x h = together_message (slice_get x.messages k) x k refl h
together_happens Acknowledge x h = record { receives = h.receives; sends = h.sends; acked = h.acked; messages = h.messages; acks = (omega arith, h.acks) }
together_happens (Ack_comes k) x h = together_ack (slice_get x.acks k) x k refl h

pub together_run : (script : List Action) (x : Exchange) → Together x → Together (run script x)
together_run [] x h = h
together_run (a ∷ more) x h = together_run more (happens a x) (together_happens a x h)

pub together_first : Together nothing_yet
together_first = record {
  receives = record { rest = []; prefix = refl; agrees = tt };
  sends = record { within = omega arith; held = refl };
  acked = omega arith;
  messages = tt;
  acks = tt;
}
