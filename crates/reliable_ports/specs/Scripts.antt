-- Two ends with a network between them that loses, repeats and reorders.
use Rattle.std.specs.Prelude.{◌≡◌, ◌≤◌, ℕ, if◌then◌else◌, List, [], ◌∷◌, ◌++◌, length, slice_get, Option, Some, None}
use Rattle.reliable_ports.specs.Ends.{Body, Sending, Receiving, no_offers, no_messages, is_full, with_offer, held_at, with_ack, next_of, with_message}

-- a message as it was sent: its number and its body
abbrev pub Sent : Type 0
Sent = ℕ × Body

-- the two ends, all bodies offered, each message that was ever sent, and each number that was ever said to be awaited
pub record Exchange : Type 0 where
  pub offers : List Body
  pub sender : Sending
  pub receiver : Receiving
  pub messages : List Sent
  pub acks : List ℕ

-- what may happen next: any message or ack that was ever sent may come, any number of times, or never
pub data Action : Type 0 where
  Offer : (body : Body) → Action
  Transmit : (seq : ℕ) → Action
  Message_comes : (which : ℕ) → Action
  Acknowledge : Action
  Ack_comes : (which : ℕ) → Action

-- both ends new, and nothing sent
abbrev pub nothing_yet : Exchange
nothing_yet = record { offers = []; sender = no_offers; receiver = no_messages; messages = []; acks = [] }

-- a body is offered; nothing changes where the sender is full
abbrev pub offer : Body → Exchange → Exchange
offer body x =
    if is_full x.sender then x else record {
      offers = x.offers ++ body ∷ [];
      sender = with_offer body x.sender;
      receiver = x.receiver;
      messages = x.messages;
      acks = x.acks;
    }

-- the message with a number is sent, where its body is held
abbrev pub transmit : ℕ → Option Body → Exchange → Exchange
transmit seq None x = x
transmit seq (Some body) x = record { offers = x.offers; sender = x.sender; receiver = x.receiver; messages = (seq, body) ∷ x.messages; acks = x.acks }

-- a message that was sent comes to the receiver
abbrev pub message_comes : Option Sent → Exchange → Exchange
message_comes None x = x
message_comes (Some m) x = record { offers = x.offers; sender = x.sender; receiver = with_message m.0 m.1 x.receiver; messages = x.messages; acks = x.acks }

-- a number that was said to be awaited comes to the sender
abbrev pub ack_comes : Option ℕ → Exchange → Exchange
ack_comes None x = x
ack_comes (Some next) x = record { offers = x.offers; sender = with_ack next x.sender; receiver = x.receiver; messages = x.messages; acks = x.acks }

-- one action; a place where nothing was sent changes nothing
abbrev pub happens : Action → Exchange → Exchange
happens (Offer body) x = offer body x
happens (Transmit seq) x = transmit seq (held_at seq x.sender) x
happens (Message_comes k) x = message_comes (slice_get x.messages k) x
happens Acknowledge x = record { offers = x.offers; sender = x.sender; receiver = x.receiver; messages = x.messages; acks = next_of x.receiver ∷ x.acks }
happens (Ack_comes k) x = ack_comes (slice_get x.acks k) x

-- a whole script
abbrev pub run : List Action → Exchange → Exchange
run [] x = x
run (a ∷ more) x = run more (happens a x)

-- some bodies are a prefix of others
abbrev pub IsPrefix : List Body → List Body → Type 0
IsPrefix xs ys = (rest : List Body) × (xs ++ rest ≡ ys)

-- what was delivered is a prefix of what was offered
abbrev pub IsInOrder : Exchange → Type 0
IsInOrder x = IsPrefix x.receiver.delivered x.offers

-- no more is acknowledged than was delivered
abbrev pub IsAcked : Exchange → Type 0
IsAcked x = x.sender.acked ≤ length x.receiver.delivered
