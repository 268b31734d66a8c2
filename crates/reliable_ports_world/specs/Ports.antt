-- Two ends of a reliable port over a network of two hosts.
use Rattle.std.specs.Prelude.{◌≤◌, length, ℕ, ◌-◌, ◌==◌, if◌then◌else◌, nat_lt, ℤ, pos, List, [], ◌∷◌, ◌++◌, Option, Some, None}
use Rattle.plan_base.specs.declared.ids.Host.{Host}
use Rattle.plan_base.specs.declared.tree.Value.{Value, out-Value}
use Rattle.plan_base.specs.declared.tree.Value.TheOpen.{Value-F}
use Rattle.plan_base.specs.Trees.{ValueLayer}
use Rattle.service_api.specs.declared.answer.Note.{Note}
use Rattle.service_api.specs.declared.answer.Note.TheVariants.{Print, Port}
use Rattle.network_config.specs.declared.event.WorldEvent.{WorldEvent}
use Rattle.network_config.specs.declared.event.WorldEvent.TheVariants as event
use Rattle.node_core_spec.specs.declared.acts.Act.TheVariants.{Noted}
use Rattle.net_world_spec.specs.declared.lines.Line.{Line}
use Rattle.net_world_spec.specs.declared.lines.Line.TheVariants.{At}
use Rattle.net_world_spec.specs.World.{WorldState, happens}
use Rattle.reliable_ports.specs.Ends.{Body, number_of, Sending, Receiving, no_offers, no_messages, is_full, with_offer, held_at, with_ack}
use Rattle.reliable_ports.specs.Ends.{next_of, with_message}
use Rattle.reliable_ports.specs.Scripts.{IsPrefix}
use Rattle.reliable_ports.specs.Programs.{data_chunk, ack_chunk}

-- the host that offers messages
abbrev pub first_host : Host
first_host = record { 0 = 1 }

-- the host that delivers them
abbrev pub second_host : Host
second_host = record { 0 = 2 }

-- what a transmission and an ack pay, which is the bound of what is injected
abbrev pub price : ℕ
price = 4

-- all bodies offered, the two ends, the network, what the ends' purses have left, and the events of the network so far
pub record PortState : Type 0 where
  pub offers : List Body
  pub sender : Sending
  pub receiver : Receiving
  pub world : WorldState
  pub first : ℕ
  pub second : ℕ
  pub events : List WorldEvent

-- what may happen next: a body is offered, a message is transmitted, or something happens in the network
pub data PortEvent : Type 0 where
  Offer : Body → PortEvent
  Transmit : ℕ → PortEvent
  Wire : WorldEvent → PortEvent

-- ---- notes

abbrev pub int_in : ValueLayer → Option ℤ
int_in (Value-F.Int z) = Some z
int_in _ = None

abbrev pub blob_in : ValueLayer → Option Body
blob_in (Value-F.Blob b) = Some b
blob_in _ = None

abbrev pub pair_with : Option ℤ → Option Body → Option (ℤ × Body)
pair_with (Some z) (Some b) = Some (z, b)
pair_with _ _ = None

abbrev pub pair_of : List Value → Option (ℤ × Body)
pair_of (v ∷ w ∷ []) = pair_with (int_in (out-Value v)) (blob_in (out-Value w))
pair_of _ = None

abbrev pub pair_in : ValueLayer → Option (ℤ × Body)
pair_in (Value-F.Tuple vs) = pair_of vs
pair_in _ = None

-- the int and the bytes that a note says to a port
abbrev pub said_to : ℕ → Note → Option (ℤ × Body)
said_to port (Print v) = None
said_to port (Port p v) = if p == port then pair_in (out-Value v) else None

-- ---- hearing

-- after the receiver heard a message
abbrev pub heard_by : Receiving → PortState → PortState
heard_by r s = record { offers = s.offers; sender = s.sender; receiver = r; world = s.world; first = s.first; second = s.second; events = s.events }

-- after the sender heard an ack
abbrev pub acked_by : Sending → PortState → PortState
acked_by x s = record { offers = s.offers; sender = x; receiver = s.receiver; world = s.world; first = s.first; second = s.second; events = s.events }

-- an event of the network
abbrev pub makes : WorldEvent → PortState → PortState
makes e s =
    record {
      offers = s.offers;
      sender = s.sender;
      receiver = s.receiver;
      world = (happens s.world e).world;
      first = s.first;
      second = s.second;
      events = s.events ++ e ∷ [];
    }

-- after the first end paid for a message, and the second for an ack
abbrev pub first_pays : PortState → PortState
first_pays s =
    record {
      offers = s.offers;
      sender = s.sender;
      receiver = s.receiver;
      world = s.world;
      first = s.first - price;
      second = s.second;
      events = s.events;
    }

abbrev pub second_pays : PortState → PortState
second_pays s =
    record {
      offers = s.offers;
      sender = s.sender;
      receiver = s.receiver;
      world = s.world;
      first = s.first;
      second = s.second - price;
      events = s.events;
    }

-- the injection of an ack of all that was delivered
abbrev pub ack_event : Receiving → WorldEvent
ack_event r = event.Inject second_host (ack_chunk first_host (pos (next_of r))) price None

-- the injection of a message
abbrev pub message_event : ℕ → Body → WorldEvent
message_event seq b = event.Inject first_host (data_chunk second_host (pos seq) b) price None

-- the second host's ack, where its purse pays
abbrev pub acks : PortState → PortState
acks s = if nat_lt s.second price then s else makes (ack_event s.receiver) (second_pays s)

-- the second host hears messages, and acknowledges each
abbrev pub hears_message : Option (ℤ × Body) → PortState → PortState
hears_message None s = s
hears_message (Some m) s = acks (heard_by (with_message (number_of m.0) m.1 s.receiver) s)

-- the first host hears acks
abbrev pub hears_ack : Option (ℤ × Body) → PortState → PortState
hears_ack None s = s
hears_ack (Some m) s = acked_by (with_ack (number_of m.0) s.sender) s

-- a note of a host
abbrev pub hears_note : Host → Note → PortState → PortState
hears_note h n s =
    if h.0 == 2 then hears_message (said_to 1 n) s
    else if h.0 == 1 then hears_ack (said_to 2 n) s
    else s

-- a line of a trace, if it is a note
abbrev pub hears_line : Line → PortState → PortState
hears_line (At h (Noted n)) s = hears_note h n s
hears_line _ s = s

-- the notes of an event's lines, in order
abbrev pub hears : List Line → PortState → PortState
hears [] s = s
hears (l ∷ ls) s = hears ls (hears_line l s)

-- an event of the network, and what is heard of it
abbrev pub after : WorldEvent → PortState → PortState
after e s = hears (happens s.world e).lines (makes e s)

-- ---- events

-- a body is offered; nothing changes where the sender is full
abbrev pub offers_one : Body → PortState → PortState
offers_one b s =
    if is_full s.sender then s
    else record {
      offers = s.offers ++ b ∷ [];
      sender = with_offer b s.sender;
      receiver = s.receiver;
      world = s.world;
      first = s.first;
      second = s.second;
      events = s.events;
    }

-- a message is transmitted, where it is held and the purse pays
abbrev pub transmits : ℕ → Option Body → PortState → PortState
transmits seq None s = s
transmits seq (Some b) s = if nat_lt s.first price then s else after (message_event seq b) (first_pays s)

-- one event
abbrev pub happens_at : PortEvent → PortState → PortState
happens_at (Offer b) s = offers_one b s
happens_at (Transmit seq) s = transmits seq (held_at seq s.sender) s
happens_at (Wire e) s = after e s

-- a whole script
abbrev pub port_run : List PortEvent → PortState → PortState
port_run [] s = s
port_run (e ∷ es) s = port_run es (happens_at e s)

-- two ends that were offered and heard nothing
abbrev pub port_begun : WorldState → ℕ → ℕ → PortState
port_begun w b c = record { offers = []; sender = no_offers; receiver = no_messages; world = w; first = b; second = c; events = [] }

-- what was delivered is a prefix of what was offered
abbrev pub IsInOrder : PortState → Type 0
IsInOrder s = IsPrefix s.receiver.delivered s.offers

-- no more is acknowledged than was delivered
abbrev pub IsAcked : PortState → Type 0
IsAcked s = s.sender.acked ≤ length s.receiver.delivered
