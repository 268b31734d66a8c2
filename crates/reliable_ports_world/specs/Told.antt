-- What each event of two ends adds to the output.
use Rattle.std.specs.Prelude.{ℕ, ◌==◌, if◌then◌else◌, nat_lt, ℤ, List, [], ◌∷◌, ◌++◌, Option, Some, None, codes}
use Rattle.std.specs.Fmt.{decimal}
use Rattle.plan_base.specs.declared.ids.Host.{Host}
use Rattle.service_api.specs.declared.answer.Note.{Note}
use Rattle.network_config.specs.declared.event.WorldEvent.{WorldEvent}
use Rattle.node_core_spec.specs.declared.acts.Act.TheVariants.{Noted}
use Rattle.net_world_spec.specs.declared.lines.Line.{Line}
use Rattle.net_world_spec.specs.declared.lines.Line.TheVariants as line
use Rattle.net_world_spec.specs.World.{happens}
use Rattle.reliable_ports.specs.Ends.{Body, is_full, held_at}
use Rattle.reliable_ports_world.specs.Ports.{PortState, PortEvent, Offer, Transmit, Wire, price, said_to, makes, first_pays, message_event, hears_line}
use Rattle.reliable_ports_world.specs.declared.told.PortLine.{PortLine}
use Rattle.reliable_ports_world.specs.declared.told.PortLine.TheVariants as told

-- the word of a line
abbrev pub word_of : PortLine → List ℕ
word_of told.Full = codes "full"
word_of told.Nothing = codes "nothing"
word_of told.NoBound = codes "NoBound"

-- a line, with the number of its event
unfoldable pub told_line : ℕ → PortLine → List ℕ
told_line n l = decimal n ++ (codes " " ++ (word_of l ++ codes "\n"))

-- ---- what is heard

-- the second host's ack: a line where its purse doesn't pay it
abbrev pub ack_told : ℕ → PortState → List ℕ
ack_told n s = if nat_lt s.second price then told_line n told.NoBound else []

-- a message that is heard is acknowledged
abbrev pub message_told : ℕ → Option (ℤ × Body) → PortState → List ℕ
message_told n None s = []
message_told n (Some m) s = ack_told n s

-- a note of a host
abbrev pub note_told : ℕ → Host → Note → PortState → List ℕ
note_told n h x s = if h.0 == 2 then message_told n (said_to 1 x) s else []

-- a line of a trace: a note, or that an event of the network changed nothing
abbrev pub heard_told : ℕ → Line → PortState → List ℕ
heard_told n (line.At h (Noted x)) s = note_told n h x s
heard_told n line.Nothing s = told_line n told.Nothing
heard_told n _ s = []

-- lines of a trace, in order
abbrev pub lines_told : ℕ → List Line → PortState → List ℕ
lines_told n [] s = []
lines_told n (l ∷ ls) s = heard_told n l s ++ lines_told n ls (hears_line l s)

-- ---- events

-- an event of the network
abbrev pub wire_told : ℕ → WorldEvent → PortState → List ℕ
wire_told n e s = lines_told n (happens s.world e).lines (makes e s)

-- a body is offered: a line where the sender is full
abbrev pub offer_told : ℕ → PortState → List ℕ
offer_told n s = if is_full s.sender then told_line n told.Full else []

-- a message is transmitted: a line where it isn't held, and one where the purse doesn't pay
abbrev pub transmit_told : ℕ → ℕ → Option Body → PortState → List ℕ
transmit_told n seq None s = told_line n told.Nothing
transmit_told n seq (Some b) s =
    if nat_lt s.first price then told_line n told.NoBound
    else wire_told n (message_event seq b) (first_pays s)

-- one event
abbrev pub event_told : ℕ → PortEvent → PortState → List ℕ
event_told n (Offer b) s = offer_told n s
event_told n (Transmit seq) s = transmit_told n seq (held_at seq s.sender) s
event_told n (Wire e) s = wire_told n e s
