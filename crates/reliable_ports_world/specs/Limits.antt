-- That few bodies are offered and delivered as an event is heard.
use Rattle.std.specs.Prelude.{◌≡◌, ℕ, ◌<◌, ◌^◌, List, Some, length, take}
use Rattle.network_config.specs.declared.event.WorldEvent.{WorldEvent}
use Rattle.net_world_spec.specs.declared.lines.Line.{Line}
use Rattle.net_world_spec.specs.World.{happens}
use Rattle.reliable_ports.specs.Ends.{Body, offered_count, held_at}
use Rattle.reliable_ports_world.specs.Ports.{PortState, PortEvent, Offer, Transmit, Wire, makes, first_pays, message_event, hears}

-- fewer than 2^62 bodies are delivered after this change
abbrev pub FewAfter : (PortState → PortState) → PortState → Type 0
FewAfter change s = length (change s).receiver.delivered < 2 ^ 62

-- as lines are heard, fewer than 2^62 bodies are delivered after every number of them
abbrev pub HearsFew : List Line → PortState → Type 0
HearsFew ls s = (k : ℕ) → FewAfter (hears (take k ls)) s

-- and so for an event of the network
abbrev pub WireFew : WorldEvent → PortState → Type 0
WireFew e s = HearsFew (happens s.world e).lines (makes e s)

-- and for an event
abbrev pub EventFew : PortEvent → PortState → Type 0
EventFew (Offer b) s = offered_count s.sender < 2 ^ 62
EventFew (Transmit seq) s = (b : Body) → held_at seq s.sender ≡ Some b → WireFew (message_event seq b) (first_pays s)
EventFew (Wire e) s = WireFew e s
