-- The script that a file says, and the states that it leads to.
use Rattle.std.specs.Prelude.{ℕ, List, map, take}
use Rattle.network_config.specs.declared.event.WorldEvent.TheVariants as event
use Rattle.net_world_spec.specs.World.{opening}
use Rattle.command_files.specs.declared.port.PortEvent.{PortEvent}
use Rattle.command_files.specs.declared.port.PortEvent.TheVariants as says
use Rattle.command_files.specs.declared.port.PortFile.{PortFile}
use Rattle.reliable_ports_world.specs.Ports.{PortState, PortEvent as Event, Offer, Transmit, Wire, port_run, port_begun}
use Rattle.reliable_ports_world.specs.Networks.{two_hosts}

-- the event that a line says
abbrev pub happening : PortEvent → Event
happening (says.Offer b) = Offer b
happening (says.Transmit seq) = Transmit seq
happening (says.Send h d) = Wire (event.Send h d)
happening (says.Deliver k) = Wire (event.Deliver k)
happening (says.Lose k) = Wire (event.Lose k)
happening (says.Repeat k) = Wire (event.Repeat k)

abbrev pub script_of : PortFile → List Event
script_of p = map happening p.events

-- both ends and their network before the first event
abbrev pub begun_ports : PortFile → PortState
begun_ports p = port_begun (opening two_hosts) p.first p.second

-- after the first k events
abbrev pub state_at : PortFile → ℕ → PortState
state_at p k = port_run (take k (script_of p)) (begun_ports p)
