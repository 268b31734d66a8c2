-- What a file of two ends keeps.
use Rattle.std.specs.Prelude.{◌≡◌, ◌⊎◌, ◌≤◌, ◌<◌, ◌^◌, length}
use Rattle.std.specs.List.{AllByRecursion}
use Rattle.plan_base.specs.declared.ids.Host.{Host}
use Rattle.command_files.specs.declared.port.PortEvent.{PortEvent}
use Rattle.command_files.specs.declared.port.PortEvent.TheVariants.{Offer, Transmit, Send, Deliver, Lose, Repeat}
use Rattle.command_files.specs.declared.port.PortFile.{PortFile}

-- a host of one of the ends
abbrev pub IsEnd : Host → Type 0
IsEnd h = (h.0 ≡ 1) ⊎ (h.0 ≡ 2)

-- an event within its limits
abbrev pub KeepsEvent : PortEvent → Type 0
KeepsEvent (Offer body) = (1 ≤ length body) × (length body ≤ 4096)
KeepsEvent (Transmit seq) = seq < 2 ^ 64
KeepsEvent (Send h d) = IsEnd h × (d.0 ≤ 8)
KeepsEvent (Deliver k) = k < 2 ^ 32
KeepsEvent (Lose k) = k < 2 ^ 32
KeepsEvent (Repeat k) = k < 2 ^ 32

-- a file of two ends within its limits
pub record KeepsPort (p : PortFile) : Type 0 where
  pub first : p.first ≤ 65535
  pub second : p.second ≤ 65535
  pub few : length p.events ≤ 50000
  pub events : AllByRecursion KeepsEvent p.events
