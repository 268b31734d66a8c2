-- What the ends' purses paid, and what families paid of it.
use Rattle.std.specs.Prelude.{◌≡◌, ◌≤◌, ℕ, ◌+◌, false, List, [], ◌∷◌}
use Rattle.std.specs.List.{AllByRecursion}
use Rattle.plan_base.specs.declared.ids.Family.{Family}
use Rattle.network_config.specs.declared.event.WorldEvent.{WorldEvent}
use Rattle.network_config.specs.declared.event.WorldEvent.TheVariants as event
use Rattle.node_core_spec.specs.declared.acts.Act.{Act}
use Rattle.node_core_spec.specs.declared.acts.Act.TheVariants.{Injected}
use Rattle.node_core_spec.specs.Counts.{is_family}
use Rattle.net_world_spec.specs.declared.lines.Line.{Line}
use Rattle.net_world_spec.specs.declared.lines.Line.TheVariants.{At, Forged}
use Rattle.net_world_spec.specs.declared.lines.Entry.{Entry}
use Rattle.net_world_spec.specs.Counts.{hops, evals}
use Rattle.net_world_spec.specs.World.{WorldState, history_of, world_after}
use Rattle.net_world_spec.specs.Sound.{event_fits}
use Rattle.plan_base.specs.declared.stamp.Version.{Version}
use Rattle.reliable_ports.specs.Ends.{IsShort}
use Rattle.reliable_ports_world.specs.Ports.{PortState, PortEvent, Offer, Transmit, Wire}

-- a number of each, added up
abbrev pub sum_of : {X : Type 0} → (X → ℕ) → List X → ℕ
sum_of f [] = 0
sum_of f (x ∷ xs) = f x + sum_of f xs

-- the bound that an act grants, whatever the family
abbrev pub act_bound : Act → ℕ
act_bound (Injected f b) = b
act_bound _ = 0

-- the bound that a line grants
abbrev pub line_bound : Line → ℕ
line_bound (At h act) = act_bound act
line_bound (Forged h f b) = b
line_bound _ = 0

-- the bound that an event grants
abbrev pub event_bound : WorldEvent → ℕ
event_bound (event.Inject h c b o) = b
event_bound _ = 0

-- no family stands twice
abbrev pub Apart : List Family → Type 0
Apart [] = Unit {0}
Apart (f ∷ fs) = AllByRecursion (λ g. is_family f g ≡ false) fs × Apart fs

-- the hops and evals of these families together
abbrev pub paid_by : List Family → List Entry → ℕ
paid_by fs h = sum_of (λ f. hops f h + evals f h) fs

-- no bytes come from outside
abbrev pub NotRaw : WorldEvent → Type 0
NotRaw (event.Raw h d bytes) = ⊥
NotRaw _ = Unit {0}

-- a body that is offered is short, and what happens in the network fits its version
abbrev pub EventFits : Version → PortEvent → Type 0
EventFits v (Offer b) = IsShort b
EventFits v (Transmit seq) = Unit {0}
EventFits v (Wire e) = event_fits v e

-- so of each event of a script
abbrev pub ScriptFits : Version → List PortEvent → Type 0
ScriptFits v es = AllByRecursion (EventFits v) es

-- the network is what its events make of one
abbrev pub IsMade : WorldState → PortState → Type 0
IsMade w s = s.world ≡ world_after s.events w

-- the hops and evals of these families, with what the purses have left, are at most what the purses had
abbrev pub IsPaid : List Family → ℕ → WorldState → PortState → Type 0
IsPaid fs purses w s = paid_by fs (history_of s.events w) + s.first + s.second ≤ purses
