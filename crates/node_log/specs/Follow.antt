-- How a run goes on.
use Rattle.std.specs.Prelude.{◌≡◌, ℕ, ◌+◌, Bool, true, false, List, [], ◌∷◌, ◌++◌, length, if◌then◌else◌}
use Rattle.network_config.specs.declared.event.Event.{Event}
use Rattle.network_config.specs.declared.event.LogEvent.{LogEvent}
use Rattle.network_config.specs.declared.event.LogEvent.TheVariants.{Step, Lost}
use Rattle.node_io.specs.Links.{Heard}
use Rattle.node_log.specs.Runs.{Running, Action, played_entries, node_after, is_among}

-- a run goes on from r to d: what is new in its log gives what is new in its lines, and its node
pub record Ext (r d : Running) : Type 0 where
  pub events : List LogEvent
  pub sent : List Heard
  pub log : d.events ≡ r.events ++ events
  pub frames : d.sent ≡ r.sent ++ sent
  pub lines : d.entries ≡ r.entries ++ played_entries (length r.events) r.node events
  pub node : d.node ≡ node_after r.node events

-- whatever is refused, a run only goes on
abbrev pub Grows : Action → Type 0
Grows act = (refused : List ℕ) (r : Running) → Ext r (act refused r)

-- the entry of a step, by whether it was refused
abbrev pub entry_of : Bool → Event → LogEvent
entry_of lost e = if lost then Lost else Step e

-- whether a step was refused
abbrev pub is_lost : LogEvent → Bool
is_lost (Step e) = false
is_lost Lost = true

-- after so many entries, the steps that are refused are the places of `lost` in a log
unfoldable pub FitsAfter : ℕ → List ℕ → List LogEvent → Type 0
FitsAfter n refused [] = Unit {0}
FitsAfter n refused (e ∷ es) = (is_among refused (n + 1) ≡ is_lost e) × FitsAfter (n + 1) refused es

abbrev pub Fits : List ℕ → List LogEvent → Type 0
Fits refused events = FitsAfter 0 refused events

-- the places of `lost` in a log, after so many entries
unfoldable pub lost_after : ℕ → List LogEvent → List ℕ
lost_after n [] = []
lost_after n (e ∷ es) = if is_lost e then (n + 1) ∷ lost_after (n + 1) es else lost_after (n + 1) es

abbrev pub lost_places : List LogEvent → List ℕ
lost_places events = lost_after 0 events
