-- What an event of a network comes to.
use Rattle.std.specs.Prelude.{◌≡◌, ◌+◌, ◌<◌, ◌-◌, ◌^◌, ◌++◌, ℕ, List, Result, IfOk, OnOk, All}
use Rattle.plan_base.specs.declared.ids.Family.{Family}
use Rattle.plan_base.specs.declared.memory.NoMemory.{NoMemory}
use Rattle.service_api.specs.Services.{ServiceState}
use Rattle.network_config.specs.declared.event.WorldEvent.{WorldEvent}
use Rattle.bound_ledger.specs.Rows.{FamilyRow}
use Rattle.bound_ledger.specs.Stands.{Stands}
use Rattle.net_world_spec.specs.declared.lines.Entry.{Entry}
use Rattle.net_world_spec.specs.declared.lines.Line.{Line}
use Rattle.net_world_spec.specs.World.{WorldState, happens, entries}
use Rattle.net_world_spec.specs.Counts.{late_in, EventInBalance}
use Rattle.net_world_spec.specs.Sound.{IsSound, event_fits}
use Rattle.net_world_spec.specs.Visits.{EndsWell, event_visits}
use Rattle.net_world_spec.specs.Roads.{BringsNone}
use Rattle.net_world_spec.specs.Routes.{Reached, KeepsRoutes}
use Rattle.net_world.specs.declared.network.Network.{Network}
use Rattle.net_world.specs.Running.{IsCountable, AllLeave}
use Rattle.net_world.specs.Stands.{WorldStands, IsHappened}

-- an event happened, as it is defined for each state for which the network stands, and is counted; it is in balance for each family;
-- a sound network stays sound, its visits have a case at every step and end by themselves; and where no packet and no advert comes
-- from outside, the law of routes is kept
pub record Happens {S : Type 0} (stands : S → ServiceState) (e : WorldEvent) (old : Network S) (r : Result (List Line) NoMemory)
    (new : Network S) : Type 0 where
  pub ok : (w : WorldState) → WorldStands stands old w → IfOk r (λ lines. IsHappened stands (happens w e) lines new)
  pub made : OnOk r (new.made ≡ old.made + 1)
  pub balance : (f : Family) (w : WorldState) → IsSound w → EventInBalance f (late_in w.wire e) w (happens w e)
  pub sound : (w : WorldState) → w.version ≡ old.version → IsSound w → IsSound (happens w e).world
  pub visits : (w : WorldState) → w.version ≡ old.version → IsSound w → All EndsWell (event_visits w e)
  pub routes : (w : WorldState) → Reached w → BringsNone w.version e → KeepsRoutes w (happens w e)

-- an event may be made and counted: it fits, there are fewer than 2^32 - 2 before it, and there is room for what its lines count
pub record CanCount {S : Type 0} (stands : S → ServiceState) (old : Network S) (e : WorldEvent) (rows : List FamilyRow) : Type 0 where
  pub fits : event_fits old.version e
  pub few : old.made < 2 ^ 32 - 2
  pub room : IsCountable stands old e rows

-- an event happened, and its lines are counted
pub record Counts {S T E : Type 0} (stands : S → ServiceState) (e : WorldEvent) (old new : Network S) (rows rows_new : List FamilyRow)
    (r : Result T E) : Type 0 where
  pub world : (w : WorldState) → WorldStands stands old w → OnOk r (WorldStands stands new (happens w e).world)
  pub ledger : (w : WorldState) (h : List Entry) → WorldStands stands old w → AllLeave h w e → Stands h rows → OnOk r (Stands (h ++ entries w e) rows_new)
  pub made : OnOk r (new.made ≡ old.made + 1)
