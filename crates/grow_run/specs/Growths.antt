-- A network while it grows: how it begins, which event it can make, what an event does, and what has grown.
use Rattle.std.specs.Prelude.{ℕ, ◌≡◌, ◌+◌, ◌-◌, ◌^◌, ◌<◌, List, [], ◌++◌, Result, OnOk}
use Rattle.rand_pcg.specs.Lcg.{Lcg}
use Rattle.plan_base.specs.declared.ids.Host.{Host}
use Rattle.plan_base.specs.declared.tree.Chunk.{Chunk}
use Rattle.plan_base.specs.declared.stamp.Version.TheVariants.{One}
use Rattle.service_api.specs.Services.{ServiceState}
use Rattle.network_config.specs.declared.event.WorldEvent.{WorldEvent}
use Rattle.net_world_spec.specs.declared.lines.Entry.{Entry}
use Rattle.net_world_spec.specs.World.{WorldState, happens, entries, opening}
use Rattle.net_world_spec.specs.Sound.{event_fits, EventsFit}
use Rattle.bound_ledger.specs.Stands.{Stands}
use Rattle.net_world.specs.Stands.{WorldStands}
use Rattle.net_world.specs.Running.{AllLeave, IsCountable}
use Rattle.grow_run.specs.Grow.{ring, grown_events}
use Rattle.grow_run.specs.Events.{grown_history}
use Rattle.grow_run.specs.Summaries.{HasRoom, summary_of}
use Rattle.grow_run.specs.declared.growth.GrowingNetwork.{GrowingNetwork}

-- the network is at its opening, and nothing was counted
pub record IsAtOpening {S : Type 0} (stands : S → ServiceState) (g : GrowingNetwork S) : Type 0 where
  pub world : WorldStands stands g.world (opening ring)
  pub ledger : Stands [] g.ledger
  pub summary : g.summary ≡ summary_of []

-- an event can be made, and its lines counted
pub record CanMake {S : Type 0} (stands : S → ServiceState) (g : GrowingNetwork S) (e : WorldEvent) : Type 0 where
  pub fits : event_fits g.world.version e
  pub few : g.world.made < 2 ^ 32 - 2
  pub counts : IsCountable stands g.world e g.ledger
  pub room : HasRoom (2 ^ 64) g.summary

-- the event was made, and its lines counted; each count has as much less room as one event's lines may take
pub record MakesEvent {S T E : Type 0} (stands : S → ServiceState) (e : WorldEvent) (old new : GrowingNetwork S) (result : Result T E) : Type 0 where
  pub world : (w : WorldState) → WorldStands stands old.world w → OnOk result (WorldStands stands new.world (happens w e).world)
  pub counts : (w : WorldState) (h : List Entry) → WorldStands stands old.world w → AllLeave h w e → Stands h old.ledger → old.summary ≡ summary_of h
      → OnOk result (Stands (h ++ entries w e) new.ledger × (new.summary ≡ summary_of (h ++ entries w e)))
  pub room : (n : ℕ) → HasRoom (n + 2 ^ 64) old.summary → OnOk result (HasRoom n new.summary)
  pub made : (new.words ≡ old.words) × OnOk result (new.world.made ≡ old.world.made + 1)

-- so many events were drawn from here on and made, and what was counted is their history
pub record HasMade {S : Type 0} (ping : Host → Host → Chunk) (n : ℕ) (words : Lcg) (g : GrowingNetwork S) : Type 0 where
  pub ledger : Stands (grown_history ping n words) g.ledger
  pub summary : g.summary ≡ summary_of (grown_history ping n words)
  pub fits : EventsFit One (grown_events ping n words (opening ring))
