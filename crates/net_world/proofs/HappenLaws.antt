-- What an event that fits comes to, where it was made.
use Rattle.std.proofs.Common.{◌≡◌, ◌+◌, List}
use Rattle.std.specs.Prelude.{Ok}
use Rattle.service_api.specs.Services.{ServiceState}
use Rattle.network_config.specs.declared.event.WorldEvent.{WorldEvent}
use Rattle.net_world_spec.specs.declared.lines.Line.{Line}
use Rattle.net_world_spec.specs.World.{WorldState, happens}
use Rattle.net_world_spec.specs.Sound.{event_fits}
use Rattle.net_world_spec.proofs.Balance.{event_balances}
use Rattle.net_world_spec.proofs.Fitting.{event_sound}
use Rattle.net_world_spec.proofs.Visits.{event_ends}
use Rattle.net_world_spec.proofs.Reaching.{event_keeps_routes}
use Rattle.net_world.specs.declared.network.Network.{Network}
use Rattle.net_world.specs.Stands.{WorldStands, IsHappened}
use Rattle.net_world.specs.Happening.{Happens}
use Rattle.net_world.proofs.StandLaws.{fits_there}

module _ {S : Type 0} (stands : S → ServiceState) (e : WorldEvent) (old new : Network S) where
  pub happened_so : (lines : List Line) → event_fits old.version e → ((w : WorldState) → WorldStands stands old w → IsHappened stands (happens w e) lines new)
      → new.made ≡ old.made + 1 → Happens stands e old (Ok lines) new
  happened_so lines f h m = record {
    ok = h;
    made = m;
    balance = λ g w s. event_balances g w e s;
    sound = λ w v s. event_sound w e (fits_there w e old v f) s;
    visits = λ w v s. event_ends w e (fits_there w e old v f) s;
    routes = λ w. event_keeps_routes w e;
  }
