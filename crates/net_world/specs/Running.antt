-- What a run begins with, and what a network and its ledger must be for an event's lines to be counted.
use Rattle.std.specs.Prelude.{◌≡◌, List, map}
use Rattle.plan_base.specs.declared.ids.Family.{Family}
use Rattle.service_api.specs.Services.{ServiceState}
use Rattle.network_config.specs.declared.event.WorldEvent.{WorldEvent}
use Rattle.network_config.specs.declared.schedule.Schedule.{Schedule}
use Rattle.network_config.specs.Rules.{KeepsRules}
use Rattle.bound_ledger.specs.Rows.{FamilyRow}
use Rattle.bound_ledger.specs.Counting.{LinesFit}
use Rattle.net_world_spec.specs.declared.lines.Entry.{Entry}
use Rattle.net_world_spec.specs.World.{WorldState, happens, opening_services}
use Rattle.net_world_spec.specs.Counts.{is_late, LeavesByWire}
use Rattle.net_world.specs.declared.network.Network.{Network}
use Rattle.net_world.specs.Stands.{WorldStands}

-- the schedule keeps its rules, and there are services for each host, in the order of hosts
pub record CanRun {S : Type 0} (stands : S → ServiceState) (s : Schedule) (given : List S) : Type 0 where
  pub rules : KeepsRules s
  pub services : map stands given ≡ map opening_services s.topology.hosts

-- the lines of an event can be counted, at a state for which the network stands
pub record IsCountable {S : Type 0} (stands : S → ServiceState) (n : Network S) (e : WorldEvent) (rows : List FamilyRow) : Type 0 where
  pub state : WorldState
  pub is : WorldStands stands n state
  pub fits : LinesFit (is_late state e) rows (happens state e).lines

-- what an event leaves behind a history, each family's, is what its lines leave by the wire
abbrev pub AllLeave : List Entry → WorldState → WorldEvent → Type 0
AllLeave h w e = (f : Family) → LeavesByWire f h w e
