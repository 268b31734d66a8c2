-- What every run keeps.
use Rattle.std.specs.Prelude.{ℕ, List, take, All}
use Rattle.plan_base.specs.declared.ids.Family.{Family}
use Rattle.network_config.specs.declared.schedule.Schedule.{Schedule}
use Rattle.net_world_spec.specs.declared.lines.Entry.{Entry}
use Rattle.net_world_spec.specs.World.{WorldState, opening, world_after, history_of}
use Rattle.net_world_spec.specs.Counts.{Balanced, IsBounded, IsGranted}
use Rattle.net_world_spec.specs.Sound.{IsSound}
use Rattle.net_world_spec.specs.Wires.{IsOnce, WireLeads}
use Rattle.net_world_spec.specs.Visits.{EndsWell, visits_after}
use Rattle.net_world_spec.specs.Roads.{BringsNone}
use Rattle.net_world_spec.specs.Routes.{RunKeepsRoutes}

-- the history of a schedule's first events, and the network after them
abbrev pub history_at : Schedule → ℕ → List Entry
history_at s k = history_of (take k s.events) (opening s.topology)

abbrev pub world_at : Schedule → ℕ → WorldState
world_at s k = world_after (take k s.events) (opening s.topology)

-- after every number of events: what was granted is what was paid, is live or was left; no family has more than one injection,
-- nor paid and live more than it was granted; only granted families have packets; each number is on the wire, was delivered or was
-- lost, once; each frame on the wire leads to the other end of its link; and the network is sound, so the chunk of every packet and
-- the value of every row are typed. Of each event, every visit has a case at every step, and some allowance of work suffices for it.
-- As long as no packet and no advert came from outside, the law of routes holds
pub record KeepsRun (s : Schedule) : Type 0 where
  pub balance : (k : ℕ) (f : Family) → Balanced f (history_at s k) (world_at s k)
  pub bounded : (k : ℕ) (f : Family) → IsBounded f (history_at s k) (world_at s k)
  pub granted : (k : ℕ) (f : Family) → IsGranted f (history_at s k) (world_at s k)
  pub once : (k n : ℕ) → IsOnce n (history_at s k) (world_at s k)
  pub leads : (k : ℕ) → WireLeads s.topology.links (world_at s k).wire
  pub sound : (k : ℕ) → IsSound (world_at s k)
  pub visits : (k : ℕ) → All EndsWell (visits_after k s.events (opening s.topology))
  pub routes : (k : ℕ) → All (BringsNone s.topology.version) (take k s.events) → RunKeepsRoutes (take k s.events) (opening s.topology)
