-- What every run of two ends keeps.
use Rattle.std.specs.Prelude.{ℕ, ◌+◌, List}
use Rattle.plan_base.specs.declared.ids.Family.{Family}
use Rattle.net_world_spec.specs.World.{opening}
use Rattle.command_files.specs.declared.port.PortFile.{PortFile}
use Rattle.reliable_ports_world.specs.Ports.{IsInOrder, IsAcked}
use Rattle.reliable_ports_world.specs.Paid.{Apart, IsMade, IsPaid}
use Rattle.reliable_ports_world.specs.Networks.{two_hosts}
use Rattle.reliable_ports_world.specs.Scripts.{state_at}

-- after every number of events: what was delivered is a prefix of what was offered; no more is acknowledged than was delivered; and
-- the network is what its events make of the first one
pub record KeepsOrder (p : PortFile) : Type 0 where
  pub prefix : (k : ℕ) → IsInOrder (state_at p k)
  pub acked : (k : ℕ) → IsAcked (state_at p k)
  pub made : (k : ℕ) → IsMade (opening two_hosts) (state_at p k)

-- after every number of events: the hops and evals of any families together, with what the purses have left, are at most what the
-- purses had at first
pub record KeepsPurses (p : PortFile) : Type 0 where
  pub paid : (k : ℕ) (fs : List Family) → Apart fs → IsPaid fs (p.first + p.second) (opening two_hosts) (state_at p k)
