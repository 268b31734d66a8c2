use Rattle.reliable_ports_world.specs.Ports.{port_begun}
use Rattle.reliable_ports_world.proofs.Running.{run_on, begun_on}
use Rattle.reliable_ports_world.proofs.known_laws.port_law.Goals as goal

pub returns-clause-prefix : goal.returns-clause-prefix
returns-clause-prefix x offer w b c script sv k h = let t = run_on offer sv script (port_begun w b c) h (begun_on offer sv w b c k) in (t.receives.rest, t.receives.prefix)

pub returns-clause-acked : goal.returns-clause-acked
returns-clause-acked x offer w b c script sv k h = (run_on offer sv script (port_begun w b c) h (begun_on offer sv w b c k)).acked
