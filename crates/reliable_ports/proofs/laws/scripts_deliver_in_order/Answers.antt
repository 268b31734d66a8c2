use Rattle.reliable_ports.specs.Scripts.{nothing_yet}
use Rattle.reliable_ports.proofs.Scripts.{together_run, together_first}
use Rattle.reliable_ports.proofs.laws.scripts_deliver_in_order.Goals as goal

pub returns-clause-prefix : goal.returns-clause-prefix
returns-clause-prefix c script = let t = together_run script nothing_yet together_first in (t.receives.rest, t.receives.prefix)

pub returns-clause-acked : goal.returns-clause-acked
returns-clause-acked c script = (together_run script nothing_yet together_first).acked
