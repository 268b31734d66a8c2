use Rattle.reliable_ports_world.proofs.Promises.{keeps_purses}
use Rattle.planet_cli.proofs.Ports.{ports_pay}
use Rattle.planet_cli.proofs.command_laws.paid.Goals as goal

pub returns-clause-file : goal.returns-clause-file
returns-clause-file c = ports_pay

pub returns-clause-rules : goal.returns-clause-rules
returns-clause-rules c = keeps_purses
