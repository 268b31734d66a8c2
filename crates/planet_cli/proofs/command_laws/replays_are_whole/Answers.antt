use Rattle.planet_cli.proofs.NodeRuns.{trace_written, trace_whole}
use Rattle.planet_cli.proofs.command_laws.replays_are_whole.Goals as goal

pub returns-clause-written : goal.returns-clause-written
returns-clause-written c = trace_written

pub returns-clause-done : goal.returns-clause-done
returns-clause-done c = trace_whole
