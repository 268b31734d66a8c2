use Rattle.planet_cli.proofs.NodeRuns.{node_replays, node_replays_told}
use Rattle.planet_cli.proofs.command_laws.logs_replay.Goals as goal

pub returns-clause-told : goal.returns-clause-told
returns-clause-told c = node_replays_told

pub returns-clause-small : goal.returns-clause-small
returns-clause-small c = node_replays
