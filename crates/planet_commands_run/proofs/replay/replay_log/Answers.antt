use Rattle.planet_commands_run.proofs.Replaying.{log_refused}
use Rattle.planet_commands_run.proofs.replay.replay_log.Goals as goal

pub returns-in-Err : goal.returns-in-Err
returns-in-Err g c = log_refused c.args.bytes.now c.requires.other _ _ (g.K.Sink.state c.args.out.now) c.in-Err.ensures.fault c.from.ensures
