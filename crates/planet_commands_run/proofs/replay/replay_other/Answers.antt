use Rattle.std.proofs.Common.{sym}
use Rattle.planet_commands_run.proofs.Replaying.{schedule_refused}
use Rattle.planet_commands_run.proofs.replay.replay_other.Goals as goal

pub returns-else-is_header_fault : goal.returns-else-is_header_fault
returns-else-is_header_fault g c = schedule_refused c.args.bytes.now _ c.requires.fault _ (g.K.Sink.state c.args.out.now) (sym c.if-is_header_fault.ensures) c.from.ensures
