use Rattle.planet_commands.proofs.Refusing.{lines_refuse}
use Rattle.planet_commands.proofs.lines.value_in.Goals as goal

pub returns-in-Err-clause-reads : goal.returns-in-Err-clause-reads
returns-in-Err-clause-reads g c = lines_refuse (g.V.LineValue.said c.args.bytes.now) c.in-Err.fault _ (g.V.LineValue.own c.args.bytes.now) c.in-Err.ensures.fault c.from.ensures
