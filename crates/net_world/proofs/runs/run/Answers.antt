use Rattle.net_world.proofs.RunLaws.{run_keeps}
use Rattle.net_world.proofs.runs.run.Goals as goal

pub returns-in_default-clause-keeps : goal.returns-in_default-clause-keeps
returns-in_default-clause-keeps g c = run_keeps c.args.schedule c.requires.rules

pub returns-clause-keeps : goal.returns-clause-keeps
returns-clause-keeps g c = run_keeps c.args.schedule c.requires.rules
