use Rattle.std.proofs.Common.{◌<◌, length, subst}
use Rattle.plan_eval_made.proofs.Ended.{number_named}
use Rattle.plan_eval_made.proofs.leaves.named_number.Goals as goal

pub returns-in-Some : goal.returns-in-Some
returns-in-Some c =
    number_named c.args.here.now c.args.run.now.stack c.args.name.now c.in-Some.i c.at.result.now c.as_number.result c.requires.ready.places c.in-Some.ensures.place c.at.ensures c.as_number.ensures
