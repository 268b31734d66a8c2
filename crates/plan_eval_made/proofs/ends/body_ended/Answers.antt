use Rattle.plan_eval_made.proofs.Ended.{last_over, has_one}
use Rattle.plan_eval_made.proofs.ends.body_ended.Goals as goal

pub ended-requires-clause-there : goal.ended-requires-clause-there
ended-requires-clause-there c =
    let h = last_over c.args.run.now.stack c.args.base c.requires.there in
    has_one c.slide.new.self h.2 h.0 (c.slide.ensures h.0 h.1 h.2 h.3 h.4)
