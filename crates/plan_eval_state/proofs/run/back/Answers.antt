use Rattle.plan_eval_state.proofs.Flowing.{flows_back, flows_stop}
use Rattle.plan_eval_state.proofs.run.back.Goals as goal

pub returns-in-Ok-clause-flows : goal.returns-in-Ok-clause-flows
returns-in-Ok-clause-flows c = λ s next held pre inner n steps at height flows.
    rw c.in-Ok.ensures.ok (flows_back c.args.run.now s next c.args.cont held pre inner c.args.came n steps at height c.in-Wait.is flows)

pub returns-in_default-clause-flows : goal.returns-in_default-clause-flows
returns-in_default-clause-flows c = λ s next held pre inner n steps at height flows.
    flows_stop s next c.args.cont held pre inner c.args.came _ n c.requires.part c.in_default.not-Wait c.requires.passes flows
