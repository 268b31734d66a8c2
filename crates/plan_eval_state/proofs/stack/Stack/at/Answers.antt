use Rattle.plan_eval_state.proofs.Stacks.{item_at}
use Rattle.plan_eval_state.proofs.stack.Stack.at.Goals as goal

pub returns : goal.returns
returns g c = item_at c.self.inside.items c.args.self.now _ c.args.i c.self.view_is c.at.ensures
