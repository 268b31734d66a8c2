use Rattle.std.proofs.Common.{◌∙◌}
use Rattle.plan_eval_state.proofs.Stacks.{cut}
use Rattle.plan_eval_state.proofs.stack.Stack.truncate.Goals as goal

pub returns : goal.returns
returns g c = λ junk pre view len. cut c.self.inside.items _ junk pre c.args.n c.truncate.ensures (c.self.view_is ∙ view) len
