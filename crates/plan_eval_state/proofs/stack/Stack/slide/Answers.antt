use Rattle.std.proofs.Common.{◌<◌, ◌+◌, ◌∙◌, [], ◌∷◌, ap, arith, length, length-append, take}
use Rattle.plan_eval_state.proofs.Stacks.{slid}
use Rattle.plan_eval_state.proofs.stack.Stack.slide.Goals as goal

pub returns-in-Some : goal.returns-in-Some
returns-in-Some g c = λ x held pre view len.
    let less : c.args.n < length c.pop.new.self =
    omega (arith, c.if-n-last.true, c.saturating_sub-last.ensures, c.len.ensures, ap length c.in-Some.ensures, length-append c.pop.new.self (c.in-Some.x ∷ [])) in
    slid c.self.inside.items c.pop.new.self c.truncate.new.self x c.in-Some.x held pre c.args.n c.in-Some.ensures (c.self.view_is ∙ view)
    (c.truncate.ensures ∙ ap (take (c.args.n + 1)) c.set.ensures) less len
