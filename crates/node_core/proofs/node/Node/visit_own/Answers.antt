use Rattle.std.proofs.Common.{refl}
use Rattle.node_core.proofs.StepLaws.{injected_visit_steps}
use Rattle.node_core.proofs.node.Node.visit_own.Goals as goal

pub returns : goal.returns
returns g c =
    let done = c.in_ok-acts.ensures.steps in
    record { ok = λ s h. injected_visit_steps _ _ s _ _ _ _ refl (done.ok s h); err = λ s h. tt; same = done.same }
