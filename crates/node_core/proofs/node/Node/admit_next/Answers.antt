use Rattle.std.proofs.Common.{◌++◌, [], ◌∷◌, ap, ◌∙◌, arith}
use Rattle.node_core_spec.specs.declared.acts.Act.TheVariants.{Injected}
use Rattle.node_core.proofs.StepLaws.{own_result}
use Rattle.node_core.proofs.node.Node.admit_next.Goals as goal

pub returns : goal.returns
returns g c =
    let list = c.in_ok-list.ensures ∙ ap (λ f. c.args.before ++ Injected f c.args.bound ∷ []) c.own_family.ensures in
    let done = c.visit_own.ensures in
    record {
      ok = λ s h. own_result _ c.args.before c.in_ok-list.list c.args.self.now c.visit_own.new.self s c.args.chunk c.args.bound c.args.handler c.in_ok-packet.packet c.visit_own.result h
          (λ e. absurd (omega (arith, c.requires.left, e))) list c.in_ok-packet.ensures (done.ok s h);
      err = done.err;
      same = done.same;
    }
