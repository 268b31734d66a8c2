use Rattle.std.proofs.Common.{refl}
use Rattle.node_core.proofs.StepLaws.{own_spent}
use Rattle.node_core.proofs.node.Node.admit.Goals as goal

pub returns-then-self : goal.returns-then-self
returns-then-self g c = record {
  ok = λ s h. own_spent _ c.args.before c.in_ok-list.list c.args.self.now s c.args.chunk c.args.bound c.args.handler h c.if-self.true c.in_ok-list.ensures;
  err = λ s h. tt;
  same = refl;
}
