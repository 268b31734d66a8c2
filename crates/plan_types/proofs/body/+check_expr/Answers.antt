use Rattle.std.proofs.Common.{◌≡◌, ap, refl, arith}
use Rattle.std.specs.Option.{option_copied}
use Rattle.plan_types_spec.specs.TypingOrder.{checked_expression}
use Rattle.plan_types.proofs.Loops.{deeper}
use Rattle.plan_types.proofs.body.+check_expr.Goals as goal

pub returns-then-depth-eq0 : goal.returns-then-depth-eq0
unfolding checked_expression
returns-then-depth-eq0 t c =
    let none : c.args.depth ≡ 0 = omega arith in
    record {
      meets = λ _. ap (λ n. checked_expression c.args.scope.now.code.now n c.args.scope.now.seen c.args.state.now.ctx (option_copied c.args.want) c.args.e.now c.args.state.now.node) none;
      keeps = refl;
    }

pub returns : goal.returns
unfolding checked_expression
returns t c = record {
  meets = rw (deeper (λ n. checked_expression c.args.scope.now.code.now n c.args.scope.now.seen c.args.state.now.ctx (option_copied c.args.want) c.args.e.now c.args.state.now.node) c.args.depth (omega arith)) c.expression.ensures.meets;
  keeps = c.expression.ensures.keeps;
}
