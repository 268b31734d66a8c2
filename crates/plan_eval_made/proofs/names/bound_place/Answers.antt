use Rattle.std.proofs.Common.{arith, sym, ◌∙◌}
use Rattle.plan_eval_made.proofs.Named.{bound_found, bound_passed}
use Rattle.plan_eval_made.proofs.names.bound_place.Goals as goal

pub returns-then-is : goal.returns-then-is
returns-then-is c =
    bound_found c.args.name.now c.args.bindings.now c.loop-left.left c.index-bindings-left.result c.loop-left.invariant.within c.loop-left-test.true c.index-bindings-left.is
    c.loop-left.invariant.rest (sym c.if-is.ensures.tested)

pub loop-left-preserved : goal.loop-left-preserved
loop-left-preserved c = record {
  within = omega (arith, c.loop-left.invariant.within);
  rest = bound_passed c.args.name.now c.args.bindings.now c.loop-left.left c.index-bindings-left.result c.loop-left.invariant.within c.loop-left-test.true c.index-bindings-left.is
      c.loop-left.invariant.rest (sym c.if-is.ensures.tested);
}
