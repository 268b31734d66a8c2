use Rattle.std.proofs.Common.{arith, ◌<◌, ◌+◌, ◌-◌, sym, ◌∙◌}
use Rattle.plan_eval_made.proofs.Standing.{counted_fits}
use Rattle.plan_eval_made.proofs.Named.{param_start, param_found, param_passed}
use Rattle.plan_eval_made.proofs.names.argument_place.Goals as goal

pub loop-left-init : goal.loop-left-init
loop-left-init c = record { within = omega arith; rest = param_start c.args.name.now c.args.params.now c.args.base }

pub overflow_add-result : goal.overflow_add-result
overflow_add-result c =
    let fits : c.args.base + (c.loop-left.left - 1) < c.args.height =
    counted_fits c.args.params.now c.args.base c.args.height (c.loop-left.left - 1) c.requires.places (omega (arith, c.loop-left.invariant.within, c.loop-left-test.true)) in
    omega (arith, fits, c.ranges.height.fits)

pub returns-then-is : goal.returns-then-is
returns-then-is c =
    param_found c.args.name.now c.args.params.now c.args.base c.loop-left.left c.index-params-left.result c.loop-left.invariant.within c.loop-left-test.true c.index-params-left.is
    c.loop-left.invariant.rest (sym c.if-is.ensures.tested)

pub loop-left-preserved : goal.loop-left-preserved
loop-left-preserved c = record {
  within = omega (arith, c.loop-left.invariant.within);
  rest = param_passed c.args.name.now c.args.params.now c.args.base c.loop-left.left c.index-params-left.result c.loop-left.invariant.within c.loop-left-test.true c.index-params-left.is
      c.loop-left.invariant.rest (sym c.if-is.ensures.tested);
}
