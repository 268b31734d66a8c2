use Rattle.std.proofs.Common.{◌≡◌, min, subst}
use Rattle.plan_base.specs.Sizes as sizes
use Rattle.plan_eval_state.proofs.Stacks.{top_is}
use Rattle.plan_eval_state.proofs.run.top_weight.Goals as goal

pub returns : goal.returns
returns c = λ v pre is.
    let same = top_is c.args.stack.now pre v c.at-slot.result.now c.len.result is c.len.ensures c.at-slot.ensures in (
      subst (λ x. c.weight.result ≡ min (sizes.weight x) 18446744073709551615) same c.weight.ensures,
      subst (λ x. c.nesting.result ≡ min (sizes.nesting x) 4294967295) same c.nesting.ensures,
    )
