use Rattle.std.proofs.Common.{reverse, refl, ap, ◌∙◌, ◌++◌, ◌∷◌, []}
use Rattle.plan_base.specs.Sizes as sizes
use Rattle.plan_eval_made.proofs.Rows.{row_weight, row_nesting}
use Rattle.plan_eval_made.proofs.row.Row.put_first.Goals as goal

pub invariant_of-self-2 : goal.invariant_of-self-2
invariant_of-self-2 c = (
  row_weight sizes.weight sizes.nesting c.self.inside.turned c.add.new.self c.args.slot (reverse c.self.inside.turned) refl (c.in_ok-add.ensures.ok ∙ ap (λ v. c.self.inside.turned ++ v ∷ []) c.into_value.ensures)
      c.self.inside.weight c.weight.result c.saturating_add-weight.result 18446744073709551615 c.self.invariant.0 c.weight.ensures c.saturating_add-weight.ensures,
  row_nesting sizes.weight sizes.nesting c.self.inside.turned c.add.new.self c.args.slot (reverse c.self.inside.turned) refl (c.in_ok-add.ensures.ok ∙ ap (λ v. c.self.inside.turned ++ v ∷ []) c.into_value.ensures)
      c.self.inside.nesting c.nesting.result c.max-nesting.result 4294967295 c.self.invariant.1 c.nesting.ensures c.max-nesting.ensures,
)
