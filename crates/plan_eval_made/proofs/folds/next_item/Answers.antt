use Rattle.std.proofs.Common.{◌≡◌, ◌-◌, Some, None, Ok, w64, to_z, of_z, arith, refl, sym, ap, ◌∙◌, subst}
use Rattle.std.proofs.lemmas.Int.{to_z-of_z}
use Rattle.plan_base.specs.declared.tree.Expr.{out-Expr}
use Rattle.plan_meaning.specs.Meaning.{as_int}
use Rattle.plan_eval_made.specs.Takes.{Offers}
use Rattle.plan_eval_made.proofs.Items.{second_is, third_is, no_number, stops_so, takes_none, takes_one}
use Rattle.plan_eval_made.proofs.folds.next_item.Goals as goal

pub returns-in_default : goal.returns-in_default
returns-in_default c =
    no_number (out-Expr c.args.e.now) c.args.run.now
    (λ acc n list pre is. ap as_int (sym (second_is c.args.run.now.stack acc n list pre c.len-height.result c.at.result.now is c.len-height.ensures c.at.ensures)) ∙ sym c.in_default.ensures)

pub returns-in-Ok : goal.returns-in-Ok
returns-in-Ok c = λ acc n list pre is.
    let t : to_z w64 (of_z w64 c.in-Some.taken) ≡ c.in-Some.taken = grind (arith, to_z-of_z) in
    let number : as_int n ≡ Some (to_z w64 (of_z w64 c.in-Some.taken)) =
    ap as_int (sym (second_is c.args.run.now.stack acc n list pre c.len-height.result c.at.result.now is c.len-height.ensures c.at.ensures)) ∙ sym c.in-Some.ensures ∙ ap Some (sym t) in
    let same : c.get.result.now ≡ list = c.get.ensures ∙ third_is c.args.run.now.stack acc n list pre c.len-height.result c.at-2.result.now is c.len-height.ensures c.at-2.ensures in
    let u : to_z w64 (of_z w64 c.in-Ok-Some.next) ≡ c.in-Ok-Some.next = grind (arith, to_z-of_z) in
    takes_one (out-Expr c.args.e.now) c.args.run.now (to_z w64 (of_z w64 c.in-Some.taken)) c.get.result.now acc n list pre number same c.in-Ok-Some.item c.in-Ok-Some.next c.put_step.new.run
    (subst (λ o. Offers (out-Expr c.args.e.now) (to_z w64 (of_z w64 c.in-Some.taken)) c.get.result.now (Ok o)) c.in-Ok-Some.field-0-is c.in-Ok-Some.ensures) (rw u at c.in-Ok.ensures.put acc n list pre is) c.in-Ok.ensures.stays

pub returns-in-Ok-None : goal.returns-in-Ok-None
returns-in-Ok-None c = λ acc n list pre is.
    let t : to_z w64 (of_z w64 c.in-Some.taken) ≡ c.in-Some.taken = grind (arith, to_z-of_z) in
    let number : as_int n ≡ Some (to_z w64 (of_z w64 c.in-Some.taken)) =
    ap as_int (sym (second_is c.args.run.now.stack acc n list pre c.len-height.result c.at.result.now is c.len-height.ensures c.at.ensures)) ∙ sym c.in-Some.ensures ∙ ap Some (sym t) in
    let same : c.get.result.now ≡ list = c.get.ensures ∙ third_is c.args.run.now.stack acc n list pre c.len-height.result c.at-2.result.now is c.len-height.ensures c.at-2.ensures in
    takes_none (out-Expr c.args.e.now) c.args.run.now (to_z w64 (of_z w64 c.in-Some.taken)) c.get.result.now acc n list pre number same
    (subst (λ o. Offers (out-Expr c.args.e.now) (to_z w64 (of_z w64 c.in-Some.taken)) c.get.result.now (Ok o)) c.in-Ok-None.field-0-is c.in-Ok-None.ensures)

pub returns-in-Err : goal.returns-in-Err
returns-in-Err c =
    let t : to_z w64 (of_z w64 c.in-Some.taken) ≡ c.in-Some.taken = grind (arith, to_z-of_z) in
    stops_so (out-Expr c.args.e.now) c.args.run.now (to_z w64 (of_z w64 c.in-Some.taken)) c.get.result.now c.in-Err.came c.take_item.result c.in-Err.is c.take_item.ensures
    (λ acc n list pre is. (
      ap as_int (sym (second_is c.args.run.now.stack acc n list pre c.len-height.result c.at.result.now is c.len-height.ensures c.at.ensures)) ∙ sym c.in-Some.ensures ∙ ap Some (sym t),
      c.get.ensures ∙ third_is c.args.run.now.stack acc n list pre c.len-height.result c.at-2.result.now is c.len-height.ensures c.at-2.ensures,
    ))
