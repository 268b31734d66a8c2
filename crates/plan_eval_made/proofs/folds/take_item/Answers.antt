use Rattle.std.proofs.Common.{Some, FitsSigned, w64, to_z, of_z, sym, ap, ◌∙◌, subst}
use Rattle.std.proofs.lemmas.Int.{to_z-of_z}
use Rattle.plan_base.specs.declared.tree.Expr.{out-Expr}
use Rattle.plan_eval_made.proofs.Items.{none_left, found_next}
use Rattle.plan_eval_made.proofs.folds.take_item.Goals as goal

pub returns-in_default-item_at : goal.returns-in_default-item_at
returns-in_default-item_at c =
    none_left (out-Expr c.args.e.now) c.args.taken (to_z w64 (of_z w64 c.args.taken)) c.args.list.now c.in-Some.items.now c.in-Some-place_taken.n c.is_right.result c.in-Some.ensures (to_z-of_z w64 c.args.taken c.ranges.taken)
    c.in-Some-place_taken.ensures c.is_right.ensures c.in_default-item_at.ensures

pub returns-in-Ok : goal.returns-in-Ok
returns-in-Ok c =
    let one = c.in-Some-checked_add.ensures in
    found_next (out-Expr c.args.e.now) c.args.taken (to_z w64 (of_z w64 c.args.taken)) c.args.list.now c.in-Some.items.now c.in-Some-place_taken.n c.is_right.result c.in-Some.ensures (to_z-of_z w64 c.args.taken c.ranges.taken)
    c.in-Some-place_taken.ensures c.is_right.ensures c.of.result c.in-Some-checked_add.next (to_z w64 (of_z w64 c.in-Some-checked_add.next))
    (ap Some (c.of.ensures ∙ c.in-Ok.ensures) ∙ c.in-Some-item_at.ensures)
    one.1 (to_z-of_z w64 c.in-Some-checked_add.next (subst (FitsSigned w64) (sym one.1) one.0))
