use Rattle.std.proofs.Common.{reverse, sym, ap, ◌∙◌}
use Rattle.plan_base.specs.declared.tree.Value as value
use Rattle.plan_meaning.specs.Run.{weighed_value}
use Rattle.plan_eval_state.specs.Forms.{operands}
use Rattle.plan_eval_state.specs.Spots.{layer}
use Rattle.plan_eval_state.specs.Flow.{now}
use Rattle.plan_eval_state.specs.Laws.{makes}
use Rattle.plan_eval_made.proofs.Made.{ended_under, many_of, tuple_makes}
use Rattle.plan_eval_made.proofs.packed.make_tuple.Goals as goal

pub returns-in-Ok-clause-made : goal.returns-in-Ok-clause-made
returns-in-Ok-clause-made c = λ s es form many held pre n is all.
    let so_many = many_of (layer s) es held c.args.n (ap operands form) many all in
    ended_under s c.args.run.now c.take_row.new.run pre (makes s (reverse held)) (weighed_value c.tuple_of.result (now c.take_row.new.run n)) c.give.result c.give.new.run n
    c.in-Ok.ensures.stays (c.in-Ok.ensures.left held pre is so_many) c.give.ensures.settled
    (tuple_makes s (now c.take_row.new.run n) es (reverse held) c.in-Ok.row form (c.in-Ok.ensures.row held pre is so_many)
    ∙ ap (λ v. (weighed_value v (now c.take_row.new.run n)).after) (sym c.tuple_of.ensures))
    (c.give.ensures.flows s n)
