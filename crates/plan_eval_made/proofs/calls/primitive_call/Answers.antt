use Rattle.std.proofs.Common.{reverse, ap, sym, ◌∙◌, subst}
use Rattle.plan_types_spec.specs.Rules.{primitive}
use Rattle.plan_meaning.specs.Run.{and_then, given_value, weighed_value}
use Rattle.visit_state.specs.Meets.{MeetsGiven}
use Rattle.plan_eval_state.specs.Forms.{operands}
use Rattle.plan_eval_state.specs.Spots.{layer}
use Rattle.plan_eval_state.specs.Flow.{now}
use Rattle.plan_eval_state.specs.Laws.{makes}
use Rattle.plan_eval_made.proofs.Made.{ended_under, many_of, primitive_makes, meets_given}
use Rattle.plan_eval_made.proofs.calls.primitive_call.Goals as goal

pub returns-in-Ok-clause-made : goal.returns-in-Ok-clause-made
returns-in-Ok-clause-made c = λ s f es form prim many held pre n is all.
    let so_many = many_of (layer s) es held c.args.n (ap operands form) many all in
    ended_under s c.args.run.now c.take_row.new.run pre (makes s (reverse held))
    (and_then (given_value (primitive c.args.p c.in-Ok.row) (now c.take_row.new.run n)) weighed_value) c.answer.result c.answer.new.run n
    c.in-Ok.ensures.stays (c.in-Ok.ensures.left held pre is so_many) c.answer.ensures.settled
    (primitive_makes s (now c.take_row.new.run n) f es c.args.p (reverse held) c.in-Ok.row form prim (c.in-Ok.ensures.row held pre is so_many))
    (c.answer.ensures.flows s (given_value (primitive c.args.p c.in-Ok.row) (now c.take_row.new.run n)) n
    (meets_given (primitive c.args.p c.in-Ok.row) c.primitive-given.result (now c.take_row.new.run n)
    (subst (λ l. MeetsGiven (primitive c.args.p l) c.primitive-given.result) c.into_values-args.ensures c.primitive-given.ensures)))
