use Rattle.std.proofs.Common.{reverse, ap}
use Rattle.plan_base.specs.declared.tree.Value as value
use Rattle.plan_meaning.specs.Run.{weighed_value}
use Rattle.plan_eval_state.specs.Forms.{operands}
use Rattle.plan_eval_state.specs.Spots.{layer}
use Rattle.plan_eval_state.specs.Flow.{now}
use Rattle.plan_eval_state.specs.Laws.{makes}
use Rattle.plan_eval_made.proofs.Made.{ended_under, many_of, chunk_makes}
use Rattle.plan_eval_made.proofs.packed.make_chunk.Goals as goal

pub returns-in-Ok-clause-made : goal.returns-in-Ok-clause-made
returns-in-Ok-clause-made c = λ s es form same many held pre n is all.
    let so_many = many_of (layer s) es held c.args.n (ap operands form) many all in
    ended_under s c.args.run.now c.take_row.new.run pre (makes s (reverse held))
    (weighed_value (value.Chunk (record { code = c.args.here.now.code.now; entry = c.args.entry.now; args = c.in-Ok.row })) (now c.take_row.new.run n)) c.pack.result c.pack.new.run n
    c.in-Ok.ensures.stays (c.in-Ok.ensures.left held pre is so_many) c.pack.ensures.settled
    (chunk_makes s (now c.take_row.new.run n) c.args.entry.now es c.args.here.now.code.now (reverse held) c.in-Ok.row form same (c.in-Ok.ensures.row held pre is so_many))
    (c.pack.ensures.flows s n)
