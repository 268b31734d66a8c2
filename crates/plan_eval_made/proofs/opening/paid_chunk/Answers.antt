use Rattle.std.proofs.Common.{Some, refl}
use Rattle.plan_meaning.specs.State.{joined_state}
use Rattle.plan_eval_made.proofs.Entering.{none_of, refused_wrong, refused_unpaid}
use Rattle.plan_eval_made.proofs.opening.paid_chunk.Goals as goal

pub returns-in_default-clause-refused : goal.returns-in_default-clause-refused
returns-in_default-clause-refused c =
    refused_wrong c.args.run.now c.pop_chunk.new.run c.pop_chunk.ensures.stays c.pop_chunk.result (none_of c.pop_chunk.result c.in_default.not-Some) c.pop_chunk.ensures.chunk

pub returns-in-Err-clause-refused : goal.returns-in-Err-clause-refused
returns-in-Err-clause-refused c =
    refused_unpaid c.args.run.now c.pop_chunk.new.run c.pop_chunk.ensures.stays c.in-Some.chunk (Some c.in-Some.chunk) c.stopped.result c.stopped.new.run c.in-Err.why (joined_state c.pay_eval.new.self) refl c.in-Some.ensures.chunk
    c.stopped.ensures.settled c.stopped.ensures.flows c.in-Err.ensures.meets
