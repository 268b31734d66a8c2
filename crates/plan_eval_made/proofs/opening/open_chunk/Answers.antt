use Rattle.plan_eval_made.proofs.Entering.{none_of, refused_entry, entry_missing, chunk_opens}
use Rattle.plan_eval_made.proofs.opening.open_chunk.Goals as goal

pub returns-in_default-clause-refused : goal.returns-in_default-clause-refused
returns-in_default-clause-refused c =
    refused_entry c.in-Ok.chunk c.args.run.now c.paid_chunk.new.run (entry_missing c.in-Ok.chunk c.entry_of.result (none_of c.entry_of.result c.in_default.not-Some) c.entry_of.ensures) c.in-Ok.ensures.paid

pub returns-in-Ok-enter_chunk-clause-opens : goal.returns-in-Ok-enter_chunk-clause-opens
returns-in-Ok-enter_chunk-clause-opens c = λ v pre is.
    chunk_opens v pre c.args.run.now c.paid_chunk.new.run c.in-Ok-enter_chunk.opened c.enter_chunk.new.run c.in-Ok.chunk c.in-Some.fun (c.in-Ok.ensures.paid v pre is) c.requires.bare c.in-Some.ensures
    c.in-Ok-enter_chunk.ensures.opened c.in-Ok-enter_chunk.ensures.stays
