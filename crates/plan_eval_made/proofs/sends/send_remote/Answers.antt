use Rattle.std.proofs.Common.{w64, rules, ◌∙◌, Some, subst}
use Rattle.std.proofs.lemmas.Int.{to_z-of_z}
use Rattle.plan_eval_made.proofs.Sending.{remote_chunk, remote_host, remote_bound, remote_sent, remote_safe}
use Rattle.plan_eval_made.proofs.sends.send_remote.Goals as goal

pub returns-in_default-clause-made : goal.returns-in_default-clause-made
returns-in_default-clause-made c = λ s a h n form held pre m split many.
    remote_chunk s a h n c.args.r.now form c.args.run.now.stack held pre split many c.pop_number-bound.result c.pop_host-host.result c.pop_chunk.result c.pop_number-bound.new.run.stack
    c.pop_host-host.new.run.stack c.pop_chunk.new.run.stack c.pop_number-bound.ensures.number c.pop_host-host.ensures.host c.pop_chunk.ensures.chunk c.args.run.now.state c.pop_chunk.new.run.state
    (c.pop_chunk.ensures.stays.state ∙ c.pop_host-host.ensures.stays.state ∙ c.pop_number-bound.ensures.stays.state) m c.in_default.is

pub returns-in_default-host-clause-made : goal.returns-in_default-host-clause-made
returns-in_default-host-clause-made c = λ s a h n form held pre m split many.
    remote_host s a h n c.args.r.now form c.args.run.now.stack held pre split many c.pop_number-bound.result c.pop_host-host.result c.pop_chunk.result c.pop_number-bound.new.run.stack
    c.pop_host-host.new.run.stack c.pop_chunk.new.run.stack c.pop_number-bound.ensures.number c.pop_host-host.ensures.host c.pop_chunk.ensures.chunk c.args.run.now.state c.pop_chunk.new.run.state
    (c.pop_chunk.ensures.stays.state ∙ c.pop_host-host.ensures.stays.state ∙ c.pop_number-bound.ensures.stays.state) m c.in-Some.chunk c.in-Some.is c.in_default-host.is

pub returns-in_default-bound-clause-made : goal.returns-in_default-bound-clause-made
returns-in_default-bound-clause-made c = λ s a h n form held pre m split many.
    remote_bound s a h n c.args.r.now form c.args.run.now.stack held pre split many c.pop_number-bound.result c.pop_host-host.result c.pop_chunk.result c.pop_number-bound.new.run.stack
    c.pop_host-host.new.run.stack c.pop_chunk.new.run.stack c.pop_number-bound.ensures.number c.pop_host-host.ensures.host c.pop_chunk.ensures.chunk c.args.run.now.state c.pop_chunk.new.run.state
    (c.pop_chunk.ensures.stays.state ∙ c.pop_host-host.ensures.stays.state ∙ c.pop_number-bound.ensures.stays.state) m c.in-Some.chunk c.in-Some-host.host c.in-Some.is c.in-Some-host.is c.in_default-bound.is

pub send_remote-given-requires : goal.send_remote-given-requires
send_remote-given-requires c = record {
  safe = remote_safe c.args.r.now c.args.run.now.state c.pop_chunk.new.run.state c.args.run.now.stack c.pop_number-bound.new.run.stack c.pop_host-host.new.run.stack c.pop_chunk.new.run.stack
      c.in-Some-bound.bound _ c.in-Some-host.host c.in-Some.chunk (c.pop_chunk.ensures.stays.state ∙ c.pop_host-host.ensures.stays.state ∙ c.pop_number-bound.ensures.stays.state)
      (to_z-of_z w64 c.in-Some-bound.bound (search rules)) c.in-Some-bound.ensures.number c.in-Some-host.ensures.host c.in-Some.ensures.chunk c.requires.safe;
}

pub returns-clause-made : goal.returns-clause-made
returns-clause-made c = λ s a h n form held pre m split many.
    remote_sent s a h n c.args.r.now form c.args.run.now.stack held pre split many c.pop_number-bound.result c.pop_host-host.result c.pop_chunk.result c.pop_number-bound.new.run.stack
    c.pop_host-host.new.run.stack c.pop_chunk.new.run.stack c.pop_number-bound.ensures.number c.pop_host-host.ensures.host c.pop_chunk.ensures.chunk c.args.run.now.state c.pop_chunk.new.run.state
    (c.pop_chunk.ensures.stays.state ∙ c.pop_host-host.ensures.stays.state ∙ c.pop_number-bound.ensures.stays.state) m c.in-Some.chunk c.in-Some-host.host c.in-Some-bound.bound _ c.in-Some.is c.in-Some-host.is c.in-Some-bound.is
    (to_z-of_z w64 c.in-Some-bound.bound (search rules)) c.sent.result c.sent.new.run c.sent.ensures.settled (c.sent.ensures.flows s _ m (c.send_remote-given.ensures.meets m))
