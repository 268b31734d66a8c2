use Rattle.std.proofs.Common.{w64, rules, ◌∙◌}
use Rattle.std.proofs.lemmas.Int.{to_z-of_z}
use Rattle.plan_eval_made.proofs.Sending.{near_chunk, near_host, near_bound, near_dev, near_sent, near_safe}
use Rattle.plan_eval_made.proofs.sends.send_near.Goals as goal

pub returns-in_default-clause-made : goal.returns-in_default-clause-made
returns-in_default-clause-made c = λ s a h n d form held pre m split many.
    near_chunk s a h n d form c.args.run.now.stack held pre split many c.pop_dev-dev.result c.pop_number-bound.result c.pop_host-host.result c.pop_chunk.result c.pop_dev-dev.new.run.stack
    c.pop_number-bound.new.run.stack c.pop_host-host.new.run.stack c.pop_chunk.new.run.stack c.pop_dev-dev.ensures.dev c.pop_number-bound.ensures.number c.pop_host-host.ensures.host
    c.pop_chunk.ensures.chunk c.args.run.now.state c.pop_chunk.new.run.state
    (c.pop_chunk.ensures.stays.state ∙ c.pop_host-host.ensures.stays.state ∙ c.pop_number-bound.ensures.stays.state ∙ c.pop_dev-dev.ensures.stays.state) m c.in_default.is

pub returns-in_default-host-clause-made : goal.returns-in_default-host-clause-made
returns-in_default-host-clause-made c = λ s a h n d form held pre m split many.
    near_host s a h n d form c.args.run.now.stack held pre split many c.pop_dev-dev.result c.pop_number-bound.result c.pop_host-host.result c.pop_chunk.result c.pop_dev-dev.new.run.stack
    c.pop_number-bound.new.run.stack c.pop_host-host.new.run.stack c.pop_chunk.new.run.stack c.pop_dev-dev.ensures.dev c.pop_number-bound.ensures.number c.pop_host-host.ensures.host
    c.pop_chunk.ensures.chunk c.args.run.now.state c.pop_chunk.new.run.state
    (c.pop_chunk.ensures.stays.state ∙ c.pop_host-host.ensures.stays.state ∙ c.pop_number-bound.ensures.stays.state ∙ c.pop_dev-dev.ensures.stays.state) m c.in-Some.chunk c.in-Some.is c.in_default-host.is

pub returns-in_default-bound-clause-made : goal.returns-in_default-bound-clause-made
returns-in_default-bound-clause-made c = λ s a h n d form held pre m split many.
    near_bound s a h n d form c.args.run.now.stack held pre split many c.pop_dev-dev.result c.pop_number-bound.result c.pop_host-host.result c.pop_chunk.result c.pop_dev-dev.new.run.stack
    c.pop_number-bound.new.run.stack c.pop_host-host.new.run.stack c.pop_chunk.new.run.stack c.pop_dev-dev.ensures.dev c.pop_number-bound.ensures.number c.pop_host-host.ensures.host
    c.pop_chunk.ensures.chunk c.args.run.now.state c.pop_chunk.new.run.state
    (c.pop_chunk.ensures.stays.state ∙ c.pop_host-host.ensures.stays.state ∙ c.pop_number-bound.ensures.stays.state ∙ c.pop_dev-dev.ensures.stays.state) m c.in-Some.chunk c.in-Some-host.host c.in-Some.is c.in-Some-host.is
    c.in_default-bound.is

pub returns-in_default-dev-clause-made : goal.returns-in_default-dev-clause-made
returns-in_default-dev-clause-made c = λ s a h n d form held pre m split many.
    near_dev s a h n d form c.args.run.now.stack held pre split many c.pop_dev-dev.result c.pop_number-bound.result c.pop_host-host.result c.pop_chunk.result c.pop_dev-dev.new.run.stack
    c.pop_number-bound.new.run.stack c.pop_host-host.new.run.stack c.pop_chunk.new.run.stack c.pop_dev-dev.ensures.dev c.pop_number-bound.ensures.number c.pop_host-host.ensures.host
    c.pop_chunk.ensures.chunk c.args.run.now.state c.pop_chunk.new.run.state
    (c.pop_chunk.ensures.stays.state ∙ c.pop_host-host.ensures.stays.state ∙ c.pop_number-bound.ensures.stays.state ∙ c.pop_dev-dev.ensures.stays.state) m c.in-Some.chunk c.in-Some-host.host c.in-Some-bound.bound c.in-Some.is
    c.in-Some-host.is c.in-Some-bound.is c.in_default-dev.is

pub send_neighbour-given-requires : goal.send_neighbour-given-requires
send_neighbour-given-requires c = record {
  safe = near_safe c.args.run.now.state c.pop_chunk.new.run.state c.args.run.now.stack c.pop_dev-dev.new.run.stack c.pop_number-bound.new.run.stack c.pop_host-host.new.run.stack
      c.pop_chunk.new.run.stack c.in-Some-bound.bound _ c.in-Some-host.host c.in-Some.chunk c.in-Some-dev.dev
      (c.pop_chunk.ensures.stays.state ∙ c.pop_host-host.ensures.stays.state ∙ c.pop_number-bound.ensures.stays.state ∙ c.pop_dev-dev.ensures.stays.state)
      (to_z-of_z w64 c.in-Some-bound.bound (search rules)) c.in-Some-dev.ensures.dev c.in-Some-bound.ensures.number c.in-Some-host.ensures.host c.in-Some.ensures.chunk c.requires.safe;
}

pub returns-clause-made : goal.returns-clause-made
returns-clause-made c = λ s a h n d form held pre m split many.
    near_sent s a h n d form c.args.run.now.stack held pre split many c.pop_dev-dev.result c.pop_number-bound.result c.pop_host-host.result c.pop_chunk.result c.pop_dev-dev.new.run.stack
    c.pop_number-bound.new.run.stack c.pop_host-host.new.run.stack c.pop_chunk.new.run.stack c.pop_dev-dev.ensures.dev c.pop_number-bound.ensures.number c.pop_host-host.ensures.host
    c.pop_chunk.ensures.chunk c.args.run.now.state c.pop_chunk.new.run.state
    (c.pop_chunk.ensures.stays.state ∙ c.pop_host-host.ensures.stays.state ∙ c.pop_number-bound.ensures.stays.state ∙ c.pop_dev-dev.ensures.stays.state) m c.in-Some.chunk c.in-Some-host.host c.in-Some-bound.bound _ c.in-Some-dev.dev
    c.in-Some.is c.in-Some-host.is c.in-Some-bound.is c.in-Some-dev.is
    (to_z-of_z w64 c.in-Some-bound.bound (search rules)) c.sent.result c.sent.new.run c.sent.ensures.settled (c.sent.ensures.flows s _ m (c.send_neighbour-given.ensures.meets m))
