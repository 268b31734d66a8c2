use Rattle.std.proofs.Common.{◌∷◌, sym, subst}
use Rattle.plan_eval_state.specs.declared.continuation.Continuation.TheVariants.{Last, Try, Bound, Call, Chunk}
use Rattle.plan_eval_state.specs.declared.progress.Progress.TheVariants as came
use Rattle.plan_eval_state.specs.Flow.{now}
use Rattle.plan_eval.specs.Turns.{Turned}
use Rattle.plan_eval.proofs.Turning.{settled_turn, branch_ended, value_ended, unit_ended, weighs_on, tried_on, chunk_on, last_bare, try_bare}
use Rattle.plan_eval.proofs.turns.go_on.Goals as goal

pub returns-in-Last : goal.returns-in-Last
returns-in-Last g c =
    let n = g.S.Services.stands c.args.svc.now in
    subst (λ k. Turned c.args.first (k ∷ c.args.conts.now) c.args.conts.now came.Done c.ended.result c.args.run.now c.ended.new.run n n) (sym c.in-Last.is)
    (settled_turn c.args.first (Last c.in-Last.field-0) c.args.conts.now c.ended.result c.args.run.now c.ended.new.run n c.ended.ensures.settled c.ended.ensures.falls c.ended.ensures.codes
    (λ first pre top r. branch_ended first pre top (Last c.in-Last.field-0) c.args.conts.now c.args.run.now n r c.ended.result c.ended.new.run
    (last_bare c.args.run.now.codes r.stands.outer r.at c.in-Last.field-0 r.stands.held r.stands.steps) (weighs_on r.stands.outer r.flows.v (now c.args.run.now n) r.want r.flows.is) c.ended.ensures.flows))

pub returns-in-Try : goal.returns-in-Try
returns-in-Try g c =
    let n = g.S.Services.stands c.args.svc.now in
    subst (λ k. Turned c.args.first (k ∷ c.args.conts.now) c.args.conts.now came.Done c.ended-in-Try.result c.args.run.now c.ended-in-Try.new.run n n) (sym c.in-Try.is)
    (settled_turn c.args.first (Try c.in-Try.field-0) c.args.conts.now c.ended-in-Try.result c.args.run.now c.ended-in-Try.new.run n c.ended-in-Try.ensures.settled c.ended-in-Try.ensures.falls c.ended-in-Try.ensures.codes
    (λ first pre top r. branch_ended first pre top (Try c.in-Try.field-0) c.args.conts.now c.args.run.now n r c.ended-in-Try.result c.ended-in-Try.new.run
    (try_bare c.args.run.now.codes r.stands.outer r.at c.in-Try.field-0 r.stands.held r.stands.steps) (tried_on r.stands.outer r.flows.v (now c.args.run.now n) r.want r.flows.is c.in-Try.field-0 r.stands.held) c.ended-in-Try.ensures.flows))

pub returns-in-Bound : goal.returns-in-Bound
returns-in-Bound g c =
    let n = g.S.Services.stands c.args.svc.now in
    subst (λ k. Turned c.args.first (k ∷ c.args.conts.now) c.args.conts.now came.Done c.body_ended.result c.args.run.now c.body_ended.new.run n n) (sym c.in-Bound.is)
    (settled_turn c.args.first (Bound c.in-Bound.at) c.args.conts.now c.body_ended.result c.args.run.now c.body_ended.new.run n c.body_ended.ensures.settled c.body_ended.ensures.falls c.body_ended.ensures.codes
    (λ first pre top r. value_ended first pre top (Bound c.in-Bound.at) c.args.conts.now c.args.run.now n r c.body_ended.result c.body_ended.new.run c.in-Bound.at r.stands.height
    (weighs_on r.stands.outer r.flows.v (now c.args.run.now n) r.want r.flows.is) c.body_ended.ensures.flows))

pub returns-in-Call : goal.returns-in-Call
returns-in-Call g c =
    let n = g.S.Services.stands c.args.svc.now in
    subst (λ k. Turned c.args.first (k ∷ c.args.conts.now) c.args.conts.now came.Done c.body_ended-in-Call.result c.args.run.now c.body_ended-in-Call.new.run n n) (sym c.in-Call.is)
    (settled_turn c.args.first (Call c.in-Call.a) c.args.conts.now c.body_ended-in-Call.result c.args.run.now c.body_ended-in-Call.new.run n c.body_ended-in-Call.ensures.settled c.body_ended-in-Call.ensures.falls
    c.body_ended-in-Call.ensures.codes
    (λ first pre top r. value_ended first pre top (Call c.in-Call.a) c.args.conts.now c.args.run.now n r c.body_ended-in-Call.result c.body_ended-in-Call.new.run c.in-Call.a.base r.stands.height
    (weighs_on r.stands.outer r.flows.v (now c.args.run.now n) r.want r.flows.is) c.body_ended-in-Call.ensures.flows))

pub returns-in-Chunk : goal.returns-in-Chunk
returns-in-Chunk g c =
    let n = g.S.Services.stands c.args.svc.now in
    subst (λ k. Turned c.args.first (k ∷ c.args.conts.now) c.args.conts.now came.Done c.chunk_ended.result c.args.run.now c.chunk_ended.new.run n n) (sym c.in-Chunk.is)
    (settled_turn c.args.first (Chunk c.in-Chunk.a) c.args.conts.now c.chunk_ended.result c.args.run.now c.chunk_ended.new.run n c.chunk_ended.ensures.settled c.chunk_ended.ensures.falls c.chunk_ended.ensures.codes
    (λ first pre top r. unit_ended first pre top (Chunk c.in-Chunk.a) c.args.conts.now c.args.run.now n r c.chunk_ended.result c.chunk_ended.new.run c.in-Chunk.a.base r.stands.height
    (chunk_on r.stands.outer r.flows.v (now c.args.run.now n) r.want r.flows.is c.in-Chunk.a r.stands.held) c.chunk_ended.ensures.flows))
