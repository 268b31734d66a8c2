use Rattle.std.proofs.Common.{sym, ◌∙◌}
use Rattle.plan_meaning.specs.Visit.{allowance}
use Rattle.plan_meaning.proofs.Allowances.{visit_can_end, visits_alike, spent_exactly}
use Rattle.plan_eval.proofs.Greater.{gives_alone}
use Rattle.plan_eval.proofs.Visits.{good_chunk, good_start, ok_map, ok_always, visit_keeps, visit_fits, visit_leaves, start_safe, start_right, start_visits}
use Rattle.plan_eval.proofs.visiting.visit.Goals as goal

pub run_entry-came-requires-clause-safe : goal.run_entry-came-requires-clause-safe
run_entry-came-requires-clause-safe g c = start_safe c.chunk-chunk-2.result.now c.args.p.now.chunk c.args.ctx.now c.family.result c.args.p.now.family (g.S.Services.stands c.args.svc.now) c.in_ok-run.run'
    (c.chunk-chunk-2.ensures.value ∙ c.chunk-chunk.ensures.value) c.family.ensures c.in_ok-run.ensures
    (good_chunk c.args.p.now.chunk c.chunk-chunk.ensures.kept) (record { serve = g.met.S.Services.good c.args.svc.now; rows = c.requires.rows }) c.requires.near

pub visited-requires : goal.visited-requires
visited-requires g c = record {
  right =
      start_right c.chunk-chunk-2.result.now c.args.p.now.chunk c.args.ctx.now c.family.result c.args.p.now.family (g.S.Services.stands c.args.svc.now) c.in_ok-run.run' (c.chunk-chunk-2.ensures.value ∙ c.chunk-chunk.ensures.value)
      c.family.ensures c.in_ok-run.ensures
      c.in_ok-run.run'.stack c.run_entry-came.result c.run_entry-came.new.run (g.S.Services.stands c.run_entry-came.new.svc) (good_chunk c.args.p.now.chunk c.chunk-chunk.ensures.kept)
      (record { serve = g.met.S.Services.good c.args.svc.now; rows = c.requires.rows }) c.requires.near
      c.run_entry-came.ensures.ends;
}

pub returns-in_err-run-clause-ends : goal.returns-in_err-run-clause-ends
returns-in_err-run-clause-ends g c =
    visit_can_end c.args.p.now.chunk c.args.ctx.now c.args.p.now.family (g.S.Services.stands c.args.svc.now) (good_chunk c.args.p.now.chunk c.chunk-chunk.ensures.kept) allowance
    (good_start c.args.p.now.chunk c.args.ctx.now c.args.p.now.family (g.S.Services.stands c.args.svc.now) (record { serve = g.met.S.Services.good c.args.svc.now; rows = c.requires.rows }) c.requires.near)

pub returns-in_err-run-clause-alike : goal.returns-in_err-run-clause-alike
returns-in_err-run-clause-alike g c = visits_alike c.args.p.now.chunk c.args.ctx.now c.args.p.now.family (g.S.Services.stands c.args.svc.now)

pub returns-clause-ends : goal.returns-clause-ends
returns-clause-ends g c =
    visit_can_end c.args.p.now.chunk c.args.ctx.now c.args.p.now.family (g.S.Services.stands c.args.svc.now) (good_chunk c.args.p.now.chunk c.chunk-chunk.ensures.kept) allowance
    (good_start c.args.p.now.chunk c.args.ctx.now c.args.p.now.family (g.S.Services.stands c.args.svc.now) (record { serve = g.met.S.Services.good c.args.svc.now; rows = c.requires.rows }) c.requires.near)

pub returns-clause-alike : goal.returns-clause-alike
returns-clause-alike g c = visits_alike c.args.p.now.chunk c.args.ctx.now c.args.p.now.family (g.S.Services.stands c.args.svc.now)

pub returns-clause-visits : goal.returns-clause-visits
returns-clause-visits g c =
    let is =
    start_visits c.chunk-chunk-2.result.now c.args.p.now.chunk c.args.ctx.now c.family.result c.args.p.now.family (g.S.Services.stands c.args.svc.now) c.in_ok-run.run' (c.chunk-chunk-2.ensures.value ∙ c.chunk-chunk.ensures.value)
    c.family.ensures c.in_ok-run.ensures
    c.visited.result c.bound-bound.result c.in_ok-run.run'.stack c.run_entry-came.result c.run_entry-came.new.run (g.S.Services.stands c.run_entry-came.new.svc) (c.requires.bound ∙ sym c.bound-bound.ensures.value)
    c.run_entry-came.ensures.ends c.visited.ensures in
    is

pub returns-clause-value : goal.returns-clause-value
returns-clause-value g c =
    let is =
    start_visits c.chunk-chunk-2.result.now c.args.p.now.chunk c.args.ctx.now c.family.result c.args.p.now.family (g.S.Services.stands c.args.svc.now) c.in_ok-run.run' (c.chunk-chunk-2.ensures.value ∙ c.chunk-chunk.ensures.value)
    c.family.ensures c.in_ok-run.ensures
    c.visited.result c.bound-bound.result c.in_ok-run.run'.stack c.run_entry-came.result c.run_entry-came.new.run (g.S.Services.stands c.run_entry-came.new.svc) (c.requires.bound ∙ sym c.bound-bound.ensures.value)
    c.run_entry-came.ensures.ends c.visited.ensures in
    ok_map (λ v i d f. (visit_fits c.args.p.now.chunk c.args.ctx.now c.args.p.now.family (g.S.Services.stands c.args.svc.now) d f (good_chunk c.args.p.now.chunk c.chunk-chunk.ensures.kept)
    (record { serve = g.met.S.Services.good c.args.svc.now; rows = c.requires.rows }) c.requires.near v _ i).0) c.visited.result is

pub returns-clause-notes : goal.returns-clause-notes
returns-clause-notes g c =
    let is =
    start_visits c.chunk-chunk-2.result.now c.args.p.now.chunk c.args.ctx.now c.family.result c.args.p.now.family (g.S.Services.stands c.args.svc.now) c.in_ok-run.run' (c.chunk-chunk-2.ensures.value ∙ c.chunk-chunk.ensures.value)
    c.family.ensures c.in_ok-run.ensures
    c.visited.result c.bound-bound.result c.in_ok-run.run'.stack c.run_entry-came.result c.run_entry-came.new.run (g.S.Services.stands c.run_entry-came.new.svc) (c.requires.bound ∙ sym c.bound-bound.ensures.value)
    c.run_entry-came.ensures.ends c.visited.ensures in
    ok_map (λ v i. (visit_leaves c.args.p.now.chunk c.args.ctx.now c.args.p.now.family (g.S.Services.stands c.args.svc.now) (good_chunk c.args.p.now.chunk c.chunk-chunk.ensures.kept)
    (record { serve = g.met.S.Services.good c.args.svc.now; rows = c.requires.rows }) c.requires.near v _ i).0) c.visited.result is

pub returns-clause-note_types : goal.returns-clause-note_types
returns-clause-note_types g c =
    let is =
    start_visits c.chunk-chunk-2.result.now c.args.p.now.chunk c.args.ctx.now c.family.result c.args.p.now.family (g.S.Services.stands c.args.svc.now) c.in_ok-run.run' (c.chunk-chunk-2.ensures.value ∙ c.chunk-chunk.ensures.value)
    c.family.ensures c.in_ok-run.ensures
    c.visited.result c.bound-bound.result c.in_ok-run.run'.stack c.run_entry-came.result c.run_entry-came.new.run (g.S.Services.stands c.run_entry-came.new.svc) (c.requires.bound ∙ sym c.bound-bound.ensures.value)
    c.run_entry-came.ensures.ends c.visited.ensures in
    ok_map (λ v i. (visit_leaves c.args.p.now.chunk c.args.ctx.now c.args.p.now.family (g.S.Services.stands c.args.svc.now) (good_chunk c.args.p.now.chunk c.chunk-chunk.ensures.kept)
    (record { serve = g.met.S.Services.good c.args.svc.now; rows = c.requires.rows }) c.requires.near v _ i).1) c.visited.result is

pub returns-clause-sends : goal.returns-clause-sends
returns-clause-sends g c =
    let is =
    start_visits c.chunk-chunk-2.result.now c.args.p.now.chunk c.args.ctx.now c.family.result c.args.p.now.family (g.S.Services.stands c.args.svc.now) c.in_ok-run.run' (c.chunk-chunk-2.ensures.value ∙ c.chunk-chunk.ensures.value)
    c.family.ensures c.in_ok-run.ensures
    c.visited.result c.bound-bound.result c.in_ok-run.run'.stack c.run_entry-came.result c.run_entry-came.new.run (g.S.Services.stands c.run_entry-came.new.svc) (c.requires.bound ∙ sym c.bound-bound.ensures.value)
    c.run_entry-came.ensures.ends c.visited.ensures in
    ok_map (λ v i. (visit_leaves c.args.p.now.chunk c.args.ctx.now c.args.p.now.family (g.S.Services.stands c.args.svc.now) (good_chunk c.args.p.now.chunk c.chunk-chunk.ensures.kept)
    (record { serve = g.met.S.Services.good c.args.svc.now; rows = c.requires.rows }) c.requires.near v _ i).2) c.visited.result is

pub returns-clause-balance : goal.returns-clause-balance
returns-clause-balance g c =
    let is =
    start_visits c.chunk-chunk-2.result.now c.args.p.now.chunk c.args.ctx.now c.family.result c.args.p.now.family (g.S.Services.stands c.args.svc.now) c.in_ok-run.run' (c.chunk-chunk-2.ensures.value ∙ c.chunk-chunk.ensures.value)
    c.family.ensures c.in_ok-run.ensures
    c.visited.result c.bound-bound.result c.in_ok-run.run'.stack c.run_entry-came.result c.run_entry-came.new.run (g.S.Services.stands c.run_entry-came.new.svc) (c.requires.bound ∙ sym c.bound-bound.ensures.value)
    c.run_entry-came.ensures.ends c.visited.ensures in
    ok_map (λ v i. visit_keeps c.args.p.now.chunk c.args.ctx.now c.args.p.now.family (g.S.Services.stands c.args.svc.now) v _ i ∙ c.requires.bound) c.visited.result is

pub returns-clause-kept : goal.returns-clause-kept
returns-clause-kept g c =
    let is =
    start_visits c.chunk-chunk-2.result.now c.args.p.now.chunk c.args.ctx.now c.family.result c.args.p.now.family (g.S.Services.stands c.args.svc.now) c.in_ok-run.run' (c.chunk-chunk-2.ensures.value ∙ c.chunk-chunk.ensures.value)
    c.family.ensures c.in_ok-run.ensures
    c.visited.result c.bound-bound.result c.in_ok-run.run'.stack c.run_entry-came.result c.run_entry-came.new.run (g.S.Services.stands c.run_entry-came.new.svc) (c.requires.bound ∙ sym c.bound-bound.ensures.value)
    c.run_entry-came.ensures.ends c.visited.ensures in
    ok_always _ (λ v i. (visit_leaves c.args.p.now.chunk c.args.ctx.now c.args.p.now.family (g.S.Services.stands c.args.svc.now) (good_chunk c.args.p.now.chunk c.chunk-chunk.ensures.kept)
    (record { serve = g.met.S.Services.good c.args.svc.now; rows = c.requires.rows }) c.requires.near v _ i).3) c.visited.result is

pub returns-clause-greater : goal.returns-clause-greater
returns-clause-greater g c =
    let is =
    start_visits c.chunk-chunk-2.result.now c.args.p.now.chunk c.args.ctx.now c.family.result c.args.p.now.family (g.S.Services.stands c.args.svc.now) c.in_ok-run.run' (c.chunk-chunk-2.ensures.value ∙ c.chunk-chunk.ensures.value)
    c.family.ensures c.in_ok-run.ensures
    c.visited.result c.bound-bound.result c.in_ok-run.run'.stack c.run_entry-came.result c.run_entry-came.new.run (g.S.Services.stands c.run_entry-came.new.svc) (c.requires.bound ∙ sym c.bound-bound.ensures.value)
    c.run_entry-came.ensures.ends c.visited.ensures in
    ok_map (λ r i h w l. gives_alone c.args.p.now.chunk c.args.ctx.now c.args.p.now.family (g.S.Services.stands c.args.svc.now) allowance w r _ l i h) c.visited.result is

pub returns-clause-spent : goal.returns-clause-spent
returns-clause-spent g c =
    let is =
    start_visits c.chunk-chunk-2.result.now c.args.p.now.chunk c.args.ctx.now c.family.result c.args.p.now.family (g.S.Services.stands c.args.svc.now) c.in_ok-run.run' (c.chunk-chunk-2.ensures.value ∙ c.chunk-chunk.ensures.value)
    c.family.ensures c.in_ok-run.ensures
    c.visited.result c.bound-bound.result c.in_ok-run.run'.stack c.run_entry-came.result c.run_entry-came.new.run (g.S.Services.stands c.run_entry-came.new.svc) (c.requires.bound ∙ sym c.bound-bound.ensures.value)
    c.run_entry-came.ensures.ends c.visited.ensures in
    ok_map (λ v i. spent_exactly c.args.p.now.chunk c.args.ctx.now c.args.p.now.family (g.S.Services.stands c.args.svc.now) allowance v _ i) c.visited.result is
