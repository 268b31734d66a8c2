use Rattle.std.proofs.Common.{slice_get, refl, sym, ap, ◌∙◌, subst}
use Rattle.plan_base.specs.declared.tree.Program.{Program}
use Rattle.plan_meaning.specs.Safe.{IsSafe}
use Rattle.plan_eval_state.specs.declared.progress.Progress.TheVariants as came
use Rattle.plan_eval_state.specs.Spots.{Spot}
use Rattle.plan_eval_state.specs.Loop.{bare}
use Rattle.plan_eval_made.specs.declared.here.Here.{Here}
use Rattle.plan_eval_made.specs.Where.{IsHere}
use Rattle.plan_eval.specs.Tasks.{below, wanted, Fits, Does}
use Rattle.plan_eval.proofs.Walks.{no_function, no_place}
use Rattle.plan_eval.proofs.Spotting.{sees}
use Rattle.plan_eval.proofs.task.in_body.Goals as goal

pub returns-in_default : goal.returns-in_default
returns-in_default g c = λ s inner.
    let none = ap (λ (p : Program). slice_get p.funs c.args.nearest.0.fun) (sym c.get.ensures) ∙ sym c.in_default.ensures.value in
    absurd {A = Does c.args.task s c.args.run.now (g.S.Services.stands c.args.svc.now) came.Wrong c.args.run.now (g.S.Services.stands c.args.svc.now)}
    (no_function c.args.run.now.codes c.args.first c.args.conts.now c.args.nearest.0 c.args.nearest.1 (bare s) c.args.code.now c.requires.nearest c.requires.program none inner.found)

pub returns-in_default-found : goal.returns-in_default-found
returns-in_default-found g c = λ s inner.
    let there = ap (λ (p : Program). slice_get p.funs c.args.nearest.0.fun) (sym c.get.ensures) ∙ sym c.in-Some.ensures.value in
    absurd {A = Does c.args.task s c.args.run.now (g.S.Services.stands c.args.svc.now) came.Wrong c.args.run.now (g.S.Services.stands c.args.svc.now)}
    (no_place c.args.run.now.codes c.args.first c.args.conts.now c.args.nearest.0 c.in-Some.function.now c.in-Ok.found (bare s) c.in_default-found.is
    (c.in-Ok.ensures c.args.run.now.codes c.args.first c.args.nearest.0 c.in-Some.function.now c.requires.nearest (record { code = c.args.code.now; program = c.requires.program; there = there }) refl) inner.found)

pub perform-requires-clause-ready : goal.perform-requires-clause-ready
perform-requires-clause-ready g c =
    let s = c.requires.found.at in
    let inner = c.requires.found.is in
    let here : Here = record {
      code = c.args.code;
      number = c.args.nearest.0.number;
      size = c.args.size;
      fun = c.args.nearest.0.fun;
      function = c.in-Some.function;
      base = c.args.nearest.0.base;
      bindings = record { ref_ptr = c.as_slice.result.ref_ptr; now = c.as_slice.result.now };
    } in
    let place : IsHere c.args.run.now.codes here = record { program = c.requires.program; size = c.requires.size; function = ap (λ (p : Program). slice_get p.funs c.args.nearest.0.fun) (sym c.get.ensures) ∙ sym c.in-Some.ensures.value } in
    let seen = sees here c.in-Some-found.place s c.args.run.now.codes (below c.args.task c.args.run.now.stack) c.args.first c.args.conts.now c.args.nearest.1 place c.requires.nearest c.as_slice.ensures
    c.in-Ok.found c.in-Some-found.is (λ body. c.in-Ok.ensures c.args.run.now.codes c.args.first c.args.nearest.0 c.in-Some.function.now c.requires.nearest body refl) inner.found inner.opened inner.env in
    seen.ready

pub perform-requires-clause-fits : goal.perform-requires-clause-fits
perform-requires-clause-fits g c =
    let s = c.requires.found.at in
    let inner = c.requires.found.is in
    let here : Here = record {
      code = c.args.code;
      number = c.args.nearest.0.number;
      size = c.args.size;
      fun = c.args.nearest.0.fun;
      function = c.in-Some.function;
      base = c.args.nearest.0.base;
      bindings = record { ref_ptr = c.as_slice.result.ref_ptr; now = c.as_slice.result.now };
    } in
    let place : IsHere c.args.run.now.codes here = record { program = c.requires.program; size = c.requires.size; function = ap (λ (p : Program). slice_get p.funs c.args.nearest.0.fun) (sym c.get.ensures) ∙ sym c.in-Some.ensures.value } in
    let seen = sees here c.in-Some-found.place s c.args.run.now.codes (below c.args.task c.args.run.now.stack) c.args.first c.args.conts.now c.args.nearest.1 place c.requires.nearest c.as_slice.ensures
    c.in-Ok.found c.in-Some-found.is (λ body. c.in-Ok.ensures c.args.run.now.codes c.args.first c.args.nearest.0 c.in-Some.function.now c.requires.nearest body refl) inner.found inner.opened inner.env in
    subst (λ (t : Spot). Fits c.args.task t c.args.run.now.stack) (sym seen.is) inner.fits

pub perform-requires-clause-safe : goal.perform-requires-clause-safe
perform-requires-clause-safe g c =
    let s = c.requires.found.at in
    let inner = c.requires.found.is in
    let here : Here = record {
      code = c.args.code;
      number = c.args.nearest.0.number;
      size = c.args.size;
      fun = c.args.nearest.0.fun;
      function = c.in-Some.function;
      base = c.args.nearest.0.base;
      bindings = record { ref_ptr = c.as_slice.result.ref_ptr; now = c.as_slice.result.now };
    } in
    let place : IsHere c.args.run.now.codes here = record { program = c.requires.program; size = c.requires.size; function = ap (λ (p : Program). slice_get p.funs c.args.nearest.0.fun) (sym c.get.ensures) ∙ sym c.in-Some.ensures.value } in
    let seen = sees here c.in-Some-found.place s c.args.run.now.codes (below c.args.task c.args.run.now.stack) c.args.first c.args.conts.now c.args.nearest.1 place c.requires.nearest c.as_slice.ensures
    c.in-Ok.found c.in-Some-found.is (λ body. c.in-Ok.ensures c.args.run.now.codes c.args.first c.args.nearest.0 c.in-Some.function.now c.requires.nearest body refl) inner.found inner.opened inner.env in
    subst (λ (t : Spot). IsSafe (wanted c.args.task t c.args.run.now (g.S.Services.stands c.args.svc.now)).asks) (sym seen.is) inner.safe

pub returns : goal.returns
returns g c = λ s inner.
    let here : Here = record {
      code = c.args.code;
      number = c.args.nearest.0.number;
      size = c.args.size;
      fun = c.args.nearest.0.fun;
      function = c.in-Some.function;
      base = c.args.nearest.0.base;
      bindings = record { ref_ptr = c.as_slice.result.ref_ptr; now = c.as_slice.result.now };
    } in
    let place : IsHere c.args.run.now.codes here = record { program = c.requires.program; size = c.requires.size; function = ap (λ (p : Program). slice_get p.funs c.args.nearest.0.fun) (sym c.get.ensures) ∙ sym c.in-Some.ensures.value } in
    let seen = sees here c.in-Some-found.place s c.args.run.now.codes (below c.args.task c.args.run.now.stack) c.args.first c.args.conts.now c.args.nearest.1 place c.requires.nearest c.as_slice.ensures
    c.in-Ok.found c.in-Some-found.is (λ body. c.in-Ok.ensures c.args.run.now.codes c.args.first c.args.nearest.0 c.in-Some.function.now c.requires.nearest body refl) inner.found inner.opened inner.env in
    subst (λ (t : Spot). Does c.args.task t c.args.run.now (g.S.Services.stands c.args.svc.now) c.perform.result c.perform.new.run (g.S.Services.stands c.perform.new.svc)) seen.is c.perform.ensures
