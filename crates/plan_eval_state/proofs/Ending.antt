-- How an expression ends.
use Rattle.std.proofs.Common.{◌≡◌, ◌≢◌, List, Result, Ok, Err, refl, sym, ap, ◌∙◌, subst}
use Rattle.plan_base.specs.declared.tree.Value.{Value}
use Rattle.service_api.specs.Services.{ServiceState}
use Rattle.plan_meaning.specs.declared.stop.EvalStop.{EvalStop}
use Rattle.plan_meaning.specs.declared.stop.EvalStop.TheVariants.{NoMemory}
use Rattle.plan_meaning.specs.State.{VisitState}
use Rattle.plan_meaning.specs.Run.{RunStep, gave, stopped, «next», and_then, weighed_value}
use Rattle.visit_state.specs.Meets.{Meets}
use Rattle.plan_eval_state.specs.declared.progress.Progress.{Progress}
use Rattle.plan_eval_state.specs.declared.progress.Progress.TheVariants as came
use Rattle.plan_eval_state.specs.declared.run.Run.{Run}
use Rattle.plan_eval_state.specs.Spots.{Spot}
use Rattle.plan_eval_state.specs.Flow.{Flows}

-- what doesn't wait came as far as what ends alike
pub flows_same : (s : Spot) (pre : List Value) (want other : RunStep Value) (p : Progress) (run : Run) (n : ServiceState) → p ≢ came.Wait → want.after ≡ other.after
    → Flows s pre other p run n → Flows s pre want p run n
flows_same s pre want other came.Done run n settled same h = record { v = h.v; is = same ∙ h.is; stacked = h.stacked; none = h.none }
flows_same s pre want other came.Wait run n settled same h = absurd (settled refl)
flows_same s pre want other came.Raised run n settled same h = record { exn = h.exn; junk = h.junk; is = same ∙ h.is; kept = h.kept; stacked = h.stacked; none = h.none }
flows_same s pre want other came.Spent run n settled same h = same ∙ h
flows_same s pre want other came.Wrong run n settled same h = same ∙ h
flows_same s pre want other came.NoMemory run n settled same h = tt

pub gave_weighed : (want : RunStep Value) (given : Result Value EvalStop) (v w : Value) (st : VisitState) → given ≡ Ok v → w ≡ v → Meets want given st
    → (and_then want weighed_value).after ≡ (weighed_value w st).after
gave_weighed want given v w st is same meets =
    let there : want.after ≡ gave v st = subst (λ r. Meets want r st) is meets in
    ap (λ a. («next» a weighed_value).after) there ∙ ap (λ x. (weighed_value x st).after) (sym same)

pub stopped_weighed : (want : RunStep Value) (given : Result Value EvalStop) (e : EvalStop) (st : VisitState) → given ≡ Err e → Meets want given st → e ≢ NoMemory
    → (and_then want weighed_value).after ≡ stopped e st
stopped_weighed want given e st is meets other =
    let there : e ≢ NoMemory → want.after ≡ stopped e st = subst (λ r. Meets want r st) is meets in
    ap (λ a. («next» a weighed_value).after) (there other)
