-- How far an evaluation came, as it leads on and as it waits deeper.
use Rattle.std.proofs.Common.{◌≡◌, ◌≢◌, List, [], ◌∷◌, ◌++◌, length, Some, refl, sym, ◌∙◌, subst}
use Rattle.std.proofs.lemmas.List.{append_assoc}
use Rattle.plan_base.specs.declared.tree.Exn.{Exn}
use Rattle.plan_base.specs.declared.tree.Program.{Program}
use Rattle.plan_base.specs.declared.tree.Value.{Value}
use Rattle.service_api.specs.Services.{ServiceState}
use Rattle.plan_meaning.specs.declared.stop.EvalStop.{EvalStop}
use Rattle.plan_meaning.specs.declared.stop.EvalStop.TheVariants as stop
use Rattle.plan_meaning.specs.State.{VisitState}
use Rattle.plan_meaning.specs.Run.{RunStep}
use Rattle.plan_meaning.specs.Safe.{IsSafe}
use Rattle.plan_eval_state.specs.declared.continuation.Continuation.{Continuation}
use Rattle.plan_eval_state.specs.declared.continuation.Continuation.TheVariants.{Part, Last, Try, Bound, Call, Step, Chunk}
use Rattle.plan_eval_state.specs.declared.progress.Progress.{Progress}
use Rattle.plan_eval_state.specs.declared.progress.Progress.TheVariants as came
use Rattle.plan_eval_state.specs.declared.run.Run.{Run}
use Rattle.plan_eval_state.specs.Leads.{Leads}
use Rattle.plan_eval_state.specs.Spots.{Spot, HasEnv, HasHeight, step, resume}
use Rattle.plan_eval_state.specs.Flow.{now, Waits, Thrown, Flows, PassesOn, PassesBy}
use Rattle.plan_eval_state.proofs.Leading.{onward}
use Rattle.plan_eval_state.proofs.Going.{stopped_in}
use Rattle.plan_eval_state.proofs.Stepping.{step_sees, step_grown}

-- what a whole asks, its part asks
pub safe_inside : (s : Spot) (k : Continuation) (held : List Value) (r : RunStep Value) → IsSafe (resume s k held r).asks → IsSafe r.asks
safe_inside s (Part n) held r h = h.0
safe_inside s (Last n) held r h = h.0
safe_inside s (Try i) held r h = h.0.0
safe_inside s (Bound i) held r h = h.0
safe_inside s (Call a) held r h = h.0
safe_inside s (Step a) held r h = h.0
safe_inside s (Chunk a) held r h = h.0

-- ---- what leads to an evaluation that came so far came so far

waits_led : (codes : List Program) (s : Spot) (ks : List Continuation) (stack pre : List Value) (want other : RunStep Value) (st : VisitState) → Leads want other
    → Waits codes s ks stack pre other st → Waits codes s ks stack pre want st
waits_led codes s [] stack pre want other st l h = (h.0, onward _ _ _ l h.1)
waits_led codes s (k ∷ ks) stack pre want other st l h =
    record { held = h.held; next = h.next; inner = h.inner; steps = h.steps; env = h.env; height = h.height; leads = onward _ _ _ l h.leads; goes = h.goes }

pub flows_led : (s : Spot) (pre : List Value) (want other : RunStep Value) (p : Progress) (run : Run) (n : ServiceState) → IsSafe want.asks → Leads want other
    → Flows s pre other p run n → Flows s pre want p run n
flows_led s pre want other came.Done run n safe l h = record { v = h.v; is = l.same safe ∙ h.is; stacked = h.stacked; none = h.none }
flows_led s pre want other came.Wait run n safe l h = waits_led run.codes s run.paused run.stack pre want other (now run n) l h
flows_led s pre want other came.Raised run n safe l h = record { exn = h.exn; junk = h.junk; is = l.same safe ∙ h.is; kept = h.kept; stacked = h.stacked; none = h.none }
flows_led s pre want other came.Spent run n safe l h = l.same safe ∙ h
flows_led s pre want other came.Wrong run n safe l h = l.same safe ∙ h
flows_led s pre want other came.NoMemory run n safe l h = tt

-- ---- what waits inside waits outside, behind one more continuation

pub waits_deeper : (codes : List Program) (s next : Spot) (k : Continuation) (held pre stack : List Value) (inner : RunStep Value) (ks : List Continuation) (st : VisitState)
    → step codes s k held ≡ Some next → HasEnv s pre → HasHeight k (length pre) → Waits codes next ks stack (held ++ pre) inner st
    → Waits codes s (k ∷ ks) stack pre (resume s k held inner) st
waits_deeper codes s next k held pre stack inner ks st steps at height goes =
    record {
      held = held;
      next = next;
      inner = inner;
      steps = steps;
      env = step_sees codes s k held pre next steps at height;
      height = height;
      leads = record { same = λ _. refl; safe = λ h. h };
      goes = goes;
    }

pub flows_back : (run : Run) (s next : Spot) (k : Continuation) (held pre : List Value) (inner : RunStep Value) (p : Progress) (n : ServiceState)
    → step run.codes s k held ≡ Some next → HasEnv s pre → HasHeight k (length pre) → p ≡ came.Wait → Flows next (held ++ pre) inner p run n
    → Waits run.codes s (k ∷ run.paused) run.stack pre (resume s k held inner) (now run n)
flows_back run s next k held pre inner p n steps at height is flows =
    waits_deeper run.codes s next k held pre run.stack inner run.paused (now run n) steps at height (subst (λ p. Flows next (held ++ pre) inner p run n) is flows)

-- ---- what stopped inside stopped outside

passes_raised : (k : Continuation) (x : Exn) → PassesBy k came.Raised → PassesOn k (stop.Raised x)
passes_raised (Part n) x h = tt
passes_raised (Last n) x h = tt
passes_raised (Try i) x h = h
passes_raised (Bound i) x h = tt
passes_raised (Call a) x h = tt
passes_raised (Step a) x h = tt
passes_raised (Chunk a) x h = tt

passes_other : (k : Continuation) (e : EvalStop) → ((x : Exn) → e ≢ stop.Raised x) → PassesOn k e
passes_other (Part n) e h = tt
passes_other (Last n) e h = tt
passes_other (Try i) (stop.Raised x) h = absurd (h x refl)
passes_other (Try i) stop.WorkSpent h = tt
passes_other (Try i) stop.Wrong h = tt
passes_other (Try i) stop.NoMemory h = tt
passes_other (Bound i) e h = tt
passes_other (Call a) e h = tt
passes_other (Step a) e h = tt
passes_other (Chunk a) e h = tt

pub spent_passes : (k : Continuation) → PassesOn k stop.WorkSpent
spent_passes k = passes_other k stop.WorkSpent (λ x h. cc)

pub wrong_passes : (k : Continuation) → PassesOn k stop.Wrong
wrong_passes k = passes_other k stop.Wrong (λ x h. cc)

pub thrown_deeper : (s : Spot) (k : Continuation) (held pre : List Value) (inner : RunStep Value) (run : Run) (st : VisitState) → PassesBy k came.Raised → Thrown (held ++ pre) inner run st
    → Thrown pre (resume s k held inner) run st
thrown_deeper s k held pre inner run st passes h =
    record {
      exn = h.exn;
      junk = h.junk ++ held;
      is = stopped_in s k held inner (stop.Raised h.exn) st (passes_raised k h.exn passes) h.is;
      kept = h.kept;
      stacked = h.stacked ∙ sym (append_assoc h.junk held pre);
      none = h.none;
    }

-- what stopped inside stopped outside
pub flows_stop : (s next : Spot) (k : Continuation) (held pre : List Value) (inner : RunStep Value) (p : Progress) (run : Run) (n : ServiceState)
    → p ≢ came.Done → p ≢ came.Wait → PassesBy k p → Flows next (held ++ pre) inner p run n → Flows s pre (resume s k held inner) p run n
flows_stop s next k held pre inner came.Done run n d w passes h = absurd (d refl)
flows_stop s next k held pre inner came.Wait run n d w passes h = absurd (w refl)
flows_stop s next k held pre inner came.Raised run n d w passes h = thrown_deeper s k held pre inner run (now run n) passes h
flows_stop s next k held pre inner came.Spent run n d w passes h = stopped_in s k held inner stop.WorkSpent (now run n) (spent_passes k) h
flows_stop s next k held pre inner came.Wrong run n d w passes h = stopped_in s k held inner stop.Wrong (now run n) (wrong_passes k) h
flows_stop s next k held pre inner came.NoMemory run n d w passes h = tt

-- ---- more programs

pub waits_grown : (codes more : List Program) (s : Spot) (ks : List Continuation) (stack pre : List Value) (want : RunStep Value) (st : VisitState)
    → Waits codes s ks stack pre want st → Waits (codes ++ more) s ks stack pre want st
waits_grown codes more s [] stack pre want st h = h
waits_grown codes more s (k ∷ ks) stack pre want st h =
    record {
      held = h.held;
      next = h.next;
      inner = h.inner;
      steps = step_grown codes more s k h.held h.next h.steps;
      env = h.env;
      height = h.height;
      leads = h.leads;
      goes = waits_grown codes more h.next ks stack (h.held ++ pre) h.inner st h.goes;
    }
