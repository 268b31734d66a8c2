-- What waits on the second stack, over plain variables.
use Rattle.std.proofs.Common.{◌≡◌, ◌+◌, List, [], ◌∷◌, ◌++◌, length, refl, sym, ◌∙◌, subst, arith}
use Rattle.plan_base.specs.declared.tree.Program.{Program}
use Rattle.plan_base.specs.declared.tree.Value.{Value}
use Rattle.service_api.specs.Services.{ServiceState}
use Rattle.plan_meaning.specs.declared.stop.EvalStop.{EvalStop}
use Rattle.plan_meaning.specs.State.{VisitState}
use Rattle.plan_meaning.specs.Run.{RunStep, stopped}
use Rattle.plan_meaning.specs.Safe.{IsSafe}
use Rattle.plan_eval_state.specs.declared.continuation.Continuation.{Continuation}
use Rattle.plan_eval_state.specs.declared.progress.Progress.{Progress}
use Rattle.plan_eval_state.specs.declared.progress.Progress.TheVariants as came
use Rattle.plan_eval_state.specs.declared.run.Run.{Run}
use Rattle.plan_eval_state.specs.Leads.{Leads}
use Rattle.plan_eval_state.specs.Spots.{Spot, means, IsOpen, HasEnv, resume}
use Rattle.plan_eval_state.specs.Flow.{now, Waits, Flows, PassesOn, PassesBy}
use Rattle.plan_eval_state.specs.Loop.{onto, Stands, Holds, Runs, Begun}
use Rattle.plan_eval_state.proofs.Leading.{onward}
use Rattle.plan_eval_state.proofs.Going.{stopped_in, resumed_along}
use Rattle.plan_eval_state.proofs.Stepping.{step_open, step_grown}
use Rattle.plan_eval_state.proofs.Flowing.{safe_inside, flows_led, thrown_deeper}

-- ---- one spot's end for another

pub stands_led : (codes : List Program) (first : Spot) (pre : List Value) (top : RunStep Value) (ks : List Continuation) (stack : List Value) (s : Spot) (want other : RunStep Value)
    → Leads want other → Stands codes first pre top ks stack s want → Stands codes first pre top ks stack s other
stands_led codes first pre top [] stack s want other l h = (h.0, h.1, onward _ _ _ h.2 l)
stands_led codes first pre top (k ∷ ks) stack s want other l h =
    record {
      outer = h.outer;
      held = h.held;
      low = h.low;
      wider = h.wider;
      steps = h.steps;
      leads = onward _ _ _ h.leads (resumed_along h.outer k h.held want other l);
      stacked = h.stacked;
      opened = h.opened;
      env = h.env;
      height = h.height;
      under = h.under;
    }

-- where the whole asks nothing amiss, no spot does
pub stands_safe : (codes : List Program) (first : Spot) (pre : List Value) (top : RunStep Value) (ks : List Continuation) (stack : List Value) (s : Spot) (want : RunStep Value)
    → Stands codes first pre top ks stack s want → IsSafe top.asks → IsSafe want.asks
stands_safe codes first pre top [] stack s want h safe = h.2.safe safe
stands_safe codes first pre top (k ∷ ks) stack s want h safe =
    safe_inside h.outer k h.held want (h.leads.safe (stands_safe codes first pre top ks h.low h.outer h.wider h.under safe))

pub stands_grown : (codes more : List Program) (first : Spot) (pre : List Value) (top : RunStep Value) (ks : List Continuation) (stack : List Value) (s : Spot) (want : RunStep Value)
    → ((t : Spot) → IsOpen codes t → IsOpen (codes ++ more) t) → Stands codes first pre top ks stack s want → Stands (codes ++ more) first pre top ks stack s want
stands_grown codes more first pre top [] stack s want keeps h = h
stands_grown codes more first pre top (k ∷ ks) stack s want keeps h =
    record {
      outer = h.outer;
      held = h.held;
      low = h.low;
      wider = h.wider;
      steps = step_grown codes more h.outer k h.held s h.steps;
      leads = h.leads;
      stacked = h.stacked;
      opened = keeps h.outer h.opened;
      env = h.env;
      height = h.height;
      under = stands_grown codes more first pre top ks h.low h.outer h.wider keeps h.under;
    }

-- ---- what waits goes onto the second stack

pub begun_onto : (codes : List Program) (first : Spot) (pre : List Value) (top : RunStep Value) (ks to : List Continuation) (stack low : List Value) (s : Spot) (want : RunStep Value) (st : VisitState)
    → Stands codes first pre top to low s want → IsOpen codes s → HasEnv s low → Waits codes s ks stack low want st → Begun codes first pre top (onto ks to) stack st
begun_onto codes first pre top [] to stack low s want st stands is_open at h =
    record {
      at = s;
      stands = subst (λ l. Stands codes first pre top to l s (means s st)) (sym h.0) (stands_led codes first pre top to low s want (means s st) h.1 stands);
      opened = is_open;
      env = subst (HasEnv s) (sym h.0) at;
    }
begun_onto codes first pre top (k ∷ ks) to stack low s want st stands is_open at h =
    let on : Stands codes first pre top (k ∷ to) (h.held ++ low) h.next h.inner =
    record { outer = s; held = h.held; low = low; wider = want; steps = h.steps; leads = h.leads; stacked = refl; opened = is_open; env = at; height = h.height; under = stands } in
    begun_onto codes first pre top ks (k ∷ to) stack (h.held ++ low) h.next h.inner st on (step_open codes s k h.held h.next h.steps is_open) h.env h.goes

-- ---- what stops in a part

-- what spends all work, or is without a case, inside does so outside
pub all_stop : (codes : List Program) (first : Spot) (pre : List Value) (top : RunStep Value) (ks : List Continuation) (stack : List Value) (s : Spot) (want : RunStep Value) (e : EvalStop) (st : VisitState)
    → ((k : Continuation) → PassesOn k e) → Stands codes first pre top ks stack s want → IsSafe top.asks → want.after ≡ stopped e st → top.after ≡ stopped e st
all_stop codes first pre top [] stack s want e st passes h safe is = h.2.same safe ∙ is
all_stop codes first pre top (k ∷ ks) stack s want e st passes h safe is =
    all_stop codes first pre top ks h.low h.outer h.wider e st passes h.under safe
    (h.leads.same (stands_safe codes first pre top ks h.low h.outer h.wider h.under safe) ∙ stopped_in h.outer k h.held want e st (passes k) is)

-- an exception passes what isn't a `try`
pub raised_out : (first : Spot) (pre : List Value) (top : RunStep Value) (k : Continuation) (ks : List Continuation) (run : Run) (n : ServiceState) → PassesBy k came.Raised → IsSafe top.asks
    → Runs first pre top (k ∷ ks) came.Raised run n → Runs first pre top ks came.Raised run n
raised_out first pre top k ks run n passes safe r =
    let a = r.stands in
    let wide = stands_safe run.codes first pre top ks a.low a.outer a.wider a.under safe in
    let there = subst (λ l. Flows r.at l r.want came.Raised run n) a.stacked r.flows in
    record {
      at = a.outer;
      low = a.low;
      want = a.wider;
      stands = a.under;
      opened = a.opened;
      env = a.env;
      flows = flows_led a.outer a.low a.wider (resume a.outer k a.held r.want) came.Raised run n wide a.leads (thrown_deeper a.outer k a.held a.low r.want run (now run n) passes there);
    }

-- ---- the turns

pub as_runs : (first : Spot) (pre : List Value) (top : RunStep Value) (ks : List Continuation) (p : Progress) (run : Run) (n : ServiceState) → Holds first pre top ks p run n → Runs first pre top ks p run n
as_runs first pre top ks came.Done run n h = h
as_runs first pre top ks came.Wait run n h = h
as_runs first pre top ks came.Raised run n h = h
as_runs first pre top ks came.Spent run n h = h
as_runs first pre top ks came.Wrong run n h = h
as_runs first pre top ks came.NoMemory run n h = tt

-- what waits can be begun
pub wakes : (first : Spot) (pre : List Value) (top : RunStep Value) (ks : List Continuation) (run : Run) (n : ServiceState) → Runs first pre top ks came.Wait run n
    → Begun run.codes first pre top (onto run.paused ks) run.stack (now run n)
wakes first pre top ks run n r = begun_onto run.codes first pre top run.paused ks run.stack r.low r.at r.want (now run n) r.stands r.opened r.env r.flows

-- the innermost spot, begun, came so far
pub woken : (codes : List Program) (first : Spot) (pre : List Value) (top : RunStep Value) (ks : List Continuation) (stack : List Value) (st : VisitState) (b : Begun codes first pre top ks stack st)
    (p : Progress) (run : Run) (n : ServiceState) → Stands run.codes first pre top ks stack b.at (means b.at st) → IsOpen run.codes b.at
    → Flows b.at stack (means b.at st) p run n → Runs first pre top ks p run n
woken codes first pre top ks stack st b p run n stands is_open h = as_runs first pre top ks p run n (record { at = b.at; low = stack; want = means b.at st; stands = stands; opened = is_open; env = b.env; flows = h })

-- ---- the end

-- a spot that stands alone is the whole
pub whole_ends : (codes : List Program) (first : Spot) (pre : List Value) (top : RunStep Value) (stack : List Value) (s : Spot) (want : RunStep Value) (p : Progress) (run : Run) (n : ServiceState)
    → Stands codes first pre top [] stack s want → IsSafe top.asks → Flows s stack want p run n → Flows first pre top p run n
whole_ends codes first pre top stack s want p run n stands safe h =
    flows_led first pre top want p run n safe stands.2
    (subst (λ (t : Spot). Flows t pre want p run n) stands.0 (subst (λ l. Flows s l want p run n) stands.1 h))

pub length_onto : {A : Type 0} (ks to : List A) → length (onto ks to) ≡ length ks + length to
length_onto [] to = omega arith
length_onto (k ∷ ks) to = omega (arith, length_onto ks (k ∷ to))
