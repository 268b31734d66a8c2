-- How far an evaluation came, and what waits.
use Rattle.std.specs.Prelude.{◌≡◌, ℕ, ◌+◌, ◌≤◌, ◌<◌, List, [], ◌∷◌, ◌++◌, length, Some}
use Rattle.plan_base.specs.declared.tree.Exn.{Exn}
use Rattle.plan_base.specs.declared.tree.Program.{Program}
use Rattle.plan_base.specs.declared.tree.Value.{Value}
use Rattle.service_api.specs.Services.{ServiceState}
use Rattle.plan_meaning.specs.declared.stop.EvalStop.{EvalStop}
use Rattle.plan_meaning.specs.declared.stop.EvalStop.TheVariants as stop
use Rattle.plan_meaning.specs.State.{VisitState, joined_state}
use Rattle.plan_meaning.specs.Run.{RunStep, gave, stopped}
use Rattle.plan_eval_state.specs.declared.continuation.Continuation.{Continuation}
use Rattle.plan_eval_state.specs.declared.continuation.Continuation.TheVariants.{Try}
use Rattle.plan_eval_state.specs.declared.progress.Progress.{Progress}
use Rattle.plan_eval_state.specs.declared.progress.Progress.TheVariants as came
use Rattle.plan_eval_state.specs.declared.run.Run.{Run}
use Rattle.plan_eval_state.specs.Leads.{Leads}
use Rattle.plan_eval_state.specs.Spots.{Spot, means, HasEnv, HasHeight, step, resume}

-- the state of the visit, where the services stand so
abbrev pub now : Run → ServiceState → VisitState
now run n = joined_state run.state n

-- a spot over a stack waits so, and what it waits for goes on at the next spot
pub record Deeper (codes : List Program) (s : Spot) (k : Continuation) (pre : List Value) (want : RunStep Value)
    (goes_on : Spot → List Value → RunStep Value → Type 0) : Type 0 where
  pub held : List Value
  pub next : Spot
  pub inner : RunStep Value
  pub steps : step codes s k held ≡ Some next
  pub env : HasEnv next (held ++ pre)
  pub height : HasHeight k (length pre)
  pub leads : Leads want (resume s k held inner)
  pub goes : goes_on next (held ++ pre) inner

-- what waits at a spot over a stack, the outermost first: the innermost spot is to be evaluated
abbrev pub Waits : List Program → Spot → List Continuation → List Value → List Value → RunStep Value → VisitState → Type 0
Waits codes s [] stack pre want st = (stack ≡ pre) × Leads want (means s st)
Waits codes s (k ∷ ks) stack pre want st = Deeper codes s k pre want (λ next low inner. Waits codes next ks stack low inner st)

-- it gave the last value of the stack
pub record Given (pre : List Value) (want : RunStep Value) (run : Run) (st : VisitState) : Type 0 where
  pub v : Value
  pub is : want.after ≡ gave v st
  pub stacked : run.stack ≡ v ∷ pre
  pub none : run.paused ≡ []

-- it raised the exception that is kept; what it left on the stack stands on what was there
pub record Thrown (pre : List Value) (want : RunStep Value) (run : Run) (st : VisitState) : Type 0 where
  pub exn : Exn
  pub junk : List Value
  pub is : want.after ≡ stopped (stop.Raised exn) st
  pub kept : run.raised ≡ Some exn
  pub stacked : run.stack ≡ junk ++ pre
  pub none : run.paused ≡ []

-- how far an expression at a spot over a stack came; of running out of memory nothing is said
abbrev pub Flows : Spot → List Value → RunStep Value → Progress → Run → ServiceState → Type 0
Flows s pre want came.Done run n = Given pre want run (now run n)
Flows s pre want came.Wait run n = Waits run.codes s run.paused run.stack pre want (now run n)
Flows s pre want came.Raised run n = Thrown pre want run (now run n)
Flows s pre want came.Spent run n = want.after ≡ stopped stop.WorkSpent (now run n)
Flows s pre want came.Wrong run n = want.after ≡ stopped stop.Wrong (now run n)
Flows s pre want came.NoMemory run n = Unit {0}

-- a stop that isn't taken up by what waits so: a `try` takes up exceptions
abbrev pub PassesOn : Continuation → EvalStop → Type 0
PassesOn (Try h) (stop.Raised x) = ⊥
PassesOn k e = Unit {0}

-- what ended so isn't taken up by what waits so: a `try` takes up what was raised
abbrev pub PassesBy : Continuation → Progress → Type 0
PassesBy (Try h) came.Raised = ⊥
PassesBy k p = Unit {0}

-- ---- work

-- an expression that begins spends no less than what it leaves to be done
abbrev pub Spends : ℕ → ℕ → Progress → Run → Type 0
Spends depth old came.Wait run = (length run.paused + run.state.work ≤ old) × (0 < depth → run.state.work < old)
Spends depth old _ run = run.state.work ≤ old

-- one that goes on may leave one continuation more
abbrev pub Lasts : ℕ → ℕ → Progress → Run → Type 0
Lasts depth old came.Wait run = (length run.paused + run.state.work ≤ old + 1) × (run.state.work ≤ old) × (0 < depth → run.state.work < old)
Lasts depth old _ run = run.state.work ≤ old
