-- What a turn of a visit does, and how the whole ends.
use Rattle.std.specs.Prelude.{◌≡◌, ◌<◌, List, [], length, slice_get, Some}
use Rattle.plan_base.specs.declared.tree.Program.{Program}
use Rattle.plan_base.specs.declared.tree.Value.{Value}
use Rattle.service_api.specs.Services.{ServiceState}
use Rattle.plan_meaning.specs.declared.stop.EvalStop.TheVariants as stop
use Rattle.plan_meaning.specs.State.{VisitState}
use Rattle.plan_meaning.specs.Run.{RunStep, stopped}
use Rattle.plan_meaning.specs.Safe.{IsSafe}
use Rattle.plan_eval_state.specs.declared.continuation.Activation.{Activation}
use Rattle.plan_eval_state.specs.declared.continuation.Continuation.{Continuation}
use Rattle.plan_eval_state.specs.declared.progress.Progress.{Progress}
use Rattle.plan_eval_state.specs.declared.progress.Progress.TheVariants as came
use Rattle.plan_eval_state.specs.declared.run.Run.{Run}
use Rattle.plan_eval_state.specs.Spots.{Spot}
use Rattle.plan_eval_state.specs.Flow.{now, Given, Thrown}
use Rattle.plan_eval_state.specs.Loop.{Runs, bare, body_site, load}
use Rattle.plan_eval_made.specs.Comes.{Grows}

-- the body of an activation is where an evaluation began
abbrev pub Begins : Activation → Spot → List Program → Type 0
Begins a first codes = body_site a (slice_get codes a.number) ≡ Some (bare first)

-- an evaluation that asks nothing amiss and began there came so far
pub record Going (a : Activation) (conts : List Continuation) (p : Progress) (run : Run) (n : ServiceState) : Type 0 where
  pub first : Spot
  pub pre : List Value
  pub top : RunStep Value
  pub begins : Begins a first run.codes
  pub safe : IsSafe top.asks
  pub runs : Runs first pre top conts p run n

-- a turn leads from one state of the loop to another, with less to be done
pub record Turned (a : Activation) (from to : List Continuation) (p q : Progress) (old new : Run) (n m : ServiceState) : Type 0 where
  pub runs : (first : Spot) (pre : List Value) (top : RunStep Value) → Begins a first old.codes → IsSafe top.asks → Runs first pre top from p old n
      → Runs first pre top to q new m
  pub less : load q (length to) new < load p (length from) old
  pub grown : Grows old.codes new.codes
  pub offer : m.offer ≡ n.offer
  pub begun : m.begun ≡ n.begun

-- the loop, which began so: each evaluation that came so far then comes so far now
pub record Loops (a : Activation) (came : Progress) (begun_run : Run) (from : ServiceState) (conts : List Continuation) (p : Progress) (run : Run)
    (n : ServiceState) : Type 0 where
  pub going : Going a conts p run n
  pub runs : (first : Spot) (pre : List Value) (top : RunStep Value) → Begins a first begun_run.codes → IsSafe top.asks
      → Runs first pre top [] came begun_run from → Begins a first run.codes × Runs first pre top conts p run n
  pub offer : n.offer ≡ from.offer
  pub begun : n.begun ≡ from.begun

-- how a whole evaluation ended over a stack; of running out of memory nothing is said
abbrev pub Ends : List Value → RunStep Value → Progress → Run → ServiceState → Type 0
Ends pre want came.Done run n = Given pre want run (now run n)
Ends pre want came.Wait run n = ⊥
Ends pre want came.Raised run n = Thrown pre want run (now run n)
Ends pre want came.Spent run n = want.after ≡ stopped stop.WorkSpent (now run n)
Ends pre want came.Wrong run n = want.after ≡ stopped stop.Wrong (now run n)
Ends pre want came.NoMemory run n = Unit {0}

-- it ended so for some evaluation that has a case for all that it meets
pub record IsRightEnd (p : Progress) (run : Run) : Type 0 where
  pub pre : List Value
  pub want : RunStep Value
  pub services : ServiceState
  pub ends : Ends pre want p run services
  pub right : (s : VisitState) → want.after ≡ stopped stop.Wrong s → ⊥
