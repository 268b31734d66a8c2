-- What a task of the innermost expression makes of what stands on the stack.
use Rattle.std.specs.Prelude.{◌≡◌, ◌≤◌, ℕ, length, take, drop, List, Some}
use Rattle.plan_base.specs.declared.tree.Value.{Value}
use Rattle.service_api.specs.Services.{ServiceState}
use Rattle.plan_meaning.specs.Run.{RunStep}
use Rattle.plan_meaning.specs.Safe.{IsSafe}
use Rattle.plan_eval_state.specs.declared.continuation.Activation.{Activation}
use Rattle.plan_eval_state.specs.declared.continuation.Continuation.{Continuation}
use Rattle.plan_eval_state.specs.declared.progress.Progress.{Progress}
use Rattle.plan_eval_state.specs.declared.run.Run.{Run}
use Rattle.plan_eval_state.specs.Forms.{operands}
use Rattle.plan_eval_state.specs.Spots.{Spot, layer, means, HasEnv, IsOpen}
use Rattle.plan_eval_state.specs.Flow.{now, Flows, Spends, Lasts}
use Rattle.plan_eval_state.specs.Loop.{bare}
use Rattle.plan_eval_made.specs.Where.{lowest}
use Rattle.plan_eval_made.specs.Comes.{Grows, pending, turning, rescues}
use Rattle.plan_eval.specs.declared.task.Task.{Task}
use Rattle.plan_eval.specs.declared.task.Task.TheVariants as task
use Rattle.plan_eval.specs.Walk.{innermost}

-- how many levels of evaluation stand on the native stack at once
abbrev pub native_depth : ℕ
native_depth = 256

-- the stack below the values that a task takes up
abbrev pub below : Task → List Value → List Value
below task.Begin stack = stack
below (task.Behind n) stack = drop n stack
below task.Fold stack = drop 3 stack
below (task.Catch height) stack = lowest height stack

-- its values are there
abbrev pub Fits : Task → Spot → List Value → Type 0
Fits task.Begin s stack = Unit {0}
Fits (task.Behind n) s stack = (n ≤ length stack) × (n ≤ length (operands (layer s)))
Fits task.Fold s stack = 3 ≤ length stack
Fits (task.Catch height) s stack = height ≤ length stack

-- what a spot makes of it
abbrev pub wanted : Task → Spot → Run → ServiceState → RunStep Value
wanted task.Begin s run n = means s (now run n)
wanted (task.Behind many) s run n = pending s (take many run.stack) (now run n)
wanted task.Fold s run n = turning s (take 3 run.stack) (now run n)
wanted (task.Catch height) s run n = rescues s height run.raised (now run n)

-- the work that it spends
abbrev pub Performs : Task → ℕ → Progress → Run → Type 0
Performs task.Begin old p run = Spends native_depth old p run
Performs _ old p run = Lasts native_depth old p run

-- the innermost spot, which has such a task and asks nothing amiss
pub record Innermost (a : Activation) (conts : List Continuation) (t : Task) (s : Spot) (run : Run) (n : ServiceState) : Type 0 where
  pub found : innermost run.codes a conts ≡ Some (bare s)
  pub opened : IsOpen run.codes s
  pub env : HasEnv s (below t run.stack)
  pub fits : Fits t s run.stack
  pub safe : IsSafe (wanted t s run n).asks

-- there is one
pub record HasInnermost (a : Activation) (conts : List Continuation) (t : Task) (run : Run) (n : ServiceState) : Type 0 where
  pub at : Spot
  pub is : Innermost a conts t at run n

-- what a task of a spot does
pub record Does (t : Task) (s : Spot) (old : Run) (n : ServiceState) (p : Progress) (new : Run) (m : ServiceState) : Type 0 where
  pub flows : Flows s (below t old.stack) (wanted t s old n) p new m
  pub performs : Performs t old.state.work p new
  pub grown : Grows old.codes new.codes
  pub offer : m.offer ≡ n.offer
  pub begun : m.begun ≡ n.begun
