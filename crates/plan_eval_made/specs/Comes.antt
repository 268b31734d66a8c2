-- What is said of an expression that is evaluated, and of one that goes on.
use Rattle.std.specs.Prelude.{◌≡◌, ◌≤◌, ℕ, length, take, drop, List, [], ◌∷◌, ◌++◌, Option, Some, None}
use Rattle.plan_base.specs.declared.tree.Exn.{Exn}
use Rattle.plan_base.specs.declared.tree.Expr.{Expr}
use Rattle.plan_base.specs.declared.tree.Program.{Program}
use Rattle.plan_base.specs.declared.tree.Value.{Value}
use Rattle.service_api.specs.Services.{ServiceState}
use Rattle.plan_meaning.specs.declared.stop.EvalStop.TheVariants.{Raised}
use Rattle.plan_meaning.specs.State.{VisitState}
use Rattle.plan_meaning.specs.Run.{RunStep, gave, stopped, quiet, ◌>>=◌, wrong, or_wrong, weighed_value}
use Rattle.plan_meaning.specs.Meaning.{as_int, as_items}
use Rattle.plan_eval_state.specs.declared.continuation.Continuation.TheVariants.{Part, Try}
use Rattle.plan_eval_state.specs.declared.progress.Progress.{Progress}
use Rattle.plan_eval_state.specs.declared.run.Run.{Run}
use Rattle.plan_eval_state.specs.Forms.{folded}
use Rattle.plan_eval_state.specs.Spots.{Spot, layer, means, begins, left_behind, resume}
use Rattle.plan_eval_state.specs.Flow.{now, Flows, Spends, Lasts}
use Rattle.plan_eval_made.specs.declared.here.Here.{Here}
use Rattle.plan_eval_made.specs.Where.{spot, lowest}

-- the programs before stay where they are
pub record Grows (old new : List Program) : Type 0 where
  pub more : List Program
  pub grown : new ≡ old ++ more

-- ---- what is wanted

-- what a spot makes of the values of its first operands, which are held with the last one first; it begins where none is
abbrev pub pending : Spot → List Value → VisitState → RunStep Value
pending s [] st = begins s st
pending s (v ∷ held) st = resume s (Part (length held)) held (quiet (gave v st))

-- what a fold makes of its value so far, the number of items that were taken, and its list
abbrev pub turning : Spot → List Value → VisitState → RunStep Value
turning s (acc ∷ n ∷ l ∷ []) st =
    (or_wrong (left_behind (layer s) (as_int n) (as_items l)) >>= (λ left. folded s.code s.fun s.env (layer s) acc left >>= weighed_value)) st
turning s _ st = wrong st

-- what a `try` makes of the exception that is kept
abbrev pub rescues : Spot → ℕ → Option Exn → VisitState → RunStep Value
rescues s height (Some x) st = resume s (Try height) [] (quiet (stopped (Raised x) st))
rescues s height None st = wrong st

-- ---- how it comes

-- an expression at a spot over a stack came so far, from a visit and its services to others
pub record Comes (depth : ℕ) (s : Spot) (pre : List Value) (want : RunStep Value) (old : Run) (from : ServiceState) (p : Progress) (new : Run)
    (to : ServiceState) : Type 0 where
  pub flows : Flows s pre want p new to
  pub spends : Spends depth old.state.work p new
  pub grown : Grows old.codes new.codes
  pub offer : to.offer ≡ from.offer
  pub begun : to.begun ≡ from.begun

-- the same of one that goes on
pub record Continues (depth : ℕ) (s : Spot) (pre : List Value) (want : RunStep Value) (old : Run) (from : ServiceState) (p : Progress) (new : Run)
    (to : ServiceState) : Type 0 where
  pub flows : Flows s pre want p new to
  pub lasts : Lasts depth old.state.work p new
  pub grown : Grows old.codes new.codes
  pub offer : to.offer ≡ from.offer
  pub begun : to.begun ≡ from.begun

-- what is left of a part that ended, or of a step: it spent no more than there was, and what stands stays
pub record Keeps (old : Run) (from : ServiceState) (new : Run) (to : ServiceState) : Type 0 where
  pub falls : new.state.work ≤ old.state.work
  pub grown : Grows old.codes new.codes
  pub offer : to.offer ≡ from.offer
  pub begun : to.begun ≡ from.begun

-- ---- the same, by the place and the stack

-- what an expression means over the stack
abbrev pub meant_here : Here → Expr → Run → ServiceState → RunStep Value
meant_here here e run n = means (spot here e run.stack) (now run n)

-- what it makes of the values of its first operands, so many, which are the last on the stack
abbrev pub pending_here : Here → Expr → ℕ → Run → ServiceState → RunStep Value
pending_here here e many run n = pending (spot here e (drop many run.stack)) (take many run.stack) (now run n)

-- what a fold makes of the last three values
abbrev pub turning_here : Here → Expr → Run → ServiceState → RunStep Value
turning_here here e run n = turning (spot here e (drop 3 run.stack)) (take 3 run.stack) (now run n)

-- what a `try` that began at that height makes of the exception that is kept
abbrev pub rescued_here : Here → Expr → ℕ → Run → ServiceState → RunStep Value
rescued_here here e height run n = rescues (spot here e (lowest height run.stack)) height run.raised (now run n)

-- `evaluate`: an expression over the whole stack
abbrev pub Evaluates : Here → Expr → ℕ → Run → ServiceState → Progress → Run → ServiceState → Type 0
Evaluates here e depth old from p new to = Comes depth (spot here e old.stack) old.stack (meant_here here e old from) old from p new to

-- `form`: it goes on behind so many operands
abbrev pub GoesOnBehind : Here → Expr → ℕ → ℕ → Run → ServiceState → Progress → Run → ServiceState → Type 0
GoesOnBehind here e many depth old from p new to =
    Continues depth (spot here e (drop many old.stack)) (drop many old.stack) (pending_here here e many old from) old from p new to

-- `fold`: it takes its next item, or ends
abbrev pub FoldsOn : Here → Expr → ℕ → Run → ServiceState → Progress → Run → ServiceState → Type 0
FoldsOn here e depth old from p new to =
    Continues depth (spot here e (drop 3 old.stack)) (drop 3 old.stack) (turning_here here e old from) old from p new to

-- `caught`: a clause of the `try` takes the exception, or it goes on
abbrev pub TakesUp : Here → Expr → ℕ → ℕ → Run → ServiceState → Progress → Run → ServiceState → Type 0
TakesUp here e height depth old from p new to =
    Continues depth (spot here e (lowest height old.stack)) (lowest height old.stack) (rescued_here here e height old from) old from p new to
