-- What is said of the chunk of an `eval` that is opened.
use Rattle.std.specs.Prelude.{◌≡◌, ◌≢◌, ◌≤◌, ℕ, min, length, reverse, slice_get, List, [], ◌∷◌, ◌++◌, Some}
use Rattle.plan_base.specs.declared.tree.Chunk.{Chunk}
use Rattle.plan_base.specs.declared.tree.Expr.{Expr, Expr-F}
use Rattle.plan_base.specs.declared.tree.Fun.{Fun}
use Rattle.plan_base.specs.declared.tree.Value.{Value}
use Rattle.plan_base.specs.Sizes.{code_size}
use Rattle.plan_types_spec.specs.TypingNames.{place_of}
use Rattle.service_api.specs.Services.{ServiceState}
use Rattle.plan_meaning.specs.declared.stop.EvalStop.TheVariants.{Wrong}
use Rattle.plan_meaning.specs.State.{VisitState}
use Rattle.plan_meaning.specs.Run.{gave, stopped}
use Rattle.plan_meaning.specs.Meaning.{meaning, as_chunk, pay_eval, visited_chunk}
use Rattle.plan_eval_state.specs.declared.progress.Progress.{Progress}
use Rattle.plan_eval_state.specs.declared.progress.Progress.TheVariants as came
use Rattle.plan_eval_state.specs.declared.run.Run.{Run}
use Rattle.plan_eval_state.specs.Spots.{Spot, layer}
use Rattle.plan_eval_state.specs.Flow.{now}
use Rattle.plan_eval_made.specs.declared.opening.Opened.{Opened}
use Rattle.plan_eval_made.specs.Comes.{Grows}
use Rattle.plan_eval_made.specs.Makes.{Makes}

-- the entry of a chunk stands at that place of its program, and takes so many arguments
pub record Admits (k : Chunk) (fun : ℕ) : Type 0 where
  pub function : Fun
  pub place : place_of k.entry k.code.funs ≡ Some fun
  pub there : slice_get k.code.funs fun ≡ Some function
  pub many : length function.params ≡ length k.args

-- there is no such entry
abbrev pub HasNoEntry : Chunk → Type 0
HasNoEntry k = (st : VisitState) → (visited_chunk meaning k st).after ≡ stopped Wrong st

-- the program of a chunk is open, and its arguments stand over a stack
pub record IsOpened (k : Chunk) (fun : ℕ) (pre : List Value) (o : Opened) (new : Run) : Type 0 where
  pub place : o.fun ≡ fun
  pub same : o.code ≡ k.code
  pub size : o.size ≡ min (code_size k.code) 18446744073709551615
  pub program : slice_get new.codes o.number ≡ Some k.code
  pub base : o.base ≡ length pre
  pub stacked : new.stack ≡ reverse k.args ++ pre

-- values and programs alone changed, and the programs before stay
pub record Widens (old new : Run) : Type 0 where
  pub state : new.state ≡ old.state
  pub paused : new.paused ≡ old.paused
  pub grown : Grows old.codes new.codes

-- the value on top is a chunk whose eval was paid
pub record Pays (v : Value) (pre : List Value) (old : Run) (k : Chunk) (new : Run) : Type 0 where
  pub is : as_chunk v ≡ Some k
  pub paid : (n : ServiceState) → (pay_eval (now old n)).after ≡ gave tt (now new n)
  pub stacked : new.stack ≡ pre
  pub paused : new.paused ≡ old.paused

-- no program was opened, and no work came back
pub record Spent (old new : Run) : Type 0 where
  pub falls : new.state.work ≤ old.state.work
  pub codes : new.codes ≡ old.codes

-- the value on top is a chunk whose eval was paid, its program is open, and its arguments stand in its place
pub record Opens (v : Value) (pre : List Value) (old : Run) (o : Opened) (new : Run) : Type 0 where
  pub chunk : Chunk
  pub is : as_chunk v ≡ Some chunk
  pub paid : (n : ServiceState) → (pay_eval (now old n)).after ≡ gave tt (now new n)
  pub entry : Admits chunk o.fun
  pub opened : IsOpened chunk o.fun pre o new
  pub bare : new.paused ≡ []

-- an `eval` with its chunk on top ends so
pub record Refuses (old : Run) (p : Progress) (new : Run) : Type 0 where
  pub settled : p ≢ came.Wait
  pub made : (s : Spot) (a : Expr) → layer s ≡ Expr-F.Eval a → Makes s old p new
