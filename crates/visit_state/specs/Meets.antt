-- How an answer follows the meaning.
use Rattle.std.specs.Prelude.{◌≡◌, ◌≢◌, Result, Ok, Err}
use Rattle.plan_base.specs.declared.tree.Exn.{Exn}
use Rattle.plan_base.specs.declared.tree.Value.{Value}
use Rattle.plan_types_spec.specs.Rules.{Given, gives, raises, unfit, limited_value}
use Rattle.remote_calls.specs.declared.fault.SendFault.{SendFault}
use Rattle.remote_calls.specs.declared.fault.SendFault.TheVariants as fault
use Rattle.plan_types_spec.specs.Rules.{no_service, too_large}
use Rattle.plan_meaning.specs.declared.stop.EvalStop.{EvalStop}
use Rattle.plan_meaning.specs.declared.stop.EvalStop.TheVariants.{Raised, WorkSpent, Wrong, NoMemory}
use Rattle.plan_meaning.specs.State.{VisitState}
use Rattle.visit_state.specs.declared.weighing.Weighing.{Weighing}
use Rattle.visit_state.specs.declared.weighing.Weighing.TheVariants.{Paid, Spent, TooLarge}
use Rattle.plan_meaning.specs.Meaning.{no_bound, no_route, not_neighbour}
use Rattle.plan_meaning.specs.Run.{gave, stopped, RunStep}

-- the value and the state, or the stop and the state; of running out of memory nothing is said
abbrev pub Meets : {A : Type 0} → RunStep A → Result A EvalStop → VisitState → Type 0
Meets want (Ok a) new = want.after ≡ gave a new
Meets want (Err e) new = e ≢ NoMemory → want.after ≡ stopped e new

-- whether the weight of a value was spent
abbrev pub Weighs : RunStep Value → Value → Weighing → VisitState → Type 0
Weighs want v Paid new = want.after ≡ gave v new
Weighs want v Spent new = want.after ≡ stopped WorkSpent new
Weighs want v TooLarge new = want.after ≡ stopped (Raised too_large) new

-- the same of an operator or a primitive
abbrev pub MeetsGiven : Given → Result Value EvalStop → Type 0
MeetsGiven want (Ok v) = want ≡ gives v
MeetsGiven want (Err (Raised x)) = want ≡ raises x
MeetsGiven want (Err Wrong) = want ≡ unfit
MeetsGiven want (Err NoMemory) = Unit {0}
MeetsGiven want (Err _) = ⊥

-- the same of a value that is not weighed yet
abbrev pub MeetsUnweighed : Given → Result Value EvalStop → Type 0
MeetsUnweighed want (Ok v) = want ≡ limited_value v
MeetsUnweighed want (Err (Raised x)) = want ≡ raises x
MeetsUnweighed want (Err Wrong) = want ≡ unfit
MeetsUnweighed want (Err NoMemory) = Unit {0}
MeetsUnweighed want (Err _) = ⊥

-- the exception, or running out of memory
abbrev pub RaisesOnly : Exn → EvalStop → Type 0
RaisesOnly x e = e ≢ NoMemory → e ≡ Raised x

-- how a refused send stops an evaluation
abbrev pub StopsBy : SendFault → EvalStop → Type 0
StopsBy fault.NoBound e = RaisesOnly no_bound e
StopsBy fault.NoService e = RaisesOnly no_service e
StopsBy fault.NoRoute e = RaisesOnly no_route e
StopsBy fault.NotNeighbor e = RaisesOnly not_neighbour e
StopsBy fault.NoMemory e = e ≡ NoMemory
