-- What is said of the parts of the recursion: operands that are gathered, what is made of them, branches, bodies.
use Rattle.std.specs.Prelude.{◌≡◌, ℕ, ◌-◌, ◌≤◌, length, take, drop, map, reverse, slice_get, Bool, true, false, List, [], ◌∷◌, ◌++◌, Option, Some, None}
use Rattle.plan_base.specs.declared.name.Name.{Name}
use Rattle.plan_base.specs.declared.tree.Exn.{Exn}
use Rattle.plan_base.specs.declared.tree.Expr.{Expr, Expr-F, out-Expr}
use Rattle.plan_base.specs.declared.tree.Program.{Program}
use Rattle.plan_base.specs.declared.tree.Value.{Value}
use Rattle.plan_base.specs.Trees.{ExprLayer}
use Rattle.service_api.specs.Services.{ServiceState}
use Rattle.plan_types_spec.specs.TypingNames.{place_of}
use Rattle.plan_meaning.specs.State.{VisitState}
use Rattle.plan_meaning.specs.Run.{RunStep, and_then, wrong}
use Rattle.plan_meaning.specs.Meaning.{applied_at, meaning, as_int, as_items}
use Rattle.plan_eval_state.specs.declared.continuation.Activation.{Activation}
use Rattle.plan_eval_state.specs.declared.continuation.Continuation.TheVariants.{Last}
use Rattle.plan_eval_state.specs.declared.progress.Progress.{Progress}
use Rattle.plan_eval_state.specs.declared.run.Run.{Run}
use Rattle.plan_eval_state.specs.Leads.{Leads}
use Rattle.plan_eval_state.specs.Forms.{operands, branches, clauses, chosen, clause_for}
use Rattle.plan_eval_state.specs.Spots.{Spot, layer, means, begins, body_in, left_behind, after_step, resume}
use Rattle.plan_eval_state.specs.Laws.{makes}
use Rattle.plan_eval_state.specs.Flow.{now}
use Rattle.plan_eval_made.specs.declared.here.Binding.{Binding}
use Rattle.plan_eval_made.specs.declared.here.Here.{Here}
use Rattle.plan_eval_made.specs.Where.{spot}
use Rattle.plan_eval_made.specs.Comes.{Keeps, Comes, Continues, pending_here, turning_here, GoesOnBehind}
use Rattle.plan_eval_forms.specs.declared.choice.Decision.{Decision}
use Rattle.plan_eval_forms.specs.declared.choice.Decision.TheVariants.{Branch, Gives, Wrong}

-- ---- an expression that paid begins

-- what an expression over the whole stack makes, once it spent 1
abbrev pub begun_here : Here → Expr → Run → ServiceState → RunStep Value
begun_here here e run n = begins (spot here e run.stack) (now run n)

-- it began there, and came so far
abbrev pub Begins : Here → Expr → ℕ → Run → ServiceState → Progress → Run → ServiceState → Type 0
Begins here e depth old from p new to = Continues depth (spot here e old.stack) old.stack (begun_here here e old from) old from p new to

-- ---- operands

-- how many operands an expression has
abbrev pub arity : Expr → ℕ
arity e = length (operands (out-Expr e))

-- what an expression makes of the values of its operands, so many, which are the last on the stack
abbrev pub made_here : Here → Expr → ℕ → Run → ServiceState → RunStep Value
made_here here e many run n = makes (spot here e (drop many run.stack)) (reverse (take many run.stack)) (now run n)

-- it made something of them, and came so far
abbrev pub MakesOn : Here → Expr → ℕ → ℕ → Run → ServiceState → Progress → Run → ServiceState → Type 0
MakesOn here e many depth old from p new to =
    Continues depth (spot here e (drop many old.stack)) (drop many old.stack) (made_here here e many old from) old from p new to

-- the values of all operands stand on the stack, of which so many stood there before
pub record AllGathered (here : Here) (e : Expr) (many : ℕ) (old : Run) (from : ServiceState) (new : Run) (to : ServiceState) : Type 0 where
  pub high : arity e ≤ length new.stack
  pub below : drop (arity e) new.stack ≡ drop many old.stack
  pub leads : Leads (pending_here here e many old from) (made_here here e (arity e) new to)
  pub none : new.paused ≡ []
  pub keeps : Keeps old from new to

-- they do, or the whole came so far
abbrev pub Gathers : Here → Expr → ℕ → ℕ → Run → ServiceState → Option Progress → Run → ServiceState → Type 0
Gathers here e many depth old from None new to = AllGathered here e many old from new to
Gathers here e many depth old from (Some p) new to = GoesOnBehind here e many depth old from p new to

-- ---- branches

-- what an expression makes of the value of a branch over the whole stack
abbrev pub branch_here : Here → Expr → ℕ → Expr → Run → ServiceState → RunStep Value
branch_here here e n part run m = resume (spot here e run.stack) (Last n) [] (means (spot here part run.stack) (now run m))

-- the branch of that number gives the value
abbrev pub TakesBranch : Here → Expr → ℕ → Expr → ℕ → Run → ServiceState → Progress → Run → ServiceState → Type 0
TakesBranch here e n part depth old from p new to =
    Continues depth (spot here e old.stack) old.stack (branch_here here e n part old from) old from p new to

-- a form whose operand chooses what gives the value
abbrev pub IsChoice : ExprLayer → Type 0
IsChoice (Expr-F.If t a b) = Unit {0}
IsChoice (Expr-F.Then a b) = Unit {0}
IsChoice (Expr-F.And a b) = Unit {0}
IsChoice (Expr-F.Or a b) = Unit {0}
IsChoice _ = ⊥

-- the truth value that decides alone
abbrev pub decided : ExprLayer → Option Bool → Option Bool
decided (Expr-F.And a b) (Some false) = Some false
decided (Expr-F.Or a b) (Some true) = Some true
decided _ _ = None

-- what a truth value chooses: a branch, the truth value itself, or nothing
abbrev pub IsChosen : ExprLayer → Option Bool → Decision → Type 0
IsChosen l t (Branch n part) = (chosen l t ≡ Some n) × (slice_get (branches l) n ≡ Some part.now)
IsChosen l t (Gives b) = decided l t ≡ Some b
IsChosen l t Wrong = (chosen l t ≡ None) × (decided l t ≡ None)

-- ---- bodies

-- the names and the places of bindings with one more
pub record HasOneMore (old : List Binding) (x : Name) (i : ℕ) (new : List Binding) : Type 0 where
  pub names : map (λ b. b.name.now) new ≡ map (λ b. b.name.now) old ++ x ∷ []
  pub places : map (λ b. b.at) new ≡ map (λ b. b.at) old ++ i ∷ []

-- the values from a place on, in their order
abbrev pub args_from : ℕ → List Value → List Value
args_from base stack = reverse (take (length stack - base) stack)

-- the body of a function over its arguments, which are the last on the stack
pub record Enters (code : Program) (a : Activation) (depth : ℕ) (old : Run) (from : ServiceState) (p : Progress) (new : Run) (to : ServiceState) : Type 0 where
  pub next : Spot
  pub body : body_in (Some code) a (args_from a.base old.stack) ≡ Some next
  pub comes : Comes depth next old.stack (means next (now old from)) old from p new to

-- a call of that name, with so many arguments
abbrev pub IsCall : ExprLayer → Name → ℕ → Type 0
IsCall (Expr-F.Call g es) f n = (g ≡ f) × (length es ≡ n)
IsCall _ f n = ⊥

-- ---- steps of a fold

-- a fold, from either end
abbrev pub IsFold : ExprLayer → Type 0
IsFold (Expr-F.Foldl f a l) = Unit {0}
IsFold (Expr-F.Foldr f a l) = Unit {0}
IsFold _ = ⊥

-- the place of the function of a fold, whose body sees the functions before it
abbrev pub step_at : ExprLayer → Program → ℕ → Option ℕ
step_at (Expr-F.Foldl f a l) code fun = place_of f (take fun code.funs)
step_at (Expr-F.Foldr f a l) code fun = place_of f (take fun code.funs)
step_at _ code fun = None

-- what a fold makes of a step with these arguments, the number of items that were taken, and its list
abbrev pub stepping : Spot → List Value → VisitState → RunStep Value
stepping s (w ∷ u ∷ n ∷ l ∷ []) st = and_then (applied_at meaning s.code (step_at (layer s) s.code s.fun) (u ∷ w ∷ []) st) (after_step s (w ∷ u ∷ n ∷ l ∷ []))
stepping s _ st = wrong st

-- the same of the last four values
abbrev pub stepping_here : Here → Expr → Run → ServiceState → RunStep Value
stepping_here here e run n = stepping (spot here e (drop 4 run.stack)) (take 4 run.stack) (now run n)

-- no items where there is no list
abbrev pub items_or_none : Option (List Value) → List Value
items_or_none (Some items) = items
items_or_none None = []

-- the items that are left, by what stands on the stack below the value so far
abbrev pub items_left : ExprLayer → List Value → List Value
items_left l (acc ∷ n ∷ list ∷ pre) = items_or_none (left_behind l (as_int n) (as_items list))
items_left l _ = []

-- a step gave the value so far, in the place of its arguments
pub record Stepped (here : Here) (e : Expr) (old : Run) (from : ServiceState) (new : Run) (to : ServiceState) : Type 0 where
  pub acc : Value
  pub stacked : new.stack ≡ acc ∷ drop 2 old.stack
  pub leads : Leads (stepping_here here e old from) (turning_here here e new to)
  pub none : new.paused ≡ []
  pub keeps : Keeps old from new to

-- it did, or the fold came so far
abbrev pub Steps : Here → Expr → ℕ → Run → ServiceState → Option Progress → Run → ServiceState → Type 0
Steps here e depth old from None new to = Stepped here e old from new to
Steps here e depth old from (Some p) new to =
    Continues depth (spot here e (drop 4 old.stack)) (drop 4 old.stack) (stepping_here here e old from) old from p new to

-- ---- exceptions

-- the clause of that number is the first that catches an exception, and has this body
abbrev pub IsCaught : ExprLayer → Exn → Option (ℕ × Expr) → Type 0
IsCaught l x (Some p) = (clause_for (clauses l) x ≡ Some p.0) × (slice_get (branches l) p.0 ≡ Some p.1)
IsCaught l x None = clause_for (clauses l) x ≡ None
