-- What the evaluator stands on: how each form begins, goes on and ends, and how what waits leads on.
use Rattle.std.specs.Prelude.{◌≡◌, ◌≢◌, ℕ, ◌+◌, ◌<◌, ◌≤◌, take, map, reverse, slice_get, List, [], ◌∷◌, ◌++◌, length, Some, None}
use Rattle.plan_base.specs.declared.name.Name.{Name}
use Rattle.plan_base.specs.declared.tree.Chunk.{Chunk}
use Rattle.plan_base.specs.declared.tree.Exn.{Exn}
use Rattle.plan_base.specs.declared.tree.Expr.{Expr, Expr-F}
use Rattle.plan_base.specs.declared.tree.Program.{Program}
use Rattle.plan_base.specs.declared.tree.Value.{Value}
use Rattle.plan_types_spec.specs.TypingNames.{place_of, service_of, prim_of}
use Rattle.service_api.specs.Services.{ServiceState}
use Rattle.plan_meaning.specs.declared.stop.EvalStop.{EvalStop}
use Rattle.plan_meaning.specs.declared.stop.EvalStop.TheVariants.{Raised}
use Rattle.plan_meaning.specs.State.{VisitState}
use Rattle.plan_meaning.specs.Run.{RunStep, gave, stopped, quiet, spend, ◌>>=◌, weighed_value}
use Rattle.plan_meaning.specs.Meaning.{Env, value_of, as_bool, as_int, as_chunk, as_items, pay_eval}
use Rattle.plan_meaning.specs.Safe.{IsSafe}
use Rattle.plan_eval_state.specs.declared.continuation.Activation.{Activation}
use Rattle.plan_eval_state.specs.declared.continuation.Continuation.{Continuation}
use Rattle.plan_eval_state.specs.declared.continuation.Continuation.TheVariants.{Part, Last, Try, Bound, Call, Step, Chunk as ChunkOf}
use Rattle.plan_eval_state.specs.declared.progress.Progress.{Progress}
use Rattle.plan_eval_state.specs.declared.progress.Progress.TheVariants as came
use Rattle.plan_eval_state.specs.declared.run.Run.{Run as Visit}
use Rattle.plan_eval_state.specs.Places.{at_place}
use Rattle.plan_eval_state.specs.Leads.{Leads}
use Rattle.plan_eval_state.specs.Forms.{IsOperation, operands, branches, tried, clauses, made, folded, chosen, clause_for, step_args, folder, in_turn}
use Rattle.plan_eval_state.specs.Spots.{Spot, layer, means, begins, HasValues, HasEnv, HasHeight, IsOpen, let_body, body_in, left_behind, step, resume}
use Rattle.plan_eval_state.specs.Flow.{Waits, Flows, PassesOn, PassesBy, Spends, Lasts}
use Rattle.plan_eval_state.specs.Loop.{onto, Stands, Runs, Begun, bare, place_named, walked, load}

-- the same body at another expression
abbrev pub at_part : Spot → Expr → Spot
at_part s e = record s { expr = e }

-- what a spot makes of the values of its operands, weighed
abbrev pub makes : Spot → List Value → VisitState → RunStep Value
makes s vs st = (made s.code s.fun s.env (layer s) vs >>= weighed_value) st

-- what a spot's fold makes of its value so far and the items that are left, weighed
abbrev pub folds : Spot → Value → List Value → VisitState → RunStep Value
folds s acc left st = (folded s.code s.fun s.env (layer s) acc left >>= weighed_value) st

-- ---- operands

-- an expression that spent 1 begins
abbrev pub PaysFirst : Type 0
PaysFirst = (s : Spot) (old new : VisitState) → (spend 1 old).after ≡ gave tt new → Leads (means s old) (begins s new)

-- an operation begins with its first operand
abbrev pub BeginsFirst : Type 0
BeginsFirst = (s : Spot) (st : VisitState) (e : Expr) → IsOperation (layer s) → slice_get (operands (layer s)) 0 ≡ Some e
    → Leads (begins s st) (resume s (Part 0) [] (means (at_part s e) st))

-- one without operands makes what it makes of none
abbrev pub BeginsBare : Type 0
BeginsBare = (s : Spot) (st : VisitState) → IsOperation (layer s) → slice_get (operands (layer s)) 0 ≡ None → Leads (begins s st) (makes s [] st)

-- behind an operand comes the next one
abbrev pub GoesOn : Type 0
GoesOn = (s : Spot) (st : VisitState) (n : ℕ) (held : List Value) (v : Value) (e : Expr) → slice_get (operands (layer s)) (n + 1) ≡ Some e
    → Leads (resume s (Part n) held (quiet (gave v st))) (resume s (Part (n + 1)) (v ∷ held) (means (at_part s e) st))

-- behind the last one something is made of all, which are held with the last one first
abbrev pub MakesLast : Type 0
MakesLast = (s : Spot) (st : VisitState) (n : ℕ) (held : List Value) (v : Value) → slice_get (operands (layer s)) (n + 1) ≡ None
    → Leads (resume s (Part n) held (quiet (gave v st))) (makes s (reverse (v ∷ held)) st)

-- ---- what is made

-- the branch that is chosen gives the value
abbrev pub Chooses : Type 0
Chooses = (s : Spot) (st : VisitState) (v : Value) (n : ℕ) (e : Expr) → chosen (layer s) (as_bool v) ≡ Some n → slice_get (branches (layer s)) n ≡ Some e
    → Leads (makes s (v ∷ []) st) (resume s (Last n) [] (means (at_part s e) st))

-- the body of a `let` does, under the name
abbrev pub Binds : Type 0
Binds = (s next : Spot) (st : VisitState) (i : ℕ) (v : Value) → let_body s (layer s) i v ≡ Some next
    → Leads (makes s (v ∷ []) st) (resume s (Bound i) (v ∷ []) (means next st))

-- the body of the function that is called does
abbrev pub Calls : Type 0
Calls = (s next : Spot) (st : VisitState) (f : Name) (es : List Expr) (args held : List Value) (a : Activation) → layer s ≡ Expr-F.Call f es
    → prim_of f ≡ None → service_of f s.code.svcs ≡ None → place_of f (take s.fun s.code.funs) ≡ Some a.fun → body_in (Some s.code) a args ≡ Some next
    → Leads (makes s args st) (resume s (Call a) held (means next st))

-- a fold takes the items of its list in turn
abbrev pub Folds : Type 0
Folds = (s : Spot) (st : VisitState) (f : Name) (acc v : Value) (xs : List Value) → folder (layer s) ≡ Some f → as_items v ≡ Some xs
    → Leads (makes s (acc ∷ v ∷ []) st) (folds s acc (in_turn (layer s) xs) st)

-- a step is the body of the fold's function, under the value so far and an item, with the list and how many were taken held
abbrev pub FoldSteps : Type 0
FoldSteps = (s next : Spot) (st : VisitState) (f : Name) (a : Activation) (acc x w u n l : Value) (left : List Value) → folder (layer s) ≡ Some f
    → place_of f (take s.fun s.code.funs) ≡ Some a.fun → body_in (Some s.code) a (step_args (layer s) acc x) ≡ Some next
    → left_behind (layer s) (as_int n) (as_items l) ≡ Some left → Leads (folds s acc (x ∷ left) st) (resume s (Step a) (w ∷ u ∷ n ∷ l ∷ []) (means next st))

-- behind it the fold goes on
abbrev pub FoldGoesOn : Type 0
FoldGoesOn = (s : Spot) (st : VisitState) (a : Activation) (v w u n l : Value) (left : List Value)
    → left_behind (layer s) (as_int n) (as_items l) ≡ Some left → Leads (resume s (Step a) (w ∷ u ∷ n ∷ l ∷ []) (quiet (gave v st))) (folds s v left st)

-- with none left it gives its value so far
abbrev pub FoldEnds : Type 0
FoldEnds = (s : Spot) (st : VisitState) (f : Name) (acc : Value) → folder (layer s) ≡ Some f → Leads (folds s acc [] st) (weighed_value acc st)

-- an eval that is paid goes on with the entry of the chunk
abbrev pub Evals : Type 0
Evals = (s next : Spot) (old new : VisitState) (b : Expr) (v : Value) (k : Chunk) (a : Activation) (held : List Value) → layer s ≡ Expr-F.Eval b
    → as_chunk v ≡ Some k → (pay_eval old).after ≡ gave tt new → place_of k.entry k.code.funs ≡ Some a.fun → body_in (Some k.code) a k.args ≡ Some next
    → Leads (makes s (v ∷ []) old) (resume s (ChunkOf a) held (means next new))

-- ---- exceptions

-- a `try` begins with its expression
abbrev pub Tries : Type 0
Tries = (s : Spot) (st : VisitState) (h : ℕ) (e : Expr) → tried (layer s) ≡ Some e → Leads (begins s st) (resume s (Try h) [] (means (at_part s e) st))

-- the first clause that catches what was raised gives the value
abbrev pub Catches : Type 0
Catches = (s : Spot) (st : VisitState) (h : ℕ) (r : RunStep Value) (x : Exn) (n : ℕ) (e : Expr) → r.after ≡ stopped (Raised x) st
    → clause_for (clauses (layer s)) x ≡ Some n → slice_get (map (λ k. k.body) (clauses (layer s))) n ≡ Some e
    → Leads (resume s (Try h) [] r) (resume s (Last n) [] (means (at_part s e) st))

-- where none does, it goes on
abbrev pub CatchesNone : Type 0
CatchesNone = (s : Spot) (st : VisitState) (h : ℕ) (r : RunStep Value) (x : Exn) → r.after ≡ stopped (Raised x) st
    → clause_for (clauses (layer s)) x ≡ None → (resume s (Try h) [] r).after ≡ stopped (Raised x) st

-- what stops otherwise, or isn't in a `try`, stops the whole
abbrev pub Stops : Type 0
Stops = (s : Spot) (k : Continuation) (held : List Value) (r : RunStep Value) (e : EvalStop) (st : VisitState) → PassesOn k e → r.after ≡ stopped e st
    → (resume s k held r).after ≡ stopped e st

-- ---- steps

-- the next spot sees its environment on the stack
abbrev pub StepSees : Type 0
StepSees = (codes : List Program) (s next : Spot) (k : Continuation) (held pre : List Value) → step codes s k held ≡ Some next → HasEnv s pre
    → HasHeight k (length pre) → HasEnv next (held ++ pre)

-- a walk without values finds it
abbrev pub StepWalks : Type 0
StepWalks = (codes : List Program) (s next : Spot) (k : Continuation) (held : List Value) → step codes s k held ≡ Some next → IsOpen codes s
    → walked codes (bare s) k ≡ Some (bare next)

-- a name's value stands at its place
abbrev pub NamesStand : Type 0
NamesStand = (x : Name) (env : Env) (places : List ℕ) (stack : List Value) (i : ℕ) → HasValues env places stack
    → place_named x (map (λ b. b.name) env) places ≡ Some i → value_of x env ≡ at_place stack i

-- a name that has none is bound to nothing
abbrev pub NoNameStands : Type 0
NoNameStands = (x : Name) (env : Env) (places : List ℕ) (stack : List Value) → HasValues env places stack
    → place_named x (map (λ b. b.name) env) places ≡ None → value_of x env ≡ None

-- more programs change nothing that waits
abbrev pub WaitsOn : Type 0
WaitsOn = (codes more : List Program) (s : Spot) (ks : List Continuation) (stack pre : List Value) (want : RunStep Value) (st : VisitState)
    → Waits codes s ks stack pre want st → Waits (codes ++ more) s ks stack pre want st

-- ---- the second stack

-- what waits, put on the second stack, leads to the innermost spot
abbrev pub BeginsOnto : Type 0
BeginsOnto = (codes : List Program) (first s : Spot) (pre stack low : List Value) (top want : RunStep Value) (ks to : List Continuation) (st : VisitState)
    → Stands codes first pre top to low s want → IsOpen codes s → HasEnv s low → Waits codes s ks stack low want st
    → Begun codes first pre top (onto ks to) stack st

-- what was raised passes what isn't a `try`
abbrev pub PassesOut : Type 0
PassesOut = (first : Spot) (pre : List Value) (top : RunStep Value) (k : Continuation) (ks : List Continuation) (run : Visit) (n : ServiceState)
    → PassesBy k came.Raised → IsSafe top.asks → Runs first pre top (k ∷ ks) came.Raised run n → Runs first pre top ks came.Raised run n

-- a spot that stands alone is the whole
abbrev pub WholeEnds : Type 0
WholeEnds = (codes : List Program) (first s : Spot) (pre stack : List Value) (top want : RunStep Value) (p : Progress) (run : Visit) (n : ServiceState)
    → Stands codes first pre top [] stack s want → IsSafe top.asks → Flows s stack want p run n → Flows first pre top p run n

-- ---- work

-- an expression that paid and went on has begun
abbrev pub LastsSpends : Type 0
LastsSpends = (depth other old mid : ℕ) (p : Progress) (run : Visit) → mid < old → Lasts other mid p run → Spends depth old p run

-- a part that began is one that goes on
abbrev pub SpendsLasts : Type 0
SpendsLasts = (depth old mid : ℕ) (p : Progress) (run : Visit) → mid ≤ old → Spends depth mid p run → Lasts depth old p run

-- what doesn't wait lasts where it gained nothing
abbrev pub SettledLasts : Type 0
SettledLasts = (depth old : ℕ) (p : Progress) (run : Visit) → p ≢ came.Wait → run.state.work ≤ old → Lasts depth old p run

-- a turn that begins what waits makes the load less
abbrev pub WakesLess : Type 0
WakesLess = (depth conts all : ℕ) (p : Progress) (old new : Visit) → 0 < depth → all ≡ length old.paused + conts → Spends depth old.state.work p new
    → load p all new < load came.Wait conts old

-- one that goes on with what waits innermost does too
abbrev pub GoesLess : Type 0
GoesLess = (depth conts : ℕ) (p : Progress) (old new : Visit) → 0 < depth → Lasts depth old.state.work p new
    → load p conts new < load came.Done (conts + 1) old
