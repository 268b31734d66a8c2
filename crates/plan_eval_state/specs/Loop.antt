-- What waits on the second stack, the innermost first, and how a turn of the loop leads on.
use Rattle.std.specs.Prelude.{◌≡◌, ℕ, ◌+◌, ◌*◌, List, [], ◌∷◌, ◌++◌, length, map, slice_get, if◌then◌else◌, Option, Some, None}
use Rattle.std.specs.Option.{option_or}
use Rattle.std.specs.Str.{bytes_eq}
use Rattle.plan_base.specs.declared.name.Name.{Name}
use Rattle.plan_base.specs.declared.tree.Expr.{Expr, Expr-F, out-Expr}
use Rattle.plan_base.specs.declared.tree.Fun.{Fun}
use Rattle.plan_base.specs.declared.tree.Program.{Program}
use Rattle.plan_base.specs.declared.tree.Value.{Value}
use Rattle.plan_base.specs.Trees.{ExprLayer}
use Rattle.service_api.specs.Services.{ServiceState}
use Rattle.plan_meaning.specs.State.{VisitState}
use Rattle.plan_meaning.specs.Run.{RunStep}
use Rattle.plan_eval_state.specs.declared.continuation.Continuation.{Continuation}
use Rattle.plan_eval_state.specs.declared.continuation.Continuation.TheVariants.{Part, Last, Try, Bound, Call, Step, Chunk}
use Rattle.plan_eval_state.specs.declared.continuation.Activation.{Activation}
use Rattle.plan_eval_state.specs.declared.progress.Progress.{Progress}
use Rattle.plan_eval_state.specs.declared.progress.Progress.TheVariants as came
use Rattle.plan_eval_state.specs.declared.run.Run.{Run}
use Rattle.plan_eval_state.specs.Leads.{Leads}
use Rattle.plan_eval_state.specs.Spots.{Spot, means, IsOpen, HasEnv, counted, HasHeight, step, resume}
use Rattle.plan_eval_state.specs.Forms.{operands, branches, tried}
use Rattle.plan_eval_state.specs.Flow.{Flows}

-- the items of one stack, the last first, put on another
abbrev pub onto : {A : Type 0} → List A → List A → List A
onto [] to = to
onto (k ∷ ks) to = onto ks (k ∷ to)

-- a spot over a stack, for whose end another one waits below
pub record Above (codes : List Program) (k : Continuation) (stack : List Value) (s : Spot) (want : RunStep Value)
    (below : List Value → Spot → RunStep Value → Type 0) : Type 0 where
  pub outer : Spot
  pub held : List Value
  pub low : List Value
  pub wider : RunStep Value
  pub steps : step codes outer k held ≡ Some s
  pub leads : Leads wider (resume outer k held want)
  pub stacked : stack ≡ held ++ low
  pub opened : IsOpen codes outer
  pub env : HasEnv outer low
  pub height : HasHeight k (length low)
  pub under : below low outer wider

-- as a spot over a stack ends, the whole ends, through all that waits
abbrev pub Stands : List Program → Spot → List Value → RunStep Value → List Continuation → List Value → Spot → RunStep Value → Type 0
Stands codes first pre top [] stack s want = (s ≡ first) × (stack ≡ pre) × Leads top want
Stands codes first pre top (k ∷ ks) stack s want =
    Above codes k stack s want (λ low outer wider. Stands codes first pre top ks low outer wider)

-- the innermost spot stands over the whole stack and is to begin
pub record Begun (codes : List Program) (first : Spot) (pre : List Value) (top : RunStep Value) (conts : List Continuation) (stack : List Value)
    (st : VisitState) : Type 0 where
  pub at : Spot
  pub stands : Stands codes first pre top conts stack at (means at st)
  pub opened : IsOpen codes at
  pub env : HasEnv at stack

-- the state of the loop: the innermost spot came so far, and through what waits the whole did
pub record Holds (first : Spot) (pre : List Value) (top : RunStep Value) (conts : List Continuation) (p : Progress) (run : Run)
    (n : ServiceState) : Type 0 where
  pub at : Spot
  pub low : List Value
  pub want : RunStep Value
  pub stands : Stands run.codes first pre top conts low at want
  pub opened : IsOpen run.codes at
  pub env : HasEnv at low
  pub flows : Flows at low want p run n

-- the same, unless memory ran out
abbrev pub Runs : Spot → List Value → RunStep Value → List Continuation → Progress → Run → ServiceState → Type 0
Runs first pre top conts came.NoMemory run n = Unit {0}
Runs first pre top conts p run n = Holds first pre top conts p run n

-- each turn of the loop makes it less
abbrev pub load : Progress → ℕ → Run → ℕ
load came.Wait conts run = 4 * run.state.work + 2 * (length run.paused + conts) + 1
load came.Done conts run = 4 * run.state.work + 2 * conts
load came.Raised conts run = 4 * run.state.work + 2 * conts
load _ conts run = 0

-- ---- the walk to the innermost spot

-- a spot without its program and its values
pub record Site : Type 0 where
  pub number : ℕ
  pub fun : ℕ
  pub names : List Name
  pub places : List ℕ
  pub expr : Expr

abbrev pub bare : Spot → Site
bare s = record { number = s.number; fun = s.fun; names = map (λ b. b.name) s.env; places = s.places; expr = s.expr }

-- the place of the value of a name's innermost binding, which is the last
abbrev pub place_named : Name → List Name → List ℕ → Option ℕ
place_named x (y ∷ ys) (i ∷ is) = option_or (place_named x ys is) (if bytes_eq y x then Some i else None)
place_named x _ _ = None

abbrev pub site_beside : Site → Option Expr → Option Site
site_beside t (Some e) = Some (record t { expr = e })
site_beside t None = None

abbrev pub let_site : Site → ExprLayer → ℕ → Option Site
let_site t (Expr-F.Let x u a b) i = Some (record t { names = t.names ++ x ∷ []; places = t.places ++ i ∷ []; expr = b })
let_site t _ i = None

-- the body of the function of an activation
abbrev pub fun_site : Activation → Option Fun → Option Site
fun_site a (Some f) =
    Some (record { number = a.number; fun = a.fun; names = map (λ p. p.name) f.params; places = counted a.base f.params; expr = f.body })
fun_site a None = None

abbrev pub body_site : Activation → Option Program → Option Site
body_site a (Some code) = fun_site a (slice_get code.funs a.fun)
body_site a None = None

-- where the part for which a site waits so stands; at an activation the walk may begin
abbrev pub walked : List Program → Site → Continuation → Option Site
walked codes t (Part n) = site_beside t (slice_get (operands (out-Expr t.expr)) n)
walked codes t (Last n) = site_beside t (slice_get (branches (out-Expr t.expr)) n)
walked codes t (Try h) = site_beside t (tried (out-Expr t.expr))
walked codes t (Bound i) = let_site t (out-Expr t.expr) i
walked codes t (Call a) = body_site a (slice_get codes a.number)
walked codes t (Step a) = body_site a (slice_get codes a.number)
walked codes t (Chunk a) = body_site a (slice_get codes a.number)
