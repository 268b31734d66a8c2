-- What is said of what a form makes at once of the values on the stack.
use Rattle.std.specs.Prelude.{◌≡◌, ◌≢◌, ◌≤◌, ℕ, ℤ, min, length, reverse, slice_get, List, [], ◌∷◌, ◌++◌, Option, Some, None}
use Rattle.plan_base.specs.declared.name.Name.{Name}
use Rattle.plan_base.specs.declared.ids.Host.{Host}
use Rattle.plan_base.specs.declared.ids.Dev.{Dev}
use Rattle.plan_base.specs.declared.tree.Chunk.{Chunk}
use Rattle.plan_base.specs.declared.tree.Expr.{Expr, Expr-F}
use Rattle.plan_base.specs.declared.tree.Fun.{Fun}
use Rattle.plan_base.specs.declared.tree.Value.{Value}
use Rattle.plan_base.specs.declared.tree.Value as value
use Rattle.plan_base.specs.Trees.{ExprLayer}
use Rattle.plan_base.specs.Sizes.{code_size}
use Rattle.plan_types_spec.specs.TypingNames.{place_of}
use Rattle.service_api.specs.Services.{ServiceState}
use Rattle.plan_meaning.specs.State.{VisitState, Own, joined_state}
use Rattle.plan_meaning.specs.Run.{gave, weighed_value}
use Rattle.plan_meaning.specs.Meaning.{as_int, as_host, as_dev, as_chunk, as_items, pay_eval, send_remote, send_neighbour}
use Rattle.plan_meaning.specs.Safe.{IsSafe}
use Rattle.plan_eval_state.specs.declared.progress.Progress.{Progress}
use Rattle.plan_eval_state.specs.declared.run.Run.{Run}
use Rattle.plan_eval_state.specs.Leads.{Leads}
use Rattle.plan_eval_state.specs.Forms.{operands, step_args}
use Rattle.plan_eval_state.specs.Spots.{Spot, layer, begins, left_behind}
use Rattle.plan_eval_state.specs.Flow.{now, Flows}
use Rattle.plan_eval_state.specs.Laws.{makes}
use Rattle.plan_eval_made.specs.Comes.{Grows, turning}

-- with the values of all operands on the stack, a spot came so far as what it makes of them
abbrev pub Makes : Spot → Run → Progress → Run → Type 0
Makes s old p new = (held pre : List Value) (n : ServiceState) → old.stack ≡ held ++ pre → length held ≡ length (operands (layer s))
    → Flows s pre (makes s (reverse held) (now old n)) p new n

-- an expression that gives a number at once, whatever the state
abbrev pub IsNumber : Spot → ℤ → Type 0
IsNumber s i = (st : VisitState) → Leads (begins s st) (weighed_value (value.Int i) st)

-- a literal, or what raises an exception of its own
abbrev pub IsConstant : ExprLayer → Type 0
IsConstant Expr-F.Unit = Unit {0}
IsConstant (Expr-F.Bool b) = Unit {0}
IsConstant (Expr-F.Int n) = Unit {0}
IsConstant (Expr-F.Char c) = Unit {0}
IsConstant (Expr-F.Str s) = Unit {0}
IsConstant (Expr-F.Blob b) = Unit {0}
IsConstant (Expr-F.Host h) = Unit {0}
IsConstant (Expr-F.Dev d) = Unit {0}
IsConstant (Expr-F.Nil t) = Unit {0}
IsConstant (Expr-F.Raise x t) = Unit {0}
IsConstant _ = ⊥

-- ---- sends

-- the last value is taken off, for what it is taken for
abbrev pub PopsAs : {A : Type 0} → (Value → Option A) → Option A → List Value → List Value → Type 0
PopsAs f r [] new = (r ≡ None) × (new ≡ [])
PopsAs f r (v ∷ pre) new = (r ≡ f v) × (new ≡ pre)

-- a send by a routing name, with its operands on the stack, asks nothing amiss at some standing of the services
abbrev pub RemoteIsSafe : Name → List Value → Own → Type 0
RemoteIsSafe r (u ∷ w ∷ c ∷ pre) o =
    (k : Chunk) (host : Host) (i : ℤ) → as_chunk c ≡ Some k → as_host w ≡ Some host → as_int u ≡ Some i
    → (n : ServiceState) × IsSafe (send_remote k host i r (joined_state o n)).asks
RemoteIsSafe r _ o = Unit {0}

-- the same of a send to a neighbour
abbrev pub NearIsSafe : List Value → Own → Type 0
NearIsSafe (t ∷ u ∷ w ∷ c ∷ pre) o =
    (k : Chunk) (host : Host) (i : ℤ) (dev : Dev) → as_chunk c ≡ Some k → as_host w ≡ Some host → as_int u ≡ Some i → as_dev t ≡ Some dev
    → (n : ServiceState) × IsSafe (send_neighbour k host i dev (joined_state o n)).asks
NearIsSafe _ o = Unit {0}

-- the values alone changed
pub record Stays (old new : Run) : Type 0 where
  pub state : new.state ≡ old.state
  pub codes : new.codes ≡ old.codes
  pub paused : new.paused ≡ old.paused
