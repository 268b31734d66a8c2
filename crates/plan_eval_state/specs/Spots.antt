-- Where an expression is evaluated, with its environment as places of the stack, and what waits there for its parts.
use Rattle.std.specs.Prelude.{◌≡◌, ℕ, ◌+◌, nat_eq, if◌then◌else◌, List, [], ◌∷◌, ◌++◌, length, reverse, drop, slice_get, Option, Some, None}
use Rattle.std.specs.Prelude.{ℤ, pos}
use Rattle.plan_base.specs.declared.tree.Expr.{Expr, Expr-F, out-Expr}
use Rattle.plan_base.specs.declared.tree.Fun.{Fun}
use Rattle.plan_base.specs.declared.tree.Program.{Program}
use Rattle.plan_base.specs.declared.tree.Value.{Value}
use Rattle.plan_base.specs.declared.tree.Value as value
use Rattle.plan_base.specs.Trees.{ExprLayer}
use Rattle.plan_meaning.specs.State.{VisitState}
use Rattle.plan_meaning.specs.Run.{Run, RunStep, ◌>>=◌, and_then, rescued_step, pure, wrong, or_wrong, weighed_value}
use Rattle.plan_meaning.specs.Meaning.{Env, meaning, binds, bound, opened_at, as_int, as_items}
use Rattle.plan_eval_state.specs.declared.continuation.Activation.{Activation}
use Rattle.plan_eval_state.specs.declared.continuation.Continuation.{Continuation}
use Rattle.plan_eval_state.specs.declared.continuation.Continuation.TheVariants.{Part, Last, Try, Bound, Call, Step, Chunk}
use Rattle.plan_eval_state.specs.Places.{at_place}
use Rattle.plan_eval_state.specs.Forms.{operands, branches, tried, made, made_behind, folded, handled, in_turn}

-- an expression of a function of the program with that number, under bindings whose values stand at places of the stack
pub record Spot : Type 0 where
  pub code : Program
  pub number : ℕ
  pub fun : ℕ
  pub env : Env
  pub places : List ℕ
  pub expr : Expr

abbrev pub layer : Spot → ExprLayer
layer s = out-Expr s.expr

-- what the expression means there
abbrev pub means : Spot → VisitState → RunStep Value
means s st = meaning s.code s.fun s.env s.expr st

-- the same, once it spent 1
abbrev pub begins : Spot → VisitState → RunStep Value
begins s st = (opened_at meaning s.code s.fun s.env (layer s) >>= weighed_value) st

-- each value of an environment stands at its place
abbrev pub HasValues : Env → List ℕ → List Value → Type 0
HasValues [] [] stack = Unit {0}
HasValues (b ∷ bs) (i ∷ is) stack = (at_place stack i ≡ Some b.value) × HasValues bs is stack
HasValues _ _ stack = ⊥

abbrev pub HasEnv : Spot → List Value → Type 0
HasEnv s stack = HasValues s.env s.places stack

-- the spot's program has its number
abbrev pub IsOpen : List Program → Spot → Type 0
IsOpen codes s = slice_get codes s.number ≡ Some s.code

-- a place for each item, from one on
abbrev pub counted : {A : Type 0} → ℕ → List A → List ℕ
counted i [] = []
counted i (x ∷ xs) = i ∷ counted (i + 1) xs

-- ---- the next spot

-- another expression of the same body
abbrev pub beside : Spot → Option Expr → Option Spot
beside s (Some e) = Some (record s { expr = e })
beside s None = None

-- the body of a `let`, whose value stands at that place
abbrev pub let_body : Spot → ExprLayer → ℕ → Value → Option Spot
let_body s (Expr-F.Let x t a b) i v = Some (record s { env = s.env ++ binds x v ∷ []; places = s.places ++ i ∷ []; expr = b })
let_body s _ i v = None

-- the body of a function under its arguments, which stand in order from a place on
abbrev pub body_under : Program → Activation → Fun → List Value → Option Env → Option Spot
body_under code a f args (Some env) =
    Some (record { code = code; number = a.number; fun = a.fun; env = env; places = counted a.base args; expr = f.body })
body_under code a f args None = None

abbrev pub body_with : Program → Activation → List Value → Option Fun → Option Spot
body_with code a args (Some f) = body_under code a f args (bound f.params args)
body_with code a args None = None

abbrev pub body_in : Option Program → Activation → List Value → Option Spot
body_in (Some code) a args = body_with code a args (slice_get code.funs a.fun)
body_in None a args = None

-- the same where it is of the same program as the spot
abbrev pub body_here : Spot → Activation → List Value → Option Spot
body_here s a args = if nat_eq a.number s.number then body_in (Some s.code) a args else None

-- the spot that is evaluated where a spot waits so but for a chunk, with these values held for it on the stack
abbrev pub step_here : Spot → Continuation → List Value → Option Spot
step_here s (Part n) held = if nat_eq (length held) n then beside s (slice_get (operands (layer s)) n) else None
step_here s (Last n) [] = beside s (slice_get (branches (layer s)) n)
step_here s (Try h) [] = beside s (tried (layer s))
step_here s (Bound i) (v ∷ []) = let_body s (layer s) i v
step_here s (Call a) held = body_here s a (reverse held)
step_here s (Step a) (w ∷ v ∷ n ∷ l ∷ []) = body_here s a (v ∷ w ∷ [])
step_here s _ _ = None

-- the same for a chunk too; None where it can't wait so
abbrev pub step : List Program → Spot → Continuation → List Value → Option Spot
step codes s (Chunk a) held = body_in (slice_get codes a.number) a (reverse held)
step codes s k held = step_here s k held

-- the height of the stack below a spot that waits so is the one that is noted
abbrev pub HasHeight : Continuation → ℕ → Type 0
HasHeight (Try h) n = h ≡ n
HasHeight (Bound i) n = i ≡ n
HasHeight (Call a) n = a.base ≡ n
HasHeight (Step a) n = a.base ≡ n + 2
HasHeight (Chunk a) n = a.base ≡ n
HasHeight _ n = Unit {0}

-- ---- how a spot goes on

-- behind an operand's value, with those of the ones before held
abbrev pub after_operand : Spot → ℕ → List Value → Value → Run Value
after_operand s n held v =
    made_behind s.code s.fun s.env (made s.code s.fun s.env (layer s)) (reverse held ++ v ∷ []) (drop (n + 1) (operands (layer s)))
    >>= weighed_value

-- the items of a fold's list that are left behind so many
abbrev pub left_behind : ExprLayer → Option ℤ → Option (List Value) → Option (List Value)
left_behind l (Some (pos n)) (Some items) = Some (drop n (in_turn l items))
left_behind l _ _ = None

-- behind a step of a fold, with its arguments, the number of items taken and the list held
abbrev pub after_step : Spot → List Value → Value → Run Value
after_step s (w ∷ v ∷ n ∷ l ∷ []) acc =
    or_wrong (left_behind (layer s) (as_int n) (as_items l)) >>= (λ left. folded s.code s.fun s.env (layer s) acc left >>= weighed_value)
after_step s _ acc = wrong

-- what a spot that waits so makes of the end of what it waits for
abbrev pub resume : Spot → Continuation → List Value → RunStep Value → RunStep Value
resume s (Part n) held r = and_then r (after_operand s n held)
resume s (Last n) held r = and_then r weighed_value
resume s (Try h) held r = and_then (rescued_step r (handled s.code s.fun s.env (layer s))) weighed_value
resume s (Bound i) held r = and_then r weighed_value
resume s (Call a) held r = and_then r weighed_value
resume s (Step a) held r = and_then r (after_step s held)
resume s (Chunk a) held r = and_then r (λ v. pure value.Unit >>= weighed_value)
