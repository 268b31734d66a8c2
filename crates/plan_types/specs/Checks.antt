-- What a part of the checking ensures: the answer of its definition, unless an allocation fails.
use Rattle.std.specs.Prelude.{◌≡◌, ◌≢◌, ℕ, Option, Result, Ok, Err}
use Rattle.std.specs.Option.{option_copied}
use Rattle.std.specs.declared.alloc.Global.{Global}
use denote.Ref.{Bor, MutBor}
use Rattle.plan_base.specs.declared.tree.Ty.{Ty}
use Rattle.plan_base.specs.declared.tree.Expr.{Expr}
use Rattle.plan_types_spec.specs.declared.type_fault.TypeFault.{TypeFault}
use Rattle.plan_types_spec.specs.declared.type_fault.TypeFault.TheVariants.{NoMemory}
use Rattle.plan_types_spec.specs.Typing.{Ctx}
use Rattle.plan_types_spec.specs.TypingOrder.{Checking, Found, checked_expression}
use Rattle.plan_types.specs.declared.state.Scope.{Scope}
use Rattle.plan_types.specs.declared.state.TypingState.{TypingState}

-- the answer and the next number are as wanted, unless an allocation fails
abbrev pub Meets : {A : Type 0} → Result (A × ℕ) TypeFault → Result A TypeFault → ℕ → Type 0
Meets want (Ok a) node = want ≡ Ok (a, node)
Meets want (Err f) node = f ≢ NoMemory → want ≡ Err f

-- the same of a part that leaves its answer in what it was lent
abbrev pub Leaves : {A B : Type 0} → Result (A × ℕ) TypeFault → Result B TypeFault → A → ℕ → Type 0
Leaves want (Ok b) a node = want ≡ Ok (a, node)
Leaves want (Err f) a node = f ≢ NoMemory → want ≡ Err f

-- the answer is as wanted, unless an allocation fails
abbrev pub Gives : {A : Type 0} → Result A TypeFault → Result A TypeFault → Type 0
Gives want (Ok a) = want ≡ Ok a
Gives want (Err f) = f ≢ NoMemory → want ≡ Err f

-- the checking of the expressions that are no deeper
abbrev pub below : Scope → ℕ → Ctx → Option Ty → Expr → Checking Found
below scope depth = checked_expression scope.code.now depth scope.seen

-- a function value that checks expressions to a depth
pub record Nests (depth : ℕ) (pre : Global → ℕ → Bor Scope → MutBor TypingState → Option (Bor Ty) → Bor Expr → Type 0)
    (post : Global → ℕ → Bor Scope → MutBor TypingState → Option (Bor Ty) → Bor Expr → Result Found TypeFault → MutBor TypingState → Type 0) : Type 0 where
  pub callable : (alloc : Global) (scope : Bor Scope) (old : MutBor TypingState) (want : Option (Bor Ty)) (e : Bor Expr) → pre alloc depth scope old want e
  pub checks : (alloc : Global) (scope : Bor Scope) (old new : MutBor TypingState) (want : Option (Bor Ty)) (e : Bor Expr)
      (r : Result Found TypeFault)
      → post alloc depth scope old want e r new
      → Meets (below scope.now depth old.now.ctx (option_copied want) e.now old.now.node) r new.now.node
  pub keeps : (alloc : Global) (scope : Bor Scope) (old new : MutBor TypingState) (want : Option (Bor Ty)) (e : Bor Expr)
      (r : Result Found TypeFault)
      → post alloc depth scope old want e r new
      → new.now.ctx ≡ old.now.ctx
