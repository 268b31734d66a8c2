-- Function values that read inside one more open construct.
use Rattle.std.specs.Prelude.{ℕ, Result}
use Rattle.std.specs.declared.alloc.Global.{Global}
use denote.Ref.{MutBor}
use Rattle.plan_base.specs.declared.tree.Ty.{Ty}
use Rattle.plan_parser_exprs.specs.declared.fault.ParseFault.{ParseFault}
use Rattle.plan_parser_exprs.specs.Ahead.{Front, Gives}
use Rattle.plan_parser_exprs.specs.declared.level.Level.{Level}
use Rattle.plan_parser_exprs.specs.declared.node.Node.{Node}
use Rattle.plan_parser_exprs.specs.Types.{type_to}
use Rattle.plan_parser_exprs.specs.Exprs.{expr_to}

-- the function reads types with that room
pub record ReadsTypes (room : ℕ) (pre : Global → ℕ → MutBor Front → Type 0)
    (post : Global → ℕ → MutBor Front → Result Ty ParseFault → MutBor Front → Type 0) : Type 0 where
  pub callable : (alloc : Global) (old : MutBor Front) → pre alloc room old
  pub reads : (alloc : Global) (old new : MutBor Front) (r : Result Ty ParseFault) → post alloc room old r new
      → Gives (type_to room old.now) r new.now

-- the function reads expressions with that room
pub record ReadsExprs (room : ℕ) (pre : Global → ℕ → Level → MutBor Front → Type 0)
    (post : Global → ℕ → Level → MutBor Front → Result Node ParseFault → MutBor Front → Type 0) : Type 0 where
  pub callable : (alloc : Global) (level : Level) (old : MutBor Front) → pre alloc room level old
  pub reads : (alloc : Global) (level : Level) (old new : MutBor Front) (r : Result Node ParseFault) → post alloc room level old r new
      → Gives (expr_to room level old.now) r new.now
