-- Function values that read values inside one more list or tuple.
use Rattle.std.specs.Prelude.{ℕ, Result}
use Rattle.std.specs.declared.alloc.Global.{Global}
use denote.Ref.{MutBor}
use Rattle.plan_parser_exprs.specs.declared.fault.ParseFault.{ParseFault}
use Rattle.plan_parser_exprs.specs.Ahead.{Front, Gives}
use Rattle.plan_parser.specs.declared.item.TypedValue.{TypedValue}
use Rattle.plan_parser.specs.Values.{value_to}

-- the function reads values with that room, inside so many brackets
pub record ReadsValues (outside room : ℕ) (pre : Global → ℕ → ℕ → MutBor Front → Type 0)
    (post : Global → ℕ → ℕ → MutBor Front → Result TypedValue ParseFault → MutBor Front → Type 0) : Type 0 where
  pub callable : (alloc : Global) (old : MutBor Front) → pre alloc outside room old
  pub reads : (alloc : Global) (old new : MutBor Front) (r : Result TypedValue ParseFault) → post alloc outside room old r new
      → Gives (value_to outside room old.now) r new.now
