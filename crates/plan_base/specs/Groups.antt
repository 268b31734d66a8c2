-- Which expressions a function walks that takes apart those of one kind.
use Rattle.std.specs.Prelude.{Bool, true, false}
use Rattle.plan_base.specs.declared.tree.Expr.{Expr-F}
use Rattle.plan_base.specs.Trees.{ExprLayer}

-- without parts
abbrev pub is_leaf : ExprLayer → Bool
is_leaf Expr-F.Unit = true
is_leaf (Expr-F.Bool _) = true
is_leaf (Expr-F.Int _) = true
is_leaf (Expr-F.Char _) = true
is_leaf (Expr-F.Str _) = true
is_leaf (Expr-F.Blob _) = true
is_leaf (Expr-F.Host _) = true
is_leaf (Expr-F.Dev _) = true
is_leaf (Expr-F.Nil _) = true
is_leaf (Expr-F.Var _) = true
is_leaf (Expr-F.Raise _ _) = true
is_leaf _ = false

-- with two parts
abbrev pub is_pair : ExprLayer → Bool
is_pair (Expr-F.Then _ _) = true
is_pair (Expr-F.And _ _) = true
is_pair (Expr-F.Or _ _) = true
is_pair (Expr-F.Binary _ _ _) = true
is_pair (Expr-F.Foldl _ _ _) = true
is_pair (Expr-F.Foldr _ _ _) = true
is_pair _ = false

-- with one part, or a list of parts
abbrev pub is_row : ExprLayer → Bool
is_row (Expr-F.Tuple _) = true
is_row (Expr-F.Call _ _) = true
is_row (Expr-F.ChunkOf _ _) = true
is_row (Expr-F.Not _) = true
is_row (Expr-F.Part _ _) = true
is_row (Expr-F.Eval _) = true
is_row (Expr-F.Try _ _) = true
is_row _ = false

-- a branch, a binding or a sending
abbrev pub is_more : ExprLayer → Bool
is_more (Expr-F.If _ _ _) = true
is_more (Expr-F.Let _ _ _ _) = true
is_more (Expr-F.OnRemote _ _ _ _) = true
is_more (Expr-F.OnNeighbor _ _ _ _) = true
is_more _ = false
