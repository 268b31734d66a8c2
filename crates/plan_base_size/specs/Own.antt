-- How many bytes an expression takes when it is marshalled, beside its parts.
use Rattle.std.specs.Prelude.{ℕ, ◌+◌, length}
use Rattle.plan_base.specs.declared.tree.Expr.{Expr-F}
use Rattle.plan_base.specs.Trees.{ExprLayer}
use Rattle.plan_base.specs.Sizes.{name_size, type_size, option_type_size}

-- its tag and its fields that are no parts, a count before a list of parts
abbrev pub own_size : ExprLayer → ℕ
own_size (Expr-F.Bool _) = 2
own_size (Expr-F.Int _) = 9
own_size (Expr-F.Char _) = 5
own_size (Expr-F.Str s) = 3 + length s
own_size (Expr-F.Blob b) = 3 + length b
own_size (Expr-F.Host _) = 5
own_size (Expr-F.Dev _) = 5
own_size (Expr-F.Nil t) = 1 + option_type_size t
own_size (Expr-F.Var x) = 1 + name_size x
own_size (Expr-F.Tuple _) = 2
own_size (Expr-F.Call f _) = 2 + name_size f
own_size (Expr-F.Let x t _ _) = 1 + name_size x + type_size t
own_size (Expr-F.Binary _ _ _) = 2
own_size (Expr-F.Part _ _) = 2
own_size (Expr-F.Raise x t) = 1 + name_size x + option_type_size t
own_size (Expr-F.Try _ _) = 2
own_size (Expr-F.Foldl f _ _) = 1 + name_size f
own_size (Expr-F.Foldr f _ _) = 1 + name_size f
own_size (Expr-F.ChunkOf f _) = 2 + name_size f
own_size (Expr-F.OnRemote _ _ _ r) = 1 + name_size r
own_size _ = 1
