-- The trees of the language as definitions take them apart: one level each, with its children whole.
use Rattle.plan_base.specs.declared.tree.Ty.{Ty, Ty-F}
use Rattle.plan_base.specs.declared.tree.Ty as ty
use Rattle.plan_base.specs.declared.tree.Expr.{Expr, Expr-F}
use Rattle.plan_base.specs.declared.tree.Expr as expr
use Rattle.plan_base.specs.declared.tree.Clause.{Clause}
use Rattle.plan_base.specs.declared.tree.Value.{Value, Value-F}
use Rattle.plan_base.specs.declared.tree.Value as value
use Rattle.plan_base.specs.declared.tree.Chunk.{Chunk}

-- one level of a type, as `out-Ty` gives it
abbrev pub TyLayer : Type 0
TyLayer = Ty-F Ty

-- one level of an expression, as `out-Expr` gives it
abbrev pub ExprLayer : Type 0
ExprLayer = Expr-F Expr Clause

-- one level of a value, as `out-Value` gives it
abbrev pub ValueLayer : Type 0
ValueLayer = Value-F Value Chunk

-- how a tree is made of its levels and opened into them
pub ruleset trees = (ty.the_lemmas, expr.the_lemmas, value.the_lemmas)
