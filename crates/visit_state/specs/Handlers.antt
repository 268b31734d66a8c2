-- The clause that catches an exception.
use Rattle.std.specs.Prelude.{if◌then◌else◌, List, [], ◌∷◌, Option, Some, None}
use Rattle.plan_base.specs.declared.tree.Clause.{Clause}
use Rattle.plan_base.specs.declared.tree.Exn.{Exn}
use Rattle.plan_base.specs.declared.tree.Expr.{Expr}
use Rattle.plan_meaning.specs.Meaning.{catches}

-- the body of the first clause that catches it
abbrev pub handler : List Clause → Exn → Option Expr
handler [] x = None
handler (k ∷ ks) x = if catches k.name x then Some k.body else handler ks x
