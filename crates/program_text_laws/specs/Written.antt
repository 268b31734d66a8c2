-- The tokens of a program as it is written: where nothing joins them, an `if` and a `not` stand without brackets.
use Rattle.std.specs.Prelude.{◌++◌}
use Rattle.plan_base.specs.declared.tree.Expr.{Expr, Expr-F, out-Expr}
use Rattle.plan_base.specs.declared.tree.Clause.{Clause}
use Rattle.plan_base.specs.declared.tree.Program.{Program}
use Rattle.plan_lexer.specs.declared.token.Key.TheVariants as key
use Rattle.program_text_laws.specs.PrintedTokens.{Kinds, word, expr_kinds_level, expr_kinds, clause_kinds, program_kinds_by}

-- what stands between `if` and `then`
abbrev pub test_kinds_level : Expr-F Expr Clause → Kinds
test_kinds_level (Expr-F.Not a) = word key.Not ++ expr_kinds a
test_kinds_level x = expr_kinds_level expr_kinds clause_kinds x

unfoldable pub test_kinds : Expr → Kinds
test_kinds e = test_kinds_level (out-Expr e)

-- the body of a function
abbrev pub body_kinds_level : Expr-F Expr Clause → Kinds
body_kinds_level (Expr-F.If c a b) = word key.If ++ test_kinds c ++ word key.Then ++ expr_kinds a ++ word key.Else ++ expr_kinds b
body_kinds_level x = expr_kinds_level expr_kinds clause_kinds x

unfoldable pub body_kinds : Expr → Kinds
body_kinds e = body_kinds_level (out-Expr e)

-- a program
abbrev pub written_kinds : Program → Kinds
written_kinds p = program_kinds_by body_kinds p
