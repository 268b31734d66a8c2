-- Which trees hold only names that are names and numbers that fit their types. Every tree of the code does, and a contract sees it without.
use Rattle.std.specs.Prelude.{ℕ, ℤ, pos, negsuc, Bool, true, ◌&&◌, List, Option, Some, None, nat_lt}
use Rattle.std.specs.List.{list_all}
use Rattle.plan_base.specs.Words.{is_name}
use Rattle.plan_base.specs.declared.tree.Expr.{Expr, Expr-F, fold-Expr}
use Rattle.plan_base.specs.declared.tree.Clause.{Clause, Clause-F}
use Rattle.plan_base.specs.declared.tree.Svc.{Svc}
use Rattle.plan_base.specs.declared.tree.Param.{Param}
use Rattle.plan_base.specs.declared.tree.Fun.{Fun}
use Rattle.plan_base.specs.declared.tree.Program.{Program}
use Rattle.plan_base.specs.declared.tree.Value.{Value, Value-F, fold-Value}
use Rattle.plan_base.specs.declared.tree.Chunk.{Chunk, Chunk-F}

-- a whole number of 64 bits with sign
abbrev pub is_int : ℤ → Bool
is_int (pos n) = nat_lt n 9223372036854775808
is_int (negsuc n) = nat_lt n 9223372036854775808

-- a number of 32 bits
abbrev pub is_word : ℕ → Bool
is_word n = nat_lt n 4294967296

abbrev pub expr_ranged_level : {X Y : Type 0} → (X → Bool) → (Y → Bool) → Expr-F X Y → Bool
expr_ranged_level ranged clause (Expr-F.Int z) = is_int z
expr_ranged_level ranged clause (Expr-F.Host h) = is_word h.0
expr_ranged_level ranged clause (Expr-F.Dev d) = is_word d.0
expr_ranged_level ranged clause (Expr-F.Var x) = is_name x
expr_ranged_level ranged clause (Expr-F.Tuple es) = list_all ranged es
expr_ranged_level ranged clause (Expr-F.Call x es) = is_name x && list_all ranged es
expr_ranged_level ranged clause (Expr-F.If a b c) = ranged a && (ranged b && ranged c)
expr_ranged_level ranged clause (Expr-F.Let x _ a b) = is_name x && (ranged a && ranged b)
expr_ranged_level ranged clause (Expr-F.Then a b) = ranged a && ranged b
expr_ranged_level ranged clause (Expr-F.And a b) = ranged a && ranged b
expr_ranged_level ranged clause (Expr-F.Or a b) = ranged a && ranged b
expr_ranged_level ranged clause (Expr-F.Not a) = ranged a
expr_ranged_level ranged clause (Expr-F.Binary _ a b) = ranged a && ranged b
expr_ranged_level ranged clause (Expr-F.Part _ a) = ranged a
expr_ranged_level ranged clause (Expr-F.Raise x _) = is_name x
expr_ranged_level ranged clause (Expr-F.Try a cs) = ranged a && list_all clause cs
expr_ranged_level ranged clause (Expr-F.Foldl x a b) = is_name x && (ranged a && ranged b)
expr_ranged_level ranged clause (Expr-F.Foldr x a b) = is_name x && (ranged a && ranged b)
expr_ranged_level ranged clause (Expr-F.ChunkOf x es) = is_name x && list_all ranged es
expr_ranged_level ranged clause (Expr-F.Eval a) = ranged a
expr_ranged_level ranged clause (Expr-F.OnRemote a b c x) = is_name x && (ranged a && (ranged b && ranged c))
expr_ranged_level ranged clause (Expr-F.OnNeighbor a b c d) = (ranged a && ranged b) && (ranged c && ranged d)
expr_ranged_level ranged clause _ = true

abbrev pub catch_ranged : Option (List ℕ) → Bool
catch_ranged None = true
catch_ranged (Some x) = is_name x

abbrev pub clause_ranged_level : {X Y : Type 0} → (X → Bool) → Clause-F X Y → Bool
clause_ranged_level ranged c = catch_ranged c.name && ranged c.body

unfoldable pub expr_ranged : Expr → Bool
expr_ranged = fold-Expr Bool Bool (expr_ranged_level (λ b. b) (λ b. b)) (clause_ranged_level (λ b. b))

abbrev pub clause_ranged : Clause → Bool
clause_ranged c = catch_ranged c.name && expr_ranged c.body

abbrev pub param_ranged : Param → Bool
param_ranged p = is_name p.name

abbrev pub service_ranged : Svc → Bool
service_ranged s = is_name s.name

abbrev pub function_ranged : Fun → Bool
function_ranged f = is_name f.name && (list_all param_ranged f.params && expr_ranged f.body)

unfoldable pub program_ranged : Program → Bool
program_ranged p = list_all service_ranged p.svcs && (list_all is_name p.exns && list_all function_ranged p.funs)

abbrev pub value_ranged_level : {X Y : Type 0} → (X → Bool) → (Y → Bool) → Value-F X Y → Bool
value_ranged_level ranged chunk (Value-F.Int z) = is_int z
value_ranged_level ranged chunk (Value-F.Host h) = is_word h.0
value_ranged_level ranged chunk (Value-F.Dev d) = is_word d.0
value_ranged_level ranged chunk (Value-F.Chunk c) = chunk c
value_ranged_level ranged chunk (Value-F.List _ vs) = list_all ranged vs
value_ranged_level ranged chunk (Value-F.Tuple vs) = list_all ranged vs
value_ranged_level ranged chunk _ = true

abbrev pub chunk_ranged_level : {X Y : Type 0} → (X → Bool) → Chunk-F X Y → Bool
chunk_ranged_level ranged c = program_ranged c.code && (is_name c.entry && list_all ranged c.args)

unfoldable pub value_ranged : Value → Bool
value_ranged = fold-Value Bool Bool (value_ranged_level (λ b. b) (λ b. b)) (chunk_ranged_level (λ b. b))

abbrev pub chunk_ranged : Chunk → Bool
chunk_ranged c = program_ranged c.code && (is_name c.entry && list_all value_ranged c.args)
