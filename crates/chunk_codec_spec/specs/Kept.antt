-- What can be written: each count and length fits its field, and no type is missing.
use Rattle.std.specs.Prelude.{Bool, true, false, ◌&&◌, List, length, Some, None, nat_lt}
use Rattle.std.specs.List.{list_all}
use Rattle.plan_base.specs.declared.tree.Ty.{Ty, Ty-F, fold-Ty}
use Rattle.plan_base.specs.declared.tree.Expr.{Expr, Expr-F, fold-Expr}
use Rattle.plan_base.specs.declared.tree.Clause.{Clause, Clause-F}
use Rattle.plan_base.specs.declared.tree.Svc.{Svc}
use Rattle.plan_base.specs.declared.tree.Param.{Param}
use Rattle.plan_base.specs.declared.tree.Fun.{Fun}
use Rattle.plan_base.specs.declared.tree.Program.{Program}
use Rattle.plan_base.specs.declared.tree.Value.{Value, Value-F, fold-Value}
use Rattle.plan_base.specs.declared.tree.Chunk.{Chunk, Chunk-F}

abbrev pub type_kept_level : {X : Type 0} → (X → Bool) → Ty-F X → Bool
type_kept_level kept (Ty-F.List t) = kept t
type_kept_level kept (Ty-F.Tuple ts) = nat_lt (length ts) 256 && list_all kept ts
type_kept_level kept _ = true

unfoldable pub type_kept : Ty → Bool
type_kept = fold-Ty Bool (type_kept_level (λ b. b))

abbrev pub expr_kept_level : {X Y : Type 0} → (X → Bool) → (Y → Bool) → Expr-F X Y → Bool
expr_kept_level kept clause (Expr-F.Str s) = nat_lt (length s) 65536
expr_kept_level kept clause (Expr-F.Blob s) = nat_lt (length s) 65536
expr_kept_level kept clause (Expr-F.Nil (Some t)) = type_kept t
expr_kept_level kept clause (Expr-F.Nil None) = false
expr_kept_level kept clause (Expr-F.Tuple es) = nat_lt (length es) 256 && list_all kept es
expr_kept_level kept clause (Expr-F.Call _ es) = nat_lt (length es) 256 && list_all kept es
expr_kept_level kept clause (Expr-F.If a b c) = kept a && (kept b && kept c)
expr_kept_level kept clause (Expr-F.Let _ t a b) = type_kept t && (kept a && kept b)
expr_kept_level kept clause (Expr-F.Then a b) = kept a && kept b
expr_kept_level kept clause (Expr-F.And a b) = kept a && kept b
expr_kept_level kept clause (Expr-F.Or a b) = kept a && kept b
expr_kept_level kept clause (Expr-F.Not a) = kept a
expr_kept_level kept clause (Expr-F.Binary _ a b) = kept a && kept b
expr_kept_level kept clause (Expr-F.Part _ a) = kept a
expr_kept_level kept clause (Expr-F.Raise _ (Some t)) = type_kept t
expr_kept_level kept clause (Expr-F.Raise _ None) = false
expr_kept_level kept clause (Expr-F.Try a cs) = kept a && (nat_lt (length cs) 256 && list_all clause cs)
expr_kept_level kept clause (Expr-F.Foldl _ a b) = kept a && kept b
expr_kept_level kept clause (Expr-F.Foldr _ a b) = kept a && kept b
expr_kept_level kept clause (Expr-F.ChunkOf _ es) = nat_lt (length es) 256 && list_all kept es
expr_kept_level kept clause (Expr-F.Eval a) = kept a
expr_kept_level kept clause (Expr-F.OnRemote a b c _) = kept a && (kept b && kept c)
expr_kept_level kept clause (Expr-F.OnNeighbor a b c d) = kept a && (kept b && (kept c && kept d))
expr_kept_level kept clause _ = true

abbrev pub clause_kept_level : {X Y : Type 0} → (X → Bool) → Clause-F X Y → Bool
clause_kept_level kept c = kept c.body

unfoldable pub expr_kept : Expr → Bool
expr_kept = fold-Expr Bool Bool (expr_kept_level (λ b. b) (λ b. b)) (clause_kept_level (λ b. b))

abbrev pub clause_kept : Clause → Bool
clause_kept c = expr_kept c.body

abbrev pub param_kept : Param → Bool
param_kept p = type_kept p.ty

abbrev pub service_kept : Svc → Bool
service_kept s = nat_lt (length s.params) 256 && (list_all type_kept s.params && type_kept s.result)

abbrev pub function_kept : Fun → Bool
function_kept f = nat_lt (length f.params) 256 && (list_all param_kept f.params && (type_kept f.result && expr_kept f.body))

unfoldable pub program_kept : Program → Bool
program_kept p =
    nat_lt (length p.svcs) 256
    && (list_all service_kept p.svcs && (nat_lt (length p.exns) 256 && (nat_lt (length p.funs) 256 && list_all function_kept p.funs)))

abbrev pub value_kept_level : {X Y : Type 0} → (X → Bool) → (Y → Bool) → Value-F X Y → Bool
value_kept_level kept chunk (Value-F.Str s) = nat_lt (length s) 65536
value_kept_level kept chunk (Value-F.Blob s) = nat_lt (length s) 65536
value_kept_level kept chunk (Value-F.Chunk c) = chunk c
value_kept_level kept chunk (Value-F.List t vs) = type_kept t && (nat_lt (length vs) 65536 && list_all kept vs)
value_kept_level kept chunk (Value-F.Tuple es) = nat_lt (length es) 256 && list_all kept es
value_kept_level kept chunk _ = true

abbrev pub chunk_kept_level : {X Y : Type 0} → (X → Bool) → Chunk-F X Y → Bool
chunk_kept_level kept c = program_kept c.code && (nat_lt (length c.args) 256 && list_all kept c.args)

unfoldable pub value_kept : Value → Bool
value_kept = fold-Value Bool Bool (value_kept_level (λ b. b) (λ b. b)) (chunk_kept_level (λ b. b))

abbrev pub chunk_kept : Chunk → Bool
chunk_kept c = program_kept c.code && (nat_lt (length c.args) 256 && list_all value_kept c.args)
