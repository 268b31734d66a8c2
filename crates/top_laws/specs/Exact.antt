-- Which trees hold only names that are names, numbers that fit their types and blobs of bytes. Every tree of the code does.
use Rattle.std.specs.Prelude.{ℕ, Bool, true, ◌&&◌, nat_lt}
use Rattle.std.specs.List.{list_all}
use Rattle.plan_base.specs.Words.{is_name}
use Rattle.plan_base.specs.declared.tree.Expr.{Expr, Expr-F, fold-Expr}
use Rattle.plan_base.specs.declared.tree.Clause.{Clause}
use Rattle.plan_base.specs.declared.tree.Fun.{Fun}
use Rattle.plan_base.specs.declared.tree.Program.{Program}
use Rattle.plan_base.specs.declared.tree.Value.{Value, Value-F, fold-Value}
use Rattle.chunk_codec.specs.Ranges.{expr_ranged_level, clause_ranged_level, catch_ranged, param_ranged, service_ranged, value_ranged_level}

-- a number of 8 bits
abbrev pub is_byte : ℕ → Bool
is_byte n = nat_lt n 256

-- in range, with bytes in blobs
abbrev pub exact_level : {X Y : Type 0} → (X → Bool) → (Y → Bool) → Expr-F X Y → Bool
exact_level exact clause (Expr-F.Blob b) = list_all is_byte b
exact_level exact clause x = expr_ranged_level exact clause x

unfoldable pub exact : Expr → Bool
exact = fold-Expr Bool Bool (exact_level (λ b. b) (λ b. b)) (clause_ranged_level (λ b. b))

abbrev pub clause_exact : Clause → Bool
clause_exact c = catch_ranged c.name && exact c.body

abbrev pub function_exact : Fun → Bool
function_exact f = is_name f.name && (list_all param_ranged f.params && exact f.body)

unfoldable pub program_exact : Program → Bool
program_exact p = list_all service_ranged p.svcs && (list_all is_name p.exns && list_all function_exact p.funs)

-- a value, whatever the chunks in it are
abbrev pub value_exact_level : {X Y : Type 0} → (X → Bool) → Value-F X Y → Bool
value_exact_level exact (Value-F.Blob b) = list_all is_byte b
value_exact_level exact v = value_ranged_level exact (λ _. true) v

unfoldable pub value_exact : Value → Bool
value_exact = fold-Value Bool Bool (value_exact_level (λ b. b)) (λ _. true)
