-- Which trees keep the counts, depths and forms of the language, and in which no type is missing.
use Rattle.std.specs.Prelude.{ℕ, ◌-◌, Bool, true, ◌&&◌, List, length, take, nat_le, IsTrue, Option, Some, None, is_some}
use Rattle.std.specs.List.{list_all}
use Rattle.std.specs.Str.{is_utf8}
use lib.Utf8.{scalar}
use Rattle.plan_base.specs.declared.tree.Ty.{Ty, Ty-F, fold-Ty}
use Rattle.plan_base.specs.declared.tree.Expr.{Expr, Expr-F, fold-Expr, para-Expr}
use Rattle.plan_base.specs.declared.tree.Clause.{Clause-F}
use Rattle.plan_base.specs.declared.tree.Svc.{Svc}
use Rattle.plan_base.specs.declared.tree.Fun.{Fun}
use Rattle.plan_base.specs.declared.tree.Program.{Program}
use Rattle.plan_base.specs.declared.tree.Value.{Value, Value-F, fold-Value, para-Value}
use Rattle.plan_base.specs.declared.tree.Chunk.{Chunk, Chunk-F}
use Rattle.plan_base.specs.Sizes.{type_depth, expr_depth, program_nodes, value_depth, nesting}

-- whether a list has from `least` to `most` items
abbrev pub has_from_to : {X : Type 0} → ℕ → ℕ → List X → Bool
has_from_to least most xs = nat_le least (length xs) && nat_le (length xs) most

-- every tuple of the type has 2 to 8 parts
abbrev pub formed_type_level : {X : Type 0} → (X → Bool) → Ty-F X → Bool
formed_type_level formed (Ty-F.List t) = formed t
formed_type_level formed (Ty-F.Tuple ts) = has_from_to 2 8 ts && list_all formed ts
formed_type_level formed _ = true

unfoldable pub formed_type : Ty → Bool
formed_type = fold-Ty Bool (formed_type_level (λ b. b))

-- a type of at most depth 8
unfoldable pub well_formed_type : Ty → Bool
well_formed_type t = formed_type t && nat_le (type_depth t) 8

abbrev pub well_formed_option_type : Option Ty → Bool
well_formed_option_type (Some t) = well_formed_type t
well_formed_option_type None = true

-- a text of valid UTF-8 and at most 65,535 bytes
unfoldable pub well_formed_text : List ℕ → Bool
well_formed_text s = is_utf8 s && nat_le (length s) 65535

-- `_` stands only in the last clause
abbrev pub names_all_but_last : {Y : Type 0} → (Y → Bool) → List Y → Bool
names_all_but_last named cs = list_all named (take (length cs - 1) cs)

-- the counts and forms of one level; `named` says whether a clause has a name
abbrev pub formed_expr_level : {X Y : Type 0} → (X → Bool) → (Y → Bool) → (Y → Bool) → Expr-F X Y → Bool
formed_expr_level formed named clause (Expr-F.Char c) = scalar c
formed_expr_level formed named clause (Expr-F.Str s) = well_formed_text s
formed_expr_level formed named clause (Expr-F.Blob b) = nat_le (length b) 65535
formed_expr_level formed named clause (Expr-F.Nil t) = well_formed_option_type t
formed_expr_level formed named clause (Expr-F.Tuple es) = has_from_to 2 8 es && list_all formed es
formed_expr_level formed named clause (Expr-F.Call _ es) = nat_le (length es) 8 && list_all formed es
formed_expr_level formed named clause (Expr-F.If c a b) = formed c && (formed a && formed b)
formed_expr_level formed named clause (Expr-F.Let _ t a b) = well_formed_type t && (formed a && formed b)
formed_expr_level formed named clause (Expr-F.Then a b) = formed a && formed b
formed_expr_level formed named clause (Expr-F.And a b) = formed a && formed b
formed_expr_level formed named clause (Expr-F.Or a b) = formed a && formed b
formed_expr_level formed named clause (Expr-F.Not a) = formed a
formed_expr_level formed named clause (Expr-F.Binary _ a b) = formed a && formed b
formed_expr_level formed named clause (Expr-F.Part i a) = (nat_le 1 i && nat_le i 8) && formed a
formed_expr_level formed named clause (Expr-F.Raise _ t) = well_formed_option_type t
formed_expr_level formed named clause (Expr-F.Try a cs) = formed a && ((has_from_to 1 8 cs && names_all_but_last named cs) && list_all clause cs)
formed_expr_level formed named clause (Expr-F.Foldl _ a l) = formed a && formed l
formed_expr_level formed named clause (Expr-F.Foldr _ a l) = formed a && formed l
formed_expr_level formed named clause (Expr-F.ChunkOf _ es) = nat_le (length es) 8 && list_all formed es
formed_expr_level formed named clause (Expr-F.Eval c) = formed c
formed_expr_level formed named clause (Expr-F.OnRemote c h n _) = formed c && (formed h && formed n)
formed_expr_level formed named clause (Expr-F.OnNeighbor c h n d) = (formed c && formed h) && (formed n && formed d)
formed_expr_level formed named clause _ = true

unfoldable pub formed_expr : Expr → Bool
formed_expr = para-Expr Bool Bool (formed_expr_level (λ e. e.1) (λ c. is_some c.0.name) (λ c. c.1)) (λ c. c.body.1)

-- an expression of at most depth 64
unfoldable pub well_formed_expr : Expr → Bool
well_formed_expr e = formed_expr e && nat_le (expr_depth e) 64

-- at most 8 parameters, and types of at most depth 8
abbrev pub well_formed_svc : Svc → Bool
well_formed_svc s = nat_le (length s.params) 8 && (list_all well_formed_type s.params && well_formed_type s.result)

abbrev pub well_formed_fun : Fun → Bool
well_formed_fun f = nat_le (length f.params) 8 && (list_all (λ p. well_formed_type p.ty) f.params && (well_formed_type f.result && well_formed_expr f.body))

-- at most 64 services, exceptions and functions, at least one function, and at most 4,096 expressions
unfoldable pub well_formed_program : Program → Bool
well_formed_program p =
    (nat_le (length p.svcs) 64 && list_all well_formed_svc p.svcs)
    && (nat_le (length p.exns) 64 && ((has_from_to 1 64 p.funs && list_all well_formed_fun p.funs) && nat_le (program_nodes p) 4096))

-- the counts and forms of one level of a value; a list's own type has at most depth 8
abbrev pub formed_value_level : {X Y : Type 0} → (X → Bool) → (Y → Bool) → Value-F X Y → Bool
formed_value_level formed chunk (Value-F.Char c) = scalar c
formed_value_level formed chunk (Value-F.Str s) = well_formed_text s
formed_value_level formed chunk (Value-F.Blob b) = nat_le (length b) 65535
formed_value_level formed chunk (Value-F.Chunk c) = chunk c
formed_value_level formed chunk (Value-F.List t vs) = (formed_type t && nat_le (type_depth t) 7) && (nat_le (length vs) 65535 && list_all formed vs)
formed_value_level formed chunk (Value-F.Tuple vs) = has_from_to 2 8 vs && list_all formed vs
formed_value_level formed chunk _ = true

-- a chunk's program, and at most 8 arguments, in each of which at most 8 lists and tuples stand inside each other
abbrev pub formed_chunk_level : {X Y : Type 0} → (X → Bool) → Chunk-F X Y → Bool
formed_chunk_level shallow c = well_formed_program c.code && (nat_le (length c.args) 8 && list_all shallow c.args)

unfoldable pub formed_value : Value → Bool
formed_value = para-Value Bool Bool (formed_value_level (λ v. v.1) (λ c. c.1)) (formed_chunk_level (λ v. v.1 && nat_le (value_depth v.0) 8))

-- a value in which at most 8 lists and tuples, and at most 4 chunks, stand inside each other
unfoldable pub well_formed_value : Value → Bool
well_formed_value v = formed_value v && (nat_le (value_depth v) 8 && nat_le (nesting v) 4)

-- a chunk whose arguments are such values, itself counted as one of the 4
unfoldable pub formed_chunk : Chunk → Bool
formed_chunk c = well_formed_program c.code && (nat_le (length c.args) 8 && list_all (λ v. formed_value v && nat_le (value_depth v) 8) c.args)

unfoldable pub well_formed_chunk : Chunk → Bool
well_formed_chunk c = formed_chunk c && list_all (λ v. nat_le (nesting v) 3) c.args

-- ---- missing types

-- no `[]` and no `raise` of the expression lacks its type
abbrev pub typed_expr_level : {X Y : Type 0} → (X → Bool) → (Y → Bool) → Expr-F X Y → Bool
typed_expr_level has clause (Expr-F.Nil t) = is_some t
typed_expr_level has clause (Expr-F.Tuple es) = list_all has es
typed_expr_level has clause (Expr-F.Call _ es) = list_all has es
typed_expr_level has clause (Expr-F.If c a b) = has c && (has a && has b)
typed_expr_level has clause (Expr-F.Let _ _ a b) = has a && has b
typed_expr_level has clause (Expr-F.Then a b) = has a && has b
typed_expr_level has clause (Expr-F.And a b) = has a && has b
typed_expr_level has clause (Expr-F.Or a b) = has a && has b
typed_expr_level has clause (Expr-F.Not a) = has a
typed_expr_level has clause (Expr-F.Binary _ a b) = has a && has b
typed_expr_level has clause (Expr-F.Part _ a) = has a
typed_expr_level has clause (Expr-F.Raise _ t) = is_some t
typed_expr_level has clause (Expr-F.Try a cs) = has a && list_all clause cs
typed_expr_level has clause (Expr-F.Foldl _ a l) = has a && has l
typed_expr_level has clause (Expr-F.Foldr _ a l) = has a && has l
typed_expr_level has clause (Expr-F.ChunkOf _ es) = list_all has es
typed_expr_level has clause (Expr-F.Eval c) = has c
typed_expr_level has clause (Expr-F.OnRemote c h n _) = has c && (has h && has n)
typed_expr_level has clause (Expr-F.OnNeighbor c h n d) = (has c && has h) && (has n && has d)
typed_expr_level has clause _ = true

abbrev pub typed_clause_level : {X Y : Type 0} → (X → Bool) → Clause-F X Y → Bool
typed_clause_level has c = has c.body

unfoldable pub has_types : Expr → Bool
has_types = fold-Expr Bool Bool (typed_expr_level (λ b. b) (λ b. b)) (typed_clause_level (λ b. b))

-- no type is missing in a body of the program
unfoldable pub program_has_types : Program → Bool
program_has_types p = list_all (λ f. has_types f.body) p.funs

abbrev pub typed_value_level : {X Y : Type 0} → (X → Bool) → (Y → Bool) → Value-F X Y → Bool
typed_value_level has chunk (Value-F.Chunk c) = chunk c
typed_value_level has chunk (Value-F.List _ vs) = list_all has vs
typed_value_level has chunk (Value-F.Tuple vs) = list_all has vs
typed_value_level has chunk _ = true

abbrev pub typed_chunk_level : {X Y : Type 0} → (X → Bool) → Chunk-F X Y → Bool
typed_chunk_level has c = program_has_types c.code && list_all has c.args

-- no type is missing in the code of a chunk inside the value
unfoldable pub value_has_types : Value → Bool
value_has_types = fold-Value Bool Bool (typed_value_level (λ b. b) (λ b. b)) (typed_chunk_level (λ b. b))

unfoldable pub chunk_has_types : Chunk → Bool
chunk_has_types c = program_has_types c.code && list_all value_has_types c.args

-- ---- as facts

abbrev pub IsWellFormedType : Ty → Type 0
IsWellFormedType t = IsTrue (well_formed_type t)

abbrev pub IsWellFormedExpr : Expr → Type 0
IsWellFormedExpr e = IsTrue (well_formed_expr e)

abbrev pub IsWellFormedProgram : Program → Type 0
IsWellFormedProgram p = IsTrue (well_formed_program p)

abbrev pub IsWellFormedValue : Value → Type 0
IsWellFormedValue v = IsTrue (well_formed_value v)

abbrev pub IsWellFormedChunk : Chunk → Type 0
IsWellFormedChunk c = IsTrue (well_formed_chunk c)

abbrev pub HasTypes : Expr → Type 0
HasTypes e = IsTrue (has_types e)

abbrev pub ProgramHasTypes : Program → Type 0
ProgramHasTypes p = IsTrue (program_has_types p)

abbrev pub ValueHasTypes : Value → Type 0
ValueHasTypes v = IsTrue (value_has_types v)

abbrev pub ChunkHasTypes : Chunk → Type 0
ChunkHasTypes c = IsTrue (chunk_has_types c)
