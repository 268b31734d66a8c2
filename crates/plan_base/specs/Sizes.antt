-- How many bytes the fields of a tree take when it is marshalled, how deep it is, and how many expressions it has.
use Rattle.std.specs.Prelude.{ℕ, ◌+◌, max, List, length, Option, Some, None}
use Rattle.std.specs.List.{fold, sum_by}
use Rattle.plan_base.specs.declared.name.Name.{Name}
use Rattle.plan_base.specs.declared.tree.Ty.{Ty, Ty-F, fold-Ty}
use Rattle.plan_base.specs.declared.tree.Expr.{Expr, Expr-F, fold-Expr}
use Rattle.plan_base.specs.declared.tree.Clause.{Clause, Clause-F}
use Rattle.plan_base.specs.declared.tree.Svc.{Svc}
use Rattle.plan_base.specs.declared.tree.Param.{Param}
use Rattle.plan_base.specs.declared.tree.Fun.{Fun}
use Rattle.plan_base.specs.declared.tree.Program.{Program}
use Rattle.plan_base.specs.declared.tree.Value.{Value, Value-F, fold-Value}
use Rattle.plan_base.specs.declared.tree.Chunk.{Chunk, Chunk-F}

-- the greatest number of a list's items, 0 where there is none
abbrev pub largest_by : {X : Type 0} → (X → ℕ) → List X → ℕ
largest_by f xs = fold (λ m x. max m (f x)) 0 xs

-- a name: its length in one byte, and its bytes
abbrev pub name_size : Name → ℕ
name_size n = length n + 1

-- a type: its tag and its parts, a count before the parts of a tuple
abbrev pub type_size_level : {X : Type 0} → (X → ℕ) → Ty-F X → ℕ
type_size_level size (Ty-F.List t) = 1 + size t
type_size_level size (Ty-F.Tuple ts) = 2 + sum_by size ts
type_size_level size _ = 1

unfoldable pub type_size : Ty → ℕ
type_size = fold-Ty ℕ (type_size_level (λ n. n))

-- a type that may be missing, which then takes no byte
abbrev pub option_type_size : Option Ty → ℕ
option_type_size (Some t) = type_size t
option_type_size None = 0

-- an expression: its tag and its fields, a count before a list of parts
abbrev pub expr_size_level : {X Y : Type 0} → (X → ℕ) → (Y → ℕ) → Expr-F X Y → ℕ
expr_size_level size clause Expr-F.Unit = 1
expr_size_level size clause (Expr-F.Bool _) = 2
expr_size_level size clause (Expr-F.Int _) = 9
expr_size_level size clause (Expr-F.Char _) = 5
expr_size_level size clause (Expr-F.Str s) = 3 + length s
expr_size_level size clause (Expr-F.Blob b) = 3 + length b
expr_size_level size clause (Expr-F.Host _) = 5
expr_size_level size clause (Expr-F.Dev _) = 5
expr_size_level size clause (Expr-F.Nil t) = 1 + option_type_size t
expr_size_level size clause (Expr-F.Var x) = 1 + name_size x
expr_size_level size clause (Expr-F.Tuple es) = 2 + sum_by size es
expr_size_level size clause (Expr-F.Call f es) = 2 + name_size f + sum_by size es
expr_size_level size clause (Expr-F.If c a b) = 1 + size c + size a + size b
expr_size_level size clause (Expr-F.Let x t a b) = 1 + name_size x + type_size t + size a + size b
expr_size_level size clause (Expr-F.Then a b) = 1 + size a + size b
expr_size_level size clause (Expr-F.And a b) = 1 + size a + size b
expr_size_level size clause (Expr-F.Or a b) = 1 + size a + size b
expr_size_level size clause (Expr-F.Not a) = 1 + size a
expr_size_level size clause (Expr-F.Binary _ a b) = 2 + size a + size b
expr_size_level size clause (Expr-F.Part _ a) = 2 + size a
expr_size_level size clause (Expr-F.Raise x t) = 1 + name_size x + option_type_size t
expr_size_level size clause (Expr-F.Try a cs) = 2 + size a + sum_by clause cs
expr_size_level size clause (Expr-F.Foldl f a l) = 1 + name_size f + size a + size l
expr_size_level size clause (Expr-F.Foldr f a l) = 1 + name_size f + size a + size l
expr_size_level size clause (Expr-F.ChunkOf f es) = 2 + name_size f + sum_by size es
expr_size_level size clause (Expr-F.Eval c) = 1 + size c
expr_size_level size clause (Expr-F.OnRemote c h n r) = 1 + size c + size h + size n + name_size r
expr_size_level size clause (Expr-F.OnNeighbor c h n d) = 1 + size c + size h + size n + size d

-- what a clause catches: a byte, and the name where there is one
abbrev pub catch_size : Option Name → ℕ
catch_size (Some x) = 1 + name_size x
catch_size None = 1

abbrev pub clause_size_level : {X Y : Type 0} → (X → ℕ) → Clause-F X Y → ℕ
clause_size_level size c = catch_size c.name + size c.body

unfoldable pub expr_size : Expr → ℕ
expr_size = fold-Expr ℕ ℕ (expr_size_level (λ n. n) (λ n. n)) (clause_size_level (λ n. n))

abbrev pub clause_size : Clause → ℕ
clause_size c = catch_size c.name + expr_size c.body

-- a declared service: its name, a count, the types of its arguments and of its answer
abbrev pub svc_size : Svc → ℕ
svc_size s = name_size s.name + 1 + sum_by type_size s.params + type_size s.result

abbrev pub param_size : Param → ℕ
param_size p = name_size p.name + type_size p.ty

-- a function: its name, a count, its parameters, the type of its body and the body
abbrev pub fun_size : Fun → ℕ
fun_size f = name_size f.name + 1 + sum_by param_size f.params + type_size f.result + expr_size f.body

-- the bytes of a program's marshalled code: three lists, each with a count
unfoldable pub code_size : Program → ℕ
code_size p = 3 + sum_by svc_size p.svcs + sum_by name_size p.exns + sum_by fun_size p.funs

-- a value: its tag and its fields
abbrev pub weight_level : {X Y : Type 0} → (X → ℕ) → (Y → ℕ) → Value-F X Y → ℕ
weight_level weigh chunk Value-F.Unit = 1
weight_level weigh chunk (Value-F.Bool _) = 2
weight_level weigh chunk (Value-F.Int _) = 9
weight_level weigh chunk (Value-F.Char _) = 5
weight_level weigh chunk (Value-F.Str s) = 3 + length s
weight_level weigh chunk (Value-F.Blob b) = 3 + length b
weight_level weigh chunk (Value-F.Host _) = 5
weight_level weigh chunk (Value-F.Dev _) = 5
weight_level weigh chunk (Value-F.Chunk c) = 1 + chunk c
weight_level weigh chunk (Value-F.List t vs) = 3 + type_size t + sum_by weigh vs
weight_level weigh chunk (Value-F.Tuple vs) = 2 + sum_by weigh vs

-- a chunk: its code, the name of its entry, a count and its arguments
abbrev pub chunk_weight_level : {X Y : Type 0} → (X → ℕ) → Chunk-F X Y → ℕ
chunk_weight_level weigh c = 1 + code_size c.code + name_size c.entry + sum_by weigh c.args

-- the bytes that the fields of a value take, its tag counted
unfoldable pub weight : Value → ℕ
weight = fold-Value ℕ ℕ (weight_level (λ n. n) (λ n. n)) (chunk_weight_level (λ n. n))

-- the bytes that the fields of a chunk take; as a value it weighs one more
unfoldable pub chunk_weight : Chunk → ℕ
chunk_weight c = 1 + code_size c.code + name_size c.entry + sum_by weight c.args

-- the depth of a type: 1 for a base type, one more than the deepest part for a list or a tuple
abbrev pub type_depth_level : {X : Type 0} → (X → ℕ) → Ty-F X → ℕ
type_depth_level depth (Ty-F.List t) = 1 + depth t
type_depth_level depth (Ty-F.Tuple ts) = 1 + largest_by depth ts
type_depth_level depth _ = 1

unfoldable pub type_depth : Ty → ℕ
type_depth = fold-Ty ℕ (type_depth_level (λ n. n))

-- the depth of an expression: 1 without parts, else one more than its deepest part
abbrev pub expr_depth_level : {X Y : Type 0} → (X → ℕ) → (Y → ℕ) → Expr-F X Y → ℕ
expr_depth_level depth clause (Expr-F.Tuple es) = 1 + largest_by depth es
expr_depth_level depth clause (Expr-F.Call _ es) = 1 + largest_by depth es
expr_depth_level depth clause (Expr-F.If c a b) = 1 + max (depth c) (max (depth a) (depth b))
expr_depth_level depth clause (Expr-F.Let _ _ a b) = 1 + max (depth a) (depth b)
expr_depth_level depth clause (Expr-F.Then a b) = 1 + max (depth a) (depth b)
expr_depth_level depth clause (Expr-F.And a b) = 1 + max (depth a) (depth b)
expr_depth_level depth clause (Expr-F.Or a b) = 1 + max (depth a) (depth b)
expr_depth_level depth clause (Expr-F.Not a) = 1 + depth a
expr_depth_level depth clause (Expr-F.Binary _ a b) = 1 + max (depth a) (depth b)
expr_depth_level depth clause (Expr-F.Part _ a) = 1 + depth a
expr_depth_level depth clause (Expr-F.Try a cs) = 1 + max (depth a) (largest_by clause cs)
expr_depth_level depth clause (Expr-F.Foldl _ a l) = 1 + max (depth a) (depth l)
expr_depth_level depth clause (Expr-F.Foldr _ a l) = 1 + max (depth a) (depth l)
expr_depth_level depth clause (Expr-F.ChunkOf _ es) = 1 + largest_by depth es
expr_depth_level depth clause (Expr-F.Eval c) = 1 + depth c
expr_depth_level depth clause (Expr-F.OnRemote c h n _) = 1 + max (depth c) (max (depth h) (depth n))
expr_depth_level depth clause (Expr-F.OnNeighbor c h n d) = 1 + max (max (depth c) (depth h)) (max (depth n) (depth d))
expr_depth_level depth clause _ = 1

abbrev pub clause_depth_level : {X Y : Type 0} → (X → ℕ) → Clause-F X Y → ℕ
clause_depth_level depth c = depth c.body

unfoldable pub expr_depth : Expr → ℕ
expr_depth = fold-Expr ℕ ℕ (expr_depth_level (λ n. n) (λ n. n)) (clause_depth_level (λ n. n))

abbrev pub clause_depth : Clause → ℕ
clause_depth c = expr_depth c.body

-- how many expressions an expression has, itself counted
abbrev pub expr_nodes_level : {X Y : Type 0} → (X → ℕ) → (Y → ℕ) → Expr-F X Y → ℕ
expr_nodes_level nodes clause (Expr-F.Tuple es) = 1 + sum_by nodes es
expr_nodes_level nodes clause (Expr-F.Call _ es) = 1 + sum_by nodes es
expr_nodes_level nodes clause (Expr-F.If c a b) = 1 + nodes c + nodes a + nodes b
expr_nodes_level nodes clause (Expr-F.Let _ _ a b) = 1 + nodes a + nodes b
expr_nodes_level nodes clause (Expr-F.Then a b) = 1 + nodes a + nodes b
expr_nodes_level nodes clause (Expr-F.And a b) = 1 + nodes a + nodes b
expr_nodes_level nodes clause (Expr-F.Or a b) = 1 + nodes a + nodes b
expr_nodes_level nodes clause (Expr-F.Not a) = 1 + nodes a
expr_nodes_level nodes clause (Expr-F.Binary _ a b) = 1 + nodes a + nodes b
expr_nodes_level nodes clause (Expr-F.Part _ a) = 1 + nodes a
expr_nodes_level nodes clause (Expr-F.Try a cs) = 1 + nodes a + sum_by clause cs
expr_nodes_level nodes clause (Expr-F.Foldl _ a l) = 1 + nodes a + nodes l
expr_nodes_level nodes clause (Expr-F.Foldr _ a l) = 1 + nodes a + nodes l
expr_nodes_level nodes clause (Expr-F.ChunkOf _ es) = 1 + sum_by nodes es
expr_nodes_level nodes clause (Expr-F.Eval c) = 1 + nodes c
expr_nodes_level nodes clause (Expr-F.OnRemote c h n _) = 1 + nodes c + nodes h + nodes n
expr_nodes_level nodes clause (Expr-F.OnNeighbor c h n d) = 1 + nodes c + nodes h + nodes n + nodes d
expr_nodes_level nodes clause _ = 1

abbrev pub clause_nodes_level : {X Y : Type 0} → (X → ℕ) → Clause-F X Y → ℕ
clause_nodes_level nodes c = nodes c.body

unfoldable pub expr_nodes : Expr → ℕ
expr_nodes = fold-Expr ℕ ℕ (expr_nodes_level (λ n. n) (λ n. n)) (clause_nodes_level (λ n. n))

abbrev pub clause_nodes : Clause → ℕ
clause_nodes c = expr_nodes c.body

-- how many expressions a program has
unfoldable pub program_nodes : Program → ℕ
program_nodes p = sum_by (λ f. expr_nodes f.body) p.funs

-- how many chunks stand inside each other in a value
abbrev pub nesting_level : {X Y : Type 0} → (X → ℕ) → (Y → ℕ) → Value-F X Y → ℕ
nesting_level nesting chunk (Value-F.Chunk c) = chunk c
nesting_level nesting chunk (Value-F.List _ vs) = largest_by nesting vs
nesting_level nesting chunk (Value-F.Tuple vs) = largest_by nesting vs
nesting_level nesting chunk _ = 0

abbrev pub chunk_nesting_level : {X Y : Type 0} → (X → ℕ) → Chunk-F X Y → ℕ
chunk_nesting_level nesting c = 1 + largest_by nesting c.args

unfoldable pub nesting : Value → ℕ
nesting = fold-Value ℕ ℕ (nesting_level (λ n. n) (λ n. n)) (chunk_nesting_level (λ n. n))

-- the outermost chunk counts as one
unfoldable pub chunk_nesting : Chunk → ℕ
chunk_nesting c = 1 + largest_by nesting c.args

-- how many lists and tuples stand inside each other in a value; a chunk begins the count anew
abbrev pub value_depth_level : {X Y : Type 0} → (X → ℕ) → Value-F X Y → ℕ
value_depth_level depth (Value-F.List _ vs) = 1 + largest_by depth vs
value_depth_level depth (Value-F.Tuple vs) = 1 + largest_by depth vs
value_depth_level depth _ = 0

unfoldable pub value_depth : Value → ℕ
value_depth = fold-Value ℕ ℕ (value_depth_level (λ n. n)) (λ _. 0)
