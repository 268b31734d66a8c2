-- The printed form of types, values and programs.
use Rattle.std.specs.Prelude.{ℕ, ◌+◌, min, List, [], ◌∷◌, ◌++◌, Option, Some, None, Bool, true, false, codes}
use Rattle.std.specs.Fmt.{decimal}
use Rattle.std.specs.List.{flat_map}
use Rattle.plan_base.specs.declared.tree.Ty.{Ty, Ty-F, fold-Ty}
use Rattle.plan_base.specs.declared.tree.Op.{Op}
use Rattle.plan_base.specs.declared.tree.Op.TheVariants as op
use Rattle.plan_base.specs.declared.tree.Expr.{Expr, Expr-F, fold-Expr}
use Rattle.plan_base.specs.declared.tree.Clause.{Clause, Clause-F}
use Rattle.plan_base.specs.declared.tree.Svc.{Svc}
use Rattle.plan_base.specs.declared.tree.Param.{Param}
use Rattle.plan_base.specs.declared.tree.Fun.{Fun}
use Rattle.plan_base.specs.declared.tree.Program.{Program}
use Rattle.plan_base.specs.declared.tree.Value.{Value, Value-F, fold-Value}
use Rattle.plan_base.specs.declared.tree.Chunk.{Chunk, Chunk-F}
use Rattle.plan_base.specs.declared.name.Name.{Name}
use Rattle.plan_base.specs.Sizes.{weight_level, chunk_weight_level, chunk_weight}
use Rattle.plan_printer_spec.specs.Literals.{int_text, host_text, dev_text, string_text, blob_text}
use Rattle.plan_printer_spec.specs.Pieces.{listed_pieces, commas, scalar_text}

-- a type: base types by their words, `t list` and `(t * t)`
abbrev pub type_text_level : {X : Type 0} → (X → List ℕ) → Ty-F X → List ℕ
type_text_level print Ty-F.Unit = codes "unit"
type_text_level print Ty-F.Bool = codes "bool"
type_text_level print Ty-F.Int = codes "int"
type_text_level print Ty-F.Char = codes "char"
type_text_level print Ty-F.Str = codes "string"
type_text_level print Ty-F.Blob = codes "blob"
type_text_level print Ty-F.Host = codes "host"
type_text_level print Ty-F.Dev = codes "dev"
type_text_level print Ty-F.Chunk = codes "chunk"
type_text_level print (Ty-F.List t) = print t ++ codes " list"
type_text_level print (Ty-F.Tuple ts) = codes "(" ++ listed_pieces (codes " * ") [] print ts ++ codes ")"

unfoldable pub type_text : Ty → List ℕ
type_text = fold-Ty (List ℕ) (type_text_level (λ s. s))

abbrev pub bool_text : Bool → List ℕ
bool_text true = codes "true"
bool_text false = codes "false"

-- the empty list with an element type, as `[:t]`
abbrev pub empty_text : Ty → List ℕ
empty_text t = codes "[:" ++ type_text t ++ codes "]"

-- a list of values: its items in square brackets, or the empty list with its element type
abbrev pub values_text : {X : Type 0} → (X → List ℕ) → Ty → List X → List ℕ
values_text print t [] = empty_text t
values_text print t (v ∷ vs) = codes "[" ++ commas print (v ∷ vs) ++ codes "]"

-- a chunk in a value: its entry and its weight as a value, or 2^64 - 1 where that is more
abbrev pub chunk_text_of : List ℕ → ℕ → List ℕ
chunk_text_of entry weight = codes "<chunk " ++ entry ++ codes " " ++ decimal (min weight 18446744073709551615) ++ codes ">"

unfoldable pub chunk_text : Chunk → List ℕ
chunk_text c = chunk_text_of c.entry (1 + chunk_weight c)

-- a value
abbrev pub value_text_level : {X Y : Type 0} → (X → List ℕ) → (Y → List ℕ) → Value-F X Y → List ℕ
value_text_level print chunk Value-F.Unit = codes "()"
value_text_level print chunk (Value-F.Bool b) = bool_text b
value_text_level print chunk (Value-F.Int z) = int_text z
value_text_level print chunk (Value-F.Char c) = scalar_text c
value_text_level print chunk (Value-F.Str s) = string_text s
value_text_level print chunk (Value-F.Blob b) = blob_text b
value_text_level print chunk (Value-F.Host h) = host_text h.0
value_text_level print chunk (Value-F.Dev d) = dev_text d.0
value_text_level print chunk (Value-F.Chunk c) = chunk c
value_text_level print chunk (Value-F.List t vs) = values_text print t vs
value_text_level print chunk (Value-F.Tuple vs) = codes "(" ++ commas print vs ++ codes ")"

-- an operator
unfoldable pub op_text : Op → List ℕ
op_text op.Add = codes "+"
op_text op.Sub = codes "-"
op_text op.Mul = codes "*"
op_text op.Div = codes "/"
op_text op.Mod = codes "mod"
op_text op.Cat = codes "^"
op_text op.Eq = codes "="
op_text op.Ne = codes "<>"
op_text op.Lt = codes "<"
op_text op.Le = codes "<="
op_text op.Gt = codes ">"
op_text op.Ge = codes ">="
op_text op.Cons = codes "::"

-- `[]`, or the empty list with its element type
abbrev pub nil_text : Option Ty → List ℕ
nil_text None = codes "[]"
nil_text (Some t) = empty_text t

-- `raise X`, with its type where it has one
abbrev pub raise_text : Name → Option Ty → List ℕ
raise_text x None = codes "raise " ++ x
raise_text x (Some t) = codes "raise" ++ empty_text t ++ codes " " ++ x

-- an expression: every `if`, `;`, operator, `and`, `or`, `not` and part in round brackets
abbrev pub expr_text_level : {X Y : Type 0} → (X → List ℕ) → (Y → List ℕ) → Expr-F X Y → List ℕ
expr_text_level print clause Expr-F.Unit = codes "()"
expr_text_level print clause (Expr-F.Bool b) = bool_text b
expr_text_level print clause (Expr-F.Int z) = int_text z
expr_text_level print clause (Expr-F.Char c) = scalar_text c
expr_text_level print clause (Expr-F.Str s) = string_text s
expr_text_level print clause (Expr-F.Blob b) = blob_text b
expr_text_level print clause (Expr-F.Host h) = host_text h.0
expr_text_level print clause (Expr-F.Dev d) = dev_text d.0
expr_text_level print clause (Expr-F.Nil t) = nil_text t
expr_text_level print clause (Expr-F.Var x) = x
expr_text_level print clause (Expr-F.Tuple es) = codes "(" ++ commas print es ++ codes ")"
expr_text_level print clause (Expr-F.Call f es) = f ++ codes "(" ++ commas print es ++ codes ")"
expr_text_level print clause (Expr-F.If c a b) = codes "(if " ++ print c ++ codes " then " ++ print a ++ codes " else " ++ print b ++ codes ")"
expr_text_level print clause (Expr-F.Let x t a b) =
    codes "let val " ++ x ++ codes " : " ++ type_text t ++ codes " = " ++ print a ++ codes " in " ++ print b ++ codes " end"
expr_text_level print clause (Expr-F.Then a b) = codes "(" ++ print a ++ codes "; " ++ print b ++ codes ")"
expr_text_level print clause (Expr-F.And a b) = codes "(" ++ print a ++ codes " and " ++ print b ++ codes ")"
expr_text_level print clause (Expr-F.Or a b) = codes "(" ++ print a ++ codes " or " ++ print b ++ codes ")"
expr_text_level print clause (Expr-F.Not a) = codes "(not " ++ print a ++ codes ")"
expr_text_level print clause (Expr-F.Binary o a b) = codes "(" ++ print a ++ codes " " ++ op_text o ++ codes " " ++ print b ++ codes ")"
expr_text_level print clause (Expr-F.Part i a) = codes "(#" ++ decimal i ++ codes " " ++ print a ++ codes ")"
expr_text_level print clause (Expr-F.Raise x t) = raise_text x t
expr_text_level print clause (Expr-F.Try a cs) = codes "try " ++ print a ++ codes " handle " ++ listed_pieces (codes " | ") [] clause cs ++ codes " end"
expr_text_level print clause (Expr-F.Foldl f a l) = codes "foldl(" ++ f ++ codes ", " ++ print a ++ codes ", " ++ print l ++ codes ")"
expr_text_level print clause (Expr-F.Foldr f a l) = codes "foldr(" ++ f ++ codes ", " ++ print a ++ codes ", " ++ print l ++ codes ")"
expr_text_level print clause (Expr-F.ChunkOf f es) = codes "|" ++ f ++ codes "|(" ++ commas print es ++ codes ")"
expr_text_level print clause (Expr-F.Eval c) = codes "eval(" ++ print c ++ codes ")"
expr_text_level print clause (Expr-F.OnRemote c h n r) =
    codes "OnRemote(" ++ print c ++ codes ", " ++ print h ++ codes ", " ++ print n ++ codes ", " ++ r ++ codes ")"
expr_text_level print clause (Expr-F.OnNeighbor c h n d) =
    codes "OnNeighbor(" ++ print c ++ codes ", " ++ print h ++ codes ", " ++ print n ++ codes ", " ++ print d ++ codes ")"

-- what a clause catches
abbrev pub catch_text : Option Name → List ℕ
catch_text (Some x) = x
catch_text None = codes "_"

abbrev pub clause_text_level : {X Y : Type 0} → (X → List ℕ) → Clause-F X Y → List ℕ
clause_text_level print c = catch_text c.name ++ codes " => " ++ print c.body

unfoldable pub expr_text : Expr → List ℕ
expr_text = fold-Expr (List ℕ) (List ℕ) (expr_text_level (λ s. s) (λ s. s)) (clause_text_level (λ s. s))

abbrev pub clause_text : Clause → List ℕ
clause_text c = catch_text c.name ++ codes " => " ++ expr_text c.body

-- a declared service, an exception and a function, each on a line
abbrev pub svc_text : Svc → List ℕ
svc_text s = codes "svc " ++ s.name ++ codes " : (" ++ commas type_text s.params ++ codes ") -> " ++ type_text s.result ++ 10 ∷ []

abbrev pub exn_text : Name → List ℕ
exn_text x = codes "exception " ++ x ++ 10 ∷ []

abbrev pub param_text : Param → List ℕ
param_text p = p.name ++ codes " : " ++ type_text p.ty

abbrev pub fun_text : Fun → List ℕ
fun_text f =
    codes "fun " ++ f.name ++ codes "(" ++ commas param_text f.params ++ codes ") : " ++ type_text f.result ++ codes " = "
    ++ expr_text f.body ++ 10 ∷ []

-- a program: its services, then its exceptions, then its functions
unfoldable pub program_text : Program → List ℕ
program_text p = flat_map svc_text p.svcs ++ flat_map exn_text p.exns ++ flat_map fun_text p.funs

-- the weight of a value and its text, from those of its parts
abbrev pub Shown : Type 0
Shown = ℕ × List ℕ

abbrev pub shown_level : Value-F Shown Shown → Shown
shown_level v = (weight_level (λ s. s.0) (λ s. s.0) v, value_text_level (λ s. s.1) (λ s. s.1) v)

abbrev pub shown_chunk_level : Chunk-F Shown Shown → Shown
shown_chunk_level c = let w : ℕ = chunk_weight_level (λ s. s.0) c in (w, chunk_text_of c.entry (1 + w))

-- a value; a chunk shows its entry and its weight alone
unfoldable pub value_text : Value → List ℕ
value_text v = (fold-Value Shown Shown shown_level shown_chunk_level v).1
