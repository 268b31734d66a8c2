-- The tokens of printed types, values and programs.
use Rattle.std.specs.Prelude.{List, [], ◌∷◌, ◌++◌, Option, Some, None, Bool, true, false}
use Rattle.std.specs.List.{flat_map}
use Rattle.plan_base.specs.declared.tree.Ty.{Ty, Ty-F, fold-Ty}
use Rattle.plan_base.specs.declared.tree.Op.{Op}
use Rattle.plan_base.specs.declared.tree.Op.TheVariants as op
use Rattle.plan_base.specs.declared.tree.Expr.{Expr, Expr-F, fold-Expr}
use Rattle.plan_base.specs.declared.tree.Clause.{Clause, Clause-F}
use Rattle.plan_base.specs.declared.tree.Svc.{Svc}
use Rattle.plan_base.specs.declared.tree.Param.{Param}
use Rattle.plan_base.specs.declared.tree.Fun.{Fun}
use Rattle.plan_base.specs.declared.tree.Program.{Program}
use Rattle.plan_base.specs.declared.tree.Value.{Value, Value-F, fold-Value}
use Rattle.plan_base.specs.declared.name.Name.{Name}
use Rattle.plan_lexer.specs.declared.token.Key.{Key}
use Rattle.plan_lexer.specs.declared.token.Key.TheVariants as key
use Rattle.plan_lexer.specs.declared.token.Symbol.{Symbol}
use Rattle.plan_lexer.specs.declared.token.Symbol.TheVariants as symbol
use Rattle.plan_lexer.specs.declared.token.TokenKind.{TokenKind}
use Rattle.plan_lexer.specs.declared.token.TokenKind.TheVariants as kind
use Rattle.plan_printer_spec.specs.Pieces.{listed_pieces}

abbrev pub Kinds : Type 0
Kinds = List TokenKind

-- a reserved word, a symbol and a name
abbrev pub word : Key → Kinds
word k = kind.Key k ∷ []

abbrev pub mark : Symbol → Kinds
mark s = kind.Symbol s ∷ []

abbrev pub name : Name → Kinds
name x = kind.Word x ∷ []

-- tokens with a comma between two
abbrev pub comma_kinds : {X : Type 0} → (X → Kinds) → List X → Kinds
comma_kinds kinds xs = listed_pieces (mark symbol.Comma) [] kinds xs

-- a type
abbrev pub type_kinds_level : {X : Type 0} → (X → Kinds) → Ty-F X → Kinds
type_kinds_level kinds Ty-F.Unit = word key.Unit
type_kinds_level kinds Ty-F.Bool = word key.Bool
type_kinds_level kinds Ty-F.Int = word key.Int
type_kinds_level kinds Ty-F.Char = word key.Char
type_kinds_level kinds Ty-F.Str = word key.Str
type_kinds_level kinds Ty-F.Blob = word key.Blob
type_kinds_level kinds Ty-F.Host = word key.Host
type_kinds_level kinds Ty-F.Dev = word key.Dev
type_kinds_level kinds Ty-F.Chunk = word key.Chunk
type_kinds_level kinds (Ty-F.List t) = kinds t ++ word key.List
type_kinds_level kinds (Ty-F.Tuple ts) = mark symbol.ParenOpen ++ listed_pieces (mark symbol.Star) [] kinds ts ++ mark symbol.ParenClose

unfoldable pub type_kinds : Ty → Kinds
type_kinds = fold-Ty Kinds (type_kinds_level (λ s. s))

abbrev pub bool_kinds : Bool → Kinds
bool_kinds true = word key.True
bool_kinds false = word key.False

-- the empty list with an element type
abbrev pub empty_kinds : Ty → Kinds
empty_kinds t = mark symbol.BracketOpen ++ mark symbol.Colon ++ type_kinds t ++ mark symbol.BracketClose

abbrev pub values_kinds : {X : Type 0} → (X → Kinds) → Ty → List X → Kinds
values_kinds kinds t [] = empty_kinds t
values_kinds kinds t (v ∷ vs) = mark symbol.BracketOpen ++ comma_kinds kinds (v ∷ vs) ++ mark symbol.BracketClose

-- a value without a chunk in it
abbrev pub value_kinds_level : {X Y : Type 0} → (X → Kinds) → Value-F X Y → Kinds
value_kinds_level kinds Value-F.Unit = mark symbol.ParenOpen ++ mark symbol.ParenClose
value_kinds_level kinds (Value-F.Bool b) = bool_kinds b
value_kinds_level kinds (Value-F.Int z) = kind.Int z ∷ []
value_kinds_level kinds (Value-F.Char c) = kind.Char c ∷ []
value_kinds_level kinds (Value-F.Str s) = kind.Str s ∷ []
value_kinds_level kinds (Value-F.Blob b) = kind.Blob b ∷ []
value_kinds_level kinds (Value-F.Host h) = kind.Host h.0 ∷ []
value_kinds_level kinds (Value-F.Dev d) = kind.Dev d.0 ∷ []
value_kinds_level kinds (Value-F.Chunk c) = []
value_kinds_level kinds (Value-F.List t vs) = values_kinds kinds t vs
value_kinds_level kinds (Value-F.Tuple vs) = mark symbol.ParenOpen ++ comma_kinds kinds vs ++ mark symbol.ParenClose

unfoldable pub value_kinds : Value → Kinds
value_kinds = fold-Value Kinds (Unit {0}) (value_kinds_level (λ s. s)) (λ _. tt)

-- an operator
unfoldable pub op_kinds : Op → Kinds
op_kinds op.Add = mark symbol.Plus
op_kinds op.Sub = mark symbol.Minus
op_kinds op.Mul = mark symbol.Star
op_kinds op.Div = mark symbol.Slash
op_kinds op.Mod = word key.Mod
op_kinds op.Cat = mark symbol.Caret
op_kinds op.Eq = mark symbol.Equal
op_kinds op.Ne = mark symbol.NotEqual
op_kinds op.Lt = mark symbol.Less
op_kinds op.Le = mark symbol.LessEqual
op_kinds op.Gt = mark symbol.Greater
op_kinds op.Ge = mark symbol.GreaterEqual
op_kinds op.Cons = mark symbol.DoubleColon

abbrev pub nil_kinds : Option Ty → Kinds
nil_kinds None = mark symbol.BracketOpen ++ mark symbol.BracketClose
nil_kinds (Some t) = empty_kinds t

abbrev pub raise_kinds : Name → Option Ty → Kinds
raise_kinds x None = word key.Raise ++ name x
raise_kinds x (Some t) = word key.Raise ++ empty_kinds t ++ name x

-- an expression
abbrev pub expr_kinds_level : {X Y : Type 0} → (X → Kinds) → (Y → Kinds) → Expr-F X Y → Kinds
expr_kinds_level kinds clause Expr-F.Unit = mark symbol.ParenOpen ++ mark symbol.ParenClose
expr_kinds_level kinds clause (Expr-F.Bool b) = bool_kinds b
expr_kinds_level kinds clause (Expr-F.Int z) = kind.Int z ∷ []
expr_kinds_level kinds clause (Expr-F.Char c) = kind.Char c ∷ []
expr_kinds_level kinds clause (Expr-F.Str s) = kind.Str s ∷ []
expr_kinds_level kinds clause (Expr-F.Blob b) = kind.Blob b ∷ []
expr_kinds_level kinds clause (Expr-F.Host h) = kind.Host h.0 ∷ []
expr_kinds_level kinds clause (Expr-F.Dev d) = kind.Dev d.0 ∷ []
expr_kinds_level kinds clause (Expr-F.Nil t) = nil_kinds t
expr_kinds_level kinds clause (Expr-F.Var x) = name x
expr_kinds_level kinds clause (Expr-F.Tuple es) = mark symbol.ParenOpen ++ comma_kinds kinds es ++ mark symbol.ParenClose
expr_kinds_level kinds clause (Expr-F.Call f es) = name f ++ mark symbol.ParenOpen ++ comma_kinds kinds es ++ mark symbol.ParenClose
expr_kinds_level kinds clause (Expr-F.If c a b) =
    mark symbol.ParenOpen ++ word key.If ++ kinds c ++ word key.Then ++ kinds a ++ word key.Else ++ kinds b ++ mark symbol.ParenClose
expr_kinds_level kinds clause (Expr-F.Let x t a b) =
    word key.Let ++ word key.Val ++ name x ++ mark symbol.Colon ++ type_kinds t ++ mark symbol.Equal ++ kinds a ++ word key.In ++ kinds b ++ word key.End
expr_kinds_level kinds clause (Expr-F.Then a b) = mark symbol.ParenOpen ++ kinds a ++ mark symbol.Semicolon ++ kinds b ++ mark symbol.ParenClose
expr_kinds_level kinds clause (Expr-F.And a b) = mark symbol.ParenOpen ++ kinds a ++ word key.And ++ kinds b ++ mark symbol.ParenClose
expr_kinds_level kinds clause (Expr-F.Or a b) = mark symbol.ParenOpen ++ kinds a ++ word key.Or ++ kinds b ++ mark symbol.ParenClose
expr_kinds_level kinds clause (Expr-F.Not a) = mark symbol.ParenOpen ++ word key.Not ++ kinds a ++ mark symbol.ParenClose
expr_kinds_level kinds clause (Expr-F.Binary o a b) = mark symbol.ParenOpen ++ kinds a ++ op_kinds o ++ kinds b ++ mark symbol.ParenClose
expr_kinds_level kinds clause (Expr-F.Part i a) = mark symbol.ParenOpen ++ (kind.Part i ∷ []) ++ kinds a ++ mark symbol.ParenClose
expr_kinds_level kinds clause (Expr-F.Raise x t) = raise_kinds x t
expr_kinds_level kinds clause (Expr-F.Try a cs) = word key.Try ++ kinds a ++ word key.Handle ++ listed_pieces (mark symbol.Bar) [] clause cs ++ word key.End
expr_kinds_level kinds clause (Expr-F.Foldl f a l) =
    word key.Foldl ++ mark symbol.ParenOpen ++ name f ++ mark symbol.Comma ++ kinds a ++ mark symbol.Comma ++ kinds l ++ mark symbol.ParenClose
expr_kinds_level kinds clause (Expr-F.Foldr f a l) =
    word key.Foldr ++ mark symbol.ParenOpen ++ name f ++ mark symbol.Comma ++ kinds a ++ mark symbol.Comma ++ kinds l ++ mark symbol.ParenClose
expr_kinds_level kinds clause (Expr-F.ChunkOf f es) =
    mark symbol.Bar ++ name f ++ mark symbol.Bar ++ mark symbol.ParenOpen ++ comma_kinds kinds es ++ mark symbol.ParenClose
expr_kinds_level kinds clause (Expr-F.Eval c) = word key.Eval ++ mark symbol.ParenOpen ++ kinds c ++ mark symbol.ParenClose
expr_kinds_level kinds clause (Expr-F.OnRemote c h n r) =
    word key.OnRemote ++ mark symbol.ParenOpen ++ kinds c ++ mark symbol.Comma ++ kinds h ++ mark symbol.Comma ++ kinds n ++ mark symbol.Comma ++ name r
    ++ mark symbol.ParenClose
expr_kinds_level kinds clause (Expr-F.OnNeighbor c h n d) =
    word key.OnNeighbor ++ mark symbol.ParenOpen ++ kinds c ++ mark symbol.Comma ++ kinds h ++ mark symbol.Comma ++ kinds n ++ mark symbol.Comma ++ kinds d
    ++ mark symbol.ParenClose

-- what a clause catches
abbrev pub catch_kinds : Option Name → Kinds
catch_kinds (Some x) = name x
catch_kinds None = mark symbol.Underscore

abbrev pub clause_kinds_level : {X Y : Type 0} → (X → Kinds) → Clause-F X Y → Kinds
clause_kinds_level kinds c = catch_kinds c.name ++ mark symbol.FatArrow ++ kinds c.body

unfoldable pub expr_kinds : Expr → Kinds
expr_kinds = fold-Expr Kinds Kinds (expr_kinds_level (λ s. s) (λ s. s)) (clause_kinds_level (λ s. s))

abbrev pub clause_kinds : Clause → Kinds
clause_kinds c = catch_kinds c.name ++ mark symbol.FatArrow ++ expr_kinds c.body

-- a declared service, an exception and a function
abbrev pub svc_kinds : Svc → Kinds
svc_kinds s =
    word key.Svc ++ name s.name ++ mark symbol.Colon ++ mark symbol.ParenOpen ++ comma_kinds type_kinds s.params ++ mark symbol.ParenClose ++ mark symbol.Arrow
    ++ type_kinds s.result

abbrev pub exn_kinds : Name → Kinds
exn_kinds x = word key.Exception ++ name x

abbrev pub param_kinds : Param → Kinds
param_kinds p = name p.name ++ mark symbol.Colon ++ type_kinds p.ty

-- a function, by the tokens of its body
abbrev pub fun_kinds_by : (Expr → Kinds) → Fun → Kinds
fun_kinds_by body f =
    word key.Fun ++ name f.name ++ mark symbol.ParenOpen ++ comma_kinds param_kinds f.params ++ mark symbol.ParenClose ++ mark symbol.Colon
    ++ type_kinds f.result ++ mark symbol.Equal ++ body f.body

abbrev pub fun_kinds : Fun → Kinds
fun_kinds f = fun_kinds_by expr_kinds f

-- declarations, by the tokens of bodies
abbrev pub program_kinds_by : (Expr → Kinds) → Program → Kinds
program_kinds_by body p = flat_map svc_kinds p.svcs ++ flat_map exn_kinds p.exns ++ flat_map (fun_kinds_by body) p.funs

-- a program
unfoldable pub program_kinds : Program → Kinds
program_kinds p = flat_map svc_kinds p.svcs ++ flat_map exn_kinds p.exns ++ flat_map fun_kinds p.funs
