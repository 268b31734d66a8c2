-- The written grammar of declarations and programs: a family for each left side, a constructor for each production.
-- In `FunctionAt f x n g` the tokens from f up to g are a function that is read as x, with its body read as n.
use Rattle.std.specs.Prelude.{◌≡◌, ◌≤◌, ◌<◌, ℕ, List, [], ◌∷◌, ◌++◌, length}
use Rattle.plan_base.specs.declared.name.Name.{Name}
use Rattle.plan_base.specs.declared.tree.Ty.{Ty}
use Rattle.plan_base.specs.declared.tree.Svc.{Svc}
use Rattle.plan_base.specs.declared.tree.Param.{Param}
use Rattle.plan_base.specs.declared.tree.Fun.{Fun}
use Rattle.plan_base.specs.declared.tree.Draft.{Draft}
use Rattle.plan_lexer.specs.declared.token.Token.{Token}
use Rattle.plan_lexer.specs.declared.token.Key.TheVariants as keys
use Rattle.plan_lexer.specs.declared.token.Symbol.TheVariants as symbols
use Rattle.plan_parser_exprs.specs.declared.node.Node.{Node}
use Rattle.plan_parser_exprs.specs.Ahead.{Front, place, behind}
use Rattle.plan_parser_exprs.specs.Nodes.{all_at}
use Rattle.plan_parser_laws.specs.Grammar.{Sym, Word, Called, TypeAt, ExprAt, behind2, behind3}
use Rattle.plan_parser.specs.declared.signature.Head.{Head}
use Rattle.plan_parser.specs.declared.program.Gathered.{Gathered}
use Rattle.plan_parser.specs.Programs.{nothing, function_of, draft_of}

-- { , type }; inside the bracket of a head 159 more constructs may open
pub data TypesAt : Front → List Ty → Front → Type 0 where
  no_type : {f : Front} → TypesAt f [] f
  one_type : {f g h : Front} {t : Ty} {ts : List Ty} → Sym symbols.Comma f → TypeAt 159 (behind f) t g → TypesAt g ts h → TypesAt f (t ∷ ts) h

-- ( ) | ( type { , type } ), at most 8
pub data ArgumentsAt : Front → List Ty → Front → Type 0 where
  no_arguments : {f : Front} → Sym symbols.ParenOpen f → Sym symbols.ParenClose (behind f) → ArgumentsAt f [] (behind2 f)
  arguments : {f g h : Front} {t : Ty} {ts : List Ty}
      → Sym symbols.ParenOpen f → TypeAt 159 (behind f) t g → TypesAt g ts h → length ts ≤ 7 → Sym symbols.ParenClose h → ArgumentsAt f (t ∷ ts) (behind h)

-- svc NAME : arguments -> type
pub data ServiceAt : Front → Svc → Front → Type 0 where
  service : {f g h : Front} {name : Name} {ts : List Ty} {t : Ty}
      → Word keys.Svc f → Called name (behind f) → Sym symbols.Colon (behind2 f) → ArgumentsAt (behind3 f) ts g → Sym symbols.Arrow g
      → TypeAt 160 (behind g) t h
      → ServiceAt f (record { name = name; params = ts; result = t }) h

-- exception NAME
pub data ExceptionAt : Front → Name → Front → Type 0 where
  exception : {f : Front} {name : Name} → Word keys.Exception f → Called name (behind f) → ExceptionAt f name (behind2 f)

-- NAME : type
pub data ParamAt : Front → Param → Front → Type 0 where
  param : {f g : Front} {name : Name} {t : Ty} → Called name f → Sym symbols.Colon (behind f) → TypeAt 159 (behind2 f) t g
      → ParamAt f (record { name = name; ty = t }) g

-- { , param }
pub data MoreParamsAt : Front → List Param → Front → Type 0 where
  no_param : {f : Front} → MoreParamsAt f [] f
  one_param : {f g h : Front} {p : Param} {ps : List Param} → Sym symbols.Comma f → ParamAt (behind f) p g → MoreParamsAt g ps h → MoreParamsAt f (p ∷ ps) h

-- ( ) | ( param { , param } ), at most 8
pub data ParamsAt : Front → List Param → Front → Type 0 where
  no_params : {f : Front} → Sym symbols.ParenOpen f → Sym symbols.ParenClose (behind f) → ParamsAt f [] (behind2 f)
  params : {f g h : Front} {p : Param} {ps : List Param}
      → Sym symbols.ParenOpen f → ParamAt (behind f) p g → MoreParamsAt g ps h → length ps ≤ 7 → Sym symbols.ParenClose h → ParamsAt f (p ∷ ps) (behind h)

-- NAME params : type =
pub data HeadAt : Front → Head → Front → Type 0 where
  head : {f g h : Front} {name : Name} {ps : List Param} {t : Ty}
      → Called name f → ParamsAt (behind f) ps g → Sym symbols.Colon g → TypeAt 160 (behind g) t h → Sym symbols.Equal h
      → HeadAt f (record { name = name; params = ps; result = t }) (behind h)

-- fun head expr, of depth at most 64
pub data FunctionAt : Front → Fun → Node → Front → Type 0 where
  function : {f g h : Front} {x : Head} {n : Node} → Word keys.Fun f → HeadAt (behind f) x g → ExprAt 160 g n h → n.depth ≤ 64
      → FunctionAt f (function_of x n) n h

-- { service | exception | function }, at most 64 of a kind and 4,096 expressions
pub data DeclarationsAt : Front → Gathered → Front → Type 0 where
  no_declaration : {f : Front} → DeclarationsAt f nothing f
  one_service : {f g h : Front} {all : Gathered} {s : Svc}
      → DeclarationsAt f all g → ServiceAt g s h → length all.svcs < 64
      → DeclarationsAt f (record all { svcs = all.svcs ++ s ∷ []; svc_at = all.svc_at ++ place g ∷ [] }) h
  one_exception : {f g h : Front} {all : Gathered} {name : Name}
      → DeclarationsAt f all g → ExceptionAt g name h → length all.exns < 64
      → DeclarationsAt f (record all { exns = all.exns ++ name ∷ []; exn_at = all.exn_at ++ place g ∷ [] }) h
  one_function : {f g h : Front} {all : Gathered} {x : Fun} {n : Node}
      → DeclarationsAt f all g → FunctionAt g x n h → length all.funs < 64 → length (all.node_at ++ all_at n) ≤ 4096
      → DeclarationsAt f (record all { funs = all.funs ++ x ∷ []; fun_at = all.fun_at ++ place g ∷ []; node_at = all.node_at ++ all_at n }) h

-- program := declarations, a function among them, up to the end of the text
pub data ProgramAt : List Token → ℕ → Draft → Type 0 where
  program : {ts : List Token} {end : ℕ} {g : Front} {all : Gathered}
      → DeclarationsAt (record { tokens = ts; end = end }) all g → g.tokens ≡ [] → 1 ≤ length all.funs → ProgramAt ts end (draft_of all)
