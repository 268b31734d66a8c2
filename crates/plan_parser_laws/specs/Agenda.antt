-- What must be read, in order, and what the first step that fails answers.
use Rattle.std.specs.Prelude.{◌+◌, ℕ, zero, suc, max, Bool, List, [], ◌∷◌, length, nat_lt, Option, Some, None, is_some, Result, Ok, Err, if◌then◌else◌}
use Rattle.containers.specs.Agenda.{FirstFault}
use Rattle.plan_base.specs.declared.limit.Limit.{Limit}
use Rattle.plan_base.specs.declared.limit.Limit.TheVariants as limits
use Rattle.plan_base.specs.declared.tree.Ty.{Ty}
use Rattle.plan_base.specs.Sizes.{type_depth}
use Rattle.plan_lexer.specs.declared.token.TokenKind.{TokenKind}
use Rattle.plan_lexer.specs.declared.token.TokenKind.TheVariants as kinds
use Rattle.plan_lexer.specs.declared.token.Key.{Key}
use Rattle.plan_lexer.specs.declared.token.Key.TheVariants as keys
use Rattle.plan_lexer.specs.declared.token.Symbol.{Symbol}
use Rattle.plan_lexer.specs.declared.token.Symbol.TheVariants as symbols
use Rattle.plan_parser_exprs.specs.declared.fault.ParseFault.{ParseFault}
use Rattle.plan_parser_exprs.specs.declared.fault.ParseFault.TheVariants.{Expected, TooDeep, TooMany}
use Rattle.plan_parser_exprs.specs.declared.fault.Wanted.{Wanted}
use Rattle.plan_parser_exprs.specs.declared.fault.Wanted.TheVariants as wanted
use Rattle.plan_parser_exprs.specs.declared.joint.Chain.{Chain}
use Rattle.plan_parser_exprs.specs.declared.joint.Chain.TheVariants as chains
use Rattle.plan_parser_exprs.specs.declared.level.Level.TheVariants as levels
use Rattle.plan_parser_exprs.specs.declared.node.Node.{Node}
use Rattle.plan_parser_exprs.specs.Ahead.{Front, place, behind, next_kind, is_symbol, is_key}
use Rattle.plan_parser_exprs.specs.Begins.{kind_type, begins_type, begins_operand, begins_expr, begins_name}
use Rattle.plan_parser_exprs.specs.Types.{past}
use Rattle.plan_parser_exprs.specs.Joints.{joint_of}
use Rattle.plan_parser_exprs.specs.Nodes.{all_at}
use Rattle.plan_parser_exprs.specs.Exprs.{begins_clause, expr_to}

-- what an opening bracket may belong to
pub data Form : Type 0 where
  a_call : Form
  a_fold : Form
  an_eval : Form
  on_remote : Form
  on_neighbor : Form

-- what is declared so far, and where the text ends
pub record Counted : Type 0 where
  pub svcs : ℕ
  pub exns : ℕ
  pub funs : ℕ
  pub exprs : ℕ
  pub end : ℕ

-- what must be read; r constructs may still open, and `left` more items may follow
pub data GrammarItem : Type 0 where
  -- a symbol, a reserved word, a name
  sym : Symbol → GrammarItem
  word : Key → GrammarItem
  a_name : GrammarItem
  -- a type; the words `list` behind one of that depth which began there; behind the first type in brackets, and behind
  -- further ones, before and after the depth of the type that was just read is known
  a_type : ℕ → GrammarItem
  lists : ℕ → ℕ → GrammarItem
  first_type : ℕ → ℕ → GrammarItem
  behind_first : ℕ → ℕ → ℕ → GrammarItem
  next_type : ℕ → ℕ → ℕ → ℕ → GrammarItem
  behind_next : ℕ → ℕ → ℕ → ℕ → GrammarItem
  -- an expression, and what each level is made of
  whole : ℕ → GrammarItem
  maybe_next : ℕ → GrammarItem
  low : ℕ → GrammarItem
  chain : Chain → ℕ → GrammarItem
  more_of : Chain → ℕ → GrammarItem
  negated : ℕ → GrammarItem
  compared : ℕ → GrammarItem
  maybe_compared : ℕ → GrammarItem
  listed : ℕ → GrammarItem
  maybe_listed : ℕ → GrammarItem
  operand : ℕ → GrammarItem
  -- behind a name, `(`, `[` and `raise`; a bracket that must open; arguments behind it; further items
  maybe_call : ℕ → GrammarItem
  behind_paren : ℕ → GrammarItem
  behind_bracket : ℕ → GrammarItem
  behind_raise : ℕ → GrammarItem
  open_bracket : ℕ → Form → GrammarItem
  args : ℕ → GrammarItem
  more_items : Limit → ℕ → ℕ → GrammarItem
  -- further `val`; a clause and those behind it
  more_vals : ℕ → GrammarItem
  clauses : ℕ → ℕ → GrammarItem
  maybe_clause : ℕ → ℕ → GrammarItem
  -- behind the bracket of a head: types or parameters, and further ones
  types : GrammarItem
  more_types : ℕ → GrammarItem
  params : GrammarItem
  more_params : ℕ → GrammarItem
  -- further declarations; one; the body of a function that began there, and the judgement of the body that began at a front
  declarations : Counted → GrammarItem
  declaration : Counted → GrammarItem
  body : ℕ → Counted → GrammarItem
  judgement : ℕ → Front → Counted → GrammarItem

-- what was taken of an agenda of such items, and where the reading goes on
abbrev pub StepOf : Type 0 → Type 0
StepOf I = Result (List I × Front) ParseFault

abbrev pub expected_fault : {I : Type 0} → Wanted → Front → StepOf I
expected_fault what f = Err (Expected what (place f))

abbrev pub GrammarStep : Type 0
GrammarStep = StepOf GrammarItem

-- a construct opens here, if one more may
abbrev pub enter : ℕ → Front → (ℕ → List GrammarItem) → Front → GrammarStep
enter zero at items f = Err (TooDeep (place at))
enter (suc r) at items f = Ok (items r, f)

-- the depth of a type that ends is handed to what waits for it
abbrev pub hand : ℕ → List GrammarItem → List GrammarItem
hand deep (first_type r start ∷ more) = behind_first r start deep ∷ more
hand deep (next_type r start left deepest ∷ more) = behind_next r start left (max deepest deep) ∷ more
hand deep more = more

-- what a chain joins
abbrev pub side : Chain → ℕ → GrammarItem
side chains.Or r = chain chains.And r
side chains.And r = negated r
side chains.Comparison r = listed r
side chains.Sum r = chain chains.Product r
side chains.Product r = operand r

-- one `val`
abbrev pub a_val : ℕ → List GrammarItem → List GrammarItem
a_val r more = word keys.Val ∷ a_name ∷ sym symbols.Colon ∷ a_type r ∷ sym symbols.Equal ∷ whole r ∷ more

-- what stands behind the bracket of a form
abbrev pub inside : Form → ℕ → List GrammarItem → List GrammarItem
inside a_call r more = args r ∷ more
inside a_fold r more = a_name ∷ sym symbols.Comma ∷ whole r ∷ sym symbols.Comma ∷ whole r ∷ sym symbols.ParenClose ∷ more
inside an_eval r more = whole r ∷ sym symbols.ParenClose ∷ more
inside on_remote r more =
    whole r ∷ sym symbols.Comma ∷ whole r ∷ sym symbols.Comma ∷ whole r ∷ sym symbols.Comma ∷ a_name ∷ sym symbols.ParenClose ∷ more
inside on_neighbor r more =
    whole r ∷ sym symbols.Comma ∷ whole r ∷ sym symbols.Comma ∷ whole r ∷ sym symbols.Comma ∷ whole r ∷ sym symbols.ParenClose ∷ more

-- what a reserved word, a symbol or another token begins as an operand
abbrev pub key_step : ℕ → List GrammarItem → Front → Key → GrammarStep
key_step r more f keys.Let = enter r f (λ q. a_val q (more_vals q ∷ word keys.In ∷ whole q ∷ word keys.End ∷ more)) (behind f)
key_step r more f keys.Try = enter r f (λ q. whole q ∷ word keys.Handle ∷ clauses q 8 ∷ word keys.End ∷ more) (behind f)
key_step r more f keys.Raise = Ok (behind_raise r ∷ more, behind f)
key_step r more f keys.Foldl = Ok (open_bracket r a_fold ∷ more, behind f)
key_step r more f keys.Foldr = Ok (open_bracket r a_fold ∷ more, behind f)
key_step r more f keys.Eval = Ok (open_bracket r an_eval ∷ more, behind f)
key_step r more f keys.OnRemote = Ok (open_bracket r on_remote ∷ more, behind f)
key_step r more f keys.OnNeighbor = Ok (open_bracket r on_neighbor ∷ more, behind f)
key_step r more f keys.True = Ok (more, behind f)
key_step r more f keys.False = Ok (more, behind f)
key_step r more f _ = expected_fault wanted.AnExpr f

abbrev pub symbol_step : ℕ → List GrammarItem → Front → Symbol → GrammarStep
symbol_step r more f symbols.ParenOpen = enter r f (λ q. behind_paren q ∷ more) (behind f)
symbol_step r more f symbols.BracketOpen = enter r f (λ q. behind_bracket q ∷ more) (behind f)
symbol_step r more f symbols.Bar = Ok (a_name ∷ sym symbols.Bar ∷ open_bracket r a_call ∷ more, behind f)
symbol_step r more f _ = expected_fault wanted.AnExpr f

abbrev pub operand_step : ℕ → List GrammarItem → Front → Option TokenKind → GrammarStep
operand_step r more f None = expected_fault wanted.AnExpr f
operand_step r more f (Some (kinds.Word _)) = Ok (maybe_call r ∷ more, behind f)
operand_step r more f (Some (kinds.Key k)) = key_step r more f k
operand_step r more f (Some (kinds.Symbol s)) = symbol_step r more f s
operand_step r more f (Some (kinds.Part _)) = enter r f (λ q. operand q ∷ more) (behind f)
operand_step r more f (Some _) = Ok (more, behind f)

-- a name, or a type that one token is
abbrev pub name_step : List GrammarItem → Front → Option TokenKind → GrammarStep
name_step more f (Some (kinds.Word _)) = Ok (more, behind f)
name_step more f _ = expected_fault wanted.AName f

abbrev pub type_step : List GrammarItem → Front → Option Ty → GrammarStep
type_step more f (Some t) = Ok (lists (place f) (type_depth t) ∷ more, behind f)
type_step more f None = expected_fault wanted.AType f

-- a right side that begins there opens a construct
abbrev pub right_side : (Front → Bool) → ℕ → (ℕ → List GrammarItem) → Front → GrammarStep
right_side begins r items f = if begins f then enter r f items f else expected_fault wanted.AnExpr f

-- the depth and the number of the expressions of the body that begins there
abbrev pub size_of : Result (Node × Front) ParseFault → ℕ × ℕ
size_of (Ok x) = (x.0.depth, length (all_at x.0))
size_of (Err e) = (0, 0)

unfoldable pub body_size : Front → ℕ × ℕ
body_size f = size_of (expr_to 161 levels.Whole f)

-- a function keeps the limits of depth and, with those before it, of expressions
abbrev pub judge : ℕ → ℕ × ℕ → Counted → List GrammarItem → Front → GrammarStep
judge at size c more f =
    if nat_lt 64 size.0 then Err (TooDeep at)
    else if nat_lt 4096 (c.exprs + size.1) then Err (TooMany limits.Nodes at)
    else Ok (declarations (record c { funs = c.funs + 1; exprs = c.exprs + size.1 }) ∷ more, f)

-- one more of a kind, behind its word
abbrev pub another : ℕ → Limit → List GrammarItem → Front → GrammarStep
another count limit items f = if nat_lt count 64 then Ok (items, behind f) else Err (TooMany limit (place f))

abbrev pub a_service : Counted → List GrammarItem → List GrammarItem
a_service c more =
    a_name ∷ sym symbols.Colon ∷ sym symbols.ParenOpen ∷ types ∷ sym symbols.Arrow ∷ a_type 160 ∷ declarations (record c { svcs = c.svcs + 1 }) ∷ more

abbrev pub a_function : ℕ → Counted → List GrammarItem → List GrammarItem
a_function at c more = a_name ∷ sym symbols.ParenOpen ∷ params ∷ sym symbols.Colon ∷ a_type 160 ∷ sym symbols.Equal ∷ body at c ∷ more

abbrev pub a_param : List GrammarItem → List GrammarItem
a_param more = a_name ∷ sym symbols.Colon ∷ a_type 159 ∷ more

-- what is read from the first item of the agenda
unfoldable pub step : GrammarItem → List GrammarItem → Front → GrammarStep
step (sym w) more f = if is_symbol w f then Ok (more, behind f) else expected_fault (wanted.Symbol w) f
step (word k) more f = if is_key k f then Ok (more, behind f) else expected_fault (wanted.Key k) f
step a_name more f = name_step more f (next_kind f)
step (a_type r) more f =
    if is_symbol symbols.ParenOpen f then enter r f (λ q. a_type q ∷ first_type q (place f) ∷ more) (behind f) else type_step more f (kind_type (next_kind f))
step (lists start deep) more f =
    if is_key keys.List f then Ok (lists start (deep + 1) ∷ more, behind f)
    else if nat_lt 8 deep then Err (TooDeep start)
    else Ok (hand deep more, f)
step (first_type r start) more f = Ok (more, f)
step (behind_first r start deep) more f =
    if is_symbol symbols.Star f then Ok (behind_next r start 7 deep ∷ more, f) else Ok (sym symbols.ParenClose ∷ lists start deep ∷ more, f)
step (next_type r start left deepest) more f = Ok (more, f)
step (behind_next r start zero deepest) more f =
    if is_symbol symbols.Star f then Err (past begins_type limits.Parts wanted.AType (behind f)) else Ok (
      sym symbols.ParenClose ∷ lists start (1 + deepest) ∷ more,
      f,
    )
step (behind_next r start (suc left) deepest) more f =
    if is_symbol symbols.Star f then Ok (a_type r ∷ next_type r start left deepest ∷ more, behind f) else Ok (
      sym symbols.ParenClose ∷ lists start (1 + deepest) ∷ more,
      f,
    )
step (whole r) more f = Ok (low r ∷ maybe_next r ∷ more, f)
step (maybe_next r) more f = if is_symbol symbols.Semicolon f then right_side begins_expr r (λ q. whole q ∷ more) (behind f) else Ok (more, f)
step (low r) more f =
    if is_key keys.If f then enter r f (λ q. whole q ∷ word keys.Then ∷ low q ∷ word keys.Else ∷ low q ∷ more) (behind f)
    else Ok (chain chains.Or r ∷ more, f)
step (chain c r) more f = Ok (side c r ∷ more_of c r ∷ more, f)
step (more_of c r) more f = if is_some (joint_of c (next_kind f)) then Ok (side c r ∷ more_of c r ∷ more, behind f) else Ok (more, f)
step (negated r) more f = if is_key keys.Not f then enter r f (λ q. negated q ∷ more) (behind f) else Ok (compared r ∷ more, f)
step (compared r) more f = Ok (listed r ∷ maybe_compared r ∷ more, f)
step (maybe_compared r) more f = if is_some (joint_of chains.Comparison (next_kind f)) then Ok (listed r ∷ more, behind f) else Ok (more, f)
step (listed r) more f = Ok (chain chains.Sum r ∷ maybe_listed r ∷ more, f)
step (maybe_listed r) more f = if is_symbol symbols.DoubleColon f then right_side begins_operand r (λ q. listed q ∷ more) (behind f) else Ok (more, f)
step (operand r) more f = operand_step r more f (next_kind f)
step (maybe_call r) more f = if is_symbol symbols.ParenOpen f then Ok (open_bracket r a_call ∷ more, f) else Ok (more, f)
step (open_bracket r form) more f =
    if is_symbol symbols.ParenOpen f then enter r f (λ q. inside form q more) (behind f) else expected_fault (wanted.Symbol symbols.ParenOpen) f
step (args r) more f =
    if is_symbol symbols.ParenClose f then Ok (more, behind f)
    else if begins_expr f then Ok (whole r ∷ more_items limits.Arguments r 7 ∷ sym symbols.ParenClose ∷ more, f)
    else expected_fault (wanted.Symbol symbols.ParenClose) f
step (behind_paren r) more f =
    if is_symbol symbols.ParenClose f then Ok (more, behind f)
    else if begins_expr f then Ok (whole r ∷ more_items limits.Parts r 7 ∷ sym symbols.ParenClose ∷ more, f)
    else expected_fault (wanted.Symbol symbols.ParenClose) f
step (behind_bracket r) more f =
    if is_symbol symbols.BracketClose f then Ok (more, behind f)
    else if is_symbol symbols.Colon f then Ok (a_type r ∷ sym symbols.BracketClose ∷ more, behind f)
    else if begins_expr f then Ok (whole r ∷ more_items limits.Items r 62 ∷ sym symbols.BracketClose ∷ more, f)
    else expected_fault (wanted.Symbol symbols.BracketClose) f
step (behind_raise r) more f =
    if is_symbol symbols.BracketOpen f then enter r f (λ q. sym symbols.Colon ∷ a_type q ∷ sym symbols.BracketClose ∷ a_name ∷ more) (behind f)
    else Ok (a_name ∷ more, f)
step (more_items limit r zero) more f = if is_symbol symbols.Comma f then Err (past begins_expr limit wanted.AnExpr (behind f)) else Ok (more, f)
step (more_items limit r (suc left)) more f = if is_symbol symbols.Comma f then Ok (whole r ∷ more_items limit r left ∷ more, behind f) else Ok (more, f)
step (more_vals r) more f = if is_key keys.Val f then Ok (a_val r (more_vals r ∷ more), f) else Ok (more, f)
step (clauses r zero) more f = Err (past begins_clause limits.Clauses wanted.AName f)
step (clauses r (suc left)) more f =
    if is_symbol symbols.Underscore f then Ok (sym symbols.FatArrow ∷ whole r ∷ more, behind f)
    else Ok (a_name ∷ sym symbols.FatArrow ∷ whole r ∷ maybe_clause r left ∷ more, f)
step (maybe_clause r left) more f = if is_symbol symbols.Bar f then Ok (clauses r left ∷ more, behind f) else Ok (more, f)
step types more f =
    if is_symbol symbols.ParenClose f then Ok (more, behind f)
    else if begins_type f then Ok (a_type 159 ∷ more_types 7 ∷ sym symbols.ParenClose ∷ more, f)
    else expected_fault (wanted.Symbol symbols.ParenClose) f
step (more_types zero) more f = if is_symbol symbols.Comma f then Err (past begins_type limits.Parameters wanted.AType (behind f)) else Ok (more, f)
step (more_types (suc left)) more f = if is_symbol symbols.Comma f then Ok (a_type 159 ∷ more_types left ∷ more, behind f) else Ok (more, f)
step params more f =
    if is_symbol symbols.ParenClose f then Ok (more, behind f)
    else if begins_name f then Ok (a_param (more_params 7 ∷ sym symbols.ParenClose ∷ more), f)
    else expected_fault (wanted.Symbol symbols.ParenClose) f
step (more_params zero) more f = if is_symbol symbols.Comma f then Err (past begins_name limits.Parameters wanted.AName (behind f)) else Ok (more, f)
step (more_params (suc left)) more f = if is_symbol symbols.Comma f then Ok (a_param (more_params left ∷ more), behind f) else Ok (more, f)
step (declarations c) more f =
    if nat_lt 0 (length f.tokens) then Ok (declaration c ∷ more, f)
    else if nat_lt 0 c.funs then Ok (more, f)
    else Err (Expected (wanted.Key keys.Fun) c.end)
step (declaration c) more f =
    if is_key keys.Svc f then another c.svcs limits.Services (a_service c more) f
    else if is_key keys.Exception f then another c.exns limits.Exceptions (a_name ∷ declarations (record c { exns = c.exns + 1 }) ∷ more) f
    else if is_key keys.Fun f then another c.funs limits.Functions (a_function (place f) c more) f
    else expected_fault wanted.ADecl f
step (body at c) more f = Ok (whole 160 ∷ judgement at f c ∷ more, f)
step (judgement at start c) more f = judge at (body_size start) c more f

-- the first refusal of an agenda that begins with that item alone
abbrev pub FirstRefusal : ParseFault → GrammarItem → Front → Type 0
FirstRefusal e i f = FirstFault step e (i ∷ []) f
