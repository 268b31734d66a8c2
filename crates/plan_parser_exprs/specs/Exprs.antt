-- How an expression is read, with its first refusal.
use Rattle.std.specs.Prelude.{◌&&◌, ◌||◌, ℕ, zero, suc, Bool, true, false, List, [], ◌∷◌, ◌++◌, length, Option, Some, None, is_some, Result}
use Rattle.std.specs.Prelude.{Ok, Err, if◌then◌else◌}
use Rattle.plan_base.specs.declared.limit.Limit.{Limit}
use Rattle.plan_base.specs.declared.limit.Limit.TheVariants as limits
use Rattle.plan_base.specs.declared.name.Name.{Name}
use Rattle.plan_base.specs.declared.tree.Expr.{Expr}
use Rattle.plan_base.specs.declared.tree.Expr.TheVariants as x
use Rattle.plan_lexer.specs.declared.token.TokenKind.{TokenKind}
use Rattle.plan_lexer.specs.declared.token.TokenKind.TheVariants as kinds
use Rattle.plan_lexer.specs.declared.token.Key.{Key}
use Rattle.plan_lexer.specs.declared.token.Key.TheVariants as keys
use Rattle.plan_lexer.specs.declared.token.Symbol.{Symbol}
use Rattle.plan_lexer.specs.declared.token.Symbol.TheVariants as symbols
use Rattle.plan_parser_exprs.specs.declared.fault.ParseFault.{ParseFault}
use Rattle.plan_parser_exprs.specs.declared.fault.ParseFault.TheVariants.{Expected, TooDeep}
use Rattle.plan_parser_exprs.specs.declared.fault.Wanted.{Wanted}
use Rattle.plan_parser_exprs.specs.declared.fault.Wanted.TheVariants as wanted
use Rattle.plan_parser_exprs.specs.declared.joint.Joint.{Joint}
use Rattle.plan_parser_exprs.specs.declared.joint.Chain.{Chain}
use Rattle.plan_parser_exprs.specs.declared.joint.Chain.TheVariants as chains
use Rattle.plan_parser_exprs.specs.declared.level.Level.{Level}
use Rattle.plan_parser_exprs.specs.declared.level.Level.TheVariants as levels
use Rattle.plan_parser_exprs.specs.declared.node.Node.{Node}
use Rattle.plan_parser_exprs.specs.declared.node.Bound.{Bound}
use Rattle.plan_parser_exprs.specs.declared.node.FoldParts.{FoldParts}
use Rattle.plan_parser_exprs.specs.declared.node.SendParts.{SendParts}
use Rattle.plan_parser_exprs.specs.declared.node.Caught.{Caught}
use Rattle.plan_parser_exprs.specs.Ahead.{Front, Reader, ◌>>=◌, place, behind, next_kind, is_word, is_symbol, is_key, need_symbol, need_key, name_at}
use Rattle.plan_parser_exprs.specs.Begins.{begins_operand, begins_expr}
use Rattle.plan_parser_exprs.specs.Types.{opens, past, more, type_to}
use Rattle.plan_parser_exprs.specs.Joints.{joint_of}
use Rattle.plan_parser_exprs.specs.Nodes.{trees, leaf, over_one, over_two, over_three, over_four, over_list, joined_nodes, consed_nodes}
use Rattle.plan_parser_exprs.specs.Nodes.{bracketed_nodes, let_of, try_of}

-- the expression that one token is
abbrev pub literal_key : Key → Option Expr
literal_key keys.True = Some (x.Bool true)
literal_key keys.False = Some (x.Bool false)
literal_key _ = None

abbrev pub literal : Option TokenKind → Option Expr
literal (Some (kinds.Int n)) = Some (x.Int n)
literal (Some (kinds.Host n)) = Some (x.Host (record { 0 = n }))
literal (Some (kinds.Dev n)) = Some (x.Dev (record { 0 = n }))
literal (Some (kinds.Char c)) = Some (x.Char c)
literal (Some (kinds.Str s)) = Some (x.Str s)
literal (Some (kinds.Blob b)) = Some (x.Blob b)
literal (Some (kinds.Key k)) = literal_key k
literal _ = None

abbrev pub literal_from : Front → Option Expr → Result (Node × Front) ParseFault
literal_from f (Some e) = Ok (leaf e (place f), behind f)
literal_from f None = Err (Expected wanted.AnExpr (place f))

-- a construct that opens at the first token of what follows, where that may begin one
unfoldable pub opens_at : (Front → Bool) → ℕ → Reader (Unit {0})
opens_at begins room f = if begins f then opens room f else Err (Expected wanted.AnExpr (place f))

-- an opening bracket that must stand here
unfoldable pub need_open : ℕ → Reader (Unit {0})
need_open room f =
    if is_symbol symbols.ParenOpen f then (opens room f >>= λ o. Ok (tt, behind f)) else Err
    (Expected (wanted.Symbol symbols.ParenOpen) (place f))

-- one more operand where a joint stands
abbrev pub chain_step : Reader Node → (Node → Reader Node) → Node → Front → Option Joint → Result (Node × Front) ParseFault
chain_step one next left f (Some joint) = one (behind f) >>= λ right. next (joined_nodes joint left right.0) right.1
chain_step one next left f None = Ok (left, f)

-- further operands at one level, from left to right
unfoldable pub chain_from : Reader Node → Chain → ℕ → Node → Reader Node
chain_from one chain zero left f = Ok (left, f)
chain_from one chain (suc fuel) left f = chain_step one (chain_from one chain fuel) left f (joint_of chain (next_kind f))

-- a clause begins with a name or with `_`
unfoldable pub begins_clause : Front → Bool
begins_clause f = is_word (next_kind f) || is_symbol symbols.Underscore f

-- what a clause catches: a name, or `_` for every exception
unfoldable pub catch_at : Reader (Option Name)
catch_at f = if is_symbol symbols.Underscore f then Ok (None, behind f) else (name_at f >>= λ n. Ok (Some n.0, n.1))

-- behind a clause with a name, a bar announces another
unfoldable pub clause_follows : Option Name → Front → Bool
clause_follows name f = is_some name && is_symbol symbols.Bar f

module _ (inner : Level → Reader Node) (room : ℕ) where
  -- expressions behind commas, up to the closing bracket
  unfoldable pub items_from : Symbol → Limit → ℕ → Reader (List Node)
  items_from close limit most f = do
    first ← inner levels.Whole f
    all ← more (inner levels.Whole) begins_expr symbols.Comma limit wanted.AnExpr most (first.0 ∷ []) first.1
    shut ← need_symbol close all.1
    Ok (all.0, shut.1)

  -- arguments behind their bracket, maybe none
  unfoldable pub arguments_behind : Reader (List Node)
  arguments_behind f =
      if is_symbol symbols.ParenClose f then Ok ([], behind f)
      else if begins_expr f then items_from symbols.ParenClose limits.Arguments 7 f
      else Err (Expected (wanted.Symbol symbols.ParenClose) (place f))

  -- arguments in brackets
  unfoldable pub arguments : Reader (List Node)
  arguments f = do
    open_bracket ← need_open room f
    arguments_behind open_bracket.1

  -- a call
  unfoldable pub call : Name → ℕ → Reader Node
  call name at f = do
    args ← arguments f
    Ok (over_list (x.Call name (trees args.0)) at args.0, args.1)

  -- a name: a call where a bracket stands behind it, else a variable
  unfoldable pub name_operand : Reader Node
  name_operand f = do
    name ← name_at f
    if is_symbol symbols.ParenOpen name.1 then call name.0 (place f) name.1 else Ok (leaf (x.Var name.0) (place f), name.1)

  -- a chunk of this program
  unfoldable pub chunk : Reader Node
  chunk f = do
    name ← name_at (behind f)
    bar ← need_symbol symbols.Bar name.1
    args ← arguments bar.1
    Ok (over_list (x.ChunkOf name.0 (trees args.0)) (place f) args.0, args.1)

  -- the further parts of a tuple
  unfoldable pub tuple : ℕ → Node → Reader Node
  tuple at first f = do
    all ← more (inner levels.Whole) begins_expr symbols.Comma limits.Parts wanted.AnExpr 7 (first ∷ []) f
    shut ← need_symbol symbols.ParenClose all.1
    Ok (over_list (x.Tuple (trees all.0)) at all.0, shut.1)

  -- the bracket behind an expression in brackets
  unfoldable pub single : Node → Reader Node
  single first f = do
    shut ← need_symbol symbols.ParenClose f
    Ok (first, shut.1)

  -- an expression in brackets, or a tuple
  unfoldable pub grouped_expression : ℕ → Reader Node
  grouped_expression at f = do
    first ← inner levels.Whole f
    if is_symbol symbols.Comma first.1 then tuple at first.0 first.1 else single first.0 first.1

  -- what a round bracket begins
  unfoldable pub parens_behind : ℕ → Reader Node
  parens_behind at f =
      if is_symbol symbols.ParenClose f then Ok (leaf x.Unit at, behind f)
      else if begins_expr f then grouped_expression at f
      else Err (Expected (wanted.Symbol symbols.ParenClose) (place f))

  unfoldable pub parens : Reader Node
  parens f = do
    open_bracket ← opens room f
    parens_behind (place f) (behind f)

  -- an empty list with its element type
  unfoldable pub typed_nil : ℕ → Reader Node
  typed_nil at f = do
    t ← type_to room (behind f)
    shut ← need_symbol symbols.BracketClose t.1
    Ok (leaf (x.Nil (Some t.0)) at, shut.1)

  -- items in brackets; the place of their empty list is that of the closing bracket
  unfoldable pub listing : Reader Node
  listing f = do
    first ← inner levels.Whole f
    all ← more (inner levels.Whole) begins_expr symbols.Comma limits.Items wanted.AnExpr 62 (first.0 ∷ []) first.1
    shut ← need_symbol symbols.BracketClose all.1
    Ok (bracketed_nodes all.0 (leaf (x.Nil None) (place all.1)), shut.1)

  -- what a square bracket begins
  unfoldable pub brackets_behind : ℕ → Reader Node
  brackets_behind at f =
      if is_symbol symbols.BracketClose f then Ok (leaf (x.Nil None) at, behind f)
      else if is_symbol symbols.Colon f then typed_nil at f
      else if begins_expr f then listing f
      else Err (Expected (wanted.Symbol symbols.BracketClose) (place f))

  unfoldable pub brackets : Reader Node
  brackets f = do
    open_bracket ← opens room f
    brackets_behind (place f) (behind f)

  -- one `val`
  unfoldable pub binding : ℕ → Reader Bound
  binding at f = do
    val ← need_key keys.Val f
    name ← name_at val.1
    colon ← need_symbol symbols.Colon name.1
    t ← type_to room colon.1
    equal ← need_symbol symbols.Equal t.1
    value ← inner levels.Whole equal.1
    Ok (record { at = at; name = name.0; ty = t.0; value = value.0 }, value.1)

  -- further `val`
  unfoldable pub bindings_from : ℕ → List Bound → Reader (List Bound)
  bindings_from zero done f = Ok (done, f)
  bindings_from (suc fuel) done f =
      if is_key keys.Val f then (binding (place f) f >>= λ b. bindings_from fuel (done ++ b.0 ∷ []) b.1) else Ok (done, f)

  unfoldable pub let_form : Reader Node
  let_form f = do
    open_let ← opens room f
    first ← binding (place f) (behind f)
    all ← bindings_from (length first.1.tokens) (first.0 ∷ []) first.1
    inside ← need_key keys.In all.1
    body ← inner levels.Whole inside.1
    end ← need_key keys.End body.1
    Ok (let_of all.0 body.0, end.1)

  -- one clause
  unfoldable pub clause : Reader Caught
  clause f = do
    name ← catch_at f
    arrow ← need_symbol symbols.FatArrow name.1
    body ← inner levels.Whole arrow.1
    Ok (record { name = name.0; body = body.0 }, body.1)

  -- the clauses of a `try`, of which `_` is the last
  unfoldable pub clauses_from : ℕ → List Caught → Reader (List Caught)
  clauses_from zero done f = Err (past begins_clause limits.Clauses wanted.AName f)
  clauses_from (suc left) done f =
      clause f >>= λ c.
      if clause_follows c.0.name c.1 then clauses_from left (done ++ c.0 ∷ []) (behind c.1) else Ok (done ++ c.0 ∷ [], c.1)

  unfoldable pub try_form : Reader Node
  try_form f = do
    open_try ← opens room f
    body ← inner levels.Whole (behind f)
    handle ← need_key keys.Handle body.1
    clauses ← clauses_from 8 [] handle.1
    end ← need_key keys.End clauses.1
    Ok (try_of (place f) body.0 clauses.0, end.1)

  -- the type of a `raise`, in brackets
  unfoldable pub raise_typed : ℕ → Reader Node
  raise_typed at f = do
    open_bracket ← opens room f
    colon ← need_symbol symbols.Colon (behind f)
    t ← type_to room colon.1
    shut ← need_symbol symbols.BracketClose t.1
    name ← name_at shut.1
    Ok (leaf (x.Raise name.0 (Some t.0)) at, name.1)

  unfoldable pub raise_plain : ℕ → Reader Node
  raise_plain at f = do
    name ← name_at f
    Ok (leaf (x.Raise name.0 None) at, name.1)

  unfoldable pub raise_form : Reader Node
  raise_form f = if is_symbol symbols.BracketOpen (behind f) then raise_typed (place f) (behind f) else raise_plain (place f) (behind f)

  -- an expression and the comma behind it
  unfoldable pub before_comma : Reader Node
  before_comma f = do
    e ← inner levels.Whole f
    comma ← need_symbol symbols.Comma e.1
    Ok (e.0, comma.1)

  -- an expression and the bracket behind it
  unfoldable pub before_close : Reader Node
  before_close f = do
    e ← inner levels.Whole f
    shut ← need_symbol symbols.ParenClose e.1
    Ok (e.0, shut.1)

  -- the parts of a fold
  unfoldable pub fold_parts : Reader FoldParts
  fold_parts f = do
    open_bracket ← need_open room (behind f)
    name ← name_at open_bracket.1
    comma ← need_symbol symbols.Comma name.1
    start ← before_comma comma.1
    list ← before_close start.1
    Ok (record { name = name.0; start = start.0; list = list.0 }, list.1)

  unfoldable pub foldl_form : Reader Node
  foldl_form f = do
    p ← fold_parts f
    Ok (over_two (x.Foldl p.0.name p.0.start.tree p.0.list.tree) (place f) p.0.start p.0.list, p.1)

  unfoldable pub foldr_form : Reader Node
  foldr_form f = do
    p ← fold_parts f
    Ok (over_two (x.Foldr p.0.name p.0.start.tree p.0.list.tree) (place f) p.0.start p.0.list, p.1)

  unfoldable pub eval_form : Reader Node
  eval_form f = do
    open_bracket ← need_open room (behind f)
    c ← before_close open_bracket.1
    Ok (over_one (x.Eval c.0.tree) (place f) c.0, c.1)

  -- the chunk, the host and the bound of a sending
  unfoldable pub send_parts : Reader SendParts
  send_parts f = do
    open_bracket ← need_open room (behind f)
    c ← before_comma open_bracket.1
    h ← before_comma c.1
    n ← before_comma h.1
    Ok (record { chunk = c.0; host = h.0; bound = n.0 }, n.1)

  unfoldable pub remote_form : Reader Node
  remote_form f = do
    p ← send_parts f
    route ← name_at p.1
    shut ← need_symbol symbols.ParenClose route.1
    Ok (over_three (x.OnRemote p.0.chunk.tree p.0.host.tree p.0.bound.tree route.0) (place f) p.0.chunk p.0.host p.0.bound, shut.1)

  unfoldable pub neighbor_form : Reader Node
  neighbor_form f = do
    p ← send_parts f
    d ← before_close p.1
    Ok (over_four (x.OnNeighbor p.0.chunk.tree p.0.host.tree p.0.bound.tree d.0.tree) (place f) p.0.chunk p.0.host p.0.bound d.0, d.1)

  -- what a reserved word begins
  unfoldable pub key_form : Key → Reader Node
  key_form keys.Let f = let_form f
  key_form keys.Try f = try_form f
  key_form keys.Raise f = raise_form f
  key_form keys.Foldl f = foldl_form f
  key_form keys.Foldr f = foldr_form f
  key_form keys.Eval f = eval_form f
  key_form keys.OnRemote f = remote_form f
  key_form keys.OnNeighbor f = neighbor_form f
  key_form k f = literal_from f (literal_key k)

  -- what a symbol begins
  unfoldable pub symbol_form : Symbol → Reader Node
  symbol_form symbols.ParenOpen f = parens f
  symbol_form symbols.BracketOpen f = brackets f
  symbol_form symbols.Bar f = chunk f
  symbol_form _ f = Err (Expected wanted.AnExpr (place f))

  -- a part of a tuple
  unfoldable pub picked_part : ℕ → Reader Node
  picked_part i f = do
    open_part ← opens room f
    a ← inner levels.Operand (behind f)
    Ok (over_one (x.Part i a.0.tree) (place f) a.0, a.1)

  -- what a token begins
  abbrev pub operand_kind : Front → Option TokenKind → Result (Node × Front) ParseFault
  operand_kind f (Some (kinds.Word _)) = name_operand f
  operand_kind f (Some (kinds.Key k)) = key_form k f
  operand_kind f (Some (kinds.Symbol s)) = symbol_form s f
  operand_kind f (Some (kinds.Part i)) = picked_part i f
  operand_kind f k = literal_from f (literal k)

  unfoldable pub operand : Reader Node
  operand f = operand_kind f (next_kind f)

  -- operands at a level, joined from left to right
  unfoldable pub chained_operands : Reader Node → Chain → Reader Node
  chained_operands one chain f = do
    first ← one f
    chain_from one chain (length first.1.tokens) first.0 first.1

  unfoldable pub product : Reader Node
  product f = chained_operands operand chains.Product f

  unfoldable pub addition : Reader Node
  addition f = chained_operands product chains.Sum f

  -- an item before the rest of a list
  unfoldable pub before_list : Node → Reader Node
  before_list item f = do
    open_list ← opens_at begins_operand room f
    rest ← inner levels.Listed f
    Ok (consed_nodes item rest.0, rest.1)

  unfoldable pub listed_operands : Reader Node
  listed_operands f = do
    item ← addition f
    if is_symbol symbols.DoubleColon item.1 then before_list item.0 (behind item.1) else Ok item

  -- at most one comparison
  abbrev pub compared_operands : Node → Front → Option Joint → Result (Node × Front) ParseFault
  compared_operands left f (Some joint) = listed_operands (behind f) >>= λ right. Ok (joined_nodes joint left right.0, right.1)
  compared_operands left f None = Ok (left, f)

  unfoldable pub comparison : Reader Node
  comparison f = do
    left ← listed_operands f
    compared_operands left.0 left.1 (joint_of chains.Comparison (next_kind left.1))

  unfoldable pub negation : Reader Node
  negation f = do
    open_not ← opens room f
    a ← inner levels.Negated (behind f)
    Ok (over_one (x.Not a.0.tree) (place f) a.0, a.1)

  unfoldable pub negated_operand : Reader Node
  negated_operand f = if is_key keys.Not f then negation f else comparison f

  unfoldable pub conjunction : Reader Node
  conjunction f = chained_operands negated_operand chains.And f

  unfoldable pub disjunction : Reader Node
  disjunction f = chained_operands conjunction chains.Or f

  unfoldable pub condition : Reader Node
  condition f = do
    open_if ← opens room f
    test ← inner levels.Whole (behind f)
    then_word ← need_key keys.Then test.1
    a ← inner levels.Low then_word.1
    else_word ← need_key keys.Else a.1
    b ← inner levels.Low else_word.1
    Ok (over_three (x.If test.0.tree a.0.tree b.0.tree) (place f) test.0 a.0 b.0, b.1)

  unfoldable pub low : Reader Node
  low f = if is_key keys.If f then condition f else disjunction f

  -- an expression before another
  unfoldable pub before_next : Node → Reader Node
  before_next first f = do
    open_next ← opens_at begins_expr room f
    second ← inner levels.Whole f
    Ok (over_two (x.Then first.tree second.0.tree) first.at first second.0, second.1)

  unfoldable pub whole : Reader Node
  whole f = do
    first ← low f
    if is_symbol symbols.Semicolon first.1 then before_next first.0 (behind first.1) else Ok first

  unfoldable pub at_level : Level → Reader Node
  at_level levels.Whole f = whole f
  at_level levels.Low f = low f
  at_level levels.Negated f = negated_operand f
  at_level levels.Listed f = listed_operands f
  at_level levels.Operand f = operand f

-- an expression at a level, with room for so many open constructs less one
unfoldable pub expr_to : ℕ → Level → Reader Node
expr_to zero level f = Err (TooDeep (place f))
expr_to (suc room) level f = at_level (expr_to room) room level f
