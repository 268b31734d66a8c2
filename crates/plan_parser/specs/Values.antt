-- How a value and the arguments of an entry are read, with their first refusal.
use Rattle.std.specs.Prelude.{◌+◌, ◌-◌, ◌==◌, ◌||◌, ℕ, zero, suc, Bool, true, false, List, [], ◌∷◌, length, map, nat_lt, Option, Some, None}
use Rattle.std.specs.Prelude.{is_some, Result, Ok, Err, if◌then◌else◌}
use Rattle.plan_base.specs.declared.limit.Limit.TheVariants as limits
use Rattle.plan_base.specs.declared.tree.Ty.{Ty}
use Rattle.plan_base.specs.declared.tree.Ty.TheVariants as ty
use Rattle.plan_base.specs.declared.tree.Value.{Value}
use Rattle.plan_base.specs.declared.tree.Value.TheVariants as v
use Rattle.plan_base.specs.Sizes.{type_depth}
use Rattle.plan_base.specs.SameTypes.{same_type}
use Rattle.plan_lexer.specs.declared.token.Token.{Token}
use Rattle.plan_lexer.specs.declared.token.TokenKind.{TokenKind}
use Rattle.plan_lexer.specs.declared.token.TokenKind.TheVariants as kinds
use Rattle.plan_lexer.specs.declared.token.Key.{Key}
use Rattle.plan_lexer.specs.declared.token.Key.TheVariants as keys
use Rattle.plan_lexer.specs.declared.token.Symbol.TheVariants as symbols
use Rattle.plan_parser_exprs.specs.declared.fault.ParseFault.{ParseFault}
use Rattle.plan_parser_exprs.specs.declared.fault.ParseFault.TheVariants.{Expected, TooDeep}
use Rattle.plan_parser_exprs.specs.declared.fault.Wanted.TheVariants as wanted
use Rattle.plan_parser_exprs.specs.Ahead.{Front, Reader, ◌>>=◌, place, behind, next_kind, is_symbol, need_symbol}
use Rattle.plan_parser_exprs.specs.Types.{opens, more, type_to}
use Rattle.plan_parser.specs.declared.item.TypedValue.{TypedValue}

-- a value with its type
abbrev pub typed_value : Value → Ty → TypedValue
typed_value value t = record { value = value; ty = t }

-- the value that one token is
abbrev pub literal_key : Key → Option TypedValue
literal_key keys.True = Some (typed_value (v.Bool true) ty.Bool)
literal_key keys.False = Some (typed_value (v.Bool false) ty.Bool)
literal_key _ = None

abbrev pub literal : Option TokenKind → Option TypedValue
literal (Some (kinds.Int n)) = Some (typed_value (v.Int n) ty.Int)
literal (Some (kinds.Host n)) = Some (typed_value (v.Host (record { 0 = n })) ty.Host)
literal (Some (kinds.Dev n)) = Some (typed_value (v.Dev (record { 0 = n })) ty.Dev)
literal (Some (kinds.Char c)) = Some (typed_value (v.Char c) ty.Char)
literal (Some (kinds.Str s)) = Some (typed_value (v.Str s) ty.Str)
literal (Some (kinds.Blob b)) = Some (typed_value (v.Blob b) ty.Blob)
literal (Some (kinds.Key k)) = literal_key k
literal _ = None

abbrev pub literal_from : Front → Option TypedValue → Result (TypedValue × Front) ParseFault
literal_from f (Some i) = Ok (i, behind f)
literal_from f None = Err (Expected wanted.AValue (place f))

-- a literal or a bracket may begin a value
unfoldable pub begins_value : Front → Bool
begins_value f = is_some (literal (next_kind f)) || (is_symbol symbols.ParenOpen f || is_symbol symbols.BracketOpen f)

-- several values as a tuple
abbrev pub tuple_of : List TypedValue → TypedValue
tuple_of is = typed_value (v.Tuple (map (λ i. i.value) is)) (ty.Tuple (map (λ i. i.ty) is))

-- values of one type as a list
abbrev pub list_of : Ty → List Value → TypedValue
list_of t vs = typed_value (v.List t vs) (ty.List t)

-- an item of a list must have the type of the first
unfoldable pub judged_item : Ty → ℕ → TypedValue → Front → Result (Value × Front) ParseFault
judged_item t at i f = if same_type i.ty t then Ok (i.value, f) else Err (Expected wanted.AValue at)

-- an empty list counts as deep as its element type
unfoldable pub fits : ℕ → ℕ → Ty → Result (Unit {0}) ParseFault
fits room at t = if nat_lt room (type_depth t) then Err (TooDeep at) else Ok tt

-- `inner` reads inside one more list or tuple; `room` more may open here; `outside` brackets are open around the whole value
module _ (inner : Reader TypedValue) (outside room : ℕ) where
  -- the further parts of a tuple
  unfoldable pub tuple_from : TypedValue → Reader TypedValue
  tuple_from first f = do
    all ← more inner begins_value symbols.Comma limits.Parts wanted.AValue 7 (first ∷ []) f
    shut ← need_symbol symbols.ParenClose all.1
    Ok (tuple_of all.0, shut.1)

  -- there must be a second part
  unfoldable pub tuple : TypedValue → Reader TypedValue
  tuple first f = if is_symbol symbols.Comma f then tuple_from first f else Err (Expected (wanted.Symbol symbols.Comma) (place f))

  -- a tuple, whose bracket stands at that place
  unfoldable pub grouped_value : ℕ → Reader TypedValue
  grouped_value at f = if room == 0 then Err (TooDeep at) else (inner f >>= λ first. tuple first.0 first.1)

  -- what a round bracket begins
  unfoldable pub parens : Reader TypedValue
  parens f =
      if is_symbol symbols.ParenClose (behind f) then Ok (typed_value v.Unit ty.Unit, behind (behind f))
      else if begins_value (behind f) then grouped_value (place f) (behind f)
      else Err (Expected (wanted.Symbol symbols.ParenClose) (place (behind f)))

  -- a further item of a list
  unfoldable pub like : Ty → Reader Value
  like t f = do
    i ← inner f
    judged_item t (place f) i.0 i.1

  -- items in brackets
  unfoldable pub listing : Reader TypedValue
  listing f = do
    first ← inner f
    all ← more (like first.0.ty) begins_value symbols.Comma limits.Items wanted.AValue 62 (first.0.value ∷ []) first.1
    shut ← need_symbol symbols.BracketClose all.1
    Ok (list_of first.0.ty all.0, shut.1)

  -- an empty list with its element type, inside the brackets that are open
  unfoldable pub typed_nil : ℕ → Reader TypedValue
  typed_nil at f = do
    t ← type_to (153 + room - outside) (behind f)
    deep ← fits room at t.0
    shut ← need_symbol symbols.BracketClose t.1
    Ok (list_of t.0 [], shut.1)

  -- what a square bracket begins
  unfoldable pub brackets : Reader TypedValue
  brackets f = do
    open_bracket ← opens room f
    if is_symbol symbols.Colon (behind f) then typed_nil (place f) (behind f)
        else if begins_value (behind f) then listing (behind f)
        else Err (Expected wanted.AValue (place (behind f)))

  unfoldable pub value_at : Reader TypedValue
  value_at f =
      if is_symbol symbols.ParenOpen f then parens f
      else if is_symbol symbols.BracketOpen f then brackets f
      else literal_from f (literal (next_kind f))

-- a value, in which so many lists and tuples less one may stand inside each other
unfoldable pub value_to : ℕ → ℕ → Reader TypedValue
value_to outside zero f = Err (TooDeep (place f))
value_to outside (suc room) f = value_at (value_to outside room) outside room f

-- nothing may follow
unfoldable pub nothing_follows : Front → Result (Unit {0}) ParseFault
nothing_follows f = if nat_lt 0 (length f.tokens) then Err (Expected wanted.AValue (place f)) else Ok tt

-- an argument, inside the bracket
unfoldable pub argument_at : Reader Value
argument_at f = value_to 1 8 f >>= λ i. Ok (i.0.value, i.1)

unfoldable pub arguments_from : Reader (List Value)
arguments_from f = do
  first ← argument_at f
  all ← more argument_at begins_value symbols.Comma limits.Arguments wanted.AValue 7 (first.0 ∷ []) first.1
  shut ← need_symbol symbols.ParenClose all.1
  Ok (all.0, shut.1)

-- arguments behind their bracket, maybe none
unfoldable pub arguments_behind : Reader (List Value)
arguments_behind f =
    if is_symbol symbols.ParenClose f then Ok ([], behind f)
    else if begins_value f then arguments_from f
    else Err (Expected (wanted.Symbol symbols.ParenClose) (place f))

-- the tokens of a text of that length as a value, or the first refusal
unfoldable pub value_of : List Token → ℕ → Result Value ParseFault
value_of tokens end = do
  i ← value_to 0 8 (record { tokens = tokens; end = end })
  all ← nothing_follows i.1
  Ok i.0.value

-- the tokens as arguments, or the first refusal
unfoldable pub args_of : List Token → ℕ → Result (List Value) ParseFault
args_of tokens end = do
  open_bracket ← need_symbol symbols.ParenOpen (record { tokens = tokens; end = end })
  args ← arguments_behind open_bracket.1
  all ← nothing_follows args.1
  Ok args.0
