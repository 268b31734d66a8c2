-- What must be read of a value and of arguments, in order, and what the first step that fails answers. A type and a value hand
-- the type that they are to what waits for it, so a list judges its items, and `[:t]` its depth, by what was written.
use Rattle.std.specs.Prelude.{◌+◌, ◌-◌, ◌++◌, ℕ, zero, suc, List, [], ◌∷◌, length, nat_lt, Option, Some, None, Ok, Err, if◌then◌else◌}
use Rattle.plan_base.specs.declared.limit.Limit.TheVariants as limits
use Rattle.plan_base.specs.declared.tree.Ty.{Ty}
use Rattle.plan_base.specs.declared.tree.Ty.TheVariants as ty
use Rattle.plan_base.specs.Sizes.{type_depth}
use Rattle.plan_base.specs.SameTypes.{same_type}
use Rattle.plan_lexer.specs.declared.token.TokenKind.{TokenKind}
use Rattle.plan_lexer.specs.declared.token.TokenKind.TheVariants as kinds
use Rattle.plan_lexer.specs.declared.token.Key.{Key}
use Rattle.plan_lexer.specs.declared.token.Key.TheVariants as keys
use Rattle.plan_lexer.specs.declared.token.Symbol.{Symbol}
use Rattle.plan_lexer.specs.declared.token.Symbol.TheVariants as symbols
use Rattle.plan_parser_exprs.specs.declared.fault.ParseFault.TheVariants.{Expected, TooDeep}
use Rattle.plan_parser_exprs.specs.declared.fault.Wanted.TheVariants as wanted
use Rattle.plan_parser_exprs.specs.Ahead.{Front, place, behind, next_kind, is_symbol, is_key}
use Rattle.plan_parser_exprs.specs.Begins.{kind_type, begins_type}
use Rattle.plan_parser_exprs.specs.Types.{past}
use Rattle.plan_parser_laws.specs.Agenda.{StepOf, expected_fault}
use Rattle.plan_parser.specs.Values.{begins_value}

-- What must be read. Of lists and tuples r more may stand inside each other, or q inside the one that is open; `left` more
-- items may follow; numbers besides are places.
pub data ValueItem : Type 0 where
  sym : Symbol → ValueItem
  -- a type, with r more brackets inside each other; the words `list` behind one that began there; behind the first type in
  -- brackets and behind further ones, before and after the type that was just read is known
  a_type : ℕ → ValueItem
  lists : ℕ → Ty → ValueItem
  first_type : ℕ → ℕ → ValueItem
  behind_first : ℕ → ℕ → Ty → ValueItem
  next_type : ℕ → ℕ → ℕ → List Ty → ValueItem
  behind_next : ℕ → ℕ → ℕ → List Ty → ValueItem
  -- a value; a value that ends here, by its type
  a_value : ℕ → ValueItem
  made : Ty → ValueItem
  -- behind the `(` at that place; behind the first part and behind further ones, before and after its type is known
  behind_paren : ℕ → ℕ → ValueItem
  first_part : ℕ → ValueItem
  behind_part : ℕ → Ty → ValueItem
  next_part : ℕ → ℕ → List Ty → ValueItem
  behind_parts : ℕ → ℕ → List Ty → ValueItem
  -- behind the `[` at that place; the element type behind `[:`, before and after it is known; the first item and further ones
  -- of the type of the first, before and after the type of the item that begins there is known
  behind_bracket : ℕ → ℕ → ValueItem
  element : ℕ → ℕ → ValueItem
  behind_element : ℕ → ℕ → Ty → ValueItem
  first_item : ℕ → ValueItem
  next_item : ℕ → ℕ → Ty → ℕ → ValueItem
  behind_item : ℕ → ℕ → Ty → ℕ → Ty → ValueItem
  behind_items : ℕ → ℕ → Ty → ValueItem
  -- behind the bracket of arguments; further ones; nothing more
  args : ValueItem
  more_args : ℕ → ValueItem
  the_end : ValueItem

-- a list or a tuple whose bracket stands at that place opens, if one more may
abbrev pub enter : ℕ → ℕ → (ℕ → List ValueItem) → Front → StepOf ValueItem
enter zero at items f = Err (TooDeep at)
enter (suc q) at items f = Ok (items q, f)

-- the type of what ends is handed to what waits for it
abbrev pub hand : Ty → List ValueItem → List ValueItem
hand t (first_type r start ∷ more) = behind_first r start t ∷ more
hand t (next_type r start left ts ∷ more) = behind_next r start left (ts ++ t ∷ []) ∷ more
hand t (first_part q ∷ more) = behind_part q t ∷ more
hand t (next_part q left ts ∷ more) = behind_parts q left (ts ++ t ∷ []) ∷ more
hand t (element q at ∷ more) = behind_element q at t ∷ more
hand t (first_item q ∷ more) = behind_items q 62 t ∷ more
hand t (next_item q left u at ∷ more) = behind_item q left u at t ∷ more
hand t more = more

-- the type of the value that one token is
abbrev pub key_literal : Key → Option Ty
key_literal keys.True = Some ty.Bool
key_literal keys.False = Some ty.Bool
key_literal _ = None

abbrev pub literal_type : Option TokenKind → Option Ty
literal_type (Some (kinds.Int n)) = Some ty.Int
literal_type (Some (kinds.Host n)) = Some ty.Host
literal_type (Some (kinds.Dev n)) = Some ty.Dev
literal_type (Some (kinds.Char c)) = Some ty.Char
literal_type (Some (kinds.Str s)) = Some ty.Str
literal_type (Some (kinds.Blob b)) = Some ty.Blob
literal_type (Some (kinds.Key k)) = key_literal k
literal_type _ = None

-- one token that is a type or a value
abbrev pub type_step : List ValueItem → Front → Option Ty → StepOf ValueItem
type_step more f (Some t) = Ok (lists (place f) t ∷ more, behind f)
type_step more f None = expected_fault wanted.AType f

abbrev pub literal_step : List ValueItem → Front → Option Ty → StepOf ValueItem
literal_step more f (Some t) = Ok (hand t more, behind f)
literal_step more f None = expected_fault wanted.AValue f

-- what is read from the first item, where so many brackets are open around the whole value
unfoldable pub step : ℕ → ValueItem → List ValueItem → Front → StepOf ValueItem
step o (sym w) more f = if is_symbol w f then Ok (more, behind f) else expected_fault (wanted.Symbol w) f
step o (a_type r) more f =
    if is_symbol symbols.ParenOpen f then enter r (place f) (λ q. a_type q ∷ first_type q (place f) ∷ more) (behind f) else type_step more f
    (kind_type (next_kind f))
step o (lists start t) more f =
    if is_key keys.List f then Ok (lists start (ty.List t) ∷ more, behind f)
    else if nat_lt 8 (type_depth t) then Err (TooDeep start)
    else Ok (hand t more, f)
step o (behind_first r start t) more f =
    if is_symbol symbols.Star f then Ok (behind_next r start 7 (t ∷ []) ∷ more, f) else Ok (sym symbols.ParenClose ∷ lists start t ∷ more, f)
step o (behind_next r start zero ts) more f =
    if is_symbol symbols.Star f then Err (past begins_type limits.Parts wanted.AType (behind f)) else Ok (
      sym symbols.ParenClose ∷ lists start (ty.Tuple ts) ∷ more,
      f,
    )
step o (behind_next r start (suc left) ts) more f =
    if is_symbol symbols.Star f then Ok (a_type r ∷ next_type r start left ts ∷ more, behind f) else Ok (
      sym symbols.ParenClose ∷ lists start (ty.Tuple ts) ∷ more,
      f,
    )
step o (a_value r) more f =
    if is_symbol symbols.ParenOpen f then Ok (behind_paren r (place f) ∷ more, behind f)
    else if is_symbol symbols.BracketOpen f then enter r (place f) (λ q. behind_bracket q (place f) ∷ more) (behind f)
    else literal_step more f (literal_type (next_kind f))
step o (made t) more f = Ok (hand t more, f)
step o (behind_paren r at) more f =
    if is_symbol symbols.ParenClose f then Ok (hand ty.Unit more, behind f)
    else if begins_value f then enter r at (λ q. a_value q ∷ first_part q ∷ more) f
    else expected_fault (wanted.Symbol symbols.ParenClose) f
step o (behind_part q t) more f = if is_symbol symbols.Comma f then Ok (behind_parts q 7 (t ∷ []) ∷ more, f) else expected_fault (wanted.Symbol symbols.Comma) f
step o (behind_parts q zero ts) more f =
    if is_symbol symbols.Comma f then Err (past begins_value limits.Parts wanted.AValue (behind f)) else Ok
    (sym symbols.ParenClose ∷ made (ty.Tuple ts) ∷ more, f)
step o (behind_parts q (suc left) ts) more f =
    if is_symbol symbols.Comma f then Ok (a_value q ∷ next_part q left ts ∷ more, behind f) else Ok (sym symbols.ParenClose ∷ made (ty.Tuple ts) ∷ more, f)
step o (behind_bracket q at) more f =
    if is_symbol symbols.Colon f then Ok (a_type (153 + q - o) ∷ element q at ∷ more, behind f)
    else if begins_value f then Ok (a_value q ∷ first_item q ∷ more, f)
    else expected_fault wanted.AValue f
step o (behind_element q at t) more f = if nat_lt (suc q) (type_depth t) then Err (TooDeep at) else Ok (sym symbols.BracketClose ∷ made (ty.List t) ∷ more, f)
step o (behind_item q left u at t) more f = if same_type t u then Ok (behind_items q left u ∷ more, f) else Err (Expected wanted.AValue at)
step o (behind_items q zero u) more f =
    if is_symbol symbols.Comma f then Err (past begins_value limits.Items wanted.AValue (behind f)) else Ok
    (sym symbols.BracketClose ∷ made (ty.List u) ∷ more, f)
step o (behind_items q (suc left) u) more f =
    if is_symbol symbols.Comma f then Ok (
      a_value q ∷ next_item q left u (place (behind f)) ∷ more,
      behind f,
    ) else Ok (sym symbols.BracketClose ∷ made (ty.List u) ∷ more, f)
step o args more f =
    if is_symbol symbols.ParenClose f then Ok (more, behind f)
    else if begins_value f then Ok (a_value 7 ∷ more_args 7 ∷ sym symbols.ParenClose ∷ more, f)
    else expected_fault (wanted.Symbol symbols.ParenClose) f
step o (more_args zero) more f = if is_symbol symbols.Comma f then Err (past begins_value limits.Arguments wanted.AValue (behind f)) else Ok (more, f)
step o (more_args (suc left)) more f = if is_symbol symbols.Comma f then Ok (a_value 7 ∷ more_args left ∷ more, behind f) else Ok (more, f)
step o the_end more f = if nat_lt 0 (length f.tokens) then expected_fault wanted.AValue f else Ok (more, f)
step o _ more f = Ok (more, f)
