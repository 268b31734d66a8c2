-- How a type is read, with its first refusal.
use Rattle.std.specs.Prelude.{◌+◌, ◌==◌, ℕ, zero, suc, Bool, List, [], ◌∷◌, ◌++◌, nat_lt, Option, Some, None, Result, Ok, Err, if◌then◌else◌}
use Rattle.plan_base.specs.declared.limit.Limit.{Limit}
use Rattle.plan_base.specs.declared.limit.Limit.TheVariants as limits
use Rattle.plan_base.specs.declared.tree.Ty.{Ty}
use Rattle.plan_base.specs.declared.tree.Ty.TheVariants as ty
use Rattle.plan_base.specs.Sizes.{type_depth}
use Rattle.plan_lexer.specs.declared.token.Token.{Token}
use Rattle.plan_lexer.specs.declared.token.Key.TheVariants as keys
use Rattle.plan_lexer.specs.declared.token.Symbol.{Symbol}
use Rattle.plan_lexer.specs.declared.token.Symbol.TheVariants as symbols
use Rattle.plan_parser_exprs.specs.declared.fault.ParseFault.{ParseFault}
use Rattle.plan_parser_exprs.specs.declared.fault.ParseFault.TheVariants.{Expected, TooDeep, TooMany}
use Rattle.plan_parser_exprs.specs.declared.fault.Wanted.{Wanted}
use Rattle.plan_parser_exprs.specs.declared.fault.Wanted.TheVariants as wanted
use Rattle.plan_parser_exprs.specs.Ahead.{Front, Reader, ◌>>=◌, place, behind, next_kind, is_symbol, is_key_kind, need_symbol}
use Rattle.plan_parser_exprs.specs.Begins.{kind_type, begins_type}

-- one more construct may open here
unfoldable pub opens : ℕ → Reader (Unit {0})
opens room f = if room == 0 then Err (TooDeep (place f)) else Ok (tt, f)

-- an item past a limit, where a token that may begin one stands
unfoldable pub past : (Front → Bool) → Limit → Wanted → Front → ParseFault
past begins limit what f = if begins f then TooMany limit (place f) else Expected what (place f)

-- further items, each behind a separator, at most so many
unfoldable pub more : {A : Type 0} → Reader A → (Front → Bool) → Symbol → Limit → Wanted → ℕ → List A → Reader (List A)
more one begins sep limit what zero done f = if is_symbol sep f then Err (past begins limit what (behind f)) else Ok (done, f)
more one begins sep limit what (suc left) done f =
    if is_symbol sep f then (one (behind f) >>= λ x. more one begins sep limit what left (done ++ x.0 ∷ []) x.1) else Ok (done, f)

-- a type that one token names
abbrev pub type_or_fault : Front → Option Ty → Result (Ty × Front) ParseFault
type_or_fault f (Some t) = Ok (t, behind f)
type_or_fault f None = Err (Expected wanted.AType (place f))

-- how often the word `list` stands next
abbrev pub is_list_word : Token → Bool
is_list_word t = is_key_kind keys.List (Some t.kind)

-- the words `list` that stand next are counted, after so many; what is left behind them
abbrev pub after_lists : ℕ → List Token → ℕ × List Token
after_lists n [] = (n, [])
after_lists n (t ∷ ts) = if is_list_word t then after_lists (n + 1) ts else (n, t ∷ ts)

unfoldable pub list_words : Front → ℕ
list_words f = (after_lists 0 f.tokens).0

unfoldable pub behind_lists : Front → Front
behind_lists f = record f { tokens = (after_lists 0 f.tokens).1 }

-- lists of lists, so many
abbrev pub lists_of : ℕ → Ty → Ty
lists_of zero t = t
lists_of (suc n) t = lists_of n (ty.List t)

-- a type that ends here and began there, judged by its depth, at most 8
unfoldable pub judged_type : ℕ → ℕ → Ty → Result Ty ParseFault
judged_type start n t = if nat_lt 8 (type_depth t + n) then Err (TooDeep start) else Ok (lists_of n t)

module _ (inner : Reader Ty) (room : ℕ) where
  -- the parts of a tuple type behind the first, up to the bracket
  unfoldable pub tuple_type : Ty → Reader Ty
  tuple_type first f = do
    parts ← more inner begins_type symbols.Star limits.Parts wanted.AType 7 (first ∷ []) f
    shut ← need_symbol symbols.ParenClose parts.1
    Ok (ty.Tuple parts.0, shut.1)

  -- the bracket behind a type in brackets
  unfoldable pub single_type : Ty → Reader Ty
  single_type first f = do
    shut ← need_symbol symbols.ParenClose f
    Ok (first, shut.1)

  -- a type in brackets, or a tuple type
  unfoldable pub group_type : Reader Ty
  group_type f = do
    open_bracket ← opens room f
    first ← inner (behind open_bracket.1)
    if is_symbol symbols.Star first.1 then tuple_type first.0 first.1 else single_type first.0 first.1

  -- what stands before the words `list`
  unfoldable pub base_type : Reader Ty
  base_type f = if is_symbol symbols.ParenOpen f then group_type f else type_or_fault f (kind_type (next_kind f))

  -- a whole type
  unfoldable pub whole_type : Reader Ty
  whole_type f = do
    base ← base_type f
    t ← judged_type (place f) (list_words base.1) base.0
    Ok (t, behind_lists base.1)

-- a type, with room for so many open constructs less one
unfoldable pub type_to : ℕ → Reader Ty
type_to zero f = Err (TooDeep (place f))
type_to (suc room) f = whole_type (type_to room) room f
