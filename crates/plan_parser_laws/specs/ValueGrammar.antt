-- The written grammar of values and of arguments: a family for each left side, a constructor for each production.
-- In `ValueAt o r f i g` the tokens from f up to g are a value that is read as i, its value and its type; at most r more
-- lists and tuples are open inside each other, and o brackets around the whole value.
use Rattle.std.specs.Prelude.{◌≡◌, ◌+◌, ◌-◌, ◌≤◌, ℕ, ℤ, suc, true, false, List, [], ◌∷◌, length, map, Option, Some}
use Rattle.plan_base.specs.declared.tree.Ty.{Ty}
use Rattle.plan_base.specs.declared.tree.Ty.TheVariants as ty
use Rattle.plan_base.specs.declared.tree.Value.{Value}
use Rattle.plan_base.specs.declared.tree.Value.TheVariants as v
use Rattle.plan_base.specs.Sizes.{type_depth}
use Rattle.plan_lexer.specs.declared.token.Token.{Token}
use Rattle.plan_lexer.specs.declared.token.TokenKind.{TokenKind}
use Rattle.plan_lexer.specs.declared.token.TokenKind.TheVariants as kinds
use Rattle.plan_lexer.specs.declared.token.Key.TheVariants as keys
use Rattle.plan_lexer.specs.declared.token.Symbol.TheVariants as symbols
use Rattle.plan_parser_exprs.specs.Ahead.{Front, behind, next_kind}
use Rattle.plan_parser_laws.specs.Grammar.{Sym, TypeAt, behind2}
use Rattle.plan_parser.specs.declared.item.TypedValue.{TypedValue}
use Rattle.plan_parser.specs.Values.{typed_value, tuple_of, list_of}

-- a value that one token is
pub data IsLiteral : Option TokenKind → TypedValue → Type 0 where
  truth : IsLiteral (Some (kinds.Key keys.True)) (typed_value (v.Bool true) ty.Bool)
  falsehood : IsLiteral (Some (kinds.Key keys.False)) (typed_value (v.Bool false) ty.Bool)
  int : (z : ℤ) → IsLiteral (Some (kinds.Int z)) (typed_value (v.Int z) ty.Int)
  host : (n : ℕ) → IsLiteral (Some (kinds.Host n)) (typed_value (v.Host (record { 0 = n })) ty.Host)
  dev : (n : ℕ) → IsLiteral (Some (kinds.Dev n)) (typed_value (v.Dev (record { 0 = n })) ty.Dev)
  char : (c : ℕ) → IsLiteral (Some (kinds.Char c)) (typed_value (v.Char c) ty.Char)
  str : (s : List ℕ) → IsLiteral (Some (kinds.Str s)) (typed_value (v.Str s) ty.Str)
  blob : (b : List ℕ) → IsLiteral (Some (kinds.Blob b)) (typed_value (v.Blob b) ty.Blob)

mutual
  pub data ValueAt : ℕ → ℕ → Front → TypedValue → Front → Type 0 where
    -- literal | ( ) | ( value , value { , value } ), of at most 8 parts
    one_token : {o r : ℕ} {f : Front} {i : TypedValue} → IsLiteral (next_kind f) i → ValueAt o r f i (behind f)
    nothing : {o r : ℕ} {f : Front} → Sym symbols.ParenOpen f → Sym symbols.ParenClose (behind f) → ValueAt o r f (typed_value v.Unit ty.Unit) (behind2 f)
    tuple : {o r : ℕ} {f g h : Front} {i j : TypedValue} {is : List TypedValue}
        → Sym symbols.ParenOpen f → ValueAt o r (behind f) i g → MoreAt o r g (j ∷ is) h → length (j ∷ is) ≤ 7 → Sym symbols.ParenClose h
        → ValueAt o (suc r) f (tuple_of (i ∷ j ∷ is)) (behind h)
    -- [ : type ], which counts as deep as the type | [ value { , value } ], of at most 63 values of one type
    no_items : {o r : ℕ} {f g : Front} {t : Ty}
        → Sym symbols.BracketOpen f → Sym symbols.Colon (behind f) → TypeAt (153 + r - o) (behind2 f) t g → type_depth t ≤ suc r → Sym symbols.BracketClose g
        → ValueAt o (suc r) f (list_of t []) (behind g)
    items : {o r : ℕ} {f g h : Front} {i : TypedValue} {vs : List Value}
        → Sym symbols.BracketOpen f → ValueAt o r (behind f) i g → LikeAt o r i.ty g vs h → length vs ≤ 62 → Sym symbols.BracketClose h
        → ValueAt o (suc r) f (list_of i.ty (i.value ∷ vs)) (behind h)

  -- { , value }
  pub data MoreAt : ℕ → ℕ → Front → List TypedValue → Front → Type 0 where
    no_more : {o r : ℕ} {f : Front} → MoreAt o r f [] f
    one_more : {o r : ℕ} {f g h : Front} {i : TypedValue} {is : List TypedValue} → Sym symbols.Comma f → ValueAt o r (behind f) i g
        → MoreAt o r g is h → MoreAt o r f (i ∷ is) h

  -- { , value }, each of that type
  pub data LikeAt : ℕ → ℕ → Ty → Front → List Value → Front → Type 0 where
    no_like : {o r : ℕ} {t : Ty} {f : Front} → LikeAt o r t f [] f
    one_like : {o r : ℕ} {t : Ty} {f g h : Front} {i : TypedValue} {vs : List Value}
        → Sym symbols.Comma f → ValueAt o r (behind f) i g → i.ty ≡ t → LikeAt o r t g vs h → LikeAt o r t f (i.value ∷ vs) h

-- a value up to the end, with at most 7 lists and tuples inside each other
pub data IsValue (tokens : List Token) (end : ℕ) : Value → Type 0 where
  a_value : {g : Front} {i : TypedValue} → ValueAt 0 7 (record { tokens = tokens; end = end }) i g → g.tokens ≡ [] → IsValue tokens end i.value

-- arguments := ( ) | ( value { , value } ), at most 8, up to the end
pub data ArgsAt : Front → List Value → Front → Type 0 where
  no_args : {f : Front} → Sym symbols.ParenOpen f → Sym symbols.ParenClose (behind f) → ArgsAt f [] (behind2 f)
  some_args : {f g h : Front} {i : TypedValue} {is : List TypedValue}
      → Sym symbols.ParenOpen f → ValueAt 1 7 (behind f) i g → MoreAt 1 7 g is h → length is ≤ 7 → Sym symbols.ParenClose h
      → ArgsAt f (map (λ k. k.value) (i ∷ is)) (behind h)

pub data AreArgs (tokens : List Token) (end : ℕ) : List Value → Type 0 where
  arguments : {g : Front} {vs : List Value} → ArgsAt (record { tokens = tokens; end = end }) vs g → g.tokens ≡ [] → AreArgs tokens end vs
