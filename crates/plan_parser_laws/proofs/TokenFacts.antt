-- What the kind of the next token says: which symbol or word it is, and where an expression goes on with it.
use Rattle.std.proofs.Common.{◌≡◌, ℕ, true, false, List, [], ◌∷◌, get_or, Option, Some, refl, sym, ◌∙◌, ap, arith, ◌==◌, suc, eqb, eqb-true, ne_eqb}
use Rattle.plan_lexer.specs.declared.token.TokenKind.{TokenKind}
use Rattle.plan_lexer.specs.declared.token.TokenKind.TheVariants as kinds
use Rattle.plan_lexer.specs.declared.token.Key.{Key}
use Rattle.plan_lexer.specs.declared.token.Key.TheVariants as keys
use Rattle.plan_lexer.specs.declared.token.Symbol.{Symbol}
use Rattle.plan_lexer.specs.declared.token.Symbol.TheVariants as symbols
use Rattle.plan_parser_exprs.specs.Ahead.{is_symbol_kind, is_key_kind}
use Rattle.plan_parser_exprs.specs.Codes.{key_code, symbol_code}

symbols_by_code : List Symbol
symbols_by_code = symbols.ParenOpen ∷ symbols.ParenClose ∷ symbols.BracketOpen ∷ symbols.BracketClose ∷ symbols.Comma ∷ symbols.Semicolon ∷ symbols.Colon ∷ symbols.DoubleColon ∷ symbols.Equal ∷
    symbols.NotEqual ∷ symbols.Less ∷ symbols.LessEqual ∷ symbols.Greater ∷ symbols.GreaterEqual ∷ symbols.Plus ∷ symbols.Minus ∷ symbols.Star ∷ symbols.Slash ∷ symbols.Caret ∷ symbols.Arrow ∷
    symbols.FatArrow ∷ symbols.Bar ∷ symbols.Underscore ∷ []

keys_by_code : List Key
keys_by_code = keys.And ∷ keys.Blob ∷ keys.Bool ∷ keys.Char ∷ keys.Chunk ∷ keys.Dev ∷ keys.Else ∷ keys.End ∷ keys.Eval ∷ keys.Exception ∷ keys.False ∷ keys.Foldl ∷ keys.Foldr ∷ keys.Fun ∷ keys.Handle
    ∷ keys.Host ∷ keys.If ∷ keys.In ∷ keys.Int ∷ keys.Let ∷ keys.List ∷ keys.Mod ∷ keys.Not ∷ keys.OnNeighbor ∷ keys.OnRemote ∷ keys.Or ∷ keys.Raise ∷ keys.Str ∷ keys.Svc ∷ keys.Then ∷ keys.True ∷
    keys.Try ∷ keys.Unit ∷ keys.Val ∷ []

symbol_back : (s : Symbol) → get_or symbols_by_code (symbol_code s) symbols.Underscore ≡ s
unfolding symbols_by_code
symbol_back symbols.ParenOpen = refl
symbol_back symbols.ParenClose = refl
symbol_back symbols.BracketOpen = refl
symbol_back symbols.BracketClose = refl
symbol_back symbols.Comma = refl
symbol_back symbols.Semicolon = refl
symbol_back symbols.Colon = refl
symbol_back symbols.DoubleColon = refl
symbol_back symbols.Equal = refl
symbol_back symbols.NotEqual = refl
symbol_back symbols.Less = refl
symbol_back symbols.LessEqual = refl
symbol_back symbols.Greater = refl
symbol_back symbols.GreaterEqual = refl
symbol_back symbols.Plus = refl
symbol_back symbols.Minus = refl
symbol_back symbols.Star = refl
symbol_back symbols.Slash = refl
symbol_back symbols.Caret = refl
symbol_back symbols.Arrow = refl
symbol_back symbols.FatArrow = refl
symbol_back symbols.Bar = refl
symbol_back symbols.Underscore = refl

key_back : (k : Key) → get_or keys_by_code (key_code k) keys.Val ≡ k
unfolding keys_by_code
key_back keys.And = refl
key_back keys.Blob = refl
key_back keys.Bool = refl
key_back keys.Char = refl
key_back keys.Chunk = refl
key_back keys.Dev = refl
key_back keys.Else = refl
key_back keys.End = refl
key_back keys.Eval = refl
key_back keys.Exception = refl
key_back keys.False = refl
key_back keys.Foldl = refl
key_back keys.Foldr = refl
key_back keys.Fun = refl
key_back keys.Handle = refl
key_back keys.Host = refl
key_back keys.If = refl
key_back keys.In = refl
key_back keys.Int = refl
key_back keys.Let = refl
key_back keys.List = refl
key_back keys.Mod = refl
key_back keys.Not = refl
key_back keys.OnNeighbor = refl
key_back keys.OnRemote = refl
key_back keys.Or = refl
key_back keys.Raise = refl
key_back keys.Str = refl
key_back keys.Svc = refl
key_back keys.Then = refl
key_back keys.True = refl
key_back keys.Try = refl
key_back keys.Unit = refl
key_back keys.Val = refl

symbol_is : (w s : Symbol) → eqb (symbol_code s) (symbol_code w) ≡ true → s ≡ w
symbol_is w s e = sym (symbol_back s) ∙ ap (λ i. get_or symbols_by_code i symbols.Underscore) (eqb-true (symbol_code s) (symbol_code w) e) ∙ symbol_back w

key_is : (w k : Key) → eqb (key_code k) (key_code w) ≡ true → k ≡ w
key_is w k e = sym (key_back k) ∙ ap (λ i. get_or keys_by_code i keys.Val) (eqb-true (key_code k) (key_code w) e) ∙ key_back w

-- a symbol or a word that was looked for stands there
pub symbol_stands : (w : Symbol) (k : Option TokenKind) → is_symbol_kind w k ≡ true → k ≡ Some (kinds.Symbol w)
symbol_stands w (Some (kinds.Symbol s)) e = ap (λ t. Some (kinds.Symbol t)) (symbol_is w s e)
symbol_stands w _ e = cc

pub key_stands : (w : Key) (k : Option TokenKind) → is_key_kind w k ≡ true → k ≡ Some (kinds.Key w)
key_stands w (Some (kinds.Key k)) e = ap (λ t. Some (kinds.Key t)) (key_is w k e)
key_stands w _ e = cc

-- a star is no bracket, and a comma is none
pub star_is_no_bracket : {o : Option TokenKind} → o ≡ Some (kinds.Symbol symbols.Star) → o ≡ Some (kinds.Symbol symbols.ParenClose) → ⊥
star_is_no_bracket e k = cc

pub comma_is_no_bracket : {o : Option TokenKind} → o ≡ Some (kinds.Symbol symbols.Comma) → o ≡ Some (kinds.Symbol symbols.ParenClose) → ⊥
comma_is_no_bracket e k = cc

-- where there is room a construct may open
pub room_open : (r : ℕ) → (suc r == 0) ≡ false
room_open r = ne_eqb (suc r) 0 (λ e. omega (arith, e))
