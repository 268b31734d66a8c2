-- Where an expression ends: with which tokens it may go on.
use Rattle.std.specs.Prelude.{◌≡◌, ◌≤◌, ℕ, false, Option, Some}
use Rattle.plan_lexer.specs.declared.token.TokenKind.{TokenKind}
use Rattle.plan_lexer.specs.declared.token.TokenKind.TheVariants as kinds
use Rattle.plan_lexer.specs.declared.token.Key.{Key}
use Rattle.plan_lexer.specs.declared.token.Key.TheVariants as keys
use Rattle.plan_lexer.specs.declared.token.Symbol.{Symbol}
use Rattle.plan_lexer.specs.declared.token.Symbol.TheVariants as symbols
use Rattle.plan_parser_exprs.specs.Ahead.{Front, next_kind, is_key}

-- how loosely a token joins what stands before it: 0 for the bracket of a call, 7 for `;`, 8 where it joins nothing
abbrev pub symbol_level : Symbol → ℕ
symbol_level symbols.ParenOpen = 0
symbol_level symbols.Star = 1
symbol_level symbols.Slash = 1
symbol_level symbols.Plus = 2
symbol_level symbols.Minus = 2
symbol_level symbols.Caret = 2
symbol_level symbols.DoubleColon = 3
symbol_level symbols.Equal = 4
symbol_level symbols.NotEqual = 4
symbol_level symbols.Less = 4
symbol_level symbols.LessEqual = 4
symbol_level symbols.Greater = 4
symbol_level symbols.GreaterEqual = 4
symbol_level symbols.Semicolon = 7
symbol_level _ = 8

abbrev pub key_level : Key → ℕ
key_level keys.Mod = 1
key_level keys.And = 5
key_level keys.Or = 6
key_level _ = 8

abbrev pub level : Option TokenKind → ℕ
level (Some (kinds.Symbol s)) = symbol_level s
level (Some (kinds.Key k)) = key_level k
level _ = 8

-- no expression goes on with the next token, and no type does
abbrev pub EndsExpr : Front → Type 0
EndsExpr f = 8 ≤ level (next_kind f)

abbrev pub EndsType : Front → Type 0
EndsType f = is_key keys.List f ≡ false
