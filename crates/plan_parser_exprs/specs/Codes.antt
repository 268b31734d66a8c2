-- A number for each reserved word and each symbol, so that two of them can be compared.
use Rattle.std.specs.Prelude.{ℕ}
use Rattle.plan_lexer.specs.declared.token.Key.{Key}
use Rattle.plan_lexer.specs.declared.token.Key.TheVariants as keys
use Rattle.plan_lexer.specs.declared.token.Symbol.{Symbol}
use Rattle.plan_lexer.specs.declared.token.Symbol.TheVariants as symbols

-- the number of a reserved word
abbrev pub key_code : Key → ℕ
key_code keys.And = 0
key_code keys.Blob = 1
key_code keys.Bool = 2
key_code keys.Char = 3
key_code keys.Chunk = 4
key_code keys.Dev = 5
key_code keys.Else = 6
key_code keys.End = 7
key_code keys.Eval = 8
key_code keys.Exception = 9
key_code keys.False = 10
key_code keys.Foldl = 11
key_code keys.Foldr = 12
key_code keys.Fun = 13
key_code keys.Handle = 14
key_code keys.Host = 15
key_code keys.If = 16
key_code keys.In = 17
key_code keys.Int = 18
key_code keys.Let = 19
key_code keys.List = 20
key_code keys.Mod = 21
key_code keys.Not = 22
key_code keys.OnNeighbor = 23
key_code keys.OnRemote = 24
key_code keys.Or = 25
key_code keys.Raise = 26
key_code keys.Str = 27
key_code keys.Svc = 28
key_code keys.Then = 29
key_code keys.True = 30
key_code keys.Try = 31
key_code keys.Unit = 32
key_code keys.Val = 33

-- the number of a symbol
abbrev pub symbol_code : Symbol → ℕ
symbol_code symbols.ParenOpen = 0
symbol_code symbols.ParenClose = 1
symbol_code symbols.BracketOpen = 2
symbol_code symbols.BracketClose = 3
symbol_code symbols.Comma = 4
symbol_code symbols.Semicolon = 5
symbol_code symbols.Colon = 6
symbol_code symbols.DoubleColon = 7
symbol_code symbols.Equal = 8
symbol_code symbols.NotEqual = 9
symbol_code symbols.Less = 10
symbol_code symbols.LessEqual = 11
symbol_code symbols.Greater = 12
symbol_code symbols.GreaterEqual = 13
symbol_code symbols.Plus = 14
symbol_code symbols.Minus = 15
symbol_code symbols.Star = 16
symbol_code symbols.Slash = 17
symbol_code symbols.Caret = 18
symbol_code symbols.Arrow = 19
symbol_code symbols.FatArrow = 20
symbol_code symbols.Bar = 21
symbol_code symbols.Underscore = 22
