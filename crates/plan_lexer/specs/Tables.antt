-- The spellings of reserved words and symbols.
use Rattle.std.specs.Prelude.{ℕ, ◌&&◌, ◌==◌, if◌then◌else◌, List, [], ◌∷◌, Option, Some, None, codes, nat_eq, find}
use Rattle.std.specs.Str.{bytes_eq}
use Rattle.std.specs.List.{starts_with}
use Rattle.plan_lexer.specs.declared.token.Key.{Key}
use Rattle.plan_lexer.specs.declared.token.Key.TheVariants as key
use Rattle.plan_lexer.specs.declared.token.Symbol.{Symbol}
use Rattle.plan_lexer.specs.declared.token.Symbol.TheVariants as symbol

-- the reserved word of a key
unfoldable pub key_text : Key → List ℕ
key_text key.And = codes "and"
key_text key.Blob = codes "blob"
key_text key.Bool = codes "bool"
key_text key.Char = codes "char"
key_text key.Chunk = codes "chunk"
key_text key.Dev = codes "dev"
key_text key.Else = codes "else"
key_text key.End = codes "end"
key_text key.Eval = codes "eval"
key_text key.Exception = codes "exception"
key_text key.False = codes "false"
key_text key.Foldl = codes "foldl"
key_text key.Foldr = codes "foldr"
key_text key.Fun = codes "fun"
key_text key.Handle = codes "handle"
key_text key.Host = codes "host"
key_text key.If = codes "if"
key_text key.In = codes "in"
key_text key.Int = codes "int"
key_text key.Let = codes "let"
key_text key.List = codes "list"
key_text key.Mod = codes "mod"
key_text key.Not = codes "not"
key_text key.OnNeighbor = codes "OnNeighbor"
key_text key.OnRemote = codes "OnRemote"
key_text key.Or = codes "or"
key_text key.Raise = codes "raise"
key_text key.Str = codes "string"
key_text key.Svc = codes "svc"
key_text key.Then = codes "then"
key_text key.True = codes "true"
key_text key.Try = codes "try"
key_text key.Unit = codes "unit"
key_text key.Val = codes "val"

-- every key
abbrev pub keys : List Key
keys = key.And ∷ key.Blob ∷ key.Bool ∷ key.Char ∷ key.Chunk ∷ key.Dev ∷ key.Else ∷ key.End ∷ key.Eval ∷ key.Exception ∷ key.False ∷
    key.Foldl ∷ key.Foldr ∷ key.Fun ∷ key.Handle ∷ key.Host ∷ key.If ∷ key.In ∷ key.Int ∷ key.Let ∷ key.List ∷ key.Mod ∷ key.Not ∷
    key.OnNeighbor ∷ key.OnRemote ∷ key.Or ∷ key.Raise ∷ key.Str ∷ key.Svc ∷ key.Then ∷ key.True ∷ key.Try ∷ key.Unit ∷ key.Val ∷ []

-- the key of a reserved word
unfoldable pub key_of : List ℕ → Option Key
key_of word = find (λ k. bytes_eq (key_text k) word) keys

-- the spelling of a symbol
unfoldable pub symbol_text : Symbol → List ℕ
symbol_text symbol.ParenOpen = codes "("
symbol_text symbol.ParenClose = codes ")"
symbol_text symbol.BracketOpen = codes "["
symbol_text symbol.BracketClose = codes "]"
symbol_text symbol.Comma = codes ","
symbol_text symbol.Semicolon = codes ";"
symbol_text symbol.Colon = codes ":"
symbol_text symbol.DoubleColon = codes "::"
symbol_text symbol.Equal = codes "="
symbol_text symbol.NotEqual = codes "<>"
symbol_text symbol.Less = codes "<"
symbol_text symbol.LessEqual = codes "<="
symbol_text symbol.Greater = codes ">"
symbol_text symbol.GreaterEqual = codes ">="
symbol_text symbol.Plus = codes "+"
symbol_text symbol.Minus = codes "-"
symbol_text symbol.Star = codes "*"
symbol_text symbol.Slash = codes "/"
symbol_text symbol.Caret = codes "^"
symbol_text symbol.Arrow = codes "->"
symbol_text symbol.FatArrow = codes "=>"
symbol_text symbol.Bar = codes "|"
symbol_text symbol.Underscore = codes "_"

-- every symbol, those of two bytes first
abbrev pub symbols : List Symbol
symbols = symbol.DoubleColon ∷ symbol.NotEqual ∷ symbol.LessEqual ∷ symbol.GreaterEqual ∷ symbol.Arrow ∷ symbol.FatArrow ∷ symbol.ParenOpen
    ∷ symbol.ParenClose ∷ symbol.BracketOpen ∷ symbol.BracketClose ∷ symbol.Comma ∷ symbol.Semicolon ∷ symbol.Colon ∷ symbol.Equal ∷
    symbol.Less ∷ symbol.Greater ∷ symbol.Plus ∷ symbol.Minus ∷ symbol.Star ∷ symbol.Slash ∷ symbol.Caret ∷ symbol.Bar ∷
    symbol.Underscore ∷ []

-- the longest symbol that a text begins with
unfoldable pub symbol_at : List ℕ → Option Symbol
symbol_at text = find (λ s. starts_with nat_eq text (symbol_text s)) symbols

-- the symbol of one byte
unfoldable pub single : ℕ → Option Symbol
single a =
    if a == 40 then Some symbol.ParenOpen else
    (if a == 41 then Some symbol.ParenClose else
    (if a == 91 then Some symbol.BracketOpen else
    (if a == 93 then Some symbol.BracketClose else
    (if a == 44 then Some symbol.Comma else
    (if a == 59 then Some symbol.Semicolon else
    (if a == 58 then Some symbol.Colon else
    (if a == 61 then Some symbol.Equal else
    (if a == 60 then Some symbol.Less else
    (if a == 62 then Some symbol.Greater else
    (if a == 43 then Some symbol.Plus else
    (if a == 45 then Some symbol.Minus else
    (if a == 42 then Some symbol.Star else
    (if a == 47 then Some symbol.Slash else
    (if a == 94 then Some symbol.Caret else
    (if a == 124 then Some symbol.Bar else
    (if a == 95 then Some symbol.Underscore else None))))))))))))))))

-- the symbol that two bytes are or begin with, those of both first
unfoldable pub symbol_of : ℕ → ℕ → Option Symbol
symbol_of a b =
    if (a == 58) && (b == 58) then Some symbol.DoubleColon else
    (if (a == 60) && (b == 62) then Some symbol.NotEqual else
    (if (a == 60) && (b == 61) then Some symbol.LessEqual else
    (if (a == 62) && (b == 61) then Some symbol.GreaterEqual else
    (if (a == 45) && (b == 62) then Some symbol.Arrow else
    (if (a == 61) && (b == 62) then Some symbol.FatArrow else single a)))))
