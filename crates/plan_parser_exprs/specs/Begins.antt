-- Which tokens may begin a type or an expression.
use Rattle.std.specs.Prelude.{◌||◌, Bool, true, false, Option, Some, None, is_some}
use Rattle.plan_base.specs.declared.tree.Ty.{Ty}
use Rattle.plan_base.specs.declared.tree.Ty.TheVariants as ty
use Rattle.plan_lexer.specs.declared.token.TokenKind.{TokenKind}
use Rattle.plan_lexer.specs.declared.token.TokenKind.TheVariants as kinds
use Rattle.plan_lexer.specs.declared.token.Key.{Key}
use Rattle.plan_lexer.specs.declared.token.Key.TheVariants as keys
use Rattle.plan_lexer.specs.declared.token.Symbol.{Symbol}
use Rattle.plan_lexer.specs.declared.token.Symbol.TheVariants as symbols
use Rattle.plan_parser_exprs.specs.Ahead.{Front, next_kind, is_word, is_symbol, is_key}

-- the type that a reserved word names by itself
abbrev pub simple_type : Key → Option Ty
simple_type keys.Unit = Some ty.Unit
simple_type keys.Bool = Some ty.Bool
simple_type keys.Int = Some ty.Int
simple_type keys.Char = Some ty.Char
simple_type keys.Str = Some ty.Str
simple_type keys.Blob = Some ty.Blob
simple_type keys.Host = Some ty.Host
simple_type keys.Dev = Some ty.Dev
simple_type keys.Chunk = Some ty.Chunk
simple_type _ = None

-- the type that a token names by itself
abbrev pub kind_type : Option TokenKind → Option Ty
kind_type (Some (kinds.Key k)) = simple_type k
kind_type _ = None

-- a reserved word for a type, or an opening bracket
unfoldable pub begins_type : Front → Bool
begins_type f = is_some (kind_type (next_kind f)) || is_symbol symbols.ParenOpen f

-- the reserved words that begin an operand
abbrev pub key_begins : Key → Bool
key_begins keys.True = true
key_begins keys.False = true
key_begins keys.Let = true
key_begins keys.Try = true
key_begins keys.Raise = true
key_begins keys.Foldl = true
key_begins keys.Foldr = true
key_begins keys.Eval = true
key_begins keys.OnRemote = true
key_begins keys.OnNeighbor = true
key_begins _ = false

-- the symbols that begin an operand
abbrev pub symbol_begins : Symbol → Bool
symbol_begins symbols.ParenOpen = true
symbol_begins symbols.BracketOpen = true
symbol_begins symbols.Bar = true
symbol_begins _ = false

-- the tokens that begin an operand
abbrev pub kind_begins : Option TokenKind → Bool
kind_begins (Some (kinds.Word _)) = true
kind_begins (Some (kinds.Key k)) = key_begins k
kind_begins (Some (kinds.Symbol s)) = symbol_begins s
kind_begins (Some _) = true
kind_begins None = false

-- the next token may begin an operand
unfoldable pub begins_operand : Front → Bool
begins_operand f = kind_begins (next_kind f)

-- the next token may begin what `not` may stand before
unfoldable pub begins_negated : Front → Bool
begins_negated f = is_key keys.Not f || begins_operand f

-- the next token may begin an expression
unfoldable pub begins_expr : Front → Bool
begins_expr f = is_key keys.If f || begins_negated f

-- a name may begin
unfoldable pub begins_name : Front → Bool
begins_name f = is_word (next_kind f)
