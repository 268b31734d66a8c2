-- What an operand begins with, and how it is read from there.
use Rattle.std.specs.Prelude.{ℕ, Option, Some}
use Rattle.plan_lexer.specs.declared.token.TokenKind.{TokenKind}
use Rattle.plan_lexer.specs.declared.token.TokenKind.TheVariants as kinds
use Rattle.plan_lexer.specs.declared.token.Key.{Key}
use Rattle.plan_lexer.specs.declared.token.Key.TheVariants as keys
use Rattle.plan_lexer.specs.declared.token.Symbol.{Symbol}
use Rattle.plan_lexer.specs.declared.token.Symbol.TheVariants as symbols
use Rattle.plan_parser_exprs.specs.declared.start.Start.{Start}
use Rattle.plan_parser_exprs.specs.declared.start.Start.TheVariants as starts
use Rattle.plan_parser_exprs.specs.declared.level.Level.{Level}
use Rattle.plan_parser_exprs.specs.declared.node.Node.{Node}
use Rattle.plan_parser_exprs.specs.Ahead.{Reader, next_kind}
use Rattle.plan_parser_exprs.specs.Exprs.{literal, literal_from, name_operand, let_form, try_form, raise_form, foldl_form, foldr_form}
use Rattle.plan_parser_exprs.specs.Exprs.{eval_form, remote_form, neighbor_form, parens, brackets, chunk, picked_part}

-- what a reserved word begins
abbrev pub key_start : Key → Start
key_start keys.Let = starts.Let
key_start keys.Try = starts.Try
key_start keys.Raise = starts.Raise
key_start keys.Foldl = starts.Foldl
key_start keys.Foldr = starts.Foldr
key_start keys.Eval = starts.Eval
key_start keys.OnRemote = starts.OnRemote
key_start keys.OnNeighbor = starts.OnNeighbor
key_start _ = starts.Literal

-- what a symbol begins
abbrev pub symbol_start : Symbol → Start
symbol_start symbols.ParenOpen = starts.Paren
symbol_start symbols.BracketOpen = starts.Bracket
symbol_start symbols.Bar = starts.Bar
symbol_start _ = starts.Literal

-- what a token begins
abbrev pub start_of : Option TokenKind → Start
start_of (Some (kinds.Word _)) = starts.AName
start_of (Some (kinds.Key k)) = key_start k
start_of (Some (kinds.Symbol s)) = symbol_start s
start_of (Some (kinds.Part i)) = starts.Part i
start_of _ = starts.Literal

-- an operand that begins so
abbrev pub start_at : (Level → Reader Node) → ℕ → Start → Reader Node
start_at inner room starts.AName f = name_operand inner room f
start_at inner room starts.Let f = let_form inner room f
start_at inner room starts.Try f = try_form inner room f
start_at inner room starts.Raise f = raise_form inner room f
start_at inner room starts.Foldl f = foldl_form inner room f
start_at inner room starts.Foldr f = foldr_form inner room f
start_at inner room starts.Eval f = eval_form inner room f
start_at inner room starts.OnRemote f = remote_form inner room f
start_at inner room starts.OnNeighbor f = neighbor_form inner room f
start_at inner room starts.Paren f = parens inner room f
start_at inner room starts.Bracket f = brackets inner room f
start_at inner room starts.Bar f = chunk inner room f
start_at inner room (starts.Part i) f = picked_part inner room i f
start_at inner room starts.Literal f = literal_from f (literal (next_kind f))
