-- The text of a ping's program is that program: its tokens in a row, and that they are the program's.
use Rattle.std.proofs.Common.{◌≡◌, [], ◌∷◌, ◌++◌, Ok, refl, sym, ◌∙◌}
use Rattle.std.specs.Prelude.{codes}
use lib.Utf8.{encode}
use Rattle.plan_lexer.specs.declared.token.Key.TheVariants as key
use Rattle.plan_lexer.specs.declared.token.Symbol.TheVariants as symbol
use Rattle.plan_lexer.specs.declared.token.TokenKind.TheVariants as kind
use Rattle.plan_lexer.specs.Scanning.{move_at, token_at, signed_at}
use Rattle.plan_lexer.specs.CharItems.{escape_at, code_at, item_at}
use Rattle.plan_lexer.specs.Gaps.{gap_at}
use Rattle.plan_lexer.specs.Quoted.{string_at}
use Rattle.plan_lexer.specs.Tables.{key_text, key_of, symbol_text, symbol_at, single, symbol_of}
use Rattle.plan_lexer.specs.WordTokens.{word_kind, word_at}
use Rattle.program_text.specs.Scanned.{tokens_of}
use Rattle.program_text.specs.Texts.{program_of}
use Rattle.program_text_laws.specs.Lexes.{kinds_of}
use Rattle.program_text_laws.specs.PrintedTokens.{Kinds, svc_kinds, fun_kinds_by}
use Rattle.program_text_laws.specs.Written.{body_kinds, written_kinds}
use Rattle.program_text_laws.proofs.Found.{lexed, text_says}
use Rattle.program_text_laws.proofs.MadeKinds.{made_kinds}
use Rattle.grow_run.specs.Pings.{ping_text}
use Rattle.grow_run.specs.Programs.{this_host_is, get_rb, print, ack_fun, ping_fun, ping_program}
use Rattle.grow_run.proofs.PingTyping.{ping_built}

-- the service `thisHostIs`
abbrev this_host_is_words : Kinds
this_host_is_words =
    kind.Key key.Svc ∷ kind.Word (codes "thisHostIs") ∷ kind.Symbol symbol.Colon ∷ kind.Symbol symbol.ParenOpen ∷ kind.Key key.Host
    ∷ kind.Symbol symbol.ParenClose ∷ kind.Symbol symbol.Arrow ∷ kind.Key key.Bool ∷ []

-- the service `getRB`
abbrev get_rb_words : Kinds
get_rb_words =
    kind.Key key.Svc ∷ kind.Word (codes "getRB") ∷ kind.Symbol symbol.Colon ∷ kind.Symbol symbol.ParenOpen ∷ kind.Symbol symbol.ParenClose
    ∷ kind.Symbol symbol.Arrow ∷ kind.Key key.Int ∷ []

-- the service `print`
abbrev print_words : Kinds
print_words =
    kind.Key key.Svc ∷ kind.Word (codes "print") ∷ kind.Symbol symbol.Colon ∷ kind.Symbol symbol.ParenOpen ∷ kind.Key key.Str
    ∷ kind.Symbol symbol.ParenClose ∷ kind.Symbol symbol.Arrow ∷ kind.Key key.Unit ∷ []

-- the function `ack`
abbrev ack_words : Kinds
ack_words =
    kind.Key key.Fun ∷ kind.Word (codes "ack") ∷ kind.Symbol symbol.ParenOpen ∷ kind.Symbol symbol.ParenClose ∷ kind.Symbol symbol.Colon
    ∷ kind.Key key.Unit ∷ kind.Symbol symbol.Equal ∷ kind.Word (codes "print") ∷ kind.Symbol symbol.ParenOpen ∷ kind.Str (codes "Success")
    ∷ kind.Symbol symbol.ParenClose ∷ []

-- the function `ping`
abbrev ping_words : Kinds
ping_words =
    kind.Key key.Fun ∷ kind.Word (codes "ping") ∷ kind.Symbol symbol.ParenOpen ∷ kind.Word (codes "src") ∷ kind.Symbol symbol.Colon
    ∷ kind.Key key.Host ∷ kind.Symbol symbol.Comma ∷ kind.Word (codes "dest") ∷ kind.Symbol symbol.Colon ∷ kind.Key key.Host
    ∷ kind.Symbol symbol.ParenClose ∷ kind.Symbol symbol.Colon ∷ kind.Key key.Unit ∷ kind.Symbol symbol.Equal ∷ kind.Key key.If ∷ kind.Key key.Not
    ∷ kind.Word (codes "thisHostIs") ∷ kind.Symbol symbol.ParenOpen ∷ kind.Word (codes "dest") ∷ kind.Symbol symbol.ParenClose ∷ kind.Key key.Then
    ∷ kind.Key key.OnRemote ∷ kind.Symbol symbol.ParenOpen ∷ kind.Symbol symbol.Bar ∷ kind.Word (codes "ping") ∷ kind.Symbol symbol.Bar
    ∷ kind.Symbol symbol.ParenOpen ∷ kind.Word (codes "src") ∷ kind.Symbol symbol.Comma ∷ kind.Word (codes "dest") ∷ kind.Symbol symbol.ParenClose
    ∷ kind.Symbol symbol.Comma ∷ kind.Word (codes "dest") ∷ kind.Symbol symbol.Comma ∷ kind.Word (codes "getRB") ∷ kind.Symbol symbol.ParenOpen
    ∷ kind.Symbol symbol.ParenClose ∷ kind.Symbol symbol.Comma ∷ kind.Word (codes "defaultRoute") ∷ kind.Symbol symbol.ParenClose ∷ kind.Key key.Else
    ∷ kind.Key key.OnRemote ∷ kind.Symbol symbol.ParenOpen ∷ kind.Symbol symbol.Bar ∷ kind.Word (codes "ack") ∷ kind.Symbol symbol.Bar
    ∷ kind.Symbol symbol.ParenOpen ∷ kind.Symbol symbol.ParenClose ∷ kind.Symbol symbol.Comma ∷ kind.Word (codes "src") ∷ kind.Symbol symbol.Comma
    ∷ kind.Word (codes "getRB") ∷ kind.Symbol symbol.ParenOpen ∷ kind.Symbol symbol.ParenClose ∷ kind.Symbol symbol.Comma
    ∷ kind.Word (codes "defaultRoute") ∷ kind.Symbol symbol.ParenClose ∷ []

-- ---- the tokens of the text

text_words : Kinds
text_words = this_host_is_words ++ (get_rb_words ++ (print_words ++ (ack_words ++ ping_words)))

text_lexes : tokens_of ping_text ≡ Ok (lexed (tokens_of ping_text))
unfolding ping_text tokens_of move_at gap_at token_at string_at item_at code_at escape_at encode signed_at key_text key_of symbol_text symbol_at single symbol_of word_kind word_at
text_lexes = refl

text_lexed : kinds_of (lexed (tokens_of ping_text)) ≡ text_words
unfolding text_words ping_text tokens_of move_at gap_at token_at string_at item_at code_at escape_at encode signed_at key_text key_of symbol_text symbol_at single symbol_of word_kind word_at
text_lexed = refl

-- ---- the tokens of the program

this_host_is_kinds : svc_kinds this_host_is ≡ this_host_is_words
this_host_is_kinds = simp made_kinds refl

get_rb_kinds : svc_kinds get_rb ≡ get_rb_words
get_rb_kinds = simp made_kinds refl

print_kinds : svc_kinds print ≡ print_words
print_kinds = simp made_kinds refl

ack_kinds : fun_kinds_by body_kinds ack_fun ≡ ack_words
ack_kinds = simp made_kinds refl

ping_kinds : fun_kinds_by body_kinds ping_fun ≡ ping_words
ping_kinds = simp made_kinds refl

program_words : written_kinds ping_program ≡ text_words
unfolding text_words
program_words = λ i. ((this_host_is_kinds i ++ (get_rb_kinds i ++ (print_kinds i ++ []))) ++ []) ++ (ack_kinds i ++ (ping_kinds i ++ []))

pub ping_says : program_of ping_text ≡ Ok ping_program
ping_says = text_says ping_text ping_program text_lexes (text_lexed ∙ sym program_words) ping_built
