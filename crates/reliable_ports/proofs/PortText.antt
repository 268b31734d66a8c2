-- The text of a port's program is that program: its tokens in a row, and that they are the program's.
use Rattle.std.proofs.Common.{◌≡◌, [], ◌∷◌, ◌++◌, Ok, refl, sym, ◌∙◌}
use Rattle.std.specs.Prelude.{pos, codes}
use Rattle.plan_lexer.specs.declared.token.Key.TheVariants as key
use Rattle.plan_lexer.specs.declared.token.Symbol.TheVariants as symbol
use Rattle.plan_lexer.specs.declared.token.TokenKind.TheVariants as kind
use Rattle.plan_lexer.specs.Scanning.{move_at, token_at, int_at, hash_at, signed_at}
use Rattle.plan_lexer.specs.Gaps.{gap_at}
use Rattle.plan_lexer.specs.Hexed.{blob_at}
use Rattle.plan_lexer.specs.Numerals.{number_at}
use Rattle.plan_lexer.specs.Tables.{key_text, key_of, symbol_text, symbol_at, single, symbol_of}
use Rattle.plan_lexer.specs.WordTokens.{word_kind, word_at}
use Rattle.program_text.specs.Scanned.{tokens_of}
use Rattle.program_text.specs.Texts.{program_of}
use Rattle.program_text_laws.specs.Lexes.{kinds_of}
use Rattle.program_text_laws.specs.PrintedTokens.{Kinds, svc_kinds, fun_kinds_by}
use Rattle.program_text_laws.specs.Written.{body_kinds, written_kinds}
use Rattle.program_text_laws.proofs.Found.{lexed, text_says}
use Rattle.program_text_laws.proofs.MadeKinds.{made_kinds}
use Rattle.reliable_ports.specs.Programs.{this_host_is, get_rb, deliver, data_fun, ack_fun, port_program}
use Rattle.reliable_ports.specs.Texts.{port_text}
use Rattle.reliable_ports.proofs.PortTyping.{port_built}

-- the service `thisHostIs`
abbrev this_host_is_words : Kinds
this_host_is_words =
    kind.Key key.Svc ∷ kind.Word (codes "thisHostIs") ∷ kind.Symbol symbol.Colon ∷ kind.Symbol symbol.ParenOpen ∷ kind.Key key.Host
    ∷ kind.Symbol symbol.ParenClose ∷ kind.Symbol symbol.Arrow ∷ kind.Key key.Bool ∷ []

-- the service `getRB`
abbrev get_rb_words : Kinds
get_rb_words =
    kind.Key key.Svc ∷ kind.Word (codes "getRB") ∷ kind.Symbol symbol.Colon ∷ kind.Symbol symbol.ParenOpen ∷ kind.Symbol symbol.ParenClose
    ∷ kind.Symbol symbol.Arrow ∷ kind.Key key.Int ∷ []

-- the service `deliver`
abbrev deliver_words : Kinds
deliver_words =
    kind.Key key.Svc ∷ kind.Word (codes "deliver") ∷ kind.Symbol symbol.Colon ∷ kind.Symbol symbol.ParenOpen ∷ kind.Key key.Int
    ∷ kind.Symbol symbol.Comma ∷ kind.Symbol symbol.ParenOpen ∷ kind.Key key.Int ∷ kind.Symbol symbol.Star ∷ kind.Key key.Blob
    ∷ kind.Symbol symbol.ParenClose ∷ kind.Symbol symbol.ParenClose ∷ kind.Symbol symbol.Arrow ∷ kind.Key key.Unit ∷ []

-- the function `data`
abbrev data_words : Kinds
data_words =
    kind.Key key.Fun ∷ kind.Word (codes "data") ∷ kind.Symbol symbol.ParenOpen ∷ kind.Word (codes "dest") ∷ kind.Symbol symbol.Colon
    ∷ kind.Key key.Host ∷ kind.Symbol symbol.Comma ∷ kind.Word (codes "seq") ∷ kind.Symbol symbol.Colon ∷ kind.Key key.Int ∷ kind.Symbol symbol.Comma
    ∷ kind.Word (codes "body") ∷ kind.Symbol symbol.Colon ∷ kind.Key key.Blob ∷ kind.Symbol symbol.ParenClose ∷ kind.Symbol symbol.Colon
    ∷ kind.Key key.Unit ∷ kind.Symbol symbol.Equal ∷ kind.Key key.If ∷ kind.Word (codes "thisHostIs") ∷ kind.Symbol symbol.ParenOpen
    ∷ kind.Word (codes "dest") ∷ kind.Symbol symbol.ParenClose ∷ kind.Key key.Then ∷ kind.Word (codes "deliver") ∷ kind.Symbol symbol.ParenOpen
    ∷ kind.Int (pos 1) ∷ kind.Symbol symbol.Comma ∷ kind.Symbol symbol.ParenOpen ∷ kind.Word (codes "seq") ∷ kind.Symbol symbol.Comma
    ∷ kind.Word (codes "body") ∷ kind.Symbol symbol.ParenClose ∷ kind.Symbol symbol.ParenClose ∷ kind.Key key.Else ∷ kind.Key key.OnRemote
    ∷ kind.Symbol symbol.ParenOpen ∷ kind.Symbol symbol.Bar ∷ kind.Word (codes "data") ∷ kind.Symbol symbol.Bar ∷ kind.Symbol symbol.ParenOpen
    ∷ kind.Word (codes "dest") ∷ kind.Symbol symbol.Comma ∷ kind.Word (codes "seq") ∷ kind.Symbol symbol.Comma ∷ kind.Word (codes "body")
    ∷ kind.Symbol symbol.ParenClose ∷ kind.Symbol symbol.Comma ∷ kind.Word (codes "dest") ∷ kind.Symbol symbol.Comma ∷ kind.Word (codes "getRB")
    ∷ kind.Symbol symbol.ParenOpen ∷ kind.Symbol symbol.ParenClose ∷ kind.Symbol symbol.Comma ∷ kind.Word (codes "defaultRoute")
    ∷ kind.Symbol symbol.ParenClose ∷ []

-- the function `ack`
abbrev ack_words : Kinds
ack_words =
    kind.Key key.Fun ∷ kind.Word (codes "ack") ∷ kind.Symbol symbol.ParenOpen ∷ kind.Word (codes "dest") ∷ kind.Symbol symbol.Colon
    ∷ kind.Key key.Host ∷ kind.Symbol symbol.Comma ∷ kind.Word (codes "next") ∷ kind.Symbol symbol.Colon ∷ kind.Key key.Int
    ∷ kind.Symbol symbol.ParenClose ∷ kind.Symbol symbol.Colon ∷ kind.Key key.Unit ∷ kind.Symbol symbol.Equal ∷ kind.Key key.If
    ∷ kind.Word (codes "thisHostIs") ∷ kind.Symbol symbol.ParenOpen ∷ kind.Word (codes "dest") ∷ kind.Symbol symbol.ParenClose ∷ kind.Key key.Then
    ∷ kind.Word (codes "deliver") ∷ kind.Symbol symbol.ParenOpen ∷ kind.Int (pos 2) ∷ kind.Symbol symbol.Comma ∷ kind.Symbol symbol.ParenOpen
    ∷ kind.Word (codes "next") ∷ kind.Symbol symbol.Comma ∷ kind.Blob [] ∷ kind.Symbol symbol.ParenClose ∷ kind.Symbol symbol.ParenClose
    ∷ kind.Key key.Else ∷ kind.Key key.OnRemote ∷ kind.Symbol symbol.ParenOpen ∷ kind.Symbol symbol.Bar ∷ kind.Word (codes "ack")
    ∷ kind.Symbol symbol.Bar ∷ kind.Symbol symbol.ParenOpen ∷ kind.Word (codes "dest") ∷ kind.Symbol symbol.Comma ∷ kind.Word (codes "next")
    ∷ kind.Symbol symbol.ParenClose ∷ kind.Symbol symbol.Comma ∷ kind.Word (codes "dest") ∷ kind.Symbol symbol.Comma ∷ kind.Word (codes "getRB")
    ∷ kind.Symbol symbol.ParenOpen ∷ kind.Symbol symbol.ParenClose ∷ kind.Symbol symbol.Comma ∷ kind.Word (codes "defaultRoute")
    ∷ kind.Symbol symbol.ParenClose ∷ []

-- ---- the tokens of the text

port_words : Kinds
port_words = this_host_is_words ++ (get_rb_words ++ (deliver_words ++ (data_words ++ ack_words)))

port_lexes : tokens_of port_text ≡ Ok (lexed (tokens_of port_text))
unfolding port_text tokens_of move_at gap_at token_at int_at number_at hash_at blob_at signed_at key_text key_of symbol_text symbol_at single symbol_of word_kind word_at
port_lexes = refl

port_lexed : kinds_of (lexed (tokens_of port_text)) ≡ port_words
unfolding port_words port_text tokens_of move_at gap_at token_at int_at number_at hash_at blob_at signed_at key_text key_of symbol_text symbol_at single symbol_of word_kind word_at
port_lexed = refl

-- ---- the tokens of the program

this_host_is_kinds : svc_kinds this_host_is ≡ this_host_is_words
this_host_is_kinds = simp made_kinds refl

get_rb_kinds : svc_kinds get_rb ≡ get_rb_words
get_rb_kinds = simp made_kinds refl

deliver_kinds : svc_kinds deliver ≡ deliver_words
deliver_kinds = simp made_kinds refl

data_kinds : fun_kinds_by body_kinds data_fun ≡ data_words
data_kinds = simp made_kinds refl

ack_kinds : fun_kinds_by body_kinds ack_fun ≡ ack_words
ack_kinds = simp made_kinds refl

port_kinds : written_kinds port_program ≡ port_words
unfolding port_words
port_kinds = λ i. ((this_host_is_kinds i ++ (get_rb_kinds i ++ (deliver_kinds i ++ []))) ++ []) ++ (data_kinds i ++ (ack_kinds i ++ []))

pub port_says : program_of port_text ≡ Ok port_program
port_says = text_says port_text port_program port_lexes (port_lexed ∙ sym port_kinds) port_built
