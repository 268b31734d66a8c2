-- The text of a part's program is that program: its tokens in a row, and that they are the program's.
use Rattle.std.proofs.Common.{◌≡◌, [], ◌∷◌, ◌++◌, Ok, refl, sym, ◌∙◌}
use Rattle.std.specs.Prelude.{codes}
use Rattle.plan_lexer.specs.declared.token.Key.TheVariants as key
use Rattle.plan_lexer.specs.declared.token.Symbol.TheVariants as symbol
use Rattle.plan_lexer.specs.declared.token.TokenKind.TheVariants as kind
use Rattle.plan_lexer.specs.Scanning.{move_at, token_at, signed_at}
use Rattle.plan_lexer.specs.Gaps.{gap_at}
use Rattle.plan_lexer.specs.Tables.{key_text, key_of, symbol_text, symbol_at, single, symbol_of}
use Rattle.plan_lexer.specs.WordTokens.{word_kind, word_at}
use Rattle.program_text.specs.Scanned.{tokens_of}
use Rattle.program_text.specs.Texts.{program_of}
use Rattle.program_text_laws.specs.Lexes.{kinds_of}
use Rattle.program_text_laws.specs.PrintedTokens.{Kinds, svc_kinds, fun_kinds_by}
use Rattle.program_text_laws.specs.Written.{body_kinds, written_kinds}
use Rattle.program_text_laws.proofs.Found.{lexed, text_says}
use Rattle.program_text_laws.proofs.MadeKinds.{made_kinds}
use Rattle.frag_chunks.specs.Parts.{part_text}
use Rattle.frag_chunks.specs.Programs.{this_host_is, get_rb, deliver, part_fun, part_program}
use Rattle.frag_chunks.proofs.PartTyping.{part_built}

-- the service `thisHostIs`
abbrev this_host_is_words : Kinds
this_host_is_words =
    kind.Key key.Svc ∷ kind.Word (codes "thisHostIs") ∷ kind.Symbol symbol.Colon ∷ kind.Symbol symbol.ParenOpen ∷ kind.Key key.Host
    ∷ kind.Symbol symbol.ParenClose ∷ kind.Symbol symbol.Arrow ∷ kind.Key key.Bool ∷ []

-- the service `getRB`
abbrev get_rb_words : Kinds
get_rb_words =
    kind.Key key.Svc ∷ kind.Word (codes "getRB") ∷ kind.Symbol symbol.Colon ∷ kind.Symbol symbol.ParenOpen ∷ kind.Symbol symbol.ParenClose
    ∷ kind.Symbol symbol.Arrow ∷ kind.Key key.Int ∷ []

-- the service `deliver`
abbrev deliver_words : Kinds
deliver_words =
    kind.Key key.Svc ∷ kind.Word (codes "deliver") ∷ kind.Symbol symbol.Colon ∷ kind.Symbol symbol.ParenOpen ∷ kind.Key key.Int
    ∷ kind.Symbol symbol.Comma ∷ kind.Symbol symbol.ParenOpen ∷ kind.Key key.Int ∷ kind.Symbol symbol.Star ∷ kind.Key key.Int
    ∷ kind.Symbol symbol.Star ∷ kind.Key key.Int ∷ kind.Symbol symbol.Star ∷ kind.Key key.Blob ∷ kind.Symbol symbol.ParenClose
    ∷ kind.Symbol symbol.ParenClose ∷ kind.Symbol symbol.Arrow ∷ kind.Key key.Unit ∷ []

-- the parameters of the function `part`
abbrev head_words : Kinds
head_words =
    kind.Key key.Fun ∷ kind.Word (codes "part") ∷ kind.Symbol symbol.ParenOpen ∷ kind.Word (codes "dest") ∷ kind.Symbol symbol.Colon
    ∷ kind.Key key.Host ∷ kind.Symbol symbol.Comma ∷ kind.Word (codes "port") ∷ kind.Symbol symbol.Colon ∷ kind.Key key.Int ∷ kind.Symbol symbol.Comma
    ∷ kind.Word (codes "key") ∷ kind.Symbol symbol.Colon ∷ kind.Key key.Int ∷ kind.Symbol symbol.Comma ∷ kind.Word (codes "index")
    ∷ kind.Symbol symbol.Colon ∷ kind.Key key.Int ∷ kind.Symbol symbol.Comma ∷ kind.Word (codes "count") ∷ kind.Symbol symbol.Colon
    ∷ kind.Key key.Int ∷ kind.Symbol symbol.Comma ∷ kind.Word (codes "data") ∷ kind.Symbol symbol.Colon ∷ kind.Key key.Blob
    ∷ kind.Symbol symbol.ParenClose ∷ kind.Symbol symbol.Colon ∷ kind.Key key.Unit ∷ kind.Symbol symbol.Equal ∷ []

-- its body
abbrev body_words : Kinds
body_words =
    kind.Key key.If ∷ kind.Word (codes "thisHostIs") ∷ kind.Symbol symbol.ParenOpen ∷ kind.Word (codes "dest") ∷ kind.Symbol symbol.ParenClose
    ∷ kind.Key key.Then ∷ kind.Word (codes "deliver") ∷ kind.Symbol symbol.ParenOpen ∷ kind.Word (codes "port") ∷ kind.Symbol symbol.Comma
    ∷ kind.Symbol symbol.ParenOpen ∷ kind.Word (codes "key") ∷ kind.Symbol symbol.Comma ∷ kind.Word (codes "index") ∷ kind.Symbol symbol.Comma
    ∷ kind.Word (codes "count") ∷ kind.Symbol symbol.Comma ∷ kind.Word (codes "data") ∷ kind.Symbol symbol.ParenClose ∷ kind.Symbol symbol.ParenClose
    ∷ kind.Key key.Else ∷ kind.Key key.OnRemote ∷ kind.Symbol symbol.ParenOpen ∷ kind.Symbol symbol.Bar ∷ kind.Word (codes "part")
    ∷ kind.Symbol symbol.Bar ∷ kind.Symbol symbol.ParenOpen ∷ kind.Word (codes "dest") ∷ kind.Symbol symbol.Comma ∷ kind.Word (codes "port")
    ∷ kind.Symbol symbol.Comma ∷ kind.Word (codes "key") ∷ kind.Symbol symbol.Comma ∷ kind.Word (codes "index") ∷ kind.Symbol symbol.Comma
    ∷ kind.Word (codes "count") ∷ kind.Symbol symbol.Comma ∷ kind.Word (codes "data") ∷ kind.Symbol symbol.ParenClose ∷ kind.Symbol symbol.Comma
    ∷ kind.Word (codes "dest") ∷ kind.Symbol symbol.Comma ∷ kind.Word (codes "getRB") ∷ kind.Symbol symbol.ParenOpen ∷ kind.Symbol symbol.ParenClose
    ∷ kind.Symbol symbol.Comma ∷ kind.Word (codes "defaultRoute") ∷ kind.Symbol symbol.ParenClose ∷ []

-- ---- the tokens of the text

text_words : Kinds
text_words = this_host_is_words ++ (get_rb_words ++ (deliver_words ++ (head_words ++ body_words)))

text_lexes : tokens_of part_text ≡ Ok (lexed (tokens_of part_text))
unfolding part_text tokens_of move_at gap_at token_at signed_at key_text key_of symbol_text symbol_at single symbol_of word_kind word_at
text_lexes = refl

text_lexed : kinds_of (lexed (tokens_of part_text)) ≡ text_words
unfolding text_words part_text tokens_of move_at gap_at token_at signed_at key_text key_of symbol_text symbol_at single symbol_of word_kind word_at
text_lexed = refl

-- ---- the tokens of the program

this_host_is_kinds : svc_kinds this_host_is ≡ this_host_is_words
this_host_is_kinds = simp made_kinds refl

get_rb_kinds : svc_kinds get_rb ≡ get_rb_words
get_rb_kinds = simp made_kinds refl

deliver_kinds : svc_kinds deliver ≡ deliver_words
deliver_kinds = simp made_kinds refl

part_kinds : fun_kinds_by body_kinds part_fun ≡ head_words ++ body_words
part_kinds = simp made_kinds refl

program_words : written_kinds part_program ≡ text_words
unfolding text_words
program_words = λ i. ((this_host_is_kinds i ++ (get_rb_kinds i ++ (deliver_kinds i ++ []))) ++ []) ++ (part_kinds i ++ [])

pub part_says : program_of part_text ≡ Ok part_program
part_says = text_says part_text part_program text_lexes (text_lexed ∙ sym program_words) part_built
