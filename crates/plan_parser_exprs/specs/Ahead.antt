-- Looking at the next token, and taking it.
use Rattle.std.specs.Prelude.{◌≡◌, ◌≢◌, ℕ, Bool, true, false, List, [], ◌∷◌, drop, Option, Some, None, Result, Ok, Err, ◌==◌, if◌then◌else◌}
use Rattle.plan_lexer.specs.declared.token.Token.{Token}
use Rattle.plan_lexer.specs.declared.token.TokenKind.{TokenKind}
use Rattle.plan_lexer.specs.declared.token.TokenKind.TheVariants as kinds
use Rattle.plan_lexer.specs.declared.token.Key.{Key}
use Rattle.plan_lexer.specs.declared.token.Symbol.{Symbol}
use Rattle.plan_parser_exprs.specs.declared.fault.ParseFault.{ParseFault}
use Rattle.plan_parser_exprs.specs.declared.fault.ParseFault.TheVariants.{Expected, NoMemory}
use Rattle.plan_parser_exprs.specs.declared.fault.Wanted.{Wanted}
use Rattle.plan_parser_exprs.specs.declared.fault.Wanted.TheVariants as wanted
use Rattle.plan_parser_exprs.specs.Codes.{key_code, symbol_code}

-- the tokens that are left, and the length of the text, at which the end stands
pub record Front : Type 0 where
  pub tokens : List Token
  pub end : ℕ

-- a reading gives a value and what is left behind it, or the first refusal
abbrev pub Reader : Type 0 → Type 0
Reader A = Front → Result (A × Front) ParseFault

infixl 10 ◌>>=◌
abbrev pub ◌>>=◌ : {X Y : Type 0} → Result X ParseFault → (X → Result Y ParseFault) → Result Y ParseFault
(Ok x) >>= f = f x
(Err e) >>= f = Err e

-- what a call answered is what the reading gives, unless memory ran out
abbrev pub Gives : {A : Type 0} → Result (A × Front) ParseFault → Result A ParseFault → Front → Type 0
Gives want (Ok a) new = want ≡ Ok (a, new)
Gives want (Err e) new = e ≢ NoMemory → want ≡ Err e

-- the same of a judgement that takes no token
abbrev pub Answers : {A : Type 0} → Result A ParseFault → Result A ParseFault → Type 0
Answers want (Ok a) = want ≡ Ok a
Answers want (Err e) = e ≢ NoMemory → want ≡ Err e

-- the place of the next token, or of the end
abbrev pub place_in : ℕ → List Token → ℕ
place_in end [] = end
place_in end (t ∷ ts) = t.start

unfoldable pub place : Front → ℕ
place f = place_in f.end f.tokens

-- what is left behind the next token
unfoldable pub behind : Front → Front
behind f = record f { tokens = drop 1 f.tokens }

-- the next token's kind
abbrev pub kind_in : List Token → Option TokenKind
kind_in [] = None
kind_in (t ∷ ts) = Some t.kind

unfoldable pub next_kind : Front → Option TokenKind
next_kind f = kind_in f.tokens

-- the next token's kind is that symbol
abbrev pub is_symbol_kind : Symbol → Option TokenKind → Bool
is_symbol_kind w (Some (kinds.Symbol s)) = symbol_code s == symbol_code w
is_symbol_kind w _ = false

unfoldable pub is_symbol : Symbol → Front → Bool
is_symbol w f = is_symbol_kind w (next_kind f)

-- the next token's kind is that reserved word
abbrev pub is_key_kind : Key → Option TokenKind → Bool
is_key_kind w (Some (kinds.Key k)) = key_code k == key_code w
is_key_kind w _ = false

unfoldable pub is_key : Key → Front → Bool
is_key w f = is_key_kind w (next_kind f)

-- a symbol that must stand here
unfoldable pub need_symbol : Symbol → Reader (Unit {0})
need_symbol w f = if is_symbol w f then Ok (tt, behind f) else Err (Expected (wanted.Symbol w) (place f))

-- a reserved word that must stand here
unfoldable pub need_key : Key → Reader (Unit {0})
need_key w f = if is_key w f then Ok (tt, behind f) else Err (Expected (wanted.Key w) (place f))

-- a name that must stand here
abbrev pub name_kind : Front → Option TokenKind → Result (List ℕ × Front) ParseFault
name_kind f (Some (kinds.Word n)) = Ok (n, behind f)
name_kind f _ = Err (Expected wanted.AName (place f))

unfoldable pub name_at : Reader (List ℕ)
name_at f = name_kind f (next_kind f)

-- the next token is a name
abbrev pub is_word : Option TokenKind → Bool
is_word (Some (kinds.Word _)) = true
is_word _ = false
