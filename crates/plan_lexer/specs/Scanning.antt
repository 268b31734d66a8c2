-- The tokens of a text, from the left.
use Rattle.std.specs.Prelude.{◌≡◌, ℕ, ◌+◌, ◌-◌, ◌<◌, List, [], ◌∷◌, ◌++◌, length, get_or, drop, Option, Some, None, Result, Ok, Err, pos}
use Rattle.std.specs.Prelude.{neg_ℤ, nat_lt, ◌==◌, ◌⊎◌, if◌then◌else◌}
use Rattle.std.specs.Char.{is_ascii_digit, is_ascii_alphabetic}
use Rattle.plan_lexer.specs.Faults.{◌>>=◌}
use Rattle.plan_lexer.specs.Numerals.{number_at, number_behind}
use Rattle.plan_lexer.specs.Quoted.{string_at, char_at}
use Rattle.plan_lexer.specs.Hexed.{blob_at}
use Rattle.plan_lexer.specs.Gaps.{gap_at}
use Rattle.plan_lexer.specs.Tables.{symbol_at, symbol_text}
use Rattle.plan_lexer.specs.WordTokens.{word_at}
use Rattle.plan_lexer.specs.declared.token.Symbol.{Symbol}
use Rattle.plan_lexer.specs.declared.token.Token.{Token}
use Rattle.plan_lexer.specs.declared.token.TokenKind.{TokenKind}
use Rattle.plan_lexer.specs.declared.token.TokenKind.TheVariants as kind
use Rattle.plan_lexer.specs.declared.fault.LexFault.{LexFault}
use Rattle.plan_lexer.specs.declared.fault.LexFault.TheVariants.{BadChar, NumberTooLarge}

-- a token's kind and the place behind it
abbrev pub TokenReading : Type 0
TokenReading = Result (TokenKind × ℕ) LexFault

-- the number that a text at `at` begins with
unfoldable pub int_at : ℕ → List ℕ → TokenReading
int_at at text = do
  n ← number_at at 0x7fff_ffff_ffff_ffff text
  Ok (kind.Int (pos n.0), at + n.1)

-- the negative number whose sign stands at `at`, before the text
unfoldable pub negative_at : ℕ → List ℕ → TokenReading
negative_at at text = do
  n ← number_behind at 0x8000_0000_0000_0000 text
  Ok (kind.Int (neg_ℤ (pos n.0)), at + 1 + n.1)

-- the host, the device and the part of a tuple whose sign stands at `at`, before the text
unfoldable pub host_at : ℕ → List ℕ → TokenReading
host_at at text = do
  n ← number_behind at 0xffff_ffff text
  Ok (kind.Host n.0, at + 1 + n.1)

unfoldable pub dev_at : ℕ → List ℕ → TokenReading
dev_at at text = do
  n ← number_behind at 0xffff_ffff text
  Ok (kind.Dev n.0, at + 1 + n.1)

unfoldable pub part_at : ℕ → List ℕ → TokenReading
part_at at text = do
  n ← number_behind at 8 text
  if n.0 == 0 then Err (NumberTooLarge at) else Ok (kind.Part n.0, at + 1 + n.1)

-- the blob or the part whose `#` stands at `at`, before the text
unfoldable pub hash_at : ℕ → List ℕ → TokenReading
hash_at at text = if get_or text 0 0 == 34 then (blob_at at (drop 1 text) >>= λ b. Ok (kind.Blob b.0, b.1)) else part_at at text

-- the symbol that a text at `at` begins with
abbrev pub symbol_by : ℕ → Option Symbol → TokenReading
symbol_by at (Some s) = Ok (kind.Symbol s, at + length (symbol_text s))
symbol_by at None = Err (BadChar at)

-- the token that a text at `at` begins with after this sign, or the symbol that it begins with
unfoldable pub signed_at : ℕ → List ℕ → TokenReading
signed_at at text =
    if get_or text 0 0 == 126 then negative_at at (drop 1 text) else
    (if get_or text 0 0 == 64 then host_at at (drop 1 text) else
    (if get_or text 0 0 == 37 then dev_at at (drop 1 text) else
    (if get_or text 0 0 == 35 then hash_at at (drop 1 text) else symbol_by at (symbol_at text))))

-- the token that a text at `at` begins with
unfoldable pub token_at : ℕ → List ℕ → TokenReading
token_at at text =
    if is_ascii_alphabetic (get_or text 0 0) then word_at at text else
    (if is_ascii_digit (get_or text 0 0) then int_at at text else
    (if get_or text 0 0 == 34 then (string_at at (drop 1 text) >>= λ s. Ok (kind.Str s.0, s.1)) else
    (if get_or text 0 0 == 39 then (char_at at (drop 1 text) >>= λ c. Ok (kind.Char c.0, c.1)) else signed_at at text)))

-- the gap or the token that a text at `at` begins with, and the place behind it
unfoldable pub move_at : ℕ → List ℕ → Result (Option TokenKind × ℕ) LexFault
move_at at text = gap_at at text >>= λ next. if nat_lt at next then Ok (None, next) else (token_at at text >>= λ t. Ok (Some t.0, t.1))

-- what is left of a text at `at` from a later place on
abbrev pub rest_at : ℕ → List ℕ → ℕ → List ℕ
rest_at at text next = drop (next - at) text

-- tokens with the one that a move gave, if it gave one
abbrev pub with_move : List Token → ℕ → Option TokenKind → ℕ → List Token
with_move found start None stop = found
with_move found start (Some k) stop = found ++ record { kind = k; start = start; stop = stop } ∷ []

-- a text at `at` is gaps and these tokens in turn
pub data Toks : ℕ → List ℕ → List Token → Type 0 where
  ends : (at : ℕ) → Toks at [] []
  skips : (at : ℕ) (text : List ℕ) (ts : List Token) (next : ℕ) → 0 < length text → move_at at text ≡ Ok (None, next)
      → Toks next (rest_at at text next) ts → Toks at text ts
  takes : (at : ℕ) (text : List ℕ) (ts : List Token) (k : TokenKind) (next : ℕ) → 0 < length text → move_at at text ≡ Ok (Some k, next)
      → Toks next (rest_at at text next) ts → Toks at text (record { kind = k; start = at; stop = next } ∷ ts)

-- a text at `at` is first refused so
pub data Refuses (e : LexFault) : ℕ → List ℕ → Type 0 where
  here : (at : ℕ) (text : List ℕ) → 0 < length text → move_at at text ≡ Err e → Refuses e at text
  past : (at : ℕ) (text : List ℕ) (move : Option TokenKind) (next : ℕ) → 0 < length text → move_at at text ≡ Ok (move, next)
      → Refuses e next (rest_at at text next) → Refuses e at text

-- a text has its tokens or its first refusal
abbrev pub IsAnswered : ℕ → List ℕ → Type 0
IsAnswered at text = ((ts : List Token) × Toks at text ts) ⊎ ((e : LexFault) × Refuses e at text)
