-- What holds of the tokens of every text.
use Rattle.std.specs.Prelude.{ℕ, ◌^◌, ◌<◌, ◌≤◌, List, [], ◌∷◌, length, get_or, FitsSigned}
use Rattle.std.specs.Int.{w64}
use Rattle.std.specs.Char.{IsScalar}
use Rattle.std.specs.Str.{IsUtf8}
use Rattle.plan_base.specs.Words.{IsName}
use Rattle.plan_lexer.specs.declared.token.Token.{Token}
use Rattle.plan_lexer.specs.declared.token.TokenKind.{TokenKind}
use Rattle.plan_lexer.specs.declared.token.TokenKind.TheVariants as kind

-- what a token stands for keeps the limits of its kind
abbrev pub IsKind : TokenKind → Type 0
IsKind (kind.Word w) = IsName w
IsKind (kind.Key k) = Unit {0}
IsKind (kind.Int z) = FitsSigned w64 z
IsKind (kind.Host n) = n < 2 ^ 32
IsKind (kind.Dev n) = n < 2 ^ 32
IsKind (kind.Part n) = (1 ≤ n) × (n ≤ 8)
IsKind (kind.Char c) = IsScalar c
IsKind (kind.Str bytes) = IsUtf8 bytes × (length bytes ≤ 65535)
IsKind (kind.Blob bytes) = ((i : ℕ) → get_or bytes i 0 < 256) × (length bytes ≤ 65535)
IsKind (kind.Symbol s) = Unit {0}

-- a token from a place on, in a text of this length
pub record IsToken (from len : ℕ) (t : Token) : Type 0 where
  pub after : from ≤ t.start
  pub some : t.start < t.stop
  pub within : t.stop ≤ len
  pub kind : IsKind t.kind

-- tokens from a place on, one behind the other
abbrev pub AreTokens : ℕ → ℕ → List Token → Type 0
AreTokens from len [] = Unit {0}
AreTokens from len (t ∷ ts) = IsToken from len t × AreTokens t.stop len ts
