-- Which tokens a text is.
use Rattle.std.specs.Prelude.{◌≡◌, ℕ, List, map}
use Rattle.plan_lexer.specs.Scanning.{Toks}
use Rattle.plan_lexer.specs.declared.token.Token.{Token}
use Rattle.plan_lexer.specs.declared.token.TokenKind.{TokenKind}

-- the kinds of tokens
abbrev pub kinds_of : List Token → List TokenKind
kinds_of ts = map (λ t. t.kind) ts

-- wherever the text begins, it is gaps and tokens of these kinds in turn
abbrev pub Lexes : List ℕ → List TokenKind → Type 0
Lexes text kinds = (at : ℕ) → (ts : List Token) × Toks at text ts × (kinds_of ts ≡ kinds)
