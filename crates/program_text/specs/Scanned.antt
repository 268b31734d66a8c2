-- The tokens of a text, or its first refusal, in one pass from the left.
use Rattle.std.specs.Prelude.{ℕ, zero, suc, List, [], ◌∷◌, ◌++◌, length, Option, Result, Ok, Err}
use Rattle.plan_lexer.specs.declared.fault.LexFault.{LexFault}
use Rattle.plan_lexer.specs.declared.token.Token.{Token}
use Rattle.plan_lexer.specs.declared.token.TokenKind.{TokenKind}
use Rattle.plan_lexer.specs.Scanning.{move_at, rest_at, with_move}

-- the tokens before those that follow
abbrev pub before : List Token → Result (List Token) LexFault → Result (List Token) LexFault
before found (Ok ts) = Ok (found ++ ts)
before found (Err e) = Err e

abbrev pub on_move : Result (Option TokenKind × ℕ) LexFault → (Option TokenKind × ℕ → Result (List Token) LexFault) → Result (List Token) LexFault
on_move (Ok m) more = more m
on_move (Err e) more = Err e

-- in at most so many moves
abbrev pub scanned_tokens : ℕ → ℕ → List ℕ → Result (List Token) LexFault
scanned_tokens n at [] = Ok []
scanned_tokens zero at (b ∷ text) = Ok []
scanned_tokens (suc n) at (b ∷ text) =
    on_move (move_at at (b ∷ text)) (λ m. before (with_move [] at m.0 m.1) (scanned_tokens n m.1 (rest_at at (b ∷ text) m.1)))

-- each move takes a byte
unfoldable pub tokens_of : List ℕ → Result (List Token) LexFault
tokens_of text = scanned_tokens (length text) 0 text
