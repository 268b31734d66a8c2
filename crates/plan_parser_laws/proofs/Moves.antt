-- What a quote or a comment begins, as a move.
use Rattle.std.proofs.Common.{◌≡◌, ℕ, Bool, List, ◌∷◌, Option, Some, None, Result, Ok, Err, nat_lt, refl, ◌∙◌, ap, arith}
use Rattle.std.specs.Prelude.{if◌then◌else◌}
use Rattle.std.proofs.lemmas.Bool.{le-ltb}
use Rattle.plan_lexer.specs.Faults.{◌>>=◌}
use Rattle.plan_lexer.specs.Gaps.{gap_at, comment_at}
use Rattle.plan_lexer.specs.Quoted.{string_at, char_at}
use Rattle.plan_lexer.specs.Hexed.{blob_at}
use Rattle.plan_lexer.specs.Scanning.{move_at, token_at, signed_at, hash_at}
use Rattle.plan_lexer.specs.declared.token.TokenKind.{TokenKind}
use Rattle.plan_lexer.specs.declared.token.TokenKind.TheVariants as kind
use Rattle.plan_lexer.specs.declared.fault.LexFault.{LexFault}

abbrev pub Move : Type 0
Move = Result (Option TokenKind × ℕ) LexFault

-- what a token that is read makes
abbrev pub token_move : {A : Type 0} → (A → TokenKind) → Result (A × ℕ) LexFault → Move
token_move kind_of r = r >>= λ x. Ok (Some (kind_of x.0), x.1)

-- a token that begins with no blank and no comment
after_gap : (at : ℕ) (text : List ℕ) (r : Move) → (token_at at text >>= λ t. Ok (Some t.0, t.1)) ≡ r → (if nat_lt at at then Ok (None, at) else (token_at at text >>= λ t. Ok (Some t.0, t.1))) ≡ r
after_gap at text r h = ap (λ (b : Bool). if b then Ok (None, at) else (token_at at text >>= λ t. Ok (Some t.0, t.1))) (le-ltb at at (omega arith)) ∙ h

-- what is read as a token, and the move that it makes
abbrev as_token : {A : Type 0} → (A → TokenKind) → A × ℕ → Result (TokenKind × ℕ) LexFault
as_token kind_of x = Ok (kind_of x.0, x.1)

abbrev as_move : TokenKind × ℕ → Move
as_move t = Ok (Some t.0, t.1)

token_moves : {A : Type 0} (kind_of : A → TokenKind) (r : Result (A × ℕ) LexFault) → ((r >>= as_token kind_of) >>= as_move) ≡ token_move kind_of r
token_moves kind_of (Ok x) = refl
token_moves kind_of (Err e) = refl

pub string_move : (at : ℕ) (text : List ℕ) → move_at at (34 ∷ text) ≡ token_move kind.Str (string_at at text)
unfolding move_at gap_at token_at
string_move at text = after_gap at (34 ∷ text) (token_move kind.Str (string_at at text)) (token_moves kind.Str (string_at at text))

pub char_move : (at : ℕ) (text : List ℕ) → move_at at (39 ∷ text) ≡ token_move kind.Char (char_at at text)
unfolding move_at gap_at token_at
char_move at text = after_gap at (39 ∷ text) (token_move kind.Char (char_at at text)) (token_moves kind.Char (char_at at text))

pub blob_move : (at : ℕ) (text : List ℕ) → move_at at (35 ∷ 34 ∷ text) ≡ token_move kind.Blob (blob_at at text)
unfolding move_at gap_at token_at signed_at hash_at
blob_move at text = after_gap at (35 ∷ 34 ∷ text) (token_move kind.Blob (blob_at at text)) (token_moves kind.Blob (blob_at at text))

-- a token is refused as what it is read from
pub moved_err : {A : Type 0} (kind_of : A → TokenKind) (r : Result (A × ℕ) LexFault) (e : LexFault) → token_move kind_of r ≡ Err e → r ≡ Err e
moved_err kind_of (Ok x) e h = cc
moved_err kind_of (Err d) e h = let same : d ≡ e = cc in ap Err same

pub err_moved : {A : Type 0} (kind_of : A → TokenKind) (r : Result (A × ℕ) LexFault) (e : LexFault) → r ≡ Err e → token_move kind_of r ≡ Err e
err_moved kind_of r e h = ap (token_move kind_of) h

-- a comment that was passed is a move by itself
abbrev pub branch : ℕ → List ℕ → ℕ → Bool → Move
branch at text next further = if further then Ok (None, next) else (token_at at (40 ∷ 42 ∷ text) >>= as_move)

abbrev pub after_comment : ℕ → List ℕ → ℕ → Move
after_comment at text next = branch at text next (nat_lt at next)

pub comment_move : (at : ℕ) (text : List ℕ) → move_at at (40 ∷ 42 ∷ text) ≡ (comment_at at text >>= after_comment at text)
unfolding move_at gap_at
comment_move at text = refl
