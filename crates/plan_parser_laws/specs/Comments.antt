-- Comments with their nesting.
use Rattle.std.specs.Prelude.{◌≡◌, ℕ, ◌+◌, Bool, false, ◌&&◌, ◌||◌, ◌==◌, List, ◌∷◌, length, get_or}
use Rattle.plan_lexer.specs.declared.fault.LexFault.{LexFault}
use Rattle.plan_lexer.specs.declared.fault.LexFault.TheVariants.{OpenComment}

-- whether a byte and the one behind it open or close a comment
abbrev pub is_mark : ℕ → List ℕ → Bool
is_mark b more = ((b == 40) && (get_or more 0 0 == 42)) || ((b == 42) && (get_or more 0 0 == 41))

mutual
  -- the text begins with a comment, behind which the rest stands
  pub data CommentAt : List ℕ → List ℕ → Type 0 where
    comment : {text rest : List ℕ} → InsideAt text (42 ∷ 41 ∷ rest) → CommentAt (40 ∷ 42 ∷ text) rest

  -- the text begins with what may stand inside a comment, other bytes and whole comments, behind which the rest stands
  pub data InsideAt : List ℕ → List ℕ → Type 0 where
    nothing : {text : List ℕ} → InsideAt text text
    a_byte : {b : ℕ} {text rest : List ℕ} → is_mark b text ≡ false → InsideAt text rest → InsideAt (b ∷ text) rest
    a_comment : {text behind rest : List ℕ} → CommentAt text behind → InsideAt behind rest → InsideAt text rest

-- the comment at that place ends at the other
pub record EndsAt (at next : ℕ) (text : List ℕ) : Type 0 where
  pub rest : List ℕ
  pub closed : CommentAt text rest
  pub place : next + length rest ≡ at + length text

-- no comment that begins there is closed
pub record Unclosed (e : LexFault) (at : ℕ) (text : List ℕ) : Type 0 where
  pub never : (rest : List ℕ) → CommentAt text rest → ⊥
  pub is : e ≡ OpenComment at
