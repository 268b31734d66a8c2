-- Segments of a text that are read as their tokens whatever text surrounds them, within bounds.
use Rattle.std.proofs.Common.{◌≡◌, ℕ, ◌+◌, ◌-◌, ◌<◌, ◌==◌, Bool, true, not, ◌||◌, List, [], ◌∷◌, ◌++◌, length, get_or, Some, None, Ok, refl, sym, ap, ◌∙◌, subst, arith, append_assoc, append-nil, length-append, nat_lt}
use Rattle.std.proofs.lemmas.Bool.{le-ltb}
use Rattle.std.proofs.lemmas.Bool.Decides.{nat_tests}
use Rattle.plan_base.specs.Words.{is_word_byte}
use Rattle.plan_lexer.specs.Gaps.{is_blank, gap_at}
use Rattle.plan_lexer.specs.Scanning.{token_at, move_at, rest_at, Toks, ends, skips, takes}
use Rattle.plan_lexer.specs.TokenForms.{Spells, EndsBefore}
use Rattle.plan_lexer.specs.declared.token.TokenKind.{TokenKind}
use Rattle.plan_lexer.proofs.SpellLemmas.{spells_read}
use Rattle.plan_lexer.proofs.ReadLemmas.{drop_front}
use Rattle.plan_lexer.proofs.LawLemmas.{spells_some}
use Rattle.program_text_laws.specs.Lexes.{Lexes}

-- what may follow a bracket or a blank: no star and no colon
abbrev pub begins : ℕ → Bool
begins b = not ((b == 42) || (b == 58))

-- what may follow a word or a number
abbrev pub calm : ℕ → Bool
calm b = not (is_word_byte b)

-- anything may begin so
abbrev pub anything : ℕ → Bool
anything b = true

-- A text that begins so, and is read as these tokens before what begins so.
pub record Part (from to : ℕ → Bool) (text : List ℕ) (kinds : List TokenKind) : Type 0 where
  pub some : 0 < length text
  pub first : from (get_or text 0 0) ≡ true
  pub reads : (rest : List ℕ) (more : List TokenKind) → to (get_or rest 0 0) ≡ true → Lexes rest more → Lexes (text ++ rest) (kinds ++ more)

first_of : (a b : List ℕ) → 0 < length a → get_or (a ++ b) 0 0 ≡ get_or a 0 0
first_of [] b h = absurd (omega arith)
first_of (x ∷ a) b h = refl

segments_join : (f p q : ℕ → Bool) (a b : List ℕ) (k l : List TokenKind) → Part f p a k → Part p q b l → Part f q (a ++ b) (k ++ l)
segments_join f p q a b k l A B = record {
  some = simp length-append (omega (arith, A.some));
  first = ap f (first_of a b A.some) ∙ A.first;
  reads = λ rest more n h. subst (λ s. Lexes s ((k ++ l) ++ more)) (sym (append_assoc a b rest)) (subst (λ m. Lexes (a ++ (b ++ rest)) m) (sym (append_assoc k l more))
      (A.reads (b ++ rest) (l ++ more) (ap p (first_of b rest B.some) ∙ B.first) (B.reads rest more n h)));
}

infixl 10 ◌>>◌
-- one segment and then another
pub ◌>>◌ : {f p q : ℕ → Bool} {a b : List ℕ} {k l : List TokenKind} → Part f p a k → Part p q b l → Part f q (a ++ b) (k ++ l)
A >> B = segments_join _ _ _ _ _ _ _ A B

-- the same segment where less is known of its first byte
pub segment_begins : {f g t : ℕ → Bool} {text : List ℕ} {kinds : List TokenKind} → Part f t text kinds → g (get_or text 0 0) ≡ true → Part g t text kinds
segment_begins P e = record { some = P.some; first = e; reads = P.reads }

pub lexes_end : Lexes [] []
lexes_end = λ at. ([], ends at, refl)

-- a segment that may end the text is read by itself
pub lexes_whole : {f : ℕ → Bool} {text : List ℕ} {kinds : List TokenKind} → Part f calm text kinds → Lexes text kinds
lexes_whole {text = text} {kinds = kinds} P = subst (λ s. Lexes s kinds) (append-nil text) (subst (λ m. Lexes (text ++ []) m) (append-nil kinds) (P.reads [] [] refl lexes_end))

-- ---- blanks

less_next : (n : ℕ) → nat_lt n (n + 1) ≡ true
less_next n = grind (arith, nat_tests)

gap_move : (at : ℕ) (text : List ℕ) → gap_at at text ≡ Ok (at + 1) → move_at at text ≡ Ok (None, at + 1)
unfolding move_at
gap_move at text g = rw g (rw (less_next at) refl)

gap_blank : (at b : ℕ) (rest : List ℕ) → is_blank b ≡ true → gap_at at (b ∷ rest) ≡ Ok (at + 1)
unfolding gap_at
gap_blank at b rest e = rw e refl

rest_behind : (at : ℕ) (front rest : List ℕ) → rest_at at (front ++ rest) (at + length front) ≡ rest
rest_behind at front rest = let e : at + length front - at ≡ length front = omega arith in rw e (drop_front front rest)

-- a blank makes no token
pub lexes_blank : (b : ℕ) (rest : List ℕ) (more : List TokenKind) → is_blank b ≡ true → Lexes rest more → Lexes (b ∷ rest) more
lexes_blank b rest more e h = λ at. let r = h (at + 1) in
    (r.0, skips at (b ∷ rest) r.0 (at + 1) (omega arith) (gap_move at (b ∷ rest) (gap_blank at b rest e)) (subst (λ s. Toks (at + 1) s r.0) (sym (rest_behind at (b ∷ []) rest)) r.1), r.2)

-- ---- tokens

token_move : (at : ℕ) (text : List ℕ) (k : TokenKind) (next : ℕ) → gap_at at text ≡ Ok at → token_at at text ≡ Ok (k, next) → move_at at text ≡ Ok (Some k, next)
unfolding move_at
token_move at text k next g t = rw (g, t) (rw (le-ltb at at (omega arith)) refl)

lexes_token : (k : TokenKind) (front rest : List ℕ) (more : List TokenKind) → Spells k front → EndsBefore k rest → ((at : ℕ) → gap_at at (front ++ rest) ≡ Ok at)
    → Lexes rest more → Lexes (front ++ rest) (k ∷ more)
lexes_token k front rest more s n g h = λ at. let r = h (at + length front) in (
  record { kind = k; start = at; stop = at + length front } ∷ r.0,
  takes at (front ++ rest) r.0 k (at + length front) (simp length-append (omega (arith, spells_some k front s)))
      (token_move at (front ++ rest) k (at + length front) (g at) (spells_read at k front rest s n))
      (subst (λ t. Toks (at + length front) t r.0) (sym (rest_behind at front rest)) r.1),
  ap (λ ks. k ∷ ks) r.2,
)

-- a byte that begins no gap, except a bracket before a star
abbrev pub is_solid : ℕ → Bool
is_solid b = not (is_blank b || (b == 40))

gap_none : (at b : ℕ) (bs : List ℕ) → is_solid b ≡ true → gap_at at (b ∷ bs) ≡ Ok at
unfolding gap_at
gap_none at b bs e = grind (arith, nat_tests)

solid_gap : (at : ℕ) (front rest : List ℕ) → 0 < length front → is_solid (get_or front 0 0) ≡ true → gap_at at (front ++ rest) ≡ Ok at
solid_gap at [] rest h e = absurd (omega arith)
solid_gap at (b ∷ bs) rest h e = gap_none at b (bs ++ rest) e

-- a token by itself
pub token_part : {f t : ℕ → Bool} (k : TokenKind) (front : List ℕ) → Spells k front → is_solid (get_or front 0 0) ≡ true → f (get_or front 0 0) ≡ true
    → ((rest : List ℕ) → t (get_or rest 0 0) ≡ true → EndsBefore k rest) → Part f t front (k ∷ [])
token_part k front s solid e n = record {
  some = spells_some k front s;
  first = e;
  reads = λ rest more h l. lexes_token k front rest more s (n rest h) (λ at. solid_gap at front rest (spells_some k front s) solid) l;
}

open_gap : (at : ℕ) (rest : List ℕ) → begins (get_or rest 0 0) ≡ true → gap_at at (40 ∷ rest) ≡ Ok at
unfolding gap_at
open_gap at rest e = grind (arith, nat_tests)

-- an opening bracket, which isn't one with a star behind it
pub open_part : {f : ℕ → Bool} (k : TokenKind) → f 40 ≡ true → Spells k (40 ∷ []) → ((rest : List ℕ) → EndsBefore k rest) → Part f begins (40 ∷ []) (k ∷ [])
open_part k e s n = record {
  some = omega arith;
  first = e;
  reads = λ rest more h l. lexes_token k (40 ∷ []) rest more s (n rest) (λ at. open_gap at rest h) l;
}

-- a blank
pub blank_part : {f t : ℕ → Bool} → f 32 ≡ true → Part f t (32 ∷ []) []
blank_part e = record { some = omega arith; first = e; reads = λ rest more h l. lexes_blank 32 rest more refl l }

-- the end of a line
pub line_part : {f t : ℕ → Bool} → f 10 ≡ true → Part f t (10 ∷ []) []
line_part e = record { some = omega arith; first = e; reads = λ rest more h l. lexes_blank 10 rest more refl l }
