-- What follows from the rule of names.
use Rattle.std.proofs.Common.{◌≡◌, ◌≢◌, ℕ, ◌≤◌, ◌<◌, refl, sym, ap, ◌∙◌, Bool, true, List, [], ◌∷◌, length, get_or, take, drop, ◌-◌, false, ◌&&◌, ◌||◌, cond, true≢false, arith}
use Rattle.std.proofs.lemmas.Bool.Decides.{nat_tests}
use Rattle.std.proofs.lemmas.Slice.Eq.{bytes_eq-Decides}
use Rattle.std.proofs.lemmas.List.{take_rest}
use Rattle.std.proofs.lemmas.Bool.{leb-true, false≢true}
use Rattle.std.specs.Char.{is_ascii_alphabetic}
use Rattle.std.specs.List.{list_all, list_any}
use Rattle.std.specs.Prelude.{codes, not, ◌==◌}
use Rattle.std.specs.Str.{bytes_eq}
use Rattle.containers.proofs.Bools.{and_left, and_right}
use Rattle.plan_base.specs.Words.{is_word_byte, is_word, reserved_words, is_reserved, is_name, IsName}

pub is_word_none : (w : List ℕ) → length w < 1 → is_word w ≡ false
unfolding is_word
is_word_none [] h = refl
is_word_none (b ∷ bs) h = absurd (omega arith)

pub is_word_cons : (b : ℕ) (bs : List ℕ) → is_word (b ∷ bs) ≡ (is_ascii_alphabetic b && list_all is_word_byte bs)
unfolding is_word
is_word_cons b bs = refl

-- a word that isn't empty, by its first byte and the rest
pub is_word_at : (w : List ℕ) → 1 ≤ length w → is_word w ≡ (is_ascii_alphabetic (get_or w 0 0) && list_all is_word_byte (take (length w - 1) (drop 1 w)))
is_word_at [] h = absurd (omega arith)
is_word_at (b ∷ bs) h = rw (take_rest (b ∷ bs) 1) (is_word_cons b bs)

pub ruleset is_word_is = (is_word_none, is_word_at)

-- a name has 1 to 32 bytes
pub is_name_within : (w : List ℕ) → IsName w → length w ≤ 32
unfolding is_name
is_name_within w e = leb-true (length w) 32 (and_left _ _ (and_right (is_word w) _ e))

pub is_name_from : (w : List ℕ) → IsName w → 1 ≤ length w
unfolding is_name
is_name_from [] e = absurd (false≢true (sym (is_word_none [] (omega arith)) ∙ and_left _ _ e))
is_name_from (b ∷ bs) e = omega arith

-- ---- reserved words by their length

-- the words of a length
unfoldable pub of_length : ℕ → List (List ℕ) → List (List ℕ)
of_length n [] = []
of_length n (r ∷ rs) = cond (length r == n) (r ∷ of_length n rs) (of_length n rs)

other_length : (r w : List ℕ) (n : ℕ) → length w ≡ n → (length r == n) ≡ false → bytes_eq r w ≡ false
other_length r w n l t = by (bytes_eq r w) refl
  where
    by : (b : Bool) → bytes_eq r w ≡ b → bytes_eq r w ≡ false
    by true e =
        let same : r ≡ w = (bytes_eq-Decides r w).0 e in
        let long : length r ≡ n = ap length same ∙ l in
        let hit : (length r == n) ≡ true = grind (arith, nat_tests) in
        absurd (true≢false (sym hit ∙ t))
    by false e = e

-- a word is among others where it is among those of its length
among_length : (w : List ℕ) (n : ℕ) (words : List (List ℕ)) → length w ≡ n
    → list_any (λ r. bytes_eq r w) words ≡ list_any (λ r. bytes_eq r w) (of_length n words)
unfolding of_length
among_length w n [] l = refl
among_length w n (r ∷ rs) l = by (length r == n) refl (among_length w n rs l)
  where
    by : (b : Bool) → (length r == n) ≡ b → list_any (λ r. bytes_eq r w) rs ≡ list_any (λ r. bytes_eq r w) (of_length n rs)
        → list_any (λ r. bytes_eq r w) (r ∷ rs) ≡ list_any (λ r. bytes_eq r w) (cond (length r == n) (r ∷ of_length n rs) (of_length n rs))
    by true t rest = ap (λ b. bytes_eq r w || b) rest
        ∙ sym (ap (λ b. list_any (λ r. bytes_eq r w) (cond b (r ∷ of_length n rs) (of_length n rs))) t)
    by false t rest = ap (λ b. b || list_any (λ r. bytes_eq r w) rs) (other_length r w n l t)
        ∙ rest
        ∙ sym (ap (λ b. list_any (λ r. bytes_eq r w) (cond b (r ∷ of_length n rs) (of_length n rs))) t)

among_others : (w : List ℕ) (words : List (List ℕ)) → list_all (λ r. not (length r == length w)) words ≡ true
    → list_any (λ r. bytes_eq r w) words ≡ false
among_others w [] a = refl
among_others w (r ∷ rs) a =
    ap (λ b. b || list_any (λ r. bytes_eq r w) rs) (other_length r w (length w) refl (not_true (length r == length w) (and_left _ _ a)))
    ∙ among_others w rs (and_right (not (length r == length w)) _ a)
  where
    not_true : (b : Bool) → not b ≡ true → b ≡ false
    not_true true e = absurd (true≢false (sym e))
    not_true false e = refl

-- a length that no reserved word has
pub reserved_other : (w : List ℕ) → length w ≢ 2 → length w ≢ 3 → length w ≢ 4 → length w ≢ 5 → length w ≢ 6 → length w ≢ 8 → length w ≢ 9 → length w ≢ 10 → is_reserved w ≡ false
unfolding is_reserved
reserved_other w two three four five six eight nine ten = among_others w reserved_words (grind (arith, nat_tests))

pub reserved_at : (w : List ℕ) (n : ℕ) → length w ≡ n → is_reserved w ≡ list_any (λ r. bytes_eq r w) (of_length n reserved_words)
unfolding is_reserved
reserved_at w n l = among_length w n reserved_words l

-- the names that the language itself needs
pub is_name-Overflow : IsName (codes "Overflow")
unfolding is_name is_word is_reserved
is_name-Overflow = refl

pub is_name-DivByZero : IsName (codes "DivByZero")
unfolding is_name is_word is_reserved
is_name-DivByZero = refl

pub is_name-Empty : IsName (codes "Empty")
unfolding is_name is_word is_reserved
is_name-Empty = refl

pub is_name-BadIndex : IsName (codes "BadIndex")
unfolding is_name is_word is_reserved
is_name-BadIndex = refl

pub is_name-TooLarge : IsName (codes "TooLarge")
unfolding is_name is_word is_reserved
is_name-TooLarge = refl

pub is_name-NoBound : IsName (codes "NoBound")
unfolding is_name is_word is_reserved
is_name-NoBound = refl

pub is_name-NoService : IsName (codes "NoService")
unfolding is_name is_word is_reserved
is_name-NoService = refl

pub is_name-NoRoute : IsName (codes "NoRoute")
unfolding is_name is_word is_reserved
is_name-NoRoute = refl

pub is_name-NotNeighbor : IsName (codes "NotNeighbor")
unfolding is_name is_word is_reserved
is_name-NotNeighbor = refl

pub is_name-TableFull : IsName (codes "TableFull")
unfolding is_name is_word is_reserved
is_name-TableFull = refl

pub is_name-NotFound : IsName (codes "NotFound")
unfolding is_name is_word is_reserved
is_name-NotFound = refl

pub is_name-defaultRoute : IsName (codes "defaultRoute")
unfolding is_name is_word is_reserved
is_name-defaultRoute = refl

pub ruleset known_names = (
  is_name-Overflow,
  is_name-DivByZero,
  is_name-Empty,
  is_name-BadIndex,
  is_name-TooLarge,
  is_name-NoBound,
  is_name-NoService,
  is_name-NoRoute,
  is_name-NotNeighbor,
  is_name-TableFull,
  is_name-NotFound,
  is_name-defaultRoute,
)
