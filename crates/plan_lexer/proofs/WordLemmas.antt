-- On words: which are names, and which a text begins with.
use Rattle.std.proofs.Common.{◌≡◌, ◌==◌, ℕ, ◌+◌, ◌<◌, ◌≤◌, Bool, true, false, ◌&&◌, ◌||◌, cond, List, [], ◌∷◌, length, get_or, take, Option, Some, None, map, refl, ap, ◌∙◌, arith, IsTrue, one-add}
use Rattle.std.proofs.lemmas.Grind.{common_steps}
use Rattle.std.specs.Char.{is_ascii_alphabetic}
use Rattle.std.specs.List.{prefix_len, list_all, list_any, find}
use Rattle.std.specs.Int.{is_in_range}
use Rattle.std.specs.Str.{bytes_eq}
use Rattle.plan_base.specs.Words.{is_word_byte, is_word, is_name, IsName, is_reserved, reserved_words}
use Rattle.plan_base.proofs.WordLaws.{is_word_cons}
use Rattle.plan_lexer.specs.Tables.{key_text, key_of, keys}
use Rattle.plan_lexer.specs.WordTokens.{word_len}
use Rattle.plan_lexer.specs.declared.token.Key.{Key}

none_by : (b : Bool) (k : Key) (found : Option Key) (any : Bool) → cond b (Some k) found ≡ None → (found ≡ None → any ≡ false) → (b || any) ≡ false
none_by true k found any e h = absurd (some_not_none k e)
  where
    some_not_none : (k : Key) → Some k ≡ None → ⊥
    some_not_none k e = cc
none_by false k found any e h = h e

none_of : (word : List ℕ) (ks : List Key) → find (λ k. bytes_eq (key_text k) word) ks ≡ None → list_any (λ r. bytes_eq r word) (map key_text ks) ≡ false
none_of word [] e = refl
none_of word (k ∷ ks) e = none_by (bytes_eq (key_text k) word) k (find (λ k. bytes_eq (key_text k) word) ks) _ e (none_of word ks)

reserved_keys : (word : List ℕ) → list_any (λ r. bytes_eq r word) (map key_text keys) ≡ false → list_any (λ r. bytes_eq r word) reserved_words ≡ false
unfolding key_text
reserved_keys word e = e

-- a word that is no key isn't reserved
pub is_reserved_none : (word : List ℕ) → key_of word ≡ None → is_reserved word ≡ false
unfolding key_of is_reserved
is_reserved_none word e = reserved_keys word (none_of word keys e)

pub IsName_from_key : (word : List ℕ) → IsTrue (is_word word) → length word ≤ 32 → key_of word ≡ None → IsName word
unfolding is_name
IsName_from_key word w short none = let r = is_reserved_none word none in grind (arith, common_steps)

-- the items that a list begins with and that pass
front_cons : (p : ℕ → Bool) (b : ℕ) (more : List ℕ) → p b ≡ true → take (prefix_len p (b ∷ more)) (b ∷ more) ≡ b ∷ take (prefix_len p more) more
front_cons p b more e = rw (e, one-add) refl

all_by : (p : ℕ → Bool) (b : ℕ) (more : List ℕ) (n : ℕ) (t : Bool) → p b ≡ t → list_all p (take n more) ≡ true → list_all p (take (cond t (1 + n) 0) (b ∷ more)) ≡ true
all_by p b more n true e h = rw one-add (rw e h)
all_by p b more n false e h = refl

pub all_front : (p : ℕ → Bool) (text : List ℕ) → list_all p (take (prefix_len p text) text) ≡ true
all_front p [] = refl
all_front p (b ∷ more) = all_by p b more (prefix_len p more) (p b) refl (all_front p more)

or_more : (x y z w : Bool) → (y || z) ≡ true → (((x || y) || z) || w) ≡ true
or_more true y z w e = refl
or_more false true z w e = refl
or_more false false true w e = refl
or_more false false false w e = absurd (false_true e)
  where
    false_true : false ≡ true → ⊥
    false_true e = cc

pub and_both : (x y : Bool) → x ≡ true → y ≡ true → (x && y) ≡ true
and_both x y p q = rw (p, q) refl

pub letter_of_word : (b : ℕ) → is_ascii_alphabetic b ≡ true → is_word_byte b ≡ true
letter_of_word b e = or_more (is_in_range 48 57 b) (is_in_range 65 90 b) (is_in_range 97 122 b) (b == 95) e

-- the bytes of words that a text begins with, after a letter, are a word
pub is_word_front : (text : List ℕ) → IsTrue (is_ascii_alphabetic (get_or text 0 0)) → IsTrue (is_word (take (word_len text) text))
is_word_front [] h = absurd (false_true h)
  where
    false_true : false ≡ true → ⊥
    false_true e = cc
is_word_front (b ∷ more) h = ap is_word (front_cons is_word_byte b more (letter_of_word b h)) ∙ is_word_cons b (take (word_len more) more) ∙ and_both _ _ h (all_front is_word_byte more)

pub some_front : (p : ℕ → Bool) (b : ℕ) (more : List ℕ) → p b ≡ true → 0 < prefix_len p (b ∷ more)
some_front p b more e = rw e (omega arith)

pub word_len_some : (text : List ℕ) → IsTrue (is_ascii_alphabetic (get_or text 0 0)) → 0 < word_len text
word_len_some [] h = absurd (false_true h)
  where
    false_true : false ≡ true → ⊥
    false_true e = cc
word_len_some (b ∷ more) h = some_front is_word_byte b more (letter_of_word b h)
