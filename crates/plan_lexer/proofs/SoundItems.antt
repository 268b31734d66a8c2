-- From an item that is read to the bytes that spell it.
use Rattle.std.proofs.Common.{◌≡◌, ◌≢◌, ℕ, ◌+◌, ◌*◌, ◌<◌, ◌≤◌, Bool, true, false, cond, List, [], ◌∷◌, ◌++◌, length, Option, Some, None, refl, sym, ap, ◌∙◌, subst, arith, nat_lt, ◌==◌}
use Rattle.std.proofs.lemmas.Bool.Decides.{nat_tests}
use lib.Utf8.{scalar, encode}
use Rattle.plan_lexer.specs.CharItems.{continuation, shortest, two_bytes, three_bytes, four_bytes, wide_at, hex_value, escaped_character, hex_escape, escape_at, code_at, item_at, item_from}
use Rattle.plan_lexer.specs.TokenForms.{SpellsItem, plain, wide, letter, digits}
use Rattle.plan_lexer.specs.declared.item.CharItem.TheVariants.{Closes, Open, Wrong, Code}

two_sound : (a b : ℕ) (rest : List ℕ) (c n : ℕ) → 192 ≤ a → a < 224 → two_bytes (a ∷ b ∷ rest) ≡ Some (c, n) → (encode c ≡ a ∷ b ∷ []) × (n ≡ 2) × (128 ≤ c) × (scalar c ≡ true)
unfolding two_bytes continuation shortest encode
two_sound a b rest c n low high e = grind (arith, nat_tests)

three_sound : (a b d : ℕ) (rest : List ℕ) (c n : ℕ) → 224 ≤ a → a < 240 → three_bytes (a ∷ b ∷ d ∷ rest) ≡ Some (c, n) → (encode c ≡ a ∷ b ∷ d ∷ []) × (n ≡ 3) × (128 ≤ c) × (scalar c ≡ true)
unfolding three_bytes continuation shortest encode
three_sound a b d rest c n low high e = grind (arith, nat_tests)

four_sound : (a b d f : ℕ) (rest : List ℕ) (c n : ℕ) → 240 ≤ a → a < 248 → four_bytes (a ∷ b ∷ d ∷ f ∷ rest) ≡ Some (c, n) → (encode c ≡ a ∷ b ∷ d ∷ f ∷ []) × (n ≡ 4) × (128 ≤ c) × (scalar c ≡ true)
unfolding four_bytes continuation shortest encode
four_sound a b d f rest c n low high e = grind (arith, nat_tests)

-- the character that a text begins with, by its bytes
pub record IsFrontItem (quote : ℕ) (text : List ℕ) (c n : ℕ) : Type 0 where
  pub front : List ℕ
  pub rest : List ℕ
  pub splits : text ≡ front ++ rest
  pub spells : SpellsItem quote front c
  pub len : n ≡ length front

of_wide : (quote : ℕ) (front rest : List ℕ) (c n : ℕ) → (encode c ≡ front) × (n ≡ length front) × (128 ≤ c) × (scalar c ≡ true) → IsFrontItem quote (front ++ rest) c n
of_wide quote front rest c n h = record { front = front; rest = rest; splits = refl; spells = subst (λ bs. SpellsItem quote bs c) h.0 (wide c h.2 h.3); len = h.1 }

none_two : (a c n : ℕ) → two_bytes (a ∷ []) ≡ Some (c, n) → ⊥
unfolding two_bytes continuation
none_two a c n e = cc

none_three : (a c n : ℕ) → three_bytes (a ∷ []) ≡ Some (c, n) → ⊥
unfolding three_bytes continuation
none_three a c n e = cc

none_three_more : (a b c n : ℕ) → three_bytes (a ∷ b ∷ []) ≡ Some (c, n) → ⊥
unfolding three_bytes continuation
none_three_more a b c n e = grind (arith, nat_tests)

none_four : (a c n : ℕ) → four_bytes (a ∷ []) ≡ Some (c, n) → ⊥
unfolding four_bytes continuation
none_four a c n e = cc

none_four_more : (a b c n : ℕ) → four_bytes (a ∷ b ∷ []) ≡ Some (c, n) → ⊥
unfolding four_bytes continuation
none_four_more a b c n e = grind (arith, nat_tests)

none_four_most : (a b d c n : ℕ) → four_bytes (a ∷ b ∷ d ∷ []) ≡ Some (c, n) → ⊥
unfolding four_bytes continuation
none_four_most a b d c n e = grind (arith, nat_tests)

two_front : (quote a : ℕ) (more : List ℕ) (c n : ℕ) → 192 ≤ a → a < 224 → two_bytes (a ∷ more) ≡ Some (c, n) → IsFrontItem quote (a ∷ more) c n
two_front quote a [] c n low high e = absurd (none_two a c n e)
two_front quote a (b ∷ rest) c n low high e = of_wide quote (a ∷ b ∷ []) rest c n (two_sound a b rest c n low high e)

three_front : (quote a : ℕ) (more : List ℕ) (c n : ℕ) → 224 ≤ a → a < 240 → three_bytes (a ∷ more) ≡ Some (c, n) → IsFrontItem quote (a ∷ more) c n
three_front quote a [] c n low high e = absurd (none_three a c n e)
three_front quote a (b ∷ []) c n low high e = absurd (none_three_more a b c n e)
three_front quote a (b ∷ d ∷ rest) c n low high e = of_wide quote (a ∷ b ∷ d ∷ []) rest c n (three_sound a b d rest c n low high e)

four_front : (quote a : ℕ) (more : List ℕ) (c n : ℕ) → 240 ≤ a → a < 248 → four_bytes (a ∷ more) ≡ Some (c, n) → IsFrontItem quote (a ∷ more) c n
four_front quote a [] c n low high e = absurd (none_four a c n e)
four_front quote a (b ∷ []) c n low high e = absurd (none_four_more a b c n e)
four_front quote a (b ∷ d ∷ []) c n low high e = absurd (none_four_most a b d c n e)
four_front quote a (b ∷ d ∷ f ∷ rest) c n low high e = of_wide quote (a ∷ b ∷ d ∷ f ∷ []) rest c n (four_sound a b d f rest c n low high e)

-- a reading gave this character and this many bytes
abbrev IsCode : Option (ℕ × ℕ) → ℕ → ℕ → Type 0
IsCode read c n = read ≡ Some (c, n)

no_code : (c n : ℕ) → IsCode None c n → ⊥
no_code c n e = cc

wide_front : (quote a : ℕ) (more : List ℕ) (c n : ℕ) → IsCode (wide_at (a ∷ more)) c n → IsFrontItem quote (a ∷ more) c n
unfolding wide_at
wide_front quote a more c n e = by_lead (nat_lt a 192) refl (nat_lt a 224) refl (nat_lt a 240) refl (nat_lt a 248) refl e
  where
    by_lead : (p : Bool) → nat_lt a 192 ≡ p → (q : Bool) → nat_lt a 224 ≡ q → (r : Bool) → nat_lt a 240 ≡ r → (s : Bool) → nat_lt a 248 ≡ s
        → IsCode (cond p None (cond q (two_bytes (a ∷ more)) (cond r (three_bytes (a ∷ more)) (cond s (four_bytes (a ∷ more)) None)))) c n → IsFrontItem quote (a ∷ more) c n
    by_lead true e0 q e1 r e2 s e3 h = absurd (no_code c n h)
    by_lead false e0 true e1 r e2 s e3 h = two_front quote a more c n (grind (arith, nat_tests)) (grind (arith, nat_tests)) h
    by_lead false e0 false e1 true e2 s e3 h = three_front quote a more c n (grind (arith, nat_tests)) (grind (arith, nat_tests)) h
    by_lead false e0 false e1 false e2 true e3 h = four_front quote a more c n (grind (arith, nat_tests)) (grind (arith, nat_tests)) h
    by_lead false e0 false e1 false e2 false e3 h = absurd (no_code c n h)

letter_sound : (l c n : ℕ) (rest : List ℕ) → l ≢ 120 → IsCode (escape_at (92 ∷ l ∷ rest)) c n → (escaped_character l ≡ Some c) × (n ≡ 2)
unfolding escape_at escaped_character
letter_sound l c n rest other e = grind (arith, nat_tests)

no_high : (h l c n : ℕ) (rest : List ℕ) → hex_value h ≡ None → IsCode (hex_escape (92 ∷ 120 ∷ h ∷ l ∷ rest)) c n → ⊥
unfolding hex_escape
no_high h l c n rest e f = grind (arith, nat_tests)

no_low : (h l high c n : ℕ) (rest : List ℕ) → hex_value h ≡ Some high → hex_value l ≡ None → IsCode (hex_escape (92 ∷ 120 ∷ h ∷ l ∷ rest)) c n → ⊥
unfolding hex_escape
no_low h l high c n rest d e f = grind (arith, nat_tests)

both_digits : (h l high low c n : ℕ) (rest : List ℕ) → hex_value h ≡ Some high → hex_value l ≡ Some low → IsCode (hex_escape (92 ∷ 120 ∷ h ∷ l ∷ rest)) c n
    → (high < 8) × (c ≡ 16 * high + low) × (n ≡ 4)
unfolding hex_escape
both_digits h l high low c n rest d e f = grind (arith, nat_tests)

none_at : hex_value 0 ≡ None
unfolding hex_value
none_at = refl

cut_high : (c n : ℕ) → IsCode (hex_escape (92 ∷ 120 ∷ [])) c n → ⊥
unfolding hex_escape
cut_high c n e = let z = none_at in grind (arith, nat_tests)

cut_low : (h c n : ℕ) → IsCode (hex_escape (92 ∷ 120 ∷ h ∷ [])) c n → ⊥
unfolding hex_escape
cut_low h c n e = let z = none_at in grind (arith, nat_tests)

digits_front : (quote : ℕ) (more : List ℕ) (c n : ℕ) → IsCode (hex_escape (92 ∷ 120 ∷ more)) c n → IsFrontItem quote (92 ∷ 120 ∷ more) c n
digits_front quote [] c n e = absurd (cut_high c n e)
digits_front quote (h ∷ []) c n e = absurd (cut_low h c n e)
digits_front quote (h ∷ l ∷ rest) c n e = by_values (hex_value h) refl (hex_value l) refl
  where
    by_values : (x : Option ℕ) → hex_value h ≡ x → (y : Option ℕ) → hex_value l ≡ y → IsFrontItem quote (92 ∷ 120 ∷ h ∷ l ∷ rest) c n
    by_values None d y f = absurd (no_high h l c n rest d e)
    by_values (Some high) d None f = absurd (no_low h l high c n rest d f e)
    by_values (Some high) d (Some low) f =
        let g = both_digits h l high low c n rest d f e in
        record { front = 92 ∷ 120 ∷ h ∷ l ∷ []; rest = rest; splits = refl; spells = subst (λ x. SpellsItem quote (92 ∷ 120 ∷ h ∷ l ∷ []) x) (sym g.1) (digits h l high low d f g.0); len = g.2 }

cut_escape : (c n : ℕ) → IsCode (escape_at (92 ∷ [])) c n → ⊥
unfolding escape_at escaped_character
cut_escape c n e = cc

x_escape : (more : List ℕ) → escape_at (92 ∷ 120 ∷ more) ≡ hex_escape (92 ∷ 120 ∷ more)
unfolding escape_at
x_escape more = refl

escape_front : (quote : ℕ) (more : List ℕ) (c n : ℕ) → IsCode (escape_at (92 ∷ more)) c n → IsFrontItem quote (92 ∷ more) c n
escape_front quote [] c n e = absurd (cut_escape c n e)
escape_front quote (l ∷ rest) c n e = by_x (l == 120) refl
  where
    by_x : (t : Bool) → (l == 120) ≡ t → IsFrontItem quote (92 ∷ l ∷ rest) c n
    by_x true d = let is : l ≡ 120 = grind (arith, nat_tests) in
        subst (λ x. IsFrontItem quote (92 ∷ x ∷ rest) c n) (sym is) (digits_front quote rest c n (sym (x_escape rest) ∙ subst (λ x. IsCode (escape_at (92 ∷ x ∷ rest)) c n) is e))
    by_x false d = let g = letter_sound l c n rest (grind (arith, nat_tests)) e in
        record { front = 92 ∷ l ∷ []; rest = rest; splits = refl; spells = letter l c g.0; len = g.1 }

code_of : Option (ℕ × ℕ) → ℕ
code_of None = 0
code_of (Some x) = x.0

len_of : Option (ℕ × ℕ) → ℕ
len_of None = 0
len_of (Some x) = x.1

plain_front : (quote a : ℕ) (more : List ℕ) (c n : ℕ) → 32 ≤ a → a < 127 → a ≢ 92 → a ≢ quote → IsCode (Some (a, 1)) c n → IsFrontItem quote (a ∷ more) c n
unfolding code_of len_of
plain_front quote a more c n low high slash apart e =
    let is : a ≡ c = ap code_of e in let one : 1 ≡ n = ap len_of e in
    record { front = a ∷ []; rest = more; splits = refl; spells = subst (λ x. SpellsItem quote (a ∷ []) x) is (plain a low high slash apart); len = sym one }

code_front : (quote a : ℕ) (more : List ℕ) (c n : ℕ) → a ≢ quote → IsCode (code_at (a ∷ more)) c n → IsFrontItem quote (a ∷ more) c n
unfolding code_at
code_front quote a more c n apart e = by_first (a == 92) refl (nat_lt a 32) refl (nat_lt a 127) refl e
  where
    by_first : (p : Bool) → (a == 92) ≡ p → (q : Bool) → nat_lt a 32 ≡ q → (r : Bool) → nat_lt a 127 ≡ r
        → IsCode (cond p (escape_at (a ∷ more)) (cond q None (cond r (Some (a, 1)) (wide_at (a ∷ more))))) c n → IsFrontItem quote (a ∷ more) c n
    by_first true d q f r g h = let is : a ≡ 92 = grind (arith, nat_tests) in
        subst (λ x. IsFrontItem quote (x ∷ more) c n) (sym is) (escape_front quote more c n (subst (λ x. IsCode (escape_at (x ∷ more)) c n) is h))
    by_first false d true f r g h = absurd (no_code c n h)
    by_first false d false f true g h = plain_front quote a more c n (grind (arith, nat_tests)) (grind (arith, nat_tests)) (grind (arith, nat_tests)) apart h
    by_first false d false f false g h = wide_front quote a more c n h

from_code : (read : Option (ℕ × ℕ)) (c n : ℕ) → item_from read ≡ Code c n → IsCode read c n
from_code None c n e = absurd (wrong_code c n e)
  where
    wrong_code : (c n : ℕ) → Wrong ≡ Code c n → ⊥
    wrong_code c n e = cc
from_code (Some x) c n e = same x c n e
  where
    same : (x : ℕ × ℕ) (c n : ℕ) → Code x.0 x.1 ≡ Code c n → IsCode (Some x) c n
    same x c n e = let p : x.0 ≡ c = cc in let q : x.1 ≡ n = cc in ap Some (ap (λ v. (v, x.1)) p ∙ ap (λ v. (c, v)) q)

pub item_cons : (quote a : ℕ) (more : List ℕ) → item_at quote (a ∷ more) ≡ cond (a == 10) Open (cond (a == quote) Closes (item_from (code_at (a ∷ more))))
unfolding item_at
item_cons quote a more = grind (arith, nat_tests)

-- what is read as an item spells it
pub item_front : (quote : ℕ) (text : List ℕ) (c n : ℕ) → item_at quote text ≡ Code c n → IsFrontItem quote text c n
unfolding item_at
item_front quote [] c n e = absurd (open_code e)
  where
    open_code : Open ≡ Code c n → ⊥
    open_code e = cc
item_front quote (a ∷ more) c n e = by_first (a == 10) (a == quote) refl (sym (item_cons quote a more) ∙ e)
  where
    by_first : (p q : Bool) → (a == quote) ≡ q → cond p Open (cond q Closes (item_from (code_at (a ∷ more)))) ≡ Code c n → IsFrontItem quote (a ∷ more) c n
    by_first true q f h = absurd (open_code h)
      where
        open_code : Open ≡ Code c n → ⊥
        open_code e = cc
    by_first false true f h = absurd (closes_code h)
      where
        closes_code : Closes ≡ Code c n → ⊥
        closes_code e = cc
    by_first false false f h = code_front quote a more c n (grind (arith, nat_tests)) (from_code (code_at (a ∷ more)) c n h)
