-- From a token that is read to the bytes that spell it.
use Rattle.std.proofs.Common.{◌≡◌, ℕ, zero, suc, ◌+◌, ◌*◌, ◌<◌, ◌≤◌, Bool, true, false, cond, List, [], ◌∷◌, ◌++◌, length, get_or, drop, Option, Some, None, Result, Ok, Err, refl, sym, ap, ◌∙◌, subst}
use Rattle.std.proofs.Common.{arith, append_assoc, length-append, ◌==◌}
use Rattle.std.proofs.lemmas.Bool.Decides.{nat_tests}
use lib.Utf8.{encode}
use Rattle.plan_lexer.specs.CharItems.{item_at, hex_value, item_from, code_at}
use Rattle.plan_lexer.specs.Quoted.{with_front, string_from, char_at, char_by}
use Rattle.plan_lexer.specs.Hexed.{blob_from, blob_by, blob_end}
use Rattle.plan_lexer.specs.TokenForms.{SpellsItem, SpellsItems, no_items, an_item, SpellsPairs, no_pairs, a_pair}
use Rattle.plan_lexer.proofs.SoundItems.{IsFrontItem, item_front, item_cons}
use Rattle.plan_lexer.proofs.ReadLemmas.{drop_front, get_behind, item_some}
use Rattle.plan_lexer.proofs.QuotedLemmas.{string_closes, string_open, string_wrong, string_goes}
use Rattle.plan_lexer.specs.declared.item.CharItem.{CharItem}
use Rattle.plan_lexer.specs.declared.item.CharItem.TheVariants.{Closes, Open, Wrong, Code}
use Rattle.plan_lexer.specs.declared.fault.LexFault.{LexFault}
use Rattle.plan_lexer.specs.declared.fault.LexFault.TheVariants.{BadChar, OpenString}

-- the rest of a string or a blob, with its closing quote
pub record IsClosed (spelled : List ℕ → List ℕ → Type 0) (text : List ℕ) (at : ℕ) (read : List ℕ × ℕ) : Type 0 where
  pub inside : List ℕ
  pub rest : List ℕ
  pub splits : text ≡ inside ++ 34 ∷ rest
  pub spells : spelled inside read.0
  pub place : read.1 ≡ at + length inside + 1

no_closes : (read : Option (ℕ × ℕ)) → item_from read ≡ Closes → ⊥
no_closes None e = wrong_closes e
  where
    wrong_closes : Wrong ≡ Closes → ⊥
    wrong_closes e = cc
no_closes (Some x) e = code_closes x e
  where
    code_closes : (x : ℕ × ℕ) → Code x.0 x.1 ≡ Closes → ⊥
    code_closes x e = cc

open_closes : Open ≡ Closes → ⊥
open_closes e = cc

-- the closing quote is the first byte
closing : (text : List ℕ) → item_at 34 text ≡ Closes → (rest : List ℕ) × (text ≡ 34 ∷ rest)
unfolding item_at
closing [] e = absurd (open_closes e)
closing (a ∷ more) e = by_tests (a == 10) (a == 34) refl (sym (item_cons 34 a more) ∙ e)
  where
    by_tests : (p q : Bool) → (a == 34) ≡ q → cond p Open (cond q Closes (item_from (code_at (a ∷ more)))) ≡ Closes → (rest : List ℕ) × (a ∷ more ≡ 34 ∷ rest)
    by_tests true q f h = absurd (open_closes h)
    by_tests false true f h = let is : a ≡ 34 = grind (arith, nat_tests) in (more, ap (λ b. b ∷ more) is)
    by_tests false false f h = absurd (no_closes (code_at (a ∷ more)) h)

pub not_ok : {A : Type 0} (e : LexFault) (x : A) → Err e ≡ Ok x → ⊥
not_ok e x h = cc

pub ok_eq : {A : Type 0} (x y : A) (r : Result A LexFault) → r ≡ Ok x → r ≡ Ok y → x ≡ y
ok_eq x y r g h = cc

ok_same : (x y : List ℕ × ℕ) → (r : Result (List ℕ × ℕ) LexFault) → r ≡ Ok x → r ≡ Ok y → x ≡ y
ok_same x y r g h = ok_eq x y r g h

-- what is behind bytes that were put in front
with_front_ok : (front : List ℕ) (r : Result (List ℕ × ℕ) LexFault) (read : List ℕ × ℕ) → with_front front r ≡ Ok read → (behind : List ℕ × ℕ) × (r ≡ Ok behind) × ((front ++ behind.0, behind.1) ≡ read)
with_front_ok front (Ok x) read e = (x, refl, ok_same (front ++ x.0, x.1) read (Ok (front ++ x.0, x.1)) refl e)
with_front_ok front (Err d) read e = absurd (not_ok d read e)

-- an item before what is closed
closed_more : (at : ℕ) (text : List ℕ) (c n : ℕ) (f : IsFrontItem 34 text c n) (bytes : List ℕ) (stop : ℕ)
    → IsClosed (SpellsItems 34) f.rest (at + n) (bytes, stop) → IsClosed (SpellsItems 34) text at (encode c ++ bytes, stop)
closed_more at text c n f bytes stop h = record {
  inside = f.front ++ h.inside;
  rest = h.rest;
  splits = f.splits ∙ ap (λ bs. f.front ++ bs) h.splits ∙ sym (append_assoc f.front h.inside (34 ∷ h.rest));
  spells = an_item f.front h.inside c bytes f.spells h.spells;
  place = h.place ∙ omega (arith, f.len, length-append f.front h.inside);
}

-- the text behind an item
behind_item : (text : List ℕ) (c n : ℕ) (f : IsFrontItem 34 text c n) → drop n text ≡ f.rest
behind_item text c n f = ap (λ m. drop m text) f.len ∙ ap (drop (length f.front)) f.splits ∙ drop_front f.front f.rest

shorter_behind : (text : List ℕ) (c n fuel : ℕ) (f : IsFrontItem 34 text c n) → length text ≤ fuel + 1 → length f.rest ≤ fuel
shorter_behind text c n fuel f small = omega (arith, ap length f.splits ∙ length-append f.front f.rest, item_some 34 f.front c f.spells)

-- one item more, or the end
module _ (start : ℕ) where
  string_step : (fuel : ℕ) → ((at : ℕ) (text : List ℕ) (read : List ℕ × ℕ) → length text ≤ fuel → string_from start at 0 text ≡ Ok read → IsClosed (SpellsItems 34) text at read)
      → (at : ℕ) (text : List ℕ) (read : List ℕ × ℕ) → length text ≤ fuel + 1 → string_from start at 0 text ≡ Ok read
      → (it : CharItem) → item_at 34 text ≡ it → IsClosed (SpellsItems 34) text at read
  string_step fuel ih at text read small e Closes is =
      let f = closing text is in let same = ok_same ([], at + 1) read (string_from start at 0 text) (string_closes start at text is) e in
      subst (λ r. IsClosed (SpellsItems 34) text at r) same (record { inside = []; rest = f.0; splits = f.1; spells = no_items; place = omega arith })
  string_step fuel ih at text read small e Open is = absurd (not_ok (OpenString start) read (sym (string_open start at text is) ∙ e))
  string_step fuel ih at text read small e Wrong is = absurd (not_ok (BadChar at) read (sym (string_wrong start at text is) ∙ e))
  string_step fuel ih at text read small e (Code c n) is =
      let f = item_front 34 text c n is in
      let g = with_front_ok (encode c) (string_from start (at + n) 0 (drop n text)) read (sym (string_goes start at text c n is (omega (arith, f.len, item_some 34 f.front c f.spells))) ∙ e) in
      let h = ih (at + n) f.rest g.0 (shorter_behind text c n fuel f small) (subst (λ bs. string_from start (at + n) 0 bs ≡ Ok g.0) (behind_item text c n f) g.1) in
      subst (λ r. IsClosed (SpellsItems 34) text at r) g.2 (closed_more at text c n f g.0.0 g.0.1 h)

  pub string_sound : (fuel at : ℕ) (text : List ℕ) (read : List ℕ × ℕ) → length text ≤ fuel → string_from start at 0 text ≡ Ok read → IsClosed (SpellsItems 34) text at read
  string_sound zero at [] read small e = absurd (not_ok (OpenString start) read e)
  string_sound zero at (b ∷ more) read small e = absurd (omega arith)
  string_sound (suc fuel) at text read small e = string_step fuel (string_sound fuel) at text read (omega arith) e (item_at 34 text) refl

  blob_half : (fuel : ℕ) → ((at : ℕ) (text : List ℕ) (read : List ℕ × ℕ) → length text ≤ fuel → blob_from start at None text ≡ Ok read → IsClosed SpellsPairs text at read)
      → (at h high : ℕ) → hex_value h ≡ Some high → (text : List ℕ) (read : List ℕ × ℕ) → length text ≤ fuel + 1 → blob_from start (at + 1) (Some high) text ≡ Ok read → IsClosed SpellsPairs (h ∷ text) at read
  blob_half fuel ih at h high is [] read small e = absurd (not_ok (OpenString start) read e)
  blob_half fuel ih at h high is (l ∷ more) read small e = by_tests (l == 10) (l == 34) (hex_value l) refl e
    where
      by_tests : (p q : Bool) (x : Option ℕ) → hex_value l ≡ x
          → cond p (Err (OpenString start)) (cond q (blob_end (at + 1) (Some high)) (blob_by (at + 1) (λ next. blob_from start (at + 1 + 1) next more) (Some high) x)) ≡ Ok read → IsClosed SpellsPairs (h ∷ l ∷ more) at read
      by_tests true q x f g = absurd (not_ok (OpenString start) read g)
      by_tests false true x f g = absurd (not_ok (BadChar (at + 1)) read g)
      by_tests false false None f g = absurd (not_ok (BadChar (at + 1)) read g)
      by_tests false false (Some low) f g =
          let b = with_front_ok ((16 * high + low) ∷ []) (blob_from start (at + 1 + 1) None more) read g in
          let r = ih (at + 1 + 1) more b.0 (omega arith) b.1 in
          subst (λ x. IsClosed SpellsPairs (h ∷ l ∷ more) at x) b.2 (record {
            inside = h ∷ l ∷ r.inside;
            rest = r.rest;
            splits = ap (λ bs. h ∷ l ∷ bs) r.splits;
            spells = a_pair h l high low r.inside b.0.0 is f r.spells;
            place = r.place ∙ omega arith;
          })

  blob_step : (fuel : ℕ) → ((at : ℕ) (text : List ℕ) (read : List ℕ × ℕ) → length text ≤ fuel → blob_from start at None text ≡ Ok read → IsClosed SpellsPairs text at read)
      → (at : ℕ) (text : List ℕ) (read : List ℕ × ℕ) → length text ≤ fuel + 1 → blob_from start at None text ≡ Ok read → IsClosed SpellsPairs text at read
  blob_step fuel ih at [] read small e = absurd (not_ok (OpenString start) read e)
  blob_step fuel ih at (h ∷ more) read small e = by_tests (h == 10) (h == 34) refl (hex_value h) refl e
    where
      by_tests : (p q : Bool) → (h == 34) ≡ q → (x : Option ℕ) → hex_value h ≡ x
          → cond p (Err (OpenString start)) (cond q (blob_end at None) (blob_by at (λ next. blob_from start (at + 1) next more) None x)) ≡ Ok read → IsClosed SpellsPairs (h ∷ more) at read
      by_tests true q d x f g = absurd (not_ok (OpenString start) read g)
      by_tests false true d x f g =
          let is : h ≡ 34 = grind (arith, nat_tests) in
          subst (λ r. IsClosed SpellsPairs (h ∷ more) at r) (ok_same ([], at + 1) read (Ok ([], at + 1)) refl g)
          (record { inside = []; rest = more; splits = ap (λ b. b ∷ more) is; spells = no_pairs; place = omega arith })
      by_tests false false d None f g = absurd (not_ok (BadChar at) read g)
      by_tests false false d (Some high) f g = blob_half fuel ih at h high f more read (omega arith) g

  pub blob_sound : (fuel at : ℕ) (text : List ℕ) (read : List ℕ × ℕ) → length text ≤ fuel → blob_from start at None text ≡ Ok read → IsClosed SpellsPairs text at read
  blob_sound zero at [] read small e = absurd (not_ok (OpenString start) read e)
  blob_sound zero at (b ∷ more) read small e = absurd (omega arith)
  blob_sound (suc fuel) at text read small e = blob_step fuel (blob_sound fuel) at text read (omega arith) e

pub starts_by : (b : ℕ) (text : List ℕ) → 0 < b → get_or text 0 0 ≡ b → text ≡ b ∷ drop 1 text
starts_by b [] h e = absurd (omega (arith, e))
starts_by b (a ∷ more) h e = ap (λ x. x ∷ more) e

-- a char with its closing quote
pub record IsChar (text : List ℕ) (start : ℕ) (read : ℕ × ℕ) : Type 0 where
  pub item : List ℕ
  pub rest : List ℕ
  pub splits : text ≡ item ++ 39 ∷ rest
  pub spells : SpellsItem 39 item read.0
  pub place : read.1 ≡ start + length item + 2

char_by_quote : (start c n : ℕ) (text : List ℕ) (read : ℕ × ℕ) → IsFrontItem 39 text c n → (q : Bool) → (get_or text n 0 == 39) ≡ q
    → cond q (Ok (c, start + n + 2)) (Err (BadChar start)) ≡ Ok read → IsChar text start read
char_by_quote start c n text read f false d e = absurd (not_ok (BadChar start) read e)
char_by_quote start c n text read f true d e =
    let is : get_or text n 0 ≡ 39 = grind (arith, nat_tests) in
    let at_rest : get_or f.rest 0 0 ≡ 39 = sym (get_behind f.front f.rest) ∙ ap (λ bs. get_or bs (length f.front) 0) (sym f.splits) ∙ ap (λ m. get_or text m 0) (sym f.len) ∙ is in
    let whole = starts_by 39 f.rest (omega arith) at_rest in
    subst (λ r. IsChar text start r) (ok_eq (c, start + n + 2) read (Ok (c, start + n + 2)) refl e) (record {
      item = f.front;
      rest = drop 1 f.rest;
      splits = f.splits ∙ ap (λ bs. f.front ++ bs) whole;
      spells = f.spells;
      place = omega (arith, f.len);
    })

char_step : (start : ℕ) (text : List ℕ) (read : ℕ × ℕ) → (it : CharItem) → item_at 39 text ≡ it → char_by start text it ≡ Ok read → IsChar text start read
unfolding char_by
char_step start text read Closes is e = absurd (not_ok (BadChar start) read e)
char_step start text read Open is e = absurd (not_ok (BadChar start) read e)
char_step start text read Wrong is e = absurd (not_ok (BadChar start) read e)
char_step start text read (Code c n) is e = char_by_quote start c n text read (item_front 39 text c n is) (get_or text n 0 == 39) refl e

pub char_sound : (start : ℕ) (text : List ℕ) (read : ℕ × ℕ) → char_at start text ≡ Ok read → IsChar text start read
unfolding char_at
char_sound start text read e = char_step start text read (item_at 39 text) refl e
