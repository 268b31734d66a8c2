-- What spells a token is read as that token.
use Rattle.std.proofs.Common.{◌≡◌, ◌≢◌, ℕ, suc, ◌+◌, ◌*◌, ◌<◌, ◌≤◌, Bool, true, false, List, [], ◌∷◌, ◌++◌, length, get_or, drop, take, Some, None, Ok, refl, ap, ◌∙◌, arith, append_assoc, length-append, one-add}
use Rattle.std.proofs.lemmas.Bool.Decides.{nat_tests}
use Rattle.std.proofs.lemmas.Str.{length-encode, len_utf8_bounds}
use Rattle.std.specs.Char.{is_ascii_digit}
use Rattle.std.specs.List.{list_all, prefix_len}
use lib.Utf8.{encode}
use Rattle.containers.proofs.Bools.{and_left, and_right}
use Rattle.plan_lexer.specs.CharItems.{item_at, hex_value}
use Rattle.plan_lexer.specs.Quoted.{with_front, string_from, char_at, char_by}
use Rattle.plan_lexer.specs.Hexed.{blob_from}
use Rattle.plan_lexer.specs.Numerals.{digits_len, number_of, number_at, number_behind}
use Rattle.plan_lexer.specs.TokenForms.{IsDigits, SpellsItem, plain, wide, letter, digits, SpellsItems, no_items, an_item, SpellsPairs, no_pairs, a_pair}
use Rattle.plan_lexer.proofs.ItemLemmas.{item_reads}
use Rattle.plan_lexer.proofs.QuotedLemmas.{string_closes, string_goes}
use Rattle.plan_lexer.specs.declared.item.CharItem.TheVariants.{Closes}

pub drop_front : (front rest : List ℕ) → drop (length front) (front ++ rest) ≡ rest
drop_front [] rest = refl
drop_front (b ∷ front) rest = drop_front front rest

pub get_behind : (front rest : List ℕ) → get_or (front ++ rest) (length front) 0 ≡ get_or rest 0 0
get_behind [] rest = refl
get_behind (b ∷ front) rest = get_behind front rest

len_utf8_some : (c : ℕ) → 0 < length (encode c)
len_utf8_some c = rw (length-encode c) (omega (arith, len_utf8_bounds c))

-- an item takes a byte at least
pub item_some : (quote : ℕ) (front : List ℕ) (c : ℕ) → SpellsItem quote front c → 0 < length front
item_some quote _ _ (plain c low high slash apart) = omega arith
item_some quote _ _ (wide c low s) = len_utf8_some c
item_some quote _ _ (letter l c e) = omega arith
item_some quote _ _ (digits h l high low e f eight) = omega arith

quote_closes : (quote : ℕ) (rest : List ℕ) → quote ≢ 10 → item_at quote (quote ∷ rest) ≡ Closes
unfolding item_at
quote_closes quote rest line = grind (arith, nat_tests)

pub string_reads : (items bytes : List ℕ) → SpellsItems 34 items bytes → (start at : ℕ) (rest : List ℕ) → string_from start at 0 (items ++ 34 ∷ rest) ≡ Ok (bytes, at + length items + 1)
string_reads _ _ no_items start at rest = string_closes start at (34 ∷ rest) (quote_closes 34 rest (omega arith)) ∙ ap (λ n. Ok ([], n)) (omega arith)
string_reads _ _ (an_item front more c bytes item others) start at rest =
    rw append_assoc (string_goes start at (front ++ (more ++ 34 ∷ rest)) c (length front) (item_reads 34 front c (more ++ 34 ∷ rest) (omega arith) (omega arith) item) (item_some 34 front c item)
    ∙ rw (drop_front front (more ++ 34 ∷ rest)) (ap (with_front (encode c)) (string_reads more bytes others start (at + length front) rest) ∙ ap (λ n. Ok (encode c ++ bytes, n)) (rw length-append (omega arith))))

pub char_reads : (item : List ℕ) (c : ℕ) → SpellsItem 39 item c → (start : ℕ) (rest : List ℕ) → char_at start (item ++ 39 ∷ rest) ≡ Ok (c, start + length item + 2)
unfolding char_at char_by
char_reads item c h start rest = rw (item_reads 39 item c (39 ∷ rest) (omega arith) (omega arith) h, get_behind item (39 ∷ rest)) refl

-- one pair of digits more
pub blob_pair : (start at h l high low : ℕ) (rest : List ℕ) → hex_value h ≡ Some high → hex_value l ≡ Some low
    → blob_from start at None (h ∷ l ∷ rest) ≡ with_front ((16 * high + low) ∷ []) (blob_from start (at + 1 + 1) None rest)
unfolding hex_value
blob_pair start at h l high low rest e f = grind (arith, nat_tests)

pub blob_reads : (pairs bytes : List ℕ) → SpellsPairs pairs bytes → (start at : ℕ) (rest : List ℕ) → blob_from start at None (pairs ++ 34 ∷ rest) ≡ Ok (bytes, at + length pairs + 1)
blob_reads _ _ no_pairs start at rest = ap (λ n. Ok ([], n)) (omega arith)
blob_reads _ _ (a_pair h l high low more bytes e f others) start at rest =
    blob_pair start at h l high low (more ++ 34 ∷ rest) e f ∙ ap (with_front ((16 * high + low) ∷ [])) (blob_reads more bytes others start (at + 1 + 1) rest) ∙ ap (λ n. Ok ((16 * high + low) ∷ bytes, n)) (omega arith)

pub front_len : (p : ℕ → Bool) (front rest : List ℕ) → list_all p front ≡ true → p (get_or rest 0 0) ≡ false → prefix_len p (front ++ rest) ≡ length front
front_len p [] [] a b = refl
front_len p [] (r ∷ rest) a b = rw b refl
front_len p (f ∷ front) rest a b = rw (and_left (p f) (list_all p front) a) (rw one-add (ap suc (front_len p front rest (and_right (p f) (list_all p front) a) b)))

pub take_front : (front rest : List ℕ) → take (length front) (front ++ rest) ≡ front
take_front [] rest = refl
take_front (b ∷ front) rest = ap (λ bs. b ∷ bs) (take_front front rest)

-- digits that no digit follows are read as the number they spell
digits_read : (ds rest : List ℕ) → IsDigits ds → is_ascii_digit (get_or rest 0 0) ≡ false → digits_len (ds ++ rest) ≡ length ds
digits_read ds rest h other = front_len is_ascii_digit ds rest h.all other

pub number_reads : (at most : ℕ) (ds rest : List ℕ) → IsDigits ds → is_ascii_digit (get_or rest 0 0) ≡ false → number_of ds ≤ most → number_at at most (ds ++ rest) ≡ Ok (number_of ds, length ds)
unfolding number_at
number_reads at most ds rest h other small = rw (digits_read ds rest h other, take_front ds rest) (grind (arith, nat_tests))

pub number_behind_reads : (at most : ℕ) (ds rest : List ℕ) → IsDigits ds → is_ascii_digit (get_or rest 0 0) ≡ false → number_of ds ≤ most → number_behind at most (ds ++ rest) ≡ Ok (number_of ds, length ds)
unfolding number_behind
number_behind_reads at most ds rest h other small = let e = number_reads at most ds rest h other small in let l = digits_read ds rest h other in let s = h.some in grind (arith, nat_tests)
