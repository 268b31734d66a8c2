-- On the reading of strings, item by item.
use Rattle.std.proofs.Common.{◌≡◌, ℕ, zero, suc, ◌+◌, ◌<◌, List, [], ◌∷◌, ◌++◌, drop, Result, Ok, Err, refl, sym, ap, ◌∙◌, arith, add-zero, append_assoc}
use Rattle.std.specs.Char.{encode_utf8}
use Rattle.plan_lexer.specs.CharItems.{item_at}
use Rattle.plan_lexer.specs.Quoted.{with_front, string_from, string_by}
use Rattle.plan_lexer.specs.declared.item.CharItem.TheVariants.{Closes, Open, Wrong, Code}
use Rattle.plan_lexer.specs.declared.fault.LexFault.{LexFault}
use Rattle.plan_lexer.specs.declared.fault.LexFault.TheVariants.{BadChar, OpenString}

-- bytes put in front twice
pub with_front-twice : (a b : List ℕ) (r : Result (List ℕ × ℕ) LexFault) → with_front a (with_front b r) ≡ with_front (a ++ b) r
with_front-twice a b (Ok read) = ap (λ bytes. Ok (bytes, read.1)) (sym (append_assoc a b read.0))
with_front-twice a b (Err e) = refl

-- the passed bytes are those at the front
pub string_from-passed : (start at passed : ℕ) (text : List ℕ) → string_from start at passed text ≡ string_from start (at + passed) 0 (drop passed text)
string_from-passed start at zero text = rw add-zero refl
string_from-passed start at (suc passed) [] = refl
string_from-passed start at (suc passed) (b ∷ more) = rw (string_from-passed start (at + 1) passed more) (ap (λ n. string_from start n 0 (drop passed more)) (omega arith))

string_from-moved : (start at width : ℕ) (text : List ℕ) → string_from start (at + 1 + width) 0 (drop width (drop 1 text)) ≡ string_from start (at + suc width) 0 (drop (suc width) text)
string_from-moved start at zero [] = refl
string_from-moved start at (suc width) [] = refl
string_from-moved start at width (b ∷ more) = ap (λ n. string_from start n 0 (drop width more)) (omega arith)

-- the next item decides
string_from-by : (start at : ℕ) (text : List ℕ) → string_from start at 0 text ≡ string_by start at (λ passed. string_from start (at + 1) passed (drop 1 text)) (item_at 34 text)
unfolding item_at
string_from-by start at [] = refl
string_from-by start at (b ∷ more) = refl

pub string_closes : (start at : ℕ) (text : List ℕ) → item_at 34 text ≡ Closes → string_from start at 0 text ≡ Ok ([], at + 1)
string_closes start at text e = string_from-by start at text ∙ ap (string_by start at (λ passed. string_from start (at + 1) passed (drop 1 text))) e

pub string_open : (start at : ℕ) (text : List ℕ) → item_at 34 text ≡ Open → string_from start at 0 text ≡ Err (OpenString start)
string_open start at text e = string_from-by start at text ∙ ap (string_by start at (λ passed. string_from start (at + 1) passed (drop 1 text))) e

pub string_wrong : (start at : ℕ) (text : List ℕ) → item_at 34 text ≡ Wrong → string_from start at 0 text ≡ Err (BadChar at)
string_wrong start at text e = string_from-by start at text ∙ ap (string_by start at (λ passed. string_from start (at + 1) passed (drop 1 text))) e

pub string_goes : (start at : ℕ) (text : List ℕ) (code width : ℕ) → item_at 34 text ≡ Code code width → 0 < width
    → string_from start at 0 text ≡ with_front (encode_utf8 code) (string_from start (at + width) 0 (drop width text))
string_goes start at text code zero e h = absurd (omega arith)
string_goes start at text code (suc width) e h =
    string_from-by start at text ∙ ap (string_by start at (λ passed. string_from start (at + 1) passed (drop 1 text))) e
    ∙ ap (with_front (encode_utf8 code)) (ap (λ n. string_from start (at + 1) n (drop 1 text)) (omega arith) ∙ string_from-passed start (at + 1) width (drop 1 text) ∙ string_from-moved start at width text)

-- one item more is read
pub string_more : (start at : ℕ) (text : List ℕ) (code width : ℕ) (front : List ℕ) (whole : Result (List ℕ × ℕ) LexFault)
    → with_front front (string_from start at 0 text) ≡ whole → item_at 34 text ≡ Code code width → 0 < width
    → with_front (front ++ encode_utf8 code) (string_from start (at + width) 0 (drop width text)) ≡ whole
string_more start at text code width front whole e is h =
    sym (with_front-twice front (encode_utf8 code) (string_from start (at + width) 0 (drop width text))) ∙ ap (with_front front) (sym (string_goes start at text code width is h)) ∙ e
