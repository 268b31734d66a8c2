-- A token that is read is a prefix of the text that spells it.
use Rattle.std.proofs.Common.{◌≡◌, ℕ, ◌+◌, ◌<◌, ◌≤◌, Bool, true, false, cond, List, [], ◌∷◌, ◌++◌, length, get_or, drop, take, Option, Some, None, Result, Ok, Err, pos, neg_ℤ, refl, sym, ap, ◌∙◌}
use Rattle.std.proofs.Common.{subst, arith, append_assoc, length-append, IsTrue, nat_lt, ◌==◌, nat_eq}
use Rattle.std.proofs.lemmas.Bool.Decides.{nat_tests}
use Rattle.std.proofs.lemmas.List.{take-append-drop}
use Rattle.std.proofs.lemmas.List.Folds.{length-prefix_len}
use Rattle.std.proofs.lemmas.Slice.Eq.{bytes_eq-Decides}
use Rattle.std.specs.Char.{is_ascii_digit, is_ascii_alphabetic}
use Rattle.std.specs.List.{find, starts_with}
use Rattle.std.specs.Str.{bytes_eq}
use Rattle.plan_base.specs.Words.{is_word_byte, is_word}
use Rattle.plan_lexer.specs.Faults.{◌>>=◌}
use Rattle.plan_lexer.specs.Quoted.{string_at, char_at}
use Rattle.plan_lexer.specs.Hexed.{blob_at}
use Rattle.plan_lexer.specs.Numerals.{digits_len, number_of, number_at, number_behind}
use Rattle.plan_lexer.specs.Tables.{key_text, key_of, keys, symbol_text, symbol_at, symbols}
use Rattle.plan_lexer.specs.WordTokens.{word_len, word_kind, word_at, kind_by}
use Rattle.plan_lexer.specs.Scanning.{int_at, negative_at, host_at, dev_at, part_at, hash_at, symbol_by, signed_at, token_at}
use Rattle.plan_lexer.specs.TokenForms.{IsDigits, Spells, name, key, int, negative, host, dev, part, char, string, blob, symbol, IsFront}
use Rattle.plan_lexer.proofs.SoundLemmas.{string_sound, blob_sound, char_sound, starts_by, not_ok, ok_eq}
use Rattle.plan_lexer.proofs.WordLemmas.{IsName_from_key, is_word_front, all_front, some_front}
use Rattle.plan_lexer.specs.declared.fault.LexFault.{LexFault}
use Rattle.plan_lexer.specs.declared.fault.LexFault.TheVariants.{BadChar, NumberTooLarge, LongName}
use Rattle.plan_lexer.specs.declared.token.Key.{Key}
use Rattle.plan_lexer.specs.declared.token.Symbol.{Symbol}
use Rattle.plan_lexer.specs.declared.token.TokenKind.{TokenKind}
use Rattle.plan_lexer.specs.declared.token.TokenKind.TheVariants as kind

bind_ok : {A : Type 0} (r : Result A LexFault) (next : A → Result (TokenKind × ℕ) LexFault) (read : TokenKind × ℕ) → (r >>= next) ≡ Ok read → (x : A) × (r ≡ Ok x) × (next x ≡ Ok read)
bind_ok (Ok x) next read e = (x, refl, e)
bind_ok (Err d) next read e = absurd (not_ok d read e)

none_some : {X : Type 0} (x : X) → None ≡ Some x → ⊥
none_some x e = cc

find_by : {X : Type 0} (p : X → Bool) (y : X) (rest : Option X) (x : X) → (rest ≡ Some x → p x ≡ true) → (t : Bool) → p y ≡ t → cond t (Some y) rest ≡ Some x → p x ≡ true
find_by p y rest x ih true f h = let same : y ≡ x = cc in subst (λ z. p z ≡ true) same f
find_by p y rest x ih false f h = ih h

find_passes : {X : Type 0} (p : X → Bool) (xs : List X) (x : X) → find p xs ≡ Some x → p x ≡ true
find_passes p [] x e = absurd (none_some x e)
find_passes p (y ∷ ys) x e = find_by p y (find p ys) x (find_passes p ys x) (p y) refl e

-- words
key_found : (w : List ℕ) (k : Key) → key_of w ≡ Some k → key_text k ≡ w
unfolding key_of
key_found w k e = (bytes_eq-Decides (key_text k) w).0 (find_passes (λ k. bytes_eq (key_text k) w) keys k e)

word_spells_by : (w : List ℕ) → IsTrue (is_word w) → length w ≤ 32 → (o : Option Key) → key_of w ≡ o → Spells (kind_by w o) w
word_spells_by w h short (Some k) e = subst (λ v. Spells (kind.Key k) v) (key_found w k e) (key k)
word_spells_by w h short None e = name w (IsName_from_key w h short e)

word_spells : (w : List ℕ) → IsTrue (is_word w) → length w ≤ 32 → Spells (word_kind w) w
unfolding word_kind
word_spells w h short = word_spells_by w h short (key_of w) refl

word_by : (at : ℕ) (text : List ℕ) (read : TokenKind × ℕ) → IsTrue (is_ascii_alphabetic (get_or text 0 0)) → (t : Bool) → nat_lt 32 (word_len text) ≡ t
    → cond t (Err (LongName at)) (Ok (word_kind (take (word_len text) text), at + word_len text)) ≡ Ok read → IsFront text at read.0 read.1
word_by at text read h true f e = absurd (not_ok (LongName at) read e)
word_by at text read h false f e =
    let len = length-prefix_len is_word_byte text in
    let short : length (take (word_len text) text) ≤ 32 = grind (arith, nat_tests) in
    let r : TokenKind × ℕ = (word_kind (take (word_len text) text), at + word_len text) in
    subst (λ x. IsFront text at x.0 x.1) (ok_eq r read (Ok r) refl e) (record {
      front = take (word_len text) text;
      rest = drop (word_len text) text;
      splits = sym (take-append-drop (word_len text) text);
      spells = word_spells (take (word_len text) text) (is_word_front text h) short;
      place = omega (arith, len);
    })

word_sound : (at : ℕ) (text : List ℕ) (read : TokenKind × ℕ) → IsTrue (is_ascii_alphabetic (get_or text 0 0)) → word_at at text ≡ Ok read → IsFront text at read.0 read.1
unfolding word_at
word_sound at text read h e = word_by at text read h (nat_lt 32 (word_len text)) refl e

-- numbers
record IsNumber (most : ℕ) (text : List ℕ) (v : ℕ × ℕ) : Type 0 where
  value : v.0 ≡ number_of (take (digits_len text) text)
  len : v.1 ≡ digits_len text
  small : v.0 ≤ most

number_by : (at most : ℕ) (text : List ℕ) (v : ℕ × ℕ) → (t : Bool) → nat_lt most (number_of (take (digits_len text) text)) ≡ t
    → cond t (Err (NumberTooLarge at)) (Ok (number_of (take (digits_len text) text), digits_len text)) ≡ Ok v → IsNumber most text v
number_by at most text v true f e = absurd (not_ok (NumberTooLarge at) v e)
number_by at most text v false f e =
    let r : ℕ × ℕ = (number_of (take (digits_len text) text), digits_len text) in
    subst (IsNumber most text) (ok_eq r v (Ok r) refl e) (record { value = refl; len = refl; small = grind (arith, nat_tests) })

number_sound : (at most : ℕ) (text : List ℕ) (v : ℕ × ℕ) → number_at at most text ≡ Ok v → IsNumber most text v
unfolding number_at
number_sound at most text v e = number_by at most text v (nat_lt most (number_of (take (digits_len text) text))) refl e

behind_by : (at most : ℕ) (text : List ℕ) (v : ℕ × ℕ) → (t : Bool) → (digits_len text == 0) ≡ t → cond t (Err (BadChar at)) (number_at at most text) ≡ Ok v → (0 < digits_len text) × IsNumber most text v
behind_by at most text v true f e = absurd (not_ok (BadChar at) v e)
behind_by at most text v false f e = (grind (arith, nat_tests), number_sound at most text v e)

behind_sound : (at most : ℕ) (text : List ℕ) (v : ℕ × ℕ) → number_behind at most text ≡ Ok v → (0 < digits_len text) × IsNumber most text v
unfolding number_behind
behind_sound at most text v e = behind_by at most text v (digits_len text == 0) refl e

digits_front : (text : List ℕ) → 0 < digits_len text → IsDigits (take (digits_len text) text)
digits_front text h = record { some = omega (arith, length-prefix_len is_ascii_digit text); all = all_front is_ascii_digit text }

-- a prefix of what stands behind a sign, with the sign
behind_sign : (sign : ℕ) (text : List ℕ) (at n : ℕ) (k : TokenKind) → 0 < sign → get_or text 0 0 ≡ sign → n ≡ digits_len (drop 1 text)
    → Spells k (sign ∷ take (digits_len (drop 1 text)) (drop 1 text)) → IsFront text at k (at + 1 + n)
behind_sign sign text at n k some is len spells =
    let l = length-prefix_len is_ascii_digit (drop 1 text) in
    record {
      front = sign ∷ take (digits_len (drop 1 text)) (drop 1 text);
      rest = drop (digits_len (drop 1 text)) (drop 1 text);
      splits = starts_by sign text some is ∙ ap (λ bs. sign ∷ bs) (sym (take-append-drop (digits_len (drop 1 text)) (drop 1 text)));
      spells = spells;
      place = omega (arith, l, len);
    }

-- a reading that gave this
abbrev gave : TokenKind × ℕ → Result (TokenKind × ℕ) LexFault
gave r = Ok r

by_read : (text : List ℕ) (at : ℕ) (k : TokenKind) (next : ℕ) (read : TokenKind × ℕ) → gave (k, next) ≡ Ok read → IsFront text at k next → IsFront text at read.0 read.1
by_read text at k next read e f = let r : TokenKind × ℕ = (k, next) in subst (λ x. IsFront text at x.0 x.1) (ok_eq r read (Ok r) refl e) f

int_sound : (at : ℕ) (text : List ℕ) (read : TokenKind × ℕ) → 0 < digits_len text → int_at at text ≡ Ok read → IsFront text at read.0 read.1
unfolding int_at
int_sound at text read some e =
    let b = bind_ok (number_at at 0x7fff_ffff_ffff_ffff text) (λ n. Ok (kind.Int (pos n.0), at + n.1)) read e in
    let n = number_sound at 0x7fff_ffff_ffff_ffff text b.0 b.1 in
    by_read text at (kind.Int (pos b.0.0)) (at + b.0.1) read b.2 (record {
      front = take (digits_len text) text;
      rest = drop (digits_len text) text;
      splits = sym (take-append-drop (digits_len text) text);
      spells = subst (λ v. Spells (kind.Int (pos v)) (take (digits_len text) text)) (sym n.value) (int (take (digits_len text) text) (digits_front text some) (omega (arith, n.value, n.small)));
      place = omega (arith, n.len, length-prefix_len is_ascii_digit text);
    })

negative_sound : (at : ℕ) (text : List ℕ) (read : TokenKind × ℕ) → get_or text 0 0 ≡ 126 → negative_at at (drop 1 text) ≡ Ok read → IsFront text at read.0 read.1
unfolding negative_at
negative_sound at text read is e =
    let b = bind_ok (number_behind at 0x8000_0000_0000_0000 (drop 1 text)) (λ n. Ok (kind.Int (neg_ℤ (pos n.0)), at + 1 + n.1)) read e in
    let n = behind_sound at 0x8000_0000_0000_0000 (drop 1 text) b.0 b.1 in
    by_read text at (kind.Int (neg_ℤ (pos b.0.0))) (at + 1 + b.0.1) read b.2 (behind_sign 126 text at b.0.1 (kind.Int (neg_ℤ (pos b.0.0))) (omega arith) is n.1.len
    (subst (λ v. Spells (kind.Int (neg_ℤ (pos v))) (126 ∷ take (digits_len (drop 1 text)) (drop 1 text))) (sym n.1.value)
    (negative (take (digits_len (drop 1 text)) (drop 1 text)) (digits_front (drop 1 text) n.0) (omega (arith, n.1.value, n.1.small)))))

host_sound : (at : ℕ) (text : List ℕ) (read : TokenKind × ℕ) → get_or text 0 0 ≡ 64 → host_at at (drop 1 text) ≡ Ok read → IsFront text at read.0 read.1
unfolding host_at
host_sound at text read is e =
    let b = bind_ok (number_behind at 0xffff_ffff (drop 1 text)) (λ n. Ok (kind.Host n.0, at + 1 + n.1)) read e in
    let n = behind_sound at 0xffff_ffff (drop 1 text) b.0 b.1 in
    by_read text at (kind.Host b.0.0) (at + 1 + b.0.1) read b.2 (behind_sign 64 text at b.0.1 (kind.Host b.0.0) (omega arith) is n.1.len
    (subst (λ v. Spells (kind.Host v) (64 ∷ take (digits_len (drop 1 text)) (drop 1 text))) (sym n.1.value)
    (host (take (digits_len (drop 1 text)) (drop 1 text)) (digits_front (drop 1 text) n.0) (omega (arith, n.1.value, n.1.small)))))

dev_sound : (at : ℕ) (text : List ℕ) (read : TokenKind × ℕ) → get_or text 0 0 ≡ 37 → dev_at at (drop 1 text) ≡ Ok read → IsFront text at read.0 read.1
unfolding dev_at
dev_sound at text read is e =
    let b = bind_ok (number_behind at 0xffff_ffff (drop 1 text)) (λ n. Ok (kind.Dev n.0, at + 1 + n.1)) read e in
    let n = behind_sound at 0xffff_ffff (drop 1 text) b.0 b.1 in
    by_read text at (kind.Dev b.0.0) (at + 1 + b.0.1) read b.2 (behind_sign 37 text at b.0.1 (kind.Dev b.0.0) (omega arith) is n.1.len
    (subst (λ v. Spells (kind.Dev v) (37 ∷ take (digits_len (drop 1 text)) (drop 1 text))) (sym n.1.value)
    (dev (take (digits_len (drop 1 text)) (drop 1 text)) (digits_front (drop 1 text) n.0) (omega (arith, n.1.value, n.1.small)))))

part_by : (at : ℕ) (text : List ℕ) (v : ℕ × ℕ) (read : TokenKind × ℕ) → get_or text 0 0 ≡ 35 → 0 < digits_len (drop 1 text) → IsNumber 8 (drop 1 text) v
    → (z : Bool) → (v.0 == 0) ≡ z → cond z (Err (NumberTooLarge at)) (gave (kind.Part v.0, at + 1 + v.1)) ≡ Ok read → IsFront text at read.0 read.1
part_by at text v read is some n true f e = absurd (not_ok (NumberTooLarge at) read e)
part_by at text v read is some n false f e =
    let one : 1 ≤ v.0 = grind (arith, nat_tests) in
    by_read text at (kind.Part v.0) (at + 1 + v.1) read e (behind_sign 35 text at v.1 (kind.Part v.0) (omega arith) is n.len
    (subst (λ m. Spells (kind.Part m) (35 ∷ take (digits_len (drop 1 text)) (drop 1 text))) (sym n.value)
    (part (take (digits_len (drop 1 text)) (drop 1 text)) (digits_front (drop 1 text) some) (omega (arith, n.value)) (omega (arith, n.value, n.small)))))

part_sound : (at : ℕ) (text : List ℕ) (read : TokenKind × ℕ) → get_or text 0 0 ≡ 35 → part_at at (drop 1 text) ≡ Ok read → IsFront text at read.0 read.1
unfolding part_at
part_sound at text read is e =
    let b = bind_ok (number_behind at 8 (drop 1 text)) (λ n. cond (n.0 == 0) (Err (NumberTooLarge at)) (gave (kind.Part n.0, at + 1 + n.1))) read e in
    let n = behind_sound at 8 (drop 1 text) b.0 b.1 in
    part_by at text b.0 read is n.0 n.1 (b.0.0 == 0) refl b.2

blob_front : (at : ℕ) (text : List ℕ) (read : TokenKind × ℕ) → get_or text 0 0 ≡ 35 → get_or (drop 1 text) 0 0 ≡ 34
    → (blob_at at (drop 1 (drop 1 text)) >>= λ b. gave (kind.Blob b.0, b.1)) ≡ Ok read → IsFront text at read.0 read.1
unfolding blob_at
blob_front at text read is quote e =
    let b = bind_ok (blob_at at (drop 1 (drop 1 text))) (λ b. gave (kind.Blob b.0, b.1)) read e in
    let c = blob_sound at (length (drop 1 (drop 1 text))) (at + 2) (drop 1 (drop 1 text)) b.0 (omega arith) b.1 in
    by_read text at (kind.Blob b.0.0) b.0.1 read b.2 (record {
      front = 35 ∷ 34 ∷ c.inside ++ 34 ∷ [];
      rest = c.rest;
      splits = starts_by 35 text (omega arith) is ∙ ap (λ bs. 35 ∷ bs) (starts_by 34 (drop 1 text) (omega arith) quote ∙ ap (λ bs. 34 ∷ bs) (c.splits ∙ sym (append_assoc c.inside (34 ∷ []) c.rest)));
      spells = blob c.inside b.0.0 c.spells;
      place = c.place ∙ simp length-append (omega arith);
    })

hash_sound : (at : ℕ) (text : List ℕ) (read : TokenKind × ℕ) → get_or text 0 0 ≡ 35 → hash_at at (drop 1 text) ≡ Ok read → IsFront text at read.0 read.1
unfolding hash_at
hash_sound at text read is e = by_quote (get_or (drop 1 text) 0 0 == 34) refl e
  where
    by_quote : (t : Bool) → (get_or (drop 1 text) 0 0 == 34) ≡ t → cond t (blob_at at (drop 1 (drop 1 text)) >>= λ b. gave (kind.Blob b.0, b.1)) (part_at at (drop 1 text)) ≡ Ok read → IsFront text at read.0 read.1
    by_quote true f h = blob_front at text read is (grind (arith, nat_tests)) h
    by_quote false f h = part_sound at text read is h

string_front : (at : ℕ) (text : List ℕ) (read : TokenKind × ℕ) → get_or text 0 0 ≡ 34 → (string_at at (drop 1 text) >>= λ s. gave (kind.Str s.0, s.1)) ≡ Ok read → IsFront text at read.0 read.1
unfolding string_at
string_front at text read is e =
    let b = bind_ok (string_at at (drop 1 text)) (λ s. gave (kind.Str s.0, s.1)) read e in
    let c = string_sound at (length (drop 1 text)) (at + 1) (drop 1 text) b.0 (omega arith) b.1 in
    by_read text at (kind.Str b.0.0) b.0.1 read b.2 (record {
      front = 34 ∷ c.inside ++ 34 ∷ [];
      rest = c.rest;
      splits = starts_by 34 text (omega arith) is ∙ ap (λ bs. 34 ∷ bs) (c.splits ∙ sym (append_assoc c.inside (34 ∷ []) c.rest));
      spells = string c.inside b.0.0 c.spells;
      place = c.place ∙ simp length-append (omega arith);
    })

char_front : (at : ℕ) (text : List ℕ) (read : TokenKind × ℕ) → get_or text 0 0 ≡ 39 → (char_at at (drop 1 text) >>= λ c. gave (kind.Char c.0, c.1)) ≡ Ok read → IsFront text at read.0 read.1
char_front at text read is e =
    let b = bind_ok (char_at at (drop 1 text)) (λ c. gave (kind.Char c.0, c.1)) read e in
    let c = char_sound at (drop 1 text) b.0 b.1 in
    by_read text at (kind.Char b.0.0) b.0.1 read b.2 (record {
      front = 39 ∷ c.item ++ 39 ∷ [];
      rest = c.rest;
      splits = starts_by 39 text (omega arith) is ∙ ap (λ bs. 39 ∷ bs) (c.splits ∙ sym (append_assoc c.item (39 ∷ []) c.rest));
      spells = char c.item b.0.0 c.spells;
      place = c.place ∙ simp length-append (omega arith);
    })

-- symbols
pub symbol_found : (text : List ℕ) (s : Symbol) → symbol_at text ≡ Some s → symbol_text s ≡ take (length (symbol_text s)) text
unfolding symbol_at
symbol_found text s e = (bytes_eq-Decides (symbol_text s) (take (length (symbol_text s)) text)).0 (find_passes (λ s. starts_with nat_eq text (symbol_text s)) symbols s e)

symbol_front : (at : ℕ) (text : List ℕ) (read : TokenKind × ℕ) → (o : Option Symbol) → symbol_at text ≡ o → symbol_by at o ≡ Ok read → IsFront text at read.0 read.1
symbol_front at text read None f e = absurd (not_ok (BadChar at) read e)
symbol_front at text read (Some s) f e = by_read text at (kind.Symbol s) (at + length (symbol_text s)) read e (record {
  front = symbol_text s;
  rest = drop (length (symbol_text s)) text;
  splits = sym (take-append-drop (length (symbol_text s)) text) ∙ ap (λ bs. bs ++ drop (length (symbol_text s)) text) (sym (symbol_found text s f));
  spells = symbol s;
  place = refl;
})

is_byte : (text : List ℕ) (b : ℕ) → (get_or text 0 0 == b) ≡ true → get_or text 0 0 ≡ b
is_byte text b e = grind (arith, nat_tests)

signed_sound : (at : ℕ) (text : List ℕ) (read : TokenKind × ℕ) → signed_at at text ≡ Ok read → IsFront text at read.0 read.1
unfolding signed_at
signed_sound at text read e = by_sign (get_or text 0 0 == 126) refl (get_or text 0 0 == 64) refl (get_or text 0 0 == 37) refl (get_or text 0 0 == 35) refl e
  where
    by_sign : (p : Bool) → (get_or text 0 0 == 126) ≡ p → (q : Bool) → (get_or text 0 0 == 64) ≡ q → (r : Bool) → (get_or text 0 0 == 37) ≡ r → (s : Bool) → (get_or text 0 0 == 35) ≡ s
        → cond p (negative_at at (drop 1 text)) (cond q (host_at at (drop 1 text)) (cond r (dev_at at (drop 1 text)) (cond s (hash_at at (drop 1 text)) (symbol_by at (symbol_at text))))) ≡ Ok read
        → IsFront text at read.0 read.1
    by_sign true a q b r c s d h = negative_sound at text read (is_byte text 126 a) h
    by_sign false a true b r c s d h = host_sound at text read (is_byte text 64 b) h
    by_sign false a false b true c s d h = dev_sound at text read (is_byte text 37 c) h
    by_sign false a false b false c true d h = hash_sound at text read (is_byte text 35 d) h
    by_sign false a false b false c false d h = symbol_front at text read (symbol_at text) refl h

some_digits : (text : List ℕ) → is_ascii_digit (get_or text 0 0) ≡ true → 0 < digits_len text
some_digits [] h = absurd (false_true h)
  where
    false_true : false ≡ true → ⊥
    false_true e = cc
some_digits (b ∷ more) h = some_front is_ascii_digit b more h

-- a token that is read is a prefix of the text that spells it
pub token_sound : (at : ℕ) (text : List ℕ) (k : TokenKind) (next : ℕ) → token_at at text ≡ Ok (k, next) → IsFront text at k next
unfolding token_at
token_sound at text k next e = by_first (k, next) (is_ascii_alphabetic (get_or text 0 0)) refl (is_ascii_digit (get_or text 0 0)) refl (get_or text 0 0 == 34) refl (get_or text 0 0 == 39) refl e
  where
    by_first : (read : TokenKind × ℕ) → (p : Bool) → is_ascii_alphabetic (get_or text 0 0) ≡ p → (q : Bool) → is_ascii_digit (get_or text 0 0) ≡ q → (r : Bool) → (get_or text 0 0 == 34) ≡ r
        → (s : Bool) → (get_or text 0 0 == 39) ≡ s
        → cond p (word_at at text) (cond q (int_at at text) (cond r (string_at at (drop 1 text) >>= λ s. gave (kind.Str s.0, s.1)) (cond s (char_at at (drop 1 text) >>= λ c. gave (kind.Char c.0, c.1)) (signed_at at text)))) ≡ Ok read
        → IsFront text at read.0 read.1
    by_first read true a q b r c s d h = word_sound at text read a h
    by_first read false a true b r c s d h = int_sound at text read (some_digits text b) h
    by_first read false a false b true c s d h = string_front at text read (is_byte text 34 c) h
    by_first read false a false b false c true d h = char_front at text read (is_byte text 39 d) h
    by_first read false a false b false c false d h = signed_sound at text read h
