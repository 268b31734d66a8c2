-- Which fault a stray front has.
use Rattle.std.proofs.Common.{◌≡◌, ℕ, zero, suc, ◌+◌, ◌-◌, ◌*◌, ◌<◌, ◌≤◌, ◌^◌, Bool, true, false, cond, List, [], ◌∷◌, ◌++◌, length, get_or, drop, take, Option, Some, None, Result, Ok, Err, nat_lt}
use Rattle.std.proofs.Common.{◌==◌, ◌&&◌, pos, neg_ℤ, refl, sym, ap, ◌∙◌, arith, inl, inr, ◌⊎◌}
use Rattle.std.specs.Prelude.{◌↔◌, if◌then◌else◌, IsTrue}
use Rattle.std.specs.Char.{is_ascii_digit, is_ascii_alphabetic}
use Rattle.std.specs.List.{list_all, prefix_len}
use Rattle.std.proofs.lemmas.Bool.{le-ltb}
use Rattle.std.proofs.lemmas.Bool.Decides.{nat_tests}
use Rattle.std.proofs.lemmas.List.{take-append-drop}
use Rattle.std.proofs.lemmas.List.Folds.{length-prefix_len}
use Rattle.containers.proofs.Bools.{and_left, and_right}
use Rattle.plan_base.specs.Words.{is_word_byte, is_word}
use Rattle.plan_lexer.specs.Faults.{◌>>=◌}
use Rattle.plan_lexer.specs.Gaps.{comment_at, gap_at}
use Rattle.plan_lexer.specs.Quoted.{string_at, char_at}
use Rattle.plan_lexer.specs.Hexed.{blob_at}
use Rattle.plan_lexer.specs.Numerals.{number_from, number_of, digits_len, number_at, number_behind}
use Rattle.plan_lexer.specs.Tables.{symbol_at}
use Rattle.plan_lexer.specs.WordTokens.{word_len, word_kind, word_at}
use Rattle.plan_lexer.specs.Scanning.{int_at, negative_at, host_at, dev_at, part_at, hash_at, symbol_by, signed_at, token_at, move_at}
use Rattle.plan_lexer.specs.TokenForms.{IsDigits, HasForm, a_word, a_number, a_signed, a_char, a_string, a_blob, a_symbol, Spells, name, key, int, negative, host, dev, part, char, string, blob, symbol}
use Rattle.plan_lexer.specs.declared.token.Symbol.{Symbol}
use Rattle.plan_lexer.specs.declared.token.TokenKind.{TokenKind}
use Rattle.plan_lexer.specs.declared.token.TokenKind.TheVariants as kind
use Rattle.plan_lexer.specs.declared.fault.LexFault.{LexFault}
use Rattle.plan_lexer.specs.declared.fault.LexFault.TheVariants.{BadChar, NumberTooLarge, LongName}
use Rattle.plan_lexer.proofs.NumeralLemmas.{number_from_le}
use Rattle.plan_lexer.proofs.ReadLemmas.{number_behind_reads}
use Rattle.plan_lexer.proofs.WordLemmas.{all_front, is_word_front, some_front}
use Rattle.plan_lexer.proofs.SpellLemmas.{first_word, first_digit, digit_no_letter, digits_first, digit_no_quote, is_name_word, word_first, word_bytes}
use Rattle.plan_lexer.proofs.TableLemmas.{is_word-key}
use Rattle.plan_lexer.proofs.SoundLemmas.{starts_by}
use Rattle.plan_lexer.proofs.LawLemmas.{form_refused}
use Rattle.plan_lexer.proofs.FrontLemmas.{token_sound}
use Rattle.plan_parser_laws.specs.Strays.{IsStray, StrayFault, long_word, large_int, large_negative, large_host, large_dev, large_part, no_part, no_token}

-- ---- prefixes of digits

passes_within : (p : ℕ → Bool) (front rest : List ℕ) → list_all p front ≡ true → length front ≤ prefix_len p (front ++ rest)
passes_within p [] rest h = omega arith
passes_within p (b ∷ front) rest h =
    let e = passes_within p front rest (and_right (p b) (list_all p front) h) in
    rw (and_left (p b) (list_all p front) h) (omega (arith, e))

front_of : (front rest : List ℕ) (n : ℕ) → length front ≤ n → take n (front ++ rest) ≡ front ++ take (n - length front) rest
front_of [] rest n h = let e : n ≡ n - 0 = omega arith in ap (λ m. take m rest) e
front_of (b ∷ front) rest zero h = absurd (omega (arith, h))
front_of (b ∷ front) rest (suc n) h =
    let e : n - length front ≡ suc n - suc (length front) = omega arith in
    ap (λ l. b ∷ l) (front_of front rest n (omega (arith, h))) ∙ ap (λ m. b ∷ (front ++ take m rest)) e

number-append : (v : ℕ) (ds more : List ℕ) → number_from v (ds ++ more) ≡ number_from (number_from v ds) more
number-append v [] more = refl
number-append v (b ∷ ds) more = number-append (10 * v + (b - 48)) ds more

-- the digits that a text begins with
digits_of : List ℕ → List ℕ
digits_of text = take (digits_len text) text

digits_are : (text : List ℕ) → 0 < digits_len text → IsDigits (digits_of text)
unfolding digits_of
digits_are text h = record { some = (let e = length-prefix_len is_ascii_digit text in omega (arith, e, h)); all = all_front is_ascii_digit text }

digits_split : (text : List ℕ) → text ≡ digits_of text ++ drop (digits_len text) text
unfolding digits_of
digits_split text = sym (take-append-drop (digits_len text) text)

behind_digits : (text : List ℕ) → is_ascii_digit (get_or (drop (digits_len text) text) 0 0) ≡ false
behind_digits [] = refl
behind_digits (b ∷ more) = go (behind_digits more) (is_ascii_digit b) refl
  where
    go : is_ascii_digit (get_or (drop (digits_len more) more) 0 0) ≡ false → (t : Bool) → is_ascii_digit b ≡ t → is_ascii_digit (get_or (drop (cond t (1 + digits_len more) 0) (b ∷ more)) 0 0) ≡ false
    go h true e = let n : 1 + digits_len more ≡ suc (digits_len more) = omega arith in ap (λ m. is_ascii_digit (get_or (drop m (b ∷ more)) 0 0)) n ∙ h
    go h false e = e

more_digits : (ds rest : List ℕ) → IsDigits ds → number_of ds ≤ number_of (digits_of (ds ++ rest))
unfolding digits_of
more_digits ds rest h =
    let within = passes_within is_ascii_digit ds rest h.all in
    let e = front_of ds rest (digits_len (ds ++ rest)) within in
    let n = ap number_of e ∙ number-append 0 ds (take (digits_len (ds ++ rest) - length ds) rest) in
    let l = number_from_le (number_of ds) (take (digits_len (ds ++ rest) - length ds) rest) in
    omega (arith, n, l)

some_digits : (ds rest : List ℕ) → IsDigits ds → 0 < digits_len (ds ++ rest)
some_digits ds rest h = let w = passes_within is_ascii_digit ds rest h.all in let s = h.some in omega (arith, w, s)

-- ---- what was read, as one answer

abbrev gave : TokenKind × ℕ → Result (TokenKind × ℕ) LexFault
gave t = Ok t

abbrev by_size : ℕ → Bool → ℕ × ℕ → Result (ℕ × ℕ) LexFault
by_size at over n = cond over (Err (NumberTooLarge at)) (Ok n)

abbrev by_length : ℕ → Bool → TokenKind × ℕ → Result (TokenKind × ℕ) LexFault
by_length at long t = cond long (Err (LongName at)) (Ok t)

abbrev by_zero : ℕ → ℕ × ℕ → Bool → Result (TokenKind × ℕ) LexFault
by_zero at n none = cond none (Err (NumberTooLarge at)) (Ok (kind.Part n.0, at + 1 + n.1))

-- ---- numbers out of range

number_over : (at most : ℕ) (text : List ℕ) → most < number_of (digits_of text) → number_at at most text ≡ Err (NumberTooLarge at)
unfolding number_at digits_of
number_over at most text h = grind (arith, nat_tests)

behind_over : (at most : ℕ) (ds rest : List ℕ) → IsDigits ds → most < number_of ds → number_behind at most (ds ++ rest) ≡ Err (NumberTooLarge at)
unfolding number_behind
behind_over at most ds rest h over =
    let some = some_digits ds rest h in
    let more = more_digits ds rest h in
    let e = number_over at most (ds ++ rest) (omega (arith, more, over)) in
    ap (λ (b : Bool). if b then Err (BadChar at) else number_at at most (ds ++ rest)) (let z : (digits_len (ds ++ rest) == 0) ≡ false = grind (arith, nat_tests) in z) ∙ e

-- a number that is refused is out of range, or has no digit
record IsOver (most : ℕ) (text : List ℕ) : Type 0 where
  digits : List ℕ
  rest : List ℕ
  is : text ≡ digits ++ rest
  are : IsDigits digits
  over : most < number_of digits

number_err : (at most : ℕ) (text : List ℕ) (e : LexFault) → 0 < digits_len text → number_at at most text ≡ Err e → (e ≡ NumberTooLarge at) × IsOver most text
unfolding number_at digits_of
number_err at most text e some h = go (nat_lt most (number_of (take (digits_len text) text))) refl h
  where
    go : (b : Bool) → nat_lt most (number_of (take (digits_len text) text)) ≡ b → by_size at b (number_of (take (digits_len text) text), digits_len text) ≡ Err e
        → (e ≡ NumberTooLarge at) × IsOver most text
    go true q r = (
      (let z : NumberTooLarge at ≡ e = cc in sym z),
      record { digits = digits_of text; rest = drop (digits_len text) text; is = digits_split text; are = digits_are text some; over = grind (arith, nat_tests) },
    )
    go false q r = absurd (cc)

behind_err : (at most : ℕ) (text : List ℕ) (e : LexFault) → number_behind at most text ≡ Err e → (e ≡ BadChar at) ⊎ ((e ≡ NumberTooLarge at) × IsOver most text)
unfolding number_behind
behind_err at most text e h = go (digits_len text == 0) refl h
  where
    go : (b : Bool) → (digits_len text == 0) ≡ b → (if b then Err (BadChar at) else number_at at most text) ≡ Err e → (e ≡ BadChar at) ⊎ ((e ≡ NumberTooLarge at) × IsOver most text)
    go true q r = inl (let z : BadChar at ≡ e = cc in sym z)
    go false q r = inr (number_err at most text e (grind (arith, nat_tests)) r)

then_err : {A B : Type 0} (r : Result A LexFault) (k : A → B) (e : LexFault) → (r >>= λ a. Ok (k a)) ≡ Err e → r ≡ Err e
then_err (Ok a) k e h = absurd (cc)
then_err (Err d) k e h = let same : d ≡ e = cc in ap Err same

err_then : {A B : Type 0} (r : Result A LexFault) (k : A → Result B LexFault) (e : LexFault) → r ≡ Err e → (r >>= k) ≡ Err e
err_then r k e h = ap (λ q. q >>= k) h

-- ---- from the reading to the forms

behind_ok : (at most : ℕ) (text : List ℕ) (n : ℕ × ℕ) → number_behind at most text ≡ Ok n → (0 < digits_len text) × (n.0 ≡ number_of (digits_of text))
unfolding number_behind number_at digits_of
behind_ok at most text n h = go (digits_len text == 0) refl (nat_lt most (number_of (take (digits_len text) text))) h
  where
    go : (z : Bool) → (digits_len text == 0) ≡ z → (b : Bool) → (if z then Err (BadChar at) else by_size at b (number_of (take (digits_len text) text), digits_len text)) ≡ Ok n
        → (0 < digits_len text) × (n.0 ≡ number_of (take (digits_len text) text))
    go true q b r = absurd (cc)
    go false q true r = absurd (cc)
    go false q false r = (
      grind (arith, nat_tests),
      (let same : (number_of (take (digits_len text) text), digits_len text) ≡ n = cc in ap (λ m. m.0) (sym same)),
    )

module _ (at : ℕ) (text : List ℕ) (e : LexFault) (refused : token_at at text ≡ Err e) where
  bad : e ≡ BadChar at → StrayFault e at text
  bad q = no_token (λ front rest is form. conflict (form_refused at text e refused front rest is form)) q
    where
      conflict : (e ≡ LongName at) ⊎ (e ≡ NumberTooLarge at) → ⊥
      conflict (inl p) = let z : BadChar at ≡ LongName at = sym q ∙ p in cc
      conflict (inr p) = let z : BadChar at ≡ NumberTooLarge at = sym q ∙ p in cc

  of_word : is_ascii_alphabetic (get_or text 0 0) ≡ true → word_at at text ≡ Err e → StrayFault e at text
  unfolding word_at
  of_word a h = go (nat_lt 32 (word_len text)) refl h
    where
      go : (b : Bool) → nat_lt 32 (word_len text) ≡ b → by_length at b (word_kind (take (word_len text) text), at + word_len text) ≡ Err e → StrayFault e at text
      go true q r =
          let n = length-prefix_len is_word_byte text in
          let long : 32 < word_len text = grind (arith, nat_tests) in
          long_word (take (word_len text) text) (drop (word_len text) text) (sym (take-append-drop (word_len text) text)) (is_word_front text a) (omega (arith, n, long)) (let z : LongName at ≡ e = cc in sym z)
      go false q r = absurd (cc)

  of_int : is_ascii_digit (get_or text 0 0) ≡ true → int_at at text ≡ Err e → StrayFault e at text
  unfolding int_at
  of_int d h =
      let n = number_err at 0x7fff_ffff_ffff_ffff text e (some text d) (then_err _ (λ n. (kind.Int (pos n.0), at + n.1)) e h) in
      let o = n.1.over in
      large_int n.1.digits n.1.rest n.1.is n.1.are (omega (arith, o)) n.0
    where
      some : (text : List ℕ) → is_ascii_digit (get_or text 0 0) ≡ true → 0 < digits_len text
      some [] h = absurd (cc)
      some (b ∷ more) h = some_front is_ascii_digit b more h

  -- behind a sign
  signed_by : (sign most : ℕ) → 0 < sign → get_or text 0 0 ≡ sign → number_behind at most (drop 1 text) ≡ Err e
      → ((ds rest : List ℕ) → text ≡ sign ∷ ds ++ rest → IsDigits ds → most < number_of ds → e ≡ NumberTooLarge at → StrayFault e at text) → StrayFault e at text
  signed_by sign most some is h large = go (behind_err at most (drop 1 text) e h)
    where
      go : (e ≡ BadChar at) ⊎ ((e ≡ NumberTooLarge at) × IsOver most (drop 1 text)) → StrayFault e at text
      go (inl q) = bad q
      go (inr n) = large n.1.digits n.1.rest (starts_by sign text some is ∙ ap (λ l. sign ∷ l) n.1.is) n.1.are n.1.over n.0

  of_part : get_or text 0 0 ≡ 35 → part_at at (drop 1 text) ≡ Err e → StrayFault e at text
  unfolding part_at
  of_part is h = by_number (number_behind at 8 (drop 1 text)) refl h
    where
      of_zero : (n : ℕ × ℕ) → number_behind at 8 (drop 1 text) ≡ Ok n → (b : Bool) → (n.0 == 0) ≡ b → by_zero at n b ≡ Err e → StrayFault e at text
      of_zero n q true z r =
          let m = behind_ok at 8 (drop 1 text) n q in
          let zero_is : number_of (digits_of (drop 1 text)) ≡ 0 = (let k = m.1 in let none : n.0 ≡ 0 = grind (arith, nat_tests) in omega (arith, k, none)) in
          no_part (digits_of (drop 1 text)) (drop (digits_len (drop 1 text)) (drop 1 text)) (starts_by 35 text (omega arith) is ∙ ap (λ l. 35 ∷ l) (digits_split (drop 1 text))) (digits_are (drop 1 text) m.0) zero_is
          (behind_digits (drop 1 text)) (let y : NumberTooLarge at ≡ e = cc in sym y)
      of_zero n q false z r = absurd (cc)

      by_number : (r : Result (ℕ × ℕ) LexFault) → number_behind at 8 (drop 1 text) ≡ r → (r >>= λ n. by_zero at n (n.0 == 0)) ≡ Err e → StrayFault e at text
      by_number (Ok n) q r = of_zero n q (n.0 == 0) refl r
      by_number (Err d) q r = let same : d ≡ e = cc in signed_by 35 8 (omega arith) is (q ∙ ap Err same) (λ ds rest i a o z. large_part ds rest i a o z)

  of_hash : ((get_or text 0 0 == 35) && (get_or text 1 0 == 34)) ≡ false → get_or text 0 0 ≡ 35 → hash_at at (drop 1 text) ≡ Err e → StrayFault e at text
  unfolding hash_at
  of_hash apart is h = go (get_or (drop 1 text) 0 0 == 34) refl h
    where
      second : (text : List ℕ) → get_or (drop 1 text) 0 0 ≡ get_or text 1 0
      second [] = refl
      second (b ∷ more) = refl

      go : (b : Bool) → (get_or (drop 1 text) 0 0 == 34) ≡ b → cond b (blob_at at (drop 1 (drop 1 text)) >>= λ b. gave (kind.Blob b.0, b.1)) (part_at at (drop 1 text)) ≡ Err e → StrayFault e at text
      go true q r =
          let f : (get_or text 0 0 == 35) ≡ true = grind (arith, nat_tests) in
          let g : (get_or text 1 0 == 34) ≡ true = ap (λ m. m == 34) (sym (second text)) ∙ q in
          let z : true ≡ false = sym (λ i. f i && g i) ∙ apart in absurd (cc)
      go false q r = of_part is r

  of_symbol : (o : Option Symbol) → symbol_by at o ≡ Err e → StrayFault e at text
  of_symbol None h = bad (let z : BadChar at ≡ e = cc in sym z)
  of_symbol (Some s) h = absurd (cc)

  of_sign : ((get_or text 0 0 == 35) && (get_or text 1 0 == 34)) ≡ false → signed_at at text ≡ Err e → StrayFault e at text
  unfolding signed_at negative_at host_at dev_at
  of_sign apart h = go (get_or text 0 0 == 126) refl (get_or text 0 0 == 64) refl (get_or text 0 0 == 37) refl (get_or text 0 0 == 35) refl h
    where
      byte : (b : ℕ) → (get_or text 0 0 == b) ≡ true → get_or text 0 0 ≡ b
      byte b q = grind (arith, nat_tests)

      go : (p : Bool) → (get_or text 0 0 == 126) ≡ p → (q : Bool) → (get_or text 0 0 == 64) ≡ q → (r : Bool) → (get_or text 0 0 == 37) ≡ r → (s : Bool) → (get_or text 0 0 == 35) ≡ s
          → cond p (negative_at at (drop 1 text)) (cond q (host_at at (drop 1 text)) (cond r (dev_at at (drop 1 text)) (cond s (hash_at at (drop 1 text)) (symbol_by at (symbol_at text))))) ≡ Err e → StrayFault e at text
      go true a q b r c s d i = signed_by 126 0x8000_0000_0000_0000 (omega arith) (byte 126 a) (then_err _ (λ n. (kind.Int (neg_ℤ (pos n.0)), at + 1 + n.1)) e i) (λ ds rest is are o z. large_negative ds rest is are (omega (arith, o)) z)
      go false a true b r c s d i = signed_by 64 0xffff_ffff (omega arith) (byte 64 b) (then_err _ (λ n. (kind.Host n.0, at + 1 + n.1)) e i) (λ ds rest is are o z. large_host ds rest is are (omega (arith, o)) z)
      go false a false b true c s d i = signed_by 37 0xffff_ffff (omega arith) (byte 37 c) (then_err _ (λ n. (kind.Dev n.0, at + 1 + n.1)) e i) (λ ds rest is are o z. large_dev ds rest is are (omega (arith, o)) z)
      go false a false b false c true d i = of_hash apart (byte 35 d) i
      go false a false b false c false d i = of_symbol (symbol_at text) i

  pub stray_has_fault : IsStray text → StrayFault e at text
  unfolding token_at
  stray_has_fault stray = go (is_ascii_alphabetic (get_or text 0 0)) refl (is_ascii_digit (get_or text 0 0)) refl (get_or text 0 0 == 34) refl (get_or text 0 0 == 39) refl refused
    where
      byte : (b : ℕ) → (get_or text 0 0 == b) ≡ true → get_or text 0 0 ≡ b
      byte b q = grind (arith, nat_tests)

      go : (p : Bool) → is_ascii_alphabetic (get_or text 0 0) ≡ p → (q : Bool) → is_ascii_digit (get_or text 0 0) ≡ q → (r : Bool) → (get_or text 0 0 == 34) ≡ r → (s : Bool) → (get_or text 0 0 == 39) ≡ s
          → cond p (word_at at text) (cond q (int_at at text)
          (cond r (string_at at (drop 1 text) >>= λ s. gave (kind.Str s.0, s.1)) (cond s (char_at at (drop 1 text) >>= λ c. gave (kind.Char c.0, c.1)) (signed_at at text))))
          ≡ Err e → StrayFault e at text
      go true a q b r c s d i = of_word a i
      go false a true b r c s d i = of_int b i
      go false a false b true c s d i = absurd (stray.no_string (byte 34 c))
      go false a false b false c true d i = absurd (stray.no_char (byte 39 d))
      go false a false b false c false d i = of_sign stray.no_blob i

-- ---- and back

has_form : (k : TokenKind) (front : List ℕ) → Spells k front → HasForm front
has_form _ _ (name w h) = a_word w (is_name_word w h)
has_form _ _ (key k) = a_word _ (is_word-key k)
has_form _ _ (int ds h small) = a_number ds h
has_form _ _ (negative ds h small) = a_signed 126 ds (inl refl) h
has_form _ _ (host ds h small) = a_signed 64 ds (inr (inl refl)) h
has_form _ _ (dev ds h small) = a_signed 37 ds (inr (inr (inl refl))) h
has_form _ _ (part ds h one small) = a_signed 35 ds (inr (inr (inr refl))) h
has_form _ _ (char item c h) = a_char item c h
has_form _ _ (string items bytes h) = a_string items bytes h
has_form _ _ (blob pairs bytes h) = a_blob pairs bytes h
has_form _ _ (symbol s) = a_symbol s

-- where nothing has the form of a token, the fault is that
formless : (d : LexFault) (at : ℕ) (text : List ℕ) → ((front rest : List ℕ) → text ≡ front ++ rest → HasForm front → ⊥) → StrayFault d at text → d ≡ BadChar at
formless d at text none (long_word w rest is h n q) = absurd (none w rest is (a_word w h))
formless d at text none (large_int ds rest is h n q) = absurd (none ds rest is (a_number ds h))
formless d at text none (large_negative ds rest is h n q) = absurd (none (126 ∷ ds) rest is (a_signed 126 ds (inl refl) h))
formless d at text none (large_host ds rest is h n q) = absurd (none (64 ∷ ds) rest is (a_signed 64 ds (inr (inl refl)) h))
formless d at text none (large_dev ds rest is h n q) = absurd (none (37 ∷ ds) rest is (a_signed 37 ds (inr (inr (inl refl))) h))
formless d at text none (large_part ds rest is h n q) = absurd (none (35 ∷ ds) rest is (a_signed 35 ds (inr (inr (inr refl))) h))
formless d at text none (no_part ds rest is h n s q) = absurd (none (35 ∷ ds) rest is (a_signed 35 ds (inr (inr (inr refl))) h))
formless d at text none (no_token _ q) = q

long_at : (at : ℕ) (w rest : List ℕ) → IsTrue (is_word w) → 32 < length w → token_at at (w ++ rest) ≡ Err (LongName at)
unfolding word_at
long_at at w rest h n =
    let l = passes_within is_word_byte w rest (word_bytes w h) in
    let long : nat_lt 32 (word_len (w ++ rest)) ≡ true = grind (arith, nat_tests) in
    first_word at (w ++ rest) (word_first w rest h) ∙ ap (λ (b : Bool). by_length at b (word_kind (take (word_len (w ++ rest)) (w ++ rest)), at + word_len (w ++ rest))) long

int_over : (at : ℕ) (ds rest : List ℕ) → IsDigits ds → 2 ^ 63 ≤ number_of ds → token_at at (ds ++ rest) ≡ Err (NumberTooLarge at)
unfolding int_at
int_over at ds rest h n =
    let d = digits_first ds rest h in
    let more = more_digits ds rest h in
    first_digit at (ds ++ rest) (digit_no_letter (get_or (ds ++ rest) 0 0) d) d ∙ err_then (number_at at 0x7fff_ffff_ffff_ffff (ds ++ rest)) _ (NumberTooLarge at) (number_over at 0x7fff_ffff_ffff_ffff (ds ++ rest) (omega (arith, more, n)))

module _ (at : ℕ) (ds rest : List ℕ) (h : IsDigits ds) where
  negative_over : 2 ^ 63 < number_of ds → token_at at (126 ∷ ds ++ rest) ≡ Err (NumberTooLarge at)
  unfolding token_at signed_at negative_at
  negative_over n = err_then (number_behind at 0x8000_0000_0000_0000 (ds ++ rest)) _ (NumberTooLarge at) (behind_over at 0x8000_0000_0000_0000 ds rest h (omega (arith, n)))

  host_over : 2 ^ 32 ≤ number_of ds → token_at at (64 ∷ ds ++ rest) ≡ Err (NumberTooLarge at)
  unfolding token_at signed_at host_at
  host_over n = err_then (number_behind at 0xffff_ffff (ds ++ rest)) _ (NumberTooLarge at) (behind_over at 0xffff_ffff ds rest h (omega (arith, n)))

  dev_over : 2 ^ 32 ≤ number_of ds → token_at at (37 ∷ ds ++ rest) ≡ Err (NumberTooLarge at)
  unfolding token_at signed_at dev_at
  dev_over n = err_then (number_behind at 0xffff_ffff (ds ++ rest)) _ (NumberTooLarge at) (behind_over at 0xffff_ffff ds rest h (omega (arith, n)))

  hash_same : hash_at at (ds ++ rest) ≡ part_at at (ds ++ rest)
  unfolding hash_at
  hash_same = let q = digit_no_quote (get_or (ds ++ rest) 0 0) (digits_first ds rest h) in grind (arith, nat_tests)

  hash_is : token_at at (35 ∷ ds ++ rest) ≡ part_at at (ds ++ rest)
  unfolding token_at signed_at
  hash_is = hash_same

  part_over : 8 < number_of ds → token_at at (35 ∷ ds ++ rest) ≡ Err (NumberTooLarge at)
  unfolding part_at
  part_over n = hash_is ∙ err_then (number_behind at 8 (ds ++ rest)) _ (NumberTooLarge at) (behind_over at 8 ds rest h n)

  part_zero : number_of ds ≡ 0 → is_ascii_digit (get_or rest 0 0) ≡ false → token_at at (35 ∷ ds ++ rest) ≡ Err (NumberTooLarge at)
  unfolding part_at
  part_zero n s =
      let q = number_behind_reads at 8 ds rest h s (omega (arith, n)) in
      let z : (number_of ds == 0) ≡ true = grind (arith, nat_tests) in
      hash_is ∙ (ap (λ (r : Result (ℕ × ℕ) LexFault). r >>= λ n. by_zero at n (n.0 == 0)) q
      ∙ ap (λ (b : Bool). by_zero at (number_of ds, length ds) b) z)

-- the same of a text that is such a front and a rest
same_fault : (at : ℕ) (e d : LexFault) (text whole : List ℕ) → text ≡ whole → token_at at whole ≡ Err d → e ≡ d → token_at at text ≡ Err e
same_fault at e d text whole is h q = ap (token_at at) is ∙ (h ∙ ap Err (sym q))

refuses : (at : ℕ) (text : List ℕ) (e : LexFault) → IsStray text → StrayFault e at text → token_at at text ≡ Err e
refuses at text e stray (long_word w rest is h n q) = same_fault at e (LongName at) text (w ++ rest) is (long_at at w rest h n) q
refuses at text e stray (large_int ds rest is h n q) = same_fault at e (NumberTooLarge at) text (ds ++ rest) is (int_over at ds rest h n) q
refuses at text e stray (large_negative ds rest is h n q) = same_fault at e (NumberTooLarge at) text (126 ∷ ds ++ rest) is (negative_over at ds rest h n) q
refuses at text e stray (large_host ds rest is h n q) = same_fault at e (NumberTooLarge at) text (64 ∷ ds ++ rest) is (host_over at ds rest h n) q
refuses at text e stray (large_dev ds rest is h n q) = same_fault at e (NumberTooLarge at) text (37 ∷ ds ++ rest) is (dev_over at ds rest h n) q
refuses at text e stray (large_part ds rest is h n q) = same_fault at e (NumberTooLarge at) text (35 ∷ ds ++ rest) is (part_over at ds rest h n) q
refuses at text e stray (no_part ds rest is h n s q) = same_fault at e (NumberTooLarge at) text (35 ∷ ds ++ rest) is (part_zero at ds rest h n s) q
refuses at text e stray (no_token none q) = go (token_at at text) refl
  where
    go : (r : Result (TokenKind × ℕ) LexFault) → token_at at text ≡ r → token_at at text ≡ Err e
    go (Ok t) h = let f = token_sound at text t.0 t.1 h in absurd (none f.front f.rest f.splits (has_form t.0 f.front f.spells))
    go (Err d) h = h ∙ ap Err (formless d at text none (stray_has_fault at text d h stray) ∙ sym q)

-- ---- as a move

move_is : (at : ℕ) (text : List ℕ) → IsStray text → move_at at text ≡ (token_at at text >>= λ t. Ok (Some t.0, t.1))
unfolding move_at gap_at
move_is at text s =
    (λ i. (if s.no_blank i then Ok (at + 1) else (if s.no_comment i then comment_at at (drop 2 text) else Ok at)) >>= λ next. if nat_lt at next then Ok (None, next) else (token_at at text >>= λ t. Ok (Some t.0, t.1)))
    ∙ ap (λ (b : Bool). if b then Ok (None, at) else (token_at at text >>= λ t. Ok (Some t.0, t.1))) (le-ltb at at (omega arith))

pub strays : (at : ℕ) (text : List ℕ) (e : LexFault) → IsStray text → (move_at at text ≡ Err e) ↔ StrayFault e at text
strays at text e s = (
  λ h. stray_has_fault at text e (then_err (token_at at text) (λ t. (Some t.0, t.1)) e (sym (move_is at text s) ∙ h)) s,
  λ f. move_is at text s ∙ err_then (token_at at text) _ e (refuses at text e s f),
)
