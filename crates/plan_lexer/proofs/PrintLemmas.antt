-- Each printed form spells its token.
use Rattle.std.proofs.Common.{◌≡◌, ◌≢◌, ℕ, suc, ◌+◌, ◌-◌, ◌*◌, ◌/◌, ◌%◌, ◌^◌, ◌<◌, ◌≤◌, Bool, true, false, cond, ◌||◌, List, [], ◌∷◌, ◌++◌, get_or, Some, ℤ, pos, negsuc, neg_ℤ, refl, sym, ap, ◌∙◌}
use Rattle.std.proofs.Common.{subst, arith, append-nil, length-append, add-one, FitsSigned, w64, ltb, ◌==◌, nat_lt, nat_le}
use Rattle.std.proofs.lemmas.Bool.Decides.{nat_tests}
use Rattle.std.proofs.lemmas.Fmt.{decimal_by_steps}
use Rattle.std.proofs.lemmas.Str.{encode_ascii}
use Rattle.std.proofs.lemmas.List.Concat.{flat_map-append}
use Rattle.std.specs.Char.{is_ascii_digit, IsScalar}
use Rattle.std.specs.Fmt.{decimal}
use Rattle.std.specs.List.{list_all, flat_map}
use Rattle.std.specs.Str.{IsUtf8}
use lib.Utf8.{encode, encodes, scalar, scalars}
use Rattle.containers.proofs.Bools.{and_left, and_right}
use Rattle.plan_lexer.specs.CharItems.{hex_value, escaped_character}
use Rattle.plan_lexer.specs.Numerals.{number_from, number_of}
use Rattle.plan_printer_spec.specs.Literals.{int_text, host_text, dev_text, part_text, hex_digit, hex_pair, byte_text, string_text, char_text, blob_text}
use Rattle.plan_lexer.specs.TokenForms.{IsDigits, SpellsItem, plain, wide, letter, digits, SpellsItems, no_items, an_item, SpellsPairs, no_pairs, a_pair, Spells, int, negative, host, dev, part, char, string, blob}
use Rattle.plan_lexer.proofs.WordLemmas.{and_both}
use Rattle.plan_lexer.specs.declared.token.TokenKind.TheVariants as kind

number_from-append : (v : ℕ) (xs ys : List ℕ) → number_from v (xs ++ ys) ≡ number_from (number_from v xs) ys
number_from-append v [] ys = refl
number_from-append v (x ∷ xs) ys = number_from-append (10 * v + (x - 48)) xs ys

list_all-append : (p : ℕ → Bool) (xs ys : List ℕ) → list_all p xs ≡ true → list_all p ys ≡ true → list_all p (xs ++ ys) ≡ true
list_all-append p [] ys a b = b
list_all-append p (x ∷ xs) ys a b = and_both (p x) (list_all p (xs ++ ys)) (and_left (p x) (list_all p xs) a) (list_all-append p xs ys (and_right (p x) (list_all p xs) a) b)

-- digits that spell a number
record IsNumeral (n : ℕ) (ds : List ℕ) : Type 0 where
  are : IsDigits ds
  value : number_of ds ≡ n

one_digit : (d : ℕ) → d < 10 → list_all is_ascii_digit ((48 + d) ∷ []) ≡ true
one_digit d h = grind (arith, nat_tests)

by_digits : (n : ℕ) → n < 2 ^ 64 → IsNumeral n (decimal n)
by_digits n small = decimal_by_steps IsNumeral
    (λ d h. record { are = record { some = omega arith; all = one_digit d h }; value = omega arith })
    (λ m ds h r. record {
      are = record { some = simp length-append (omega (arith, r.are.some)); all = list_all-append is_ascii_digit ds ((48 + m % 10) ∷ []) r.are.all (one_digit (m % 10) (omega arith)) };
      value = number_from-append 0 ds ((48 + m % 10) ∷ []) ∙ omega (arith, r.value);
    }) n small

spells_pos : (n : ℕ) → n < 2 ^ 63 → Spells (kind.Int (pos n)) (decimal n)
spells_pos n h = let r = by_digits n (omega arith) in subst (λ m. Spells (kind.Int (pos m)) (decimal n)) r.value (int (decimal n) r.are (omega (arith, r.value)))

spells_neg : (n : ℕ) → n < 2 ^ 63 → Spells (kind.Int (negsuc n)) (126 ∷ decimal (n + 1))
spells_neg n h = let r = by_digits (n + 1) (omega arith) in
    subst (λ m. Spells (kind.Int (neg_ℤ (pos m))) (126 ∷ decimal (n + 1))) (r.value ∙ add-one n) (negative (decimal (n + 1)) r.are (omega (arith, r.value)))

pub spells_int : (z : ℤ) → FitsSigned w64 z → Spells (kind.Int z) (int_text z)
unfolding int_text
spells_int (pos n) h = spells_pos n (omega (arith, h.sfits))
spells_int (negsuc n) h = spells_neg n (omega (arith, h.sfits))

pub spells_host : (n : ℕ) → n < 2 ^ 32 → Spells (kind.Host n) (host_text n)
unfolding host_text
spells_host n h = let r = by_digits n (omega arith) in subst (λ m. Spells (kind.Host m) (64 ∷ decimal n)) r.value (host (decimal n) r.are (omega (arith, r.value)))

pub spells_dev : (n : ℕ) → n < 2 ^ 32 → Spells (kind.Dev n) (dev_text n)
unfolding dev_text
spells_dev n h = let r = by_digits n (omega arith) in subst (λ m. Spells (kind.Dev m) (37 ∷ decimal n)) r.value (dev (decimal n) r.are (omega (arith, r.value)))

pub spells_part : (n : ℕ) → 1 ≤ n → n ≤ 8 → Spells (kind.Part n) (part_text n)
unfolding part_text
spells_part n g h = let r = by_digits n (omega arith) in subst (λ m. Spells (kind.Part m) (35 ∷ decimal n)) r.value (part (decimal n) r.are (omega (arith, r.value)) (omega (arith, r.value)))

hex_value-digit : (v : ℕ) → v < 16 → hex_value (hex_digit v) ≡ Some v
unfolding hex_value
hex_value-digit v h = grind (arith, nat_tests)

spells_pairs : (bytes : List ℕ) → ((i : ℕ) → get_or bytes i 0 < 256) → SpellsPairs (flat_map hex_pair bytes) bytes
spells_pairs [] h = no_pairs
spells_pairs (b ∷ bytes) h =
    let small : b < 256 = h 0 in
    subst (λ x. SpellsPairs (hex_digit (b / 16) ∷ hex_digit (b % 16) ∷ flat_map hex_pair bytes) (x ∷ bytes)) (omega arith)
    (a_pair (hex_digit (b / 16)) (hex_digit (b % 16)) (b / 16) (b % 16) (flat_map hex_pair bytes) bytes (hex_value-digit (b / 16) (omega arith)) (hex_value-digit (b % 16) (omega arith)) (spells_pairs bytes (λ i. h (suc i))))

pub spells_blob : (bytes : List ℕ) → ((i : ℕ) → get_or bytes i 0 < 256) → Spells (kind.Blob bytes) (blob_text bytes)
unfolding blob_text
spells_blob bytes h = blob (flat_map hex_pair bytes) bytes (spells_pairs bytes h)

quote_own : escaped_character 34 ≡ Some 34
unfolding escaped_character
quote_own = refl

tick_own : escaped_character 39 ≡ Some 39
unfolding escaped_character
tick_own = refl

escape_quote : (quote : ℕ) → escaped_character quote ≡ Some quote → (b : ℕ) → ((b == quote) || (b == 92)) ≡ true → escaped_character b ≡ Some b
unfolding escaped_character
escape_quote quote e b h = grind (arith, nat_tests)

spells_control : (quote b : ℕ) → b < 128 → SpellsItem quote (92 ∷ 120 ∷ hex_pair b) b
spells_control quote b small =
    subst (λ x. SpellsItem quote (92 ∷ 120 ∷ hex_pair b) x) (omega arith)
    (digits (hex_digit (b / 16)) (hex_digit (b % 16)) (b / 16) (b % 16) (hex_value-digit (b / 16) (omega arith)) (hex_value-digit (b % 16) (omega arith)) (omega arith))

spells_letter : (quote l b c : ℕ) → b ≡ c → escaped_character l ≡ Some c → SpellsItem quote (92 ∷ l ∷ []) b
spells_letter quote l b c e h = subst (λ x. SpellsItem quote (92 ∷ l ∷ []) x) (sym e) (letter l c h)

module _ (quote : ℕ) (own : escaped_character quote ≡ Some quote) where
  byte_by : (b : ℕ) → b < 128 → (q : Bool) → ((b == quote) || (b == 92)) ≡ q → (n : Bool) → (b == 10) ≡ n → (t : Bool) → (b == 9) ≡ t → (r : Bool) → (b == 13) ≡ r
      → (x : Bool) → (nat_lt b 32 || (b == 127)) ≡ x
      → SpellsItem quote (cond q (92 ∷ b ∷ []) (cond n (92 ∷ 110 ∷ []) (cond t (92 ∷ 116 ∷ []) (cond r (92 ∷ 114 ∷ []) (cond x (92 ∷ 120 ∷ hex_pair b) (b ∷ [])))))) b
  unfolding escaped_character
  byte_by b small true e n f t g r h x i = letter b b (escape_quote quote own b e)
  byte_by b small false e true f t g r h x i = spells_letter quote 110 b 10 (grind (arith, nat_tests)) refl
  byte_by b small false e false f true g r h x i = spells_letter quote 116 b 9 (grind (arith, nat_tests)) refl
  byte_by b small false e false f false g true h x i = spells_letter quote 114 b 13 (grind (arith, nat_tests)) refl
  byte_by b small false e false f false g false h true i = spells_control quote b small
  byte_by b small false e false f false g false h false i = plain b (at_least b i) (at_most b i small) (no_slash b e) (no_quote b e)
    where
      at_least : (b : ℕ) → (nat_lt b 32 || (b == 127)) ≡ false → 32 ≤ b
      at_least b i = grind (arith, nat_tests)

      at_most : (b : ℕ) → (nat_lt b 32 || (b == 127)) ≡ false → b < 128 → b < 127
      at_most b i s = grind (arith, nat_tests)

      no_slash : (b : ℕ) → ((b == quote) || (b == 92)) ≡ false → b ≢ 92
      no_slash b e = grind (arith, nat_tests)

      no_quote : (b : ℕ) → ((b == quote) || (b == 92)) ≡ false → b ≢ quote
      no_quote b e = grind (arith, nat_tests)

  spells_byte : (b : ℕ) → b < 128 → SpellsItem quote (byte_text quote b) b
  unfolding byte_text
  spells_byte b small = byte_by b small ((b == quote) || (b == 92)) refl (b == 10) refl (b == 9) refl (b == 13) refl (nat_lt b 32 || (b == 127)) refl

  high_byte : (b : ℕ) → 128 ≤ b → quote < 128 → byte_text quote b ≡ b ∷ []
  unfolding byte_text
  high_byte b high low = grind (arith, nat_tests)

  high_bytes : (bs : List ℕ) → list_all (λ b. nat_le 128 b) bs ≡ true → quote < 128 → flat_map (byte_text quote) bs ≡ bs
  high_bytes [] h low = refl
  high_bytes (b ∷ bs) h low =
      let high : 128 ≤ b = at_least b (and_left (nat_le 128 b) (list_all (λ b. nat_le 128 b) bs) h) in
      rw (high_byte b high low) (ap (λ xs. b ∷ xs) (high_bytes bs (and_right (nat_le 128 b) (list_all (λ b. nat_le 128 b) bs) h) low))
    where
      at_least : (b : ℕ) → nat_le 128 b ≡ true → 128 ≤ b
      at_least b e = grind (arith, nat_tests)

  high_encode : (c : ℕ) → 128 ≤ c → list_all (λ b. nat_le 128 b) (encode c) ≡ true
  unfolding encode
  high_encode c high = grind (arith, nat_tests)

  spells_code : (c : ℕ) → IsScalar c → quote < 128 → SpellsItem quote (flat_map (byte_text quote) (encode c)) c
  spells_code c s low = by_size (ltb c 128) refl
    where
      by_size : (t : Bool) → ltb c 128 ≡ t → SpellsItem quote (flat_map (byte_text quote) (encode c)) c
      by_size true e = let small : c < 128 = grind (arith, nat_tests) in
          rw (encode_ascii c small) (subst (λ bs. SpellsItem quote bs c) (sym (append-nil (byte_text quote c))) (spells_byte c small))
      by_size false e = let high : 128 ≤ c = grind (arith, nat_tests) in
          rw (high_bytes (encode c) (high_encode c high) low) (wide c high s)

spells_codes : (cs : List ℕ) → scalars cs ≡ true → SpellsItems 34 (flat_map (byte_text 34) (encodes cs)) (encodes cs)
spells_codes [] h = no_items
spells_codes (c ∷ cs) h =
    rw (flat_map-append (byte_text 34) (encode c) (encodes cs))
    (an_item (flat_map (byte_text 34) (encode c)) (flat_map (byte_text 34) (encodes cs)) c (encodes cs) (spells_code 34 quote_own c (and_left (scalar c) (scalars cs) h) (omega arith)) (spells_codes cs (and_right (scalar c) (scalars cs) h)))

pub spells_string : (bytes : List ℕ) → IsUtf8 bytes → Spells (kind.Str bytes) (string_text bytes)
unfolding string_text
spells_string bytes u = string (flat_map (byte_text 34) bytes) bytes (subst (λ bs. SpellsItems 34 (flat_map (byte_text 34) bs) bs) u.1.1 (spells_codes u.0 u.1.0))

pub spells_char : (c : ℕ) → IsScalar c → Spells (kind.Char c) (char_text c)
unfolding char_text
spells_char c s = char (flat_map (byte_text 39) (encode c)) c (spells_code 39 tick_own c s (omega arith))
