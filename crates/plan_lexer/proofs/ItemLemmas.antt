-- An item that spells a character is read as that character.
use Rattle.std.proofs.Common.{◌≡◌, ◌≢◌, ℕ, ◌+◌, ◌*◌, ◌/◌, ◌%◌, ◌<◌, ◌≤◌, Bool, true, false, List, [], ◌∷◌, ◌++◌, length, Some, None, refl, sym, arith, ltb}
use Rattle.std.proofs.lemmas.Bool.Decides.{nat_tests}
use lib.Utf8.{scalar, encode}
use Rattle.plan_lexer.specs.CharItems.{continuation, shortest, two_bytes, three_bytes, four_bytes, wide_at, hex_value, escaped_character, hex_escape, escape_at, code_at, item_at}
use Rattle.plan_lexer.specs.TokenForms.{SpellsItem, plain, wide, letter, digits}
use Rattle.plan_lexer.specs.declared.item.CharItem.TheVariants.{Code}

wide_two : (c : ℕ) (rest : List ℕ) → 128 ≤ c → c < 2048 → scalar c ≡ true → wide_at ((192 + c / 64) ∷ (128 + c % 64) ∷ rest) ≡ Some (c, 2)
unfolding wide_at two_bytes continuation shortest
wide_two c rest low high s = grind (arith, nat_tests)

wide_three : (c : ℕ) (rest : List ℕ) → 2048 ≤ c → c < 65536 → scalar c ≡ true → wide_at ((224 + c / 4096) ∷ (128 + c / 64 % 64) ∷ (128 + c % 64) ∷ rest) ≡ Some (c, 3)
unfolding wide_at three_bytes continuation shortest
wide_three c rest low high s = grind (arith, nat_tests)

wide_four : (c : ℕ) (rest : List ℕ) → 65536 ≤ c → c < 1114112 → scalar c ≡ true → wide_at ((240 + c / 262144) ∷ (128 + c / 4096 % 64) ∷ (128 + c / 64 % 64) ∷ (128 + c % 64) ∷ rest) ≡ Some (c, 4)
unfolding wide_at four_bytes continuation shortest
wide_four c rest low high s = grind (arith, nat_tests)

encode_two : (c : ℕ) → 128 ≤ c → c < 2048 → encode c ≡ (192 + c / 64) ∷ (128 + c % 64) ∷ []
unfolding encode
encode_two c low high = grind (arith, nat_tests)

encode_three : (c : ℕ) → 2048 ≤ c → c < 65536 → encode c ≡ (224 + c / 4096) ∷ (128 + c / 64 % 64) ∷ (128 + c % 64) ∷ []
unfolding encode
encode_three c low high = grind (arith, nat_tests)

encode_four : (c : ℕ) → 65536 ≤ c → encode c ≡ (240 + c / 262144) ∷ (128 + c / 4096 % 64) ∷ (128 + c / 64 % 64) ∷ (128 + c % 64) ∷ []
unfolding encode
encode_four c low = grind (arith, nat_tests)

-- a character of more than one byte is read by its lead byte
item_wide : (quote : ℕ) (b : ℕ) (more : List ℕ) (c n : ℕ) → quote < 128 → 128 ≤ b → wide_at (b ∷ more) ≡ Some (c, n) → item_at quote (b ∷ more) ≡ Code c n
unfolding item_at code_at
item_wide quote b more c n small high e = grind (arith, nat_tests)

scalar_high : (c : ℕ) → scalar c ≡ true → c < 1114112
scalar_high c s = grind (arith, nat_tests)

reads_wide : (quote c : ℕ) (rest : List ℕ) → quote < 128 → 128 ≤ c → scalar c ≡ true → item_at quote (encode c ++ rest) ≡ Code c (length (encode c))
reads_wide quote c rest small low s = by_size (ltb c 2048) refl (ltb c 65536) refl
  where
    by_size : (two : Bool) → ltb c 2048 ≡ two → (three : Bool) → ltb c 65536 ≡ three → item_at quote (encode c ++ rest) ≡ Code c (length (encode c))
    by_size true e three f = let h : c < 2048 = grind (arith, nat_tests) in
        rw (encode_two c low h) (item_wide quote (192 + c / 64) ((128 + c % 64) ∷ rest) c 2 small (omega arith) (wide_two c rest low h s))
    by_size false e true f = let g : 2048 ≤ c = grind (arith, nat_tests) in let h : c < 65536 = grind (arith, nat_tests) in
        rw (encode_three c g h) (item_wide quote (224 + c / 4096) ((128 + c / 64 % 64) ∷ (128 + c % 64) ∷ rest) c 3 small (omega arith) (wide_three c rest g h s))
    by_size false e false f = let g : 65536 ≤ c = grind (arith, nat_tests) in
        rw (encode_four c g) (item_wide quote (240 + c / 262144) ((128 + c / 4096 % 64) ∷ (128 + c / 64 % 64) ∷ (128 + c % 64) ∷ rest) c 4 small (omega arith) (wide_four c rest g (scalar_high c s) s))

reads_plain : (quote c : ℕ) (rest : List ℕ) → 32 ≤ c → c < 127 → c ≢ 92 → c ≢ quote → item_at quote (c ∷ rest) ≡ Code c 1
unfolding item_at code_at
reads_plain quote c rest low high slash other = grind (arith, nat_tests)

escaped_x : escaped_character 120 ≡ None
unfolding escaped_character
escaped_x = refl

not_x : (l c : ℕ) → escaped_character l ≡ Some c → l ≡ 120 → ⊥
not_x l c e h = let x = escaped_x in let g : escaped_character 120 ≡ Some c = rw (sym h) e in cc

reads_letter : (quote l c : ℕ) (rest : List ℕ) → quote ≢ 92 → escaped_character l ≡ Some c → item_at quote (92 ∷ l ∷ rest) ≡ Code c 2
unfolding item_at code_at escape_at
reads_letter quote l c rest other e = let x : l ≢ 120 = not_x l c e in grind (arith, nat_tests)

reads_digits : (quote h l high low : ℕ) (rest : List ℕ) → quote ≢ 92 → hex_value h ≡ Some high → hex_value l ≡ Some low → high < 8 → item_at quote (92 ∷ 120 ∷ h ∷ l ∷ rest) ≡ Code (16 * high + low) 4
unfolding item_at code_at escape_at hex_escape
reads_digits quote h l high low rest other e f small = grind (arith, nat_tests)

-- an item that spells a character is read as it, with all its bytes
pub item_reads : (quote : ℕ) (front : List ℕ) (c : ℕ) (rest : List ℕ) → quote < 128 → quote ≢ 92 → SpellsItem quote front c → item_at quote (front ++ rest) ≡ Code c (length front)
item_reads quote _ _ rest small other (plain c low high slash apart) = reads_plain quote c rest low high slash apart
item_reads quote _ _ rest small other (wide c low s) = reads_wide quote c rest small low s
item_reads quote _ _ rest small other (letter l c e) = reads_letter quote l c rest other e
item_reads quote _ _ rest small other (digits h l high low e f eight) = reads_digits quote h l high low rest other e f eight
