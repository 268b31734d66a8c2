-- Blobs that are refused.
use Rattle.std.proofs.Common.{◌≡◌, ◌≢◌, ℕ, ◌+◌, ◌*◌, Bool, true, false, List, [], ◌∷◌, ◌++◌, length, Option, Some, None, Result, Ok, Err, ◌==◌, refl, sym, ◌∙◌, ap, subst, arith}
use Rattle.std.specs.Prelude.{◌↔◌, if◌then◌else◌}
use Rattle.std.proofs.lemmas.Bool.Decides.{nat_tests}
use Rattle.plan_lexer.specs.CharItems.{hex_value}
use Rattle.plan_lexer.specs.Quoted.{with_front}
use Rattle.plan_lexer.specs.Hexed.{blob_by, blob_end, blob_from, blob_at}
use Rattle.plan_lexer.specs.Scanning.{move_at}
use Rattle.plan_lexer.specs.TokenForms.{SpellsPairs, no_pairs, a_pair}
use Rattle.plan_lexer.specs.declared.token.TokenKind.TheVariants as kind
use Rattle.plan_lexer.specs.declared.fault.LexFault.{LexFault}
use Rattle.plan_lexer.specs.declared.fault.LexFault.TheVariants.{BadChar, OpenString}
use Rattle.plan_parser_laws.specs.Faulty.{EndsLine, end_of_text, end_of_line, BlobFault, open_blob, open_half, no_digit, no_second}
use Rattle.plan_parser_laws.proofs.Quotes.{front_err}
use Rattle.plan_parser_laws.proofs.Moves.{blob_move, moved_err, err_moved}

abbrev Blob : Type 0
Blob = Result (List ℕ × ℕ) LexFault

-- a digit ends no line and is no quote
digit_no_line : (h v : ℕ) → hex_value h ≡ Some v → (h == 10) ≡ false
unfolding hex_value
digit_no_line h v e = grind (arith, nat_tests)

digit_no_quote : (h v : ℕ) → hex_value h ≡ Some v → (h == 34) ≡ false
unfolding hex_value
digit_no_quote h v e = grind (arith, nat_tests)

quote_no_digit : hex_value 34 ≡ None
unfolding hex_value
quote_no_digit = refl

-- the next byte decides
first_byte : (start at : ℕ) (half : Option ℕ) (b : ℕ) (more : List ℕ) (line quote : Bool) → (b == 10) ≡ line → (b == 34) ≡ quote
    → blob_from start at half (b ∷ more) ≡ (if line then Err (OpenString start) else (if quote then blob_end at half else blob_by at (λ next. blob_from start (at + 1) next more) half (hex_value b)))
first_byte start at half b more line quote e f =
    λ i. if e i then Err (OpenString start) else (if f i then blob_end at half else blob_by at (λ next. blob_from start (at + 1) next more) half (hex_value b))

-- a digit is passed
high_goes : (start at h high : ℕ) (more : List ℕ) → hex_value h ≡ Some high → blob_from start at None (h ∷ more) ≡ blob_from start (at + 1) (Some high) more
high_goes start at h high more e =
    first_byte start at None h more false false (digit_no_line h high e) (digit_no_quote h high e) ∙ ap (blob_by at (λ next. blob_from start (at + 1) next more) None) e

low_goes : (start at high l low : ℕ) (more : List ℕ) → hex_value l ≡ Some low → blob_from start at (Some high) (l ∷ more) ≡ with_front ((16 * high + low) ∷ []) (blob_from start (at + 1) None more)
low_goes start at high l low more e =
    first_byte start at (Some high) l more false false (digit_no_line l low e) (digit_no_quote l low e) ∙ ap (blob_by at (λ next. blob_from start (at + 1) next more) (Some high)) e

-- the line ends
line_ends : (start at : ℕ) (half : Option ℕ) (text : List ℕ) → EndsLine text → blob_from start at half text ≡ Err (OpenString start)
line_ends start at half _ end_of_text = refl
line_ends start at half _ (end_of_line more) = first_byte start at half 10 more true false refl refl

-- a byte that is no digit
none_there : (start at b : ℕ) (half : Option ℕ) (more : List ℕ) → b ≢ 10 → b ≢ 34 → hex_value b ≡ None → blob_from start at half (b ∷ more) ≡ Err (BadChar at)
none_there start at b half more no_line no_quote e =
    first_byte start at half b more false false (grind (arith, nat_tests)) (grind (arith, nat_tests)) ∙ ap (blob_by at (λ next. blob_from start (at + 1) next more) half) e

half_closed : (start at high : ℕ) (more : List ℕ) → blob_from start at (Some high) (34 ∷ more) ≡ Err (BadChar at)
half_closed start at high more = first_byte start at (Some high) 34 more false true refl refl

no_second_there : (start at high b : ℕ) (more : List ℕ) → b ≢ 10 → hex_value b ≡ None → blob_from start at (Some high) (b ∷ more) ≡ Err (BadChar at)
no_second_there start at high b more no_line e = by_quote (b == 34) refl
  where
    by_quote : (q : Bool) → (b == 34) ≡ q → blob_from start at (Some high) (b ∷ more) ≡ Err (BadChar at)
    by_quote true k = let is : b ≡ 34 = grind (arith, nat_tests) in subst (λ n. blob_from start at (Some high) (n ∷ more) ≡ Err (BadChar at)) (sym is) (half_closed start at high more)
    by_quote false k = none_there start at b (Some high) more no_line (λ is. let t : (b == 34) ≡ true = grind (arith, nat_tests) in let f : false ≡ true = sym k ∙ t in cc) e

same_fault : (d e : LexFault) → ◌≡◌ {A = Blob} (Err d) (Err e) → e ≡ d
same_fault d e h = cc

-- one pair more stands before the fault
later : (e : LexFault) (start at h l high low : ℕ) (rest : List ℕ) → hex_value h ≡ Some high → hex_value l ≡ Some low → BlobFault e start (at + 1 + 1) rest → BlobFault e start at (h ∷ l ∷ rest)
later e start at h l high low rest x y (open_blob pairs bytes more is k ends q) =
    open_blob (h ∷ l ∷ pairs) ((16 * high + low) ∷ bytes) more (ap (λ t. h ∷ l ∷ t) is) (a_pair h l high low pairs bytes x y k) ends q
later e start at h l high low rest x y (open_half pairs bytes more b v is k d ends q) =
    open_half (h ∷ l ∷ pairs) ((16 * high + low) ∷ bytes) more b v (ap (λ t. h ∷ l ∷ t) is) (a_pair h l high low pairs bytes x y k) d ends q
later e start at h l high low rest x y (no_digit pairs bytes more b is k n m d q) =
    no_digit (h ∷ l ∷ pairs) ((16 * high + low) ∷ bytes) more b (ap (λ t. h ∷ l ∷ t) is) (a_pair h l high low pairs bytes x y k) n m d (q ∙ ap BadChar (omega arith))
later e start at h l high low rest x y (no_second pairs bytes more b v c is k d n m q) =
    no_second (h ∷ l ∷ pairs) ((16 * high + low) ∷ bytes) more b v c (ap (λ t. h ∷ l ∷ t) is) (a_pair h l high low pairs bytes x y k) d n m (q ∙ ap BadChar (omega arith))

-- a blob of one byte more, by what its byte is
last_faulty : (start at b : ℕ) (e : LexFault) → blob_from start at None (b ∷ []) ≡ Err e → BlobFault e start at (b ∷ [])
last_faulty start at b e h = by_first (b == 10) refl (b == 34) refl (hex_value b) refl
  where
    by_first : (p : Bool) → (b == 10) ≡ p → (q : Bool) → (b == 34) ≡ q → (v : Option ℕ) → hex_value b ≡ v → BlobFault e start at (b ∷ [])
    by_first true x q y v z =
        let is : b ≡ 10 = grind (arith, nat_tests) in
        open_blob [] [] (b ∷ []) refl no_pairs (subst (λ n. EndsLine (n ∷ [])) (sym is) (end_of_line [])) (same_fault (OpenString start) e (sym (first_byte start at None b [] true q x y) ∙ h))
    by_first false x true y v z = let o : ◌≡◌ {A = Blob} (Ok ([], at + 1)) (Err e) = sym (first_byte start at None b [] false true x y) ∙ h in cc
    by_first false x false y None z =
        let n : b ≢ 10 = grind (arith, nat_tests) in
        let m : b ≢ 34 = grind (arith, nat_tests) in
        no_digit [] [] [] b refl no_pairs n m z (same_fault (BadChar at) e (sym (none_there start at b None [] n m z) ∙ h) ∙ ap BadChar (omega arith))
    by_first false x false y (Some high) z = open_half [] [] [] b high refl no_pairs z end_of_text (same_fault (OpenString start) e (sym (high_goes start at b high [] z) ∙ h))

-- a blob of two bytes more, by what is known behind them
two_faulty : (start at b c : ℕ) (more : List ℕ) (e : LexFault) → (blob_from start (at + 1 + 1) None more ≡ Err e → BlobFault e start (at + 1 + 1) more)
    → blob_from start at None (b ∷ c ∷ more) ≡ Err e → BlobFault e start at (b ∷ c ∷ more)
two_faulty start at b c more e behind h = by_first (b == 10) refl (b == 34) refl (hex_value b) refl
  where
    by_second : (high : ℕ) → hex_value b ≡ Some high → (p : Bool) → (c == 10) ≡ p → (v : Option ℕ) → hex_value c ≡ v → BlobFault e start at (b ∷ c ∷ more)
    by_second high z true x v y =
        let is : c ≡ 10 = grind (arith, nat_tests) in
        let ends : EndsLine (c ∷ more) = subst (λ n. EndsLine (n ∷ more)) (sym is) (end_of_line more) in
        open_half [] [] (c ∷ more) b high refl no_pairs z ends (same_fault (OpenString start) e (sym (high_goes start at b high (c ∷ more) z ∙ line_ends start (at + 1) (Some high) (c ∷ more) ends) ∙ h))
    by_second high z false x None y =
        let n : c ≢ 10 = grind (arith, nat_tests) in
        no_second [] [] more b high c refl no_pairs z n y (same_fault (BadChar (at + 1)) e (sym (high_goes start at b high (c ∷ more) z ∙ no_second_there start (at + 1) high c more n y) ∙ h) ∙ ap BadChar (omega arith))
    by_second high z false x (Some low) y =
        later e start at b c high low more z y
        (behind (front_err ((16 * high + low) ∷ []) (blob_from start (at + 1 + 1) None more) e (sym (high_goes start at b high (c ∷ more) z ∙ low_goes start (at + 1) high c low more y) ∙ h)))

    by_first : (p : Bool) → (b == 10) ≡ p → (q : Bool) → (b == 34) ≡ q → (v : Option ℕ) → hex_value b ≡ v → BlobFault e start at (b ∷ c ∷ more)
    by_first true x q y v z =
        let is : b ≡ 10 = grind (arith, nat_tests) in
        open_blob [] [] (b ∷ c ∷ more) refl no_pairs (subst (λ n. EndsLine (n ∷ c ∷ more)) (sym is) (end_of_line (c ∷ more))) (same_fault (OpenString start) e (sym (first_byte start at None b (c ∷ more) true q x y) ∙ h))
    by_first false x true y v z = let o : ◌≡◌ {A = Blob} (Ok ([], at + 1)) (Err e) = sym (first_byte start at None b (c ∷ more) false true x y) ∙ h in cc
    by_first false x false y None z =
        let n : b ≢ 10 = grind (arith, nat_tests) in
        let m : b ≢ 34 = grind (arith, nat_tests) in
        no_digit [] [] (c ∷ more) b refl no_pairs n m z (same_fault (BadChar at) e (sym (none_there start at b None (c ∷ more) n m z) ∙ h) ∙ ap BadChar (omega arith))
    by_first false x false y (Some high) z = by_second high z (c == 10) refl (hex_value c) refl

blob_faulty : (start at : ℕ) (text : List ℕ) (e : LexFault) → blob_from start at None text ≡ Err e → BlobFault e start at text
blob_faulty start at [] e h = open_blob [] [] [] refl no_pairs end_of_text (same_fault (OpenString start) e h)
blob_faulty start at (b ∷ []) e h = last_faulty start at b e h
blob_faulty start at (b ∷ c ∷ more) e h = two_faulty start at b c more e (λ k. blob_faulty start (at + 1 + 1) more e k) h

-- the pairs are passed
pairs_go : (pairs bytes : List ℕ) → SpellsPairs pairs bytes → (start at : ℕ) (rest : List ℕ) (e : LexFault) → blob_from start (at + length pairs) None rest ≡ Err e → blob_from start at None (pairs ++ rest) ≡ Err e
pairs_go _ _ no_pairs start at rest e h = ap (λ n. blob_from start n None rest) (let z : at ≡ at + 0 = omega arith in z) ∙ h
pairs_go _ _ (a_pair b l high low more bytes x y others) start at rest e h =
    high_goes start at b high (l ∷ more ++ rest) x
    ∙ (low_goes start (at + 1) high l low (more ++ rest) y
    ∙ ap (with_front ((16 * high + low) ∷ [])) (pairs_go more bytes others start (at + 1 + 1) rest e (ap (λ n. blob_from start n None rest) (omega arith) ∙ h)))

faulty_blob : (start at : ℕ) (text : List ℕ) (e : LexFault) → BlobFault e start at text → blob_from start at None text ≡ Err e
faulty_blob start at text e (open_blob pairs bytes rest is k ends q) =
    ap (blob_from start at None) is ∙ pairs_go pairs bytes k start at rest e (line_ends start (at + length pairs) None rest ends ∙ ap Err (sym q))
faulty_blob start at text e (open_half pairs bytes rest h high is k d ends q) =
    ap (blob_from start at None) is ∙ pairs_go pairs bytes k start at (h ∷ rest) e (high_goes start (at + length pairs) h high rest d ∙ (line_ends start (at + length pairs + 1) (Some high) rest ends ∙ ap Err (sym q)))
faulty_blob start at text e (no_digit pairs bytes more b is k n m d q) =
    ap (blob_from start at None) is ∙ pairs_go pairs bytes k start at (b ∷ more) e (none_there start (at + length pairs) b None more n m d ∙ ap Err (sym q))
faulty_blob start at text e (no_second pairs bytes more h high b is k d n m q) =
    ap (blob_from start at None) is
    ∙ pairs_go pairs bytes k start at (h ∷ b ∷ more) e (high_goes start (at + length pairs) h high (b ∷ more) d ∙ (no_second_there start (at + length pairs + 1) high b more n m ∙ ap Err (sym q)))

pub blobs : (at : ℕ) (text : List ℕ) (e : LexFault) → (move_at at (35 ∷ 34 ∷ text) ≡ Err e) ↔ BlobFault e at (at + 2) text
unfolding blob_at
blobs at text e = (
  λ h. blob_faulty at (at + 2) text e (moved_err kind.Blob (blob_at at text) e (sym (blob_move at text) ∙ h)),
  λ h. blob_move at text ∙ err_moved kind.Blob (blob_at at text) e (faulty_blob at (at + 2) text e h),
)
