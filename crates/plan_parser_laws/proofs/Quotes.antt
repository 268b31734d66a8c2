-- Strings and chars that are refused.
use Rattle.std.proofs.Common.{◌≡◌, ◌≢◌, ℕ, zero, suc, ◌+◌, ◌<◌, ◌≤◌, Bool, true, false, List, [], ◌∷◌, ◌++◌, length, drop, get_or, Option, Some, None, Result, Ok, Err, ◌==◌, refl, sym, ◌∙◌, ap, subst, arith, append_assoc, length-append}
use Rattle.std.specs.Prelude.{◌↔◌, encode_utf8, if◌then◌else◌}
use Rattle.std.proofs.lemmas.Bool.Decides.{nat_tests}
use Rattle.plan_lexer.specs.CharItems.{item_at, item_from, code_at}
use Rattle.plan_lexer.specs.Quoted.{with_front, string_from, string_at, char_by, char_at}
use Rattle.plan_lexer.specs.Scanning.{move_at}
use Rattle.plan_lexer.specs.TokenForms.{SpellsItem, SpellsItems, no_items, an_item}
use Rattle.plan_lexer.specs.declared.token.TokenKind.TheVariants as kind
use Rattle.plan_lexer.specs.declared.fault.LexFault.{LexFault}
use Rattle.plan_lexer.specs.declared.fault.LexFault.TheVariants.{BadChar, OpenString}
use Rattle.plan_lexer.proofs.SoundItems.{IsFrontItem, item_cons, item_front}
use Rattle.plan_lexer.proofs.ItemLemmas.{item_reads}
use Rattle.plan_lexer.proofs.ReadLemmas.{drop_front, item_some, char_reads}
use Rattle.plan_lexer.proofs.QuotedLemmas.{with_front-twice, string_goes}
use Rattle.plan_lexer.proofs.SoundLemmas.{char_sound}
use Rattle.plan_parser_laws.specs.Faulty.{EndsLine, end_of_text, end_of_line, NoItem, StringFault, open_string, wrong_item, CharFault}
use Rattle.plan_parser_laws.proofs.Moves.{string_move, char_move, moved_err, err_moved}

-- ---- what stands where an item must

-- a byte that ends no line and is no quote begins the item that its code gives
item_is : (quote a : ℕ) (more : List ℕ) → (a == 10) ≡ false → (a == quote) ≡ false → item_at quote (a ∷ more) ≡ item_from (code_at (a ∷ more))
item_is quote a more e f = rw (item_cons quote a more, e, f) refl

-- with a code it begins an item, and what begins one has a code
code_front : (quote a : ℕ) (more : List ℕ) (c w : ℕ) → (a == 10) ≡ false → (a == quote) ≡ false → code_at (a ∷ more) ≡ Some (c, w) → IsFrontItem quote (a ∷ more) c w
code_front quote a more c w e f k = item_front quote (a ∷ more) c w (item_is quote a more e f ∙ ap item_from k)

no_code : (quote a : ℕ) (more front rest : List ℕ) (c : ℕ) → quote < 128 → quote ≢ 92 → (a == 10) ≡ false → (a == quote) ≡ false → code_at (a ∷ more) ≡ None → a ∷ more ≡ front ++ rest → SpellsItem quote front c → ⊥
no_code quote a more front rest c low slash e f n s k =
    let there : item_from None ≡ item_at quote (front ++ rest) = ap item_from (sym n) ∙ (sym (item_is quote a more e f) ∙ ap (item_at quote) s) in
    let is = item_reads quote front c rest low slash k in
    cc

none_is : (quote a : ℕ) (more : List ℕ) → quote < 128 → quote ≢ 92 → (a == 10) ≡ false → (a == quote) ≡ false → code_at (a ∷ more) ≡ None → NoItem quote (a ∷ more)
none_is quote a more low slash e f n = record {
  first = a;
  more = more;
  is = refl;
  no_end = grind (arith, nat_tests);
  no_quote = grind (arith, nat_tests);
  no_item = λ front rest c s k. no_code quote a more front rest c low slash e f n s k;
}

none_code : (quote a : ℕ) (more : List ℕ) → (a == 10) ≡ false → (a == quote) ≡ false → ((front rest : List ℕ) (c : ℕ) → a ∷ more ≡ front ++ rest → SpellsItem quote front c → ⊥) → code_at (a ∷ more) ≡ None
none_code quote a more e f none = by_code (code_at (a ∷ more)) refl
  where
    by_code : (o : Option (ℕ × ℕ)) → code_at (a ∷ more) ≡ o → code_at (a ∷ more) ≡ None
    by_code None k = k
    by_code (Some x) k = let g = code_front quote a more x.0 x.1 e f k in absurd (none g.front g.rest x.0 g.splits g.spells)

-- ---- strings

pub front_err : (front : List ℕ) (r : Result (List ℕ × ℕ) LexFault) (e : LexFault) → with_front front r ≡ Err e → r ≡ Err e
front_err front (Ok x) e h = cc
front_err front (Err d) e h = let same : d ≡ e = cc in ap Err same

same_fault : (d e : LexFault) → ◌≡◌ {A = Result (List ℕ × ℕ) LexFault} (Err d) (Err e) → e ≡ d
same_fault d e h = cc

-- one item more stands before the fault
later : (e : LexFault) (start at : ℕ) (front rest : List ℕ) (c : ℕ) → SpellsItem 34 front c → StringFault e start (at + length front) rest → StringFault e start at (front ++ rest)
later e start at front rest c s (open_string items bytes more is k ends q) =
    open_string (front ++ items) (encode_utf8 c ++ bytes) more (ap (λ t. front ++ t) is ∙ sym (append_assoc front items more)) (an_item front items c bytes s k) ends q
later e start at front rest c s (wrong_item items bytes more is k none q) =
    wrong_item (front ++ items) (encode_utf8 c ++ bytes) more (ap (λ t. front ++ t) is ∙ sym (append_assoc front items more)) (an_item front items c bytes s k) none
    (q ∙ ap BadChar (let l = length-append front items in omega (arith, l)))

-- what the first byte of a string makes of it
line_at : (start at a : ℕ) (more : List ℕ) → (a == 10) ≡ true → string_from start at 0 (a ∷ more) ≡ Err (OpenString start)
line_at start at a more e = rw (item_cons 34 a more, e) refl

closes_at : (start at a : ℕ) (more : List ℕ) → (a == 10) ≡ false → (a == 34) ≡ true → string_from start at 0 (a ∷ more) ≡ Ok ([], at + 1)
closes_at start at a more e f = rw (item_cons 34 a more, e, f) refl

wrong_at : (start at a : ℕ) (more : List ℕ) → (a == 10) ≡ false → (a == 34) ≡ false → code_at (a ∷ more) ≡ None → string_from start at 0 (a ∷ more) ≡ Err (BadChar at)
wrong_at start at a more e f k = rw (item_cons 34 a more, e, f, k) refl

ends_at : (start at : ℕ) (text : List ℕ) → EndsLine text → string_from start at 0 text ≡ Err (OpenString start)
ends_at start at _ end_of_text = refl
ends_at start at _ (end_of_line more) = line_at start at 10 more refl

none_at : (start at : ℕ) (text : List ℕ) → NoItem 34 text → string_from start at 0 text ≡ Err (BadChar at)
none_at start at text n =
    let e : (n.first == 10) ≡ false = let h = n.no_end in grind (arith, nat_tests) in
    let f : (n.first == 34) ≡ false = let h = n.no_quote in grind (arith, nat_tests) in
    ap (string_from start at 0) n.is
    ∙ wrong_at start at n.first n.more e f (none_code 34 n.first n.more e f (λ front rest c s k. n.no_item front rest c (n.is ∙ s) k))

-- by what is known of shorter texts
string_step : (start at a : ℕ) (more : List ℕ) (e : LexFault) → ((place : ℕ) (rest : List ℕ) → length rest < length (a ∷ more) → string_from start place 0 rest ≡ Err e → StringFault e start place rest)
    → string_from start at 0 (a ∷ more) ≡ Err e → StringFault e start at (a ∷ more)
string_step start at a more e shorter h = by_first (a == 10) refl (a == 34) refl (code_at (a ∷ more)) refl
  where
    by_first : (p : Bool) → (a == 10) ≡ p → (q : Bool) → (a == 34) ≡ q → (o : Option (ℕ × ℕ)) → code_at (a ∷ more) ≡ o → StringFault e start at (a ∷ more)
    by_first true x q y o z =
        let is : a ≡ 10 = grind (arith, nat_tests) in
        open_string [] [] (a ∷ more) refl no_items (subst (λ n. EndsLine (n ∷ more)) (sym is) (end_of_line more)) (same_fault (OpenString start) e (sym (line_at start at a more x) ∙ h))
    by_first false x true y o z = let k : ◌≡◌ {A = Result (List ℕ × ℕ) LexFault} (Ok ([], at + 1)) (Err e) = sym (closes_at start at a more x y) ∙ h in cc
    by_first false x false y None z =
        wrong_item [] [] (a ∷ more) refl no_items (none_is 34 a more (omega arith) (omega arith) x y z) (same_fault (BadChar at) e (sym (wrong_at start at a more x y z) ∙ h) ∙ ap BadChar (omega arith))
    by_first false x false y (Some (c, w)) z =
        let f = code_front 34 a more c w x y z in
        let some = item_some 34 f.front c f.spells in
        let l = f.len in
        let goes = string_goes start at (a ∷ more) c w (item_is 34 a more x y ∙ ap item_from z) (omega (arith, some, l)) in
        let behind : drop w (a ∷ more) ≡ f.rest = ap (λ n. drop n (a ∷ more)) f.len ∙ (ap (drop (length f.front)) f.splits ∙ drop_front f.front f.rest) in
        let next : string_from start (at + length f.front) 0 f.rest ≡ Err e =
        ap (λ n. string_from start (at + n) 0 f.rest) (sym f.len) ∙ (ap (string_from start (at + w) 0) (sym behind) ∙ front_err (encode_utf8 c) (string_from start (at + w) 0 (drop w (a ∷ more))) e (sym goes ∙ h)) in
        let len = ap length f.splits ∙ length-append f.front f.rest in
        subst (StringFault e start at) (sym f.splits) (later e start at f.front f.rest c f.spells (shorter (at + length f.front) f.rest (omega (arith, some, len)) next))

string_faulty : (fuel start at : ℕ) (text : List ℕ) (e : LexFault) → length text ≤ fuel → string_from start at 0 text ≡ Err e → StringFault e start at text
string_faulty fuel start at [] e small h = open_string [] [] [] refl no_items end_of_text (same_fault (OpenString start) e h)
string_faulty zero start at (b ∷ more) e small h = absurd (omega (arith, small))
string_faulty (suc fuel) start at (b ∷ more) e small h = string_step start at b more e (λ place rest less k. string_faulty fuel start place rest e (omega (arith, small, less)) k) h

-- the items are passed
items_go : (items bytes : List ℕ) → SpellsItems 34 items bytes → (start at : ℕ) (rest : List ℕ) → string_from start at 0 (items ++ rest) ≡ with_front bytes (string_from start (at + length items) 0 rest)
items_go _ _ no_items start at rest = ap (λ n. string_from start n 0 rest) (let z : at ≡ at + 0 = omega arith in z) ∙ sym (none_front (string_from start (at + 0) 0 rest))
  where
    none_front : (r : Result (List ℕ × ℕ) LexFault) → with_front [] r ≡ r
    none_front (Ok x) = refl
    none_front (Err e) = refl
items_go _ _ (an_item front more c bytes item others) start at rest =
    ap (string_from start at 0) (append_assoc front more rest)
    ∙ (string_goes start at (front ++ (more ++ rest)) c (length front) (item_reads 34 front c (more ++ rest) (omega arith) (omega arith) item) (item_some 34 front c item)
    ∙ (ap (λ t. with_front (encode_utf8 c) (string_from start (at + length front) 0 t)) (drop_front front (more ++ rest))
    ∙ (ap (with_front (encode_utf8 c)) (items_go more bytes others start (at + length front) rest)
    ∙ (with_front-twice (encode_utf8 c) bytes (string_from start (at + length front + length more) 0 rest)
    ∙ ap (λ n. with_front (encode_utf8 c ++ bytes) (string_from start n 0 rest)) (let l = length-append front more in omega (arith, l))))))

pub faulty_string : (start at : ℕ) (text : List ℕ) (e : LexFault) → StringFault e start at text → string_from start at 0 text ≡ Err e
faulty_string start at text e (open_string items bytes rest is k ends q) =
    ap (string_from start at 0) is ∙ (items_go items bytes k start at rest ∙ (ap (with_front bytes) (ends_at start (at + length items) rest ends) ∙ ap Err (sym q)))
faulty_string start at text e (wrong_item items bytes rest is k none q) =
    ap (string_from start at 0) is ∙ (items_go items bytes k start at rest ∙ (ap (with_front bytes) (none_at start (at + length items) rest none) ∙ ap Err (sym q)))

pub strings : (at : ℕ) (text : List ℕ) (e : LexFault) → (move_at at (34 ∷ text) ≡ Err e) ↔ StringFault e at (at + 1) text
unfolding string_at
strings at text e = (
  λ h. string_faulty (length text) at (at + 1) text e (omega arith) (moved_err kind.Str (string_at at text) e (sym (string_move at text) ∙ h)),
  λ h. string_move at text ∙ err_moved kind.Str (string_at at text) e (faulty_string at (at + 1) text e h),
)

-- ---- chars

same_char : (d e : LexFault) → ◌≡◌ {A = Result (ℕ × ℕ) LexFault} (Err d) (Err e) → e ≡ d
same_char d e h = cc

wrong_char : (start a : ℕ) (more : List ℕ) → (a == 10) ≡ true → char_at start (a ∷ more) ≡ Err (BadChar start)
unfolding char_at char_by
wrong_char start a more e = rw (item_cons 39 a more, e) refl

quote_char : (start a : ℕ) (more : List ℕ) → (a == 10) ≡ false → (a == 39) ≡ true → char_at start (a ∷ more) ≡ Err (BadChar start)
unfolding char_at char_by
quote_char start a more e f = rw (item_cons 39 a more, e, f) refl

none_char : (start a : ℕ) (more : List ℕ) → (a == 10) ≡ false → (a == 39) ≡ false → code_at (a ∷ more) ≡ None → char_at start (a ∷ more) ≡ Err (BadChar start)
unfolding char_at char_by
none_char start a more e f k = rw (item_cons 39 a more, e, f, k) refl

some_char : (start a : ℕ) (more : List ℕ) (c w : ℕ) → (a == 10) ≡ false → (a == 39) ≡ false → code_at (a ∷ more) ≡ Some (c, w) → char_at start (a ∷ more) ≡ (if get_or (a ∷ more) w 0 == 39 then Ok (c, start + w + 2) else Err (BadChar start))
unfolding char_at char_by
some_char start a more c w e f k = rw (item_cons 39 a more, e, f, k) refl

char_refused : (start : ℕ) (text : List ℕ) (e : LexFault) → char_at start text ≡ Err e → e ≡ BadChar start
unfolding char_at char_by item_at
char_refused start [] e h = same_char (BadChar start) e h
char_refused start (a ∷ more) e h = by_first (a == 10) refl (a == 39) refl (code_at (a ∷ more)) refl
  where
    by_first : (p : Bool) → (a == 10) ≡ p → (q : Bool) → (a == 39) ≡ q → (o : Option (ℕ × ℕ)) → code_at (a ∷ more) ≡ o → e ≡ BadChar start
    by_first true x q y o z = same_char (BadChar start) e (sym (wrong_char start a more x) ∙ h)
    by_first false x true y o z = same_char (BadChar start) e (sym (quote_char start a more x y) ∙ h)
    by_first false x false y None z = same_char (BadChar start) e (sym (none_char start a more x y z) ∙ h)
    by_first false x false y (Some (c, w)) z = by_quote (get_or (a ∷ more) w 0 == 39) (sym (some_char start a more c w x y z) ∙ h)
      where
        by_quote : (b : Bool) → ◌≡◌ {A = Result (ℕ × ℕ) LexFault} (if b then Ok (c, start + w + 2) else Err (BadChar start)) (Err e) → e ≡ BadChar start
        by_quote true k = cc
        by_quote false k = same_char (BadChar start) e k

char_faulty : (start : ℕ) (text : List ℕ) (e : LexFault) → char_at start text ≡ Err e → CharFault e start text
unfolding char_at
char_faulty start text e h = record {
  none = λ item rest c q s. let o : ◌≡◌ {A = Result (ℕ × ℕ) LexFault} (Ok (c, start + length item + 2)) (Err e) = sym (char_reads item c s start rest) ∙ (ap (char_at start) (sym q) ∙ h) in cc;
  is = char_refused start text e h;
}

faulty_char : (start : ℕ) (text : List ℕ) (e : LexFault) → CharFault e start text → char_at start text ≡ Err e
faulty_char start text e f = by_answer (char_at start text) refl
  where
    by_answer : (r : Result (ℕ × ℕ) LexFault) → char_at start text ≡ r → char_at start text ≡ Err e
    by_answer (Ok x) q = let c = char_sound start text x q in absurd (f.none c.item c.rest x.0 c.splits c.spells)
    by_answer (Err d) q = q ∙ ap Err ((char_faulty start text d q).is ∙ sym f.is)

pub chars : (at : ℕ) (text : List ℕ) (e : LexFault) → (move_at at (39 ∷ text) ≡ Err e) ↔ CharFault e at text
chars at text e = (
  λ h. char_faulty at text e (moved_err kind.Char (char_at at text) e (sym (char_move at text) ∙ h)),
  λ h. char_move at text ∙ err_moved kind.Char (char_at at text) e (faulty_char at text e h),
)
