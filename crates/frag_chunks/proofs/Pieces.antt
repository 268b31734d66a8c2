-- The places of a message's parts, where some of them are filled.
use Rattle.std.proofs.Common.{◌≡◌, ◌≢◌, ℕ, zero, suc, ◌+◌, ◌-◌, ◌*◌, ◌≤◌, ◌<◌, Bool, true, false, ◌&&◌, if◌then◌else◌, List, [], ◌∷◌, ◌++◌, length, drop, Option, Some, None, is_some, refl, sym, ap, ◌∙◌, arith, length-drop}
use Rattle.std.specs.Prelude.{slice_get, slice_set, replicate, min, nat_eq, nat_lt, nat_le, pos}
use Rattle.std.specs.List.{list_all}
use Rattle.std.proofs.lemmas.List.{length-take, take-append-drop, drop-drop}
use Rattle.std.proofs.lemmas.Bool.Decides.{nat_tests}
use Rattle.frag_chunks.specs.Parts.{IsMessage, parts_in, piece_of}
use Rattle.frag_chunks.specs.Gathers.{is_part, joined_pieces, filled_parts}
use Rattle.frag_chunks.specs.Messages.{given_from}

-- n places from index i on, filled where f says so
abbrev pub slots_from : (ℕ → Bool) → List ℕ → ℕ → ℕ → List (Option (List ℕ))
slots_from f b i zero = []
slots_from f b i (suc n) = (if f i then Some (piece_of b i) else None) ∷ slots_from f b (i + 1) n

pub slots_length : (f : ℕ → Bool) (b : List ℕ) (i n : ℕ) → length (slots_from f b i n) ≡ n
slots_length f b i zero = refl
slots_length f b i (suc n) = ap suc (slots_length f b (i + 1) n)

pub slots_same : (f g : ℕ → Bool) (b : List ℕ) (i n : ℕ) → ((x : ℕ) → i ≤ x → f x ≡ g x) → slots_from f b i n ≡ slots_from g b i n
slots_same f g b i zero h = refl
slots_same f g b i (suc n) h = λ t. (if h i (omega arith) t then Some (piece_of b i) else None) ∷ slots_same f g b (i + 1) n (λ x l. h x (omega arith)) t

pub slots_get : (f : ℕ → Bool) (b : List ℕ) (i n k j : ℕ) → j ≡ i + k → k < n → slice_get (slots_from f b i n) k ≡ Some (if f j then Some (piece_of b j) else None)
slots_get f b i zero k j e h = absurd (omega arith)
slots_get f b i (suc n) zero j e h = let s : i ≡ j = omega arith in ap (λ x. Some (if f x then Some (piece_of b x) else None)) s
slots_get f b i (suc n) (suc k) j e h = slots_get f b (i + 1) n k j (omega arith) (omega arith)

pub slots_set : (f g : ℕ → Bool) (b : List ℕ) (i n k j : ℕ) → j ≡ i + k → k < n → g j ≡ true → ((x : ℕ) → x ≢ j → f x ≡ g x) → slice_set (slots_from f b i n) k (Some (piece_of b j)) ≡ slots_from g b i n
slots_set f g b i zero k j e h t s = absurd (omega arith)
slots_set f g b i (suc n) zero j e h t s =
    let q : j ≡ i = omega arith in
    let here : Some (piece_of b j) ≡ (if g i then Some (piece_of b i) else None) = ap (λ x. Some (piece_of b x)) q ∙ ap (λ c. if c then Some (piece_of b i) else None) (sym (sym (ap g q) ∙ t)) in
    λ w. here w ∷ slots_same f g b (i + 1) n (λ x l. s x (omega arith)) w
slots_set f g b i (suc n) (suc k) j e h t s = λ w. (if s i (omega arith) w then Some (piece_of b i) else None) ∷ slots_set f g b (i + 1) n k j (omega arith) (omega arith) t s w

pub slots_none : (b : List ℕ) (i n : ℕ) → replicate n None ≡ slots_from (λ x. false) b i n
slots_none b i zero = refl
slots_none b i (suc n) = ap (λ xs. None ∷ xs) (slots_none b (i + 1) n)

pub slots_filled : (f : ℕ → Bool) (b : List ℕ) (i n : ℕ) → filled_parts (slots_from f b i n) ≡ given_from f i n
slots_filled f b i zero = refl
slots_filled f b i (suc n) = by (f i) (slots_filled f b (i + 1) n)
  where
    by : (t : Bool) → filled_parts (slots_from f b (i + 1) n) ≡ given_from f (i + 1) n
        → filled_parts ((if t then Some (piece_of b i) else None) ∷ slots_from f b (i + 1) n) ≡ (if t then suc (given_from f (i + 1) n) else given_from f (i + 1) n)
    by true h = ap suc h
    by false h = h

pub slots_whole : (f : ℕ → Bool) (b : List ℕ) (i n : ℕ) → ((x : ℕ) → i ≤ x → x < i + n → f x ≡ true) → list_all is_some (slots_from f b i n) ≡ true
slots_whole f b i zero h = refl
slots_whole f b i (suc n) h =
    ap (λ c. is_some (if c then Some (piece_of b i) else None) && list_all is_some (slots_from f b (i + 1) n)) (h i (omega arith) (omega arith))
    ∙ slots_whole f b (i + 1) n (λ x l m. h x (omega arith) (omega arith))

pub slots_open : (f : ℕ → Bool) (b : List ℕ) (i n x : ℕ) → i ≤ x → x < i + n → f x ≡ false → list_all is_some (slots_from f b i n) ≡ false
slots_open f b i zero x l m e = absurd (omega arith)
slots_open f b i (suc n) x l m e = by (nat_eq x i) refl (λ d. slots_open f b (i + 1) n x (omega arith) (omega arith) e)
  where
    and_false : (a c : Bool) → c ≡ false → (a && c) ≡ false
    and_false true c h = h
    and_false false c h = refl

    by : (t : Bool) → nat_eq x i ≡ t → (x ≢ i → list_all is_some (slots_from f b (i + 1) n) ≡ false) → list_all is_some (slots_from f b i (suc n)) ≡ false
    by true q r = let s : x ≡ i = grind (arith, nat_tests) in ap (λ c. is_some (if c then Some (piece_of b i) else None) && list_all is_some (slots_from f b (i + 1) n)) (sym (ap f s) ∙ e)
    by false q r = let d : x ≢ i = grind (arith, nat_tests) in and_false (is_some (if f i then Some (piece_of b i) else None)) _ (r d)

-- all data from index i on, where n parts reach the end
pub slots_joined : (f : ℕ → Bool) (b : List ℕ) (i n : ℕ) → ((x : ℕ) → i ≤ x → x < i + n → f x ≡ true) → length b ≤ 8192 * (i + n) → joined_pieces (slots_from f b i n) ≡ drop (8192 * i) b
slots_joined f b i zero h l = sym (empty (drop (8192 * i) b) (omega (arith, length-drop (8192 * i) b)))
  where
    empty : (xs : List ℕ) → length xs ≡ 0 → xs ≡ []
    empty [] e = refl
    empty (x ∷ xs) e = absurd (omega arith)
slots_joined f b i (suc n) h l =
    ap (λ c. joined_pieces ((if c then Some (piece_of b i) else None) ∷ slots_from f b (i + 1) n)) (h i (omega arith) (omega arith))
    ∙ ap (λ xs. piece_of b i ++ xs) (slots_joined f b (i + 1) n (λ x g m. h x (omega arith) (omega arith)) (omega arith) ∙ next)
    ∙ take-append-drop 8192 (drop (8192 * i) b)
  where
    next : drop (8192 * (i + 1)) b ≡ drop 8192 (drop (8192 * i) b)
    next = let s : 8192 * (i + 1) ≡ 8192 * i + 8192 = omega arith in ap (λ k. drop k b) s ∙ sym (drop-drop 8192 (8192 * i) b)

-- ---- sizes

pub parts_reach : (n : ℕ) → n ≤ 8192 * parts_in n
parts_reach n = omega arith

pub piece_length : (b : List ℕ) (i : ℕ) → length (piece_of b i) ≡ min 8192 (length b - 8192 * i)
piece_length b i = length-take 8192 (drop (8192 * i) b) ∙ ap (min 8192) (length-drop (8192 * i) b)

pub is_right : (b : List ℕ) (i : ℕ) → IsMessage b → i < parts_in (length b) → is_part (pos i) (pos (parts_in (length b))) (length (piece_of b i)) ≡ true
is_right b i m h =
    let few = m.few in
    let some = m.some in
    let p = piece_length b i in
    right (length b) i (length (piece_of b i)) some few h p
  where
    right : (n i l : ℕ) → 1 ≤ n → n ≤ 262144 → i < parts_in n → l ≡ min 8192 (n - 8192 * i) → is_part (pos i) (pos (parts_in n)) l ≡ true
    right n i l s f h p =
        let a : nat_le 1 (parts_in n) ≡ true = grind (arith, nat_tests) in
        let b : nat_le (parts_in n) 32 ≡ true = grind (arith, nat_tests) in
        let c : nat_lt i (parts_in n) ≡ true = grind (arith, nat_tests) in
        rw (a, b, c) (by (nat_lt (i + 1) (parts_in n)) refl)
      where
        by : (t : Bool) → nat_lt (i + 1) (parts_in n) ≡ t → (if t then nat_eq l 8192 else nat_le 1 l && nat_le l 8192) ≡ true
        by true e = grind (arith, nat_tests)
        by false e = grind (arith, nat_tests)
