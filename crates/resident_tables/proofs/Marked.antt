-- Rows that go: what their marks say, the index afterwards, and the steps of the loops over it.
use Rattle.std.proofs.Common.{◌≡◌, inl, inr, ℕ, zero, suc, ◌+◌, ◌-◌, ◌*◌, ◌%◌, ◌<◌, ◌≤◌, true, false, List, [], ◌∷◌, ◌++◌, length, get_or, map, take, drop, refl, sym, ap, ◌∙◌, subst, arith}
use Rattle.std.proofs.Math.ListN.{set}
use Rattle.std.proofs.lemmas.Bool.{cases_lt}
use Rattle.std.proofs.lemmas.List.{append-nil, append_assoc, length-map, length-take-le, map-set, set-get_or, get_or-map, get_or-drop, get_or-append_right, take_all, take_more_set, drop_all, drop_more}
use Rattle.std.proofs.lemmas.List.Edits.{map_over_more}
use Rattle.std.proofs.lemmas.List.Elements.{All-head, All-tail}
use Rattle.std.proofs.lemmas.Nat.{mod-mul-add}
use Rattle.std.specs.Prelude.{slice_index, nat_lt}
use Rattle.std.specs.List.{All, filter}
use Rattle.service_api.specs.declared.row.Row.{Row}
use Rattle.service_api.specs.Rows.{row_key, is_live, living}
use Rattle.resident_tables.specs.Index.{key_at, IsIndex}
use Rattle.resident_tables.specs.Passes.{place_of, mark_of, mark_here, left_here, marks}
use Rattle.resident_tables.proofs.Indexes.{IsMove, index_kept}
use Rattle.resident_tables.proofs.Limits.{living_less}
use Rattle.resident_tables.proofs.Lists.{true_or_false}
use Rattle.resident_tables.proofs.Steps.{kept_first, gone_first}

-- ---- the marks

module _ (now all left : ℕ) (x : Row) (xs : List Row) where
  marks_kept : is_live now x ≡ true → marks now all left (x ∷ xs) ≡ left ∷ marks now all (left + 1) xs
  marks_kept e = rw e

  marks_gone : is_live now x ≡ false → marks now all left (x ∷ xs) ≡ all ∷ marks now all left xs
  marks_gone e = rw e

  pub counted_first : left_here now left x + length (living now xs) ≡ left + length (living now (x ∷ xs))
  counted_first = elim (true_or_false (is_live now x)) [
    | inl e ↦ rw e (omega arith)
    | inr e ↦ rw e refl
  ]

  pub left_within : (i : ℕ) → left ≤ i → left_here now left x ≤ i + 1
  left_within i h = elim (true_or_false (is_live now x)) [
    | inl e ↦ rw e (omega arith)
    | inr e ↦ rw e (omega arith)
  ]

-- a mark is no place before which rows stay
marks_least : (now all left : ℕ) (xs : List Row) (p : ℕ) → left + length (living now xs) ≤ all → p < length xs → left ≤ slice_index (marks now all left xs) p
marks_least now all left [] p f h = absurd (omega arith)
marks_least now all left (x ∷ xs) zero f h = elim (true_or_false (is_live now x)) [
  | inl e ↦ rw e (omega arith)
  | inr e ↦ rw e (omega arith)
]
marks_least now all left (x ∷ xs) (suc p) f h = elim (true_or_false (is_live now x)) [
  | inl e ↦
      let n = ap length (kept_first now x xs e) in
      let l = marks_least now all (left + 1) xs p (omega arith) (omega arith) in
      rw (marks_kept now all left x xs e) (omega arith)
  | inr e ↦
      let n = ap length (gone_first now x xs e) in
      rw (marks_gone now all left x xs e) (marks_least now all left xs p (omega arith) (omega arith))
]

-- a row whose mark is below how many stay stands there
marked_at : (now all left : ℕ) (xs : List Row) (p r : ℕ) → left + length (living now xs) ≤ all → p < length xs → slice_index (marks now all left xs) p ≡ left + r → r < length (living now xs)
    → key_at (map row_key (living now xs)) r ≡ key_at (map row_key xs) p
marked_at now all left [] p r f h m l = absurd (omega arith)
marked_at now all left (x ∷ xs) zero r f h m l = elim (true_or_false (is_live now x)) [
  | inl e ↦
      let k : left ≡ left + r = ap (λ ms. slice_index ms 0) (sym (marks_kept now all left x xs e)) ∙ m in
      let z : r ≡ 0 = omega arith in
      rw (kept_first now x xs e, z) refl
  | inr e ↦
      let k : all ≡ left + r = ap (λ ms. slice_index ms 0) (sym (marks_gone now all left x xs e)) ∙ m in
      absurd (omega arith)
]
marked_at now all left (x ∷ xs) (suc p) zero f h m l = elim (true_or_false (is_live now x)) [
  | inl e ↦
      let n = ap length (kept_first now x xs e) in
      let k : slice_index (marks now all (left + 1) xs) p ≡ left + 0 = ap (λ ms. slice_index ms (suc p)) (sym (marks_kept now all left x xs e)) ∙ m in
      let s = marks_least now all (left + 1) xs p (omega arith) (omega arith) in
      absurd (omega arith)
  | inr e ↦
      let n = ap length (gone_first now x xs e) in
      let k : slice_index (marks now all left xs) p ≡ left + 0 = ap (λ ms. slice_index ms (suc p)) (sym (marks_gone now all left x xs e)) ∙ m in
      rw (gone_first now x xs e) (marked_at now all left xs p zero (omega arith) (omega arith) k (omega arith))
]
marked_at now all left (x ∷ xs) (suc p) (suc r) f h m l = elim (true_or_false (is_live now x)) [
  | inl e ↦
      let n = ap length (kept_first now x xs e) in
      let k : slice_index (marks now all (left + 1) xs) p ≡ left + 1 + r = ap (λ ms. slice_index ms (suc p)) (sym (marks_kept now all left x xs e)) ∙ m ∙ omega arith in
      rw (kept_first now x xs e) (marked_at now all (left + 1) xs p r (omega arith) (omega arith) k (omega arith))
  | inr e ↦
      let n = ap length (gone_first now x xs e) in
      let k : slice_index (marks now all left xs) p ≡ left + suc r = ap (λ ms. slice_index ms (suc p)) (sym (marks_gone now all left x xs e)) ∙ m in
      rw (gone_first now x xs e) (marked_at now all left xs p (suc r) (omega arith) (omega arith) k (omega arith))
]

-- each place at which a row stays is a mark
marked_all : (now all left : ℕ) (xs : List Row) (q : ℕ) → left ≤ q → q < left + length (living now xs) → (p : ℕ) × (p < length xs) × (slice_index (marks now all left xs) p ≡ q)
marked_all now all left [] q l h = absurd (omega arith)
marked_all now all left (x ∷ xs) q l h = elim (true_or_false (is_live now x)) [
  | inl e ↦ let n = ap length (kept_first now x xs e) in elim (cases_lt left q) [
    | inl m ↦
        let r = marked_all now all (left + 1) xs q (omega arith) (omega arith) in
        (suc r.0, let w = r.1 in omega arith, ap (λ ms. slice_index ms (suc r.0)) (marks_kept now all left x xs e) ∙ r.2)
    | inr g ↦ (0, omega arith, ap (λ ms. slice_index ms 0) (marks_kept now all left x xs e) ∙ omega arith)
  ]
  | inr e ↦
      let n = ap length (gone_first now x xs e) in
      let r = marked_all now all left xs q l (omega arith) in
      (suc r.0, let w = r.1 in omega arith, ap (λ ms. slice_index ms (suc r.0)) (marks_gone now all left x xs e) ∙ r.2)
]

pub moved : (now : ℕ) (xs : List Row) → IsMove (map row_key xs) (map row_key (living now xs)) (marks now (length xs) 0 xs)
moved now xs =
    let n = length-map xs row_key in
    let l = length-map (living now xs) row_key in
    let w = (living_less now xs).0 in record {
      same = λ p h k. marked_at now (length xs) 0 xs p (slice_index (marks now (length xs) 0 xs) p) (omega arith) (omega arith) (omega arith) (omega arith);
      all = λ q h. let r = marked_all now (length xs) 0 xs q (omega arith) (omega arith) in (r.0, let k = r.1 in omega arith, r.2);
    }

-- ---- the index afterwards

index_kept_by : (now left : ℕ) (xs new : List Row) (order sent later : List ℕ) → IsIndex (map row_key xs) order → left ≡ length (living now xs) → sent ≡ map (slice_index (marks now (length xs) 0 xs)) order
    → later ≡ filter (λ p. nat_lt p left) sent → new ≡ living now xs → IsIndex (map row_key new) later
index_kept_by now left xs new order sent later ix e f g h =
    let l : length (map row_key (living now xs)) ≡ left = length-map (living now xs) row_key ∙ sym e in
    rw (h, g, f) (subst (λ n. IsIndex (map row_key (living now xs)) (filter (λ p. nat_lt p n) (map (slice_index (marks now (length xs) 0 xs)) order))) l
    (index_kept (map row_key xs) (map row_key (living now xs)) (marks now (length xs) 0 xs) order ix (moved now xs)))

-- the same of rows and places that were lent
pub index_expired : (now left : ℕ) (xs seen new : List Row) (order lent sent later : List ℕ) → seen ≡ xs → lent ≡ order → IsIndex (map row_key xs) order → left ≡ length (living now seen)
    → sent ≡ map (slice_index (marks now (length seen) 0 seen)) lent → later ≡ filter (λ p. nat_lt p left) sent → new ≡ living now xs → IsIndex (map row_key new) later
index_expired now left xs seen new order lent sent later a b ix e f g h =
    index_kept_by now left xs new order sent later ix (e ∙ ap (λ ys. length (living now ys)) a)
    (f ∙ ap (λ ys. map (slice_index (marks now (length ys) 0 ys)) lent) a ∙ ap (map (slice_index (marks now (length xs) 0 xs))) b) g h

-- ---- the steps of the loops

-- what is written at a place has its old half
pub half_stays : (f : ℕ → ℕ) (xs ys : List ℕ) (i v : ℕ) → i < length xs → f v ≡ f (slice_index xs i) → map f xs ≡ ys → map f (set xs i v) ≡ ys
half_stays f xs ys i v h e g = map-set f xs i v ∙ ap (set (map f xs) i) (e ∙ sym (get_or-map f xs i 0 0 h)) ∙ set-get_or (map f xs) i 0 ∙ g

-- one more is marked
pub marked_more : (xs : List ℕ) (i v m : ℕ) (ms all : List ℕ) → i < length xs → mark_of v ≡ m → take i (map mark_of xs) ++ m ∷ ms ≡ all → take (i + 1) (map mark_of (set xs i v)) ++ ms ≡ all
marked_more xs i v m ms all h e g =
    ap (λ ys. take (i + 1) ys ++ ms) (map-set mark_of xs i v)
    ∙ ap (λ ys. ys ++ ms) (take_more_set (map mark_of xs) i (mark_of v) (let n = length-map xs mark_of in omega arith))
    ∙ append_assoc (take i (map mark_of xs)) (mark_of v ∷ []) ms
    ∙ ap (λ k. take i (map mark_of xs) ++ k ∷ ms) e ∙ g

-- one row more is looked at
pub row_marked : (now all left i m w v : ℕ) (x : Row) (rows : List Row) (xs ms : List ℕ) → i < length rows → length xs ≡ length rows → x ≡ get_or rows i x → m ≡ mark_here now all left x → w ≡ left_here now left x → mark_of v ≡ m
    → take i (map mark_of xs) ++ marks now all left (drop i rows) ≡ ms → take (i + 1) (map mark_of (set xs i v)) ++ marks now all w (drop (i + 1) rows) ≡ ms
row_marked now all left i m w v x rows xs ms h n r e f g k =
    let d : drop i rows ≡ x ∷ drop (i + 1) rows = drop_more rows i x h ∙ ap (λ y. y ∷ drop (i + 1) rows) (sym r) in
    rw f (marked_more xs i v (mark_here now all left x) (marks now all (left_here now left x) (drop (i + 1) rows)) ms (omega arith) (g ∙ e)
    (ap (λ ys. take i (map mark_of xs) ++ marks now all left ys) (sym d) ∙ k))

pub row_counted : (now left i w n : ℕ) (x : Row) (rows : List Row) → i < length rows → x ≡ get_or rows i x → w ≡ left_here now left x → left + length (living now (drop i rows)) ≡ n → w + length (living now (drop (i + 1) rows)) ≡ n
row_counted now left i w n x rows h r f k =
    let d : drop i rows ≡ x ∷ drop (i + 1) rows = drop_more rows i x h ∙ ap (λ y. y ∷ drop (i + 1) rows) (sym r) in
    rw f (counted_first now 0 left x (drop (i + 1) rows) ∙ ap (λ ys. left + length (living now ys)) (sym d) ∙ k)

-- all rows were looked at
pub all_marked : (now all left i : ℕ) (rows : List Row) (xs ms : List ℕ) → length rows ≤ i → length xs ≡ length rows → take i (map mark_of xs) ++ marks now all left (drop i rows) ≡ ms → map mark_of xs ≡ ms
all_marked now all left i rows xs ms h n k =
    sym (ap (λ ys. take i (map mark_of xs) ++ marks now all left ys) (drop_all i rows h)
    ∙ append-nil (take i (map mark_of xs)) ∙ take_all i (map mark_of xs) (let l = length-map xs mark_of in omega arith)) ∙ k

pub all_counted : (now left i n : ℕ) (rows : List Row) → length rows ≤ i → left + length (living now (drop i rows)) ≡ n → left ≡ n
all_counted now left i n rows h k = let e = ap (λ ys. length (living now ys)) (drop_all i rows h) in omega arith

-- places without marks
place_low : (p : ℕ) → p < 4294967296 → place_of p ≡ p
unfolding place_of
place_low p h = let e : 0 * 4294967296 + p ≡ p = omega arith in ap (λ n. n % 4294967296) (sym e) ∙ mod-mul-add 0 4294967296 p h

pub plain_places : (n : ℕ) (xs : List ℕ) → n < 4294967296 → All (λ p. p < n) xs → map place_of xs ≡ xs
plain_places n [] h a = refl
plain_places n (x ∷ xs) h a =
    let l = All-head (λ p. p < n) x xs a in
    ap (λ y. y ∷ map place_of xs) (place_low x (omega arith)) ∙ ap (λ ys. x ∷ ys) (plain_places n xs h (All-tail (λ p. p < n) x xs a))

pub places_within : (xs ys : List ℕ) (n : ℕ) → map place_of xs ≡ ys → length xs ≡ n → All (λ p. p < n) ys → All (λ e. place_of e < length xs) xs
places_within xs ys n e l a k d h =
    let r = sym (get_or-map place_of xs k d 0 h) ∙ ap (λ zs. get_or zs k 0) e in
    let m = length-map xs place_of in
    let s = ap length e in
    let w = a k 0 (omega arith) in
    omega arith

-- an entry at which the loop hasn't been holds its place
place_before : (xs es hs : List ℕ) (i : ℕ) → i < length xs → length xs ≡ length es → map place_of xs ≡ map (slice_index hs) (take i (map place_of es)) ++ drop i (map place_of es) → place_of (slice_index xs i) ≡ place_of (slice_index es i)
place_before xs es hs i h n e =
    let l = length-map es place_of in
    let k : length (map (slice_index hs) (take i (map place_of es))) ≡ i = length-map (take i (map place_of es)) (slice_index hs) ∙ length-take-le i (map place_of es) (omega arith) in
    let j : i + (i - i) ≡ i = omega arith in
    sym (get_or-map place_of xs i 0 0 h) ∙ ap (λ ys. get_or ys i 0) e
    ∙ get_or-append_right (map (slice_index hs) (take i (map place_of es))) (drop i (map place_of es)) i i 0 k (omega arith)
    ∙ get_or-drop i (map place_of es) (i - i) 0 ∙ ap (λ q. get_or (map place_of es) q 0) j ∙ get_or-map place_of es i 0 0 (omega arith)

pub place_within : (xs es hs : List ℕ) (i p : ℕ) → i < length xs → length xs ≡ length es → map place_of xs ≡ map (slice_index hs) (take i (map place_of es)) ++ drop i (map place_of es)
    → All (λ e. place_of e < length es) es → p ≡ place_of (slice_index xs i) → p < length xs
place_within xs es hs i p h n e a f = let b = place_before xs es hs i h n e in let w = a i 0 (omega arith) in omega arith

pub place_moved : (xs es : List ℕ) (i p m v : ℕ) → i < length xs → p < length xs → length xs ≡ length es → p ≡ place_of (slice_index xs i) → m ≡ mark_of (slice_index xs p) → place_of v ≡ m
    → map mark_of xs ≡ map mark_of es → map place_of xs ≡ map (slice_index (map mark_of es)) (take i (map place_of es)) ++ drop i (map place_of es)
    → map place_of (set xs i v) ≡ map (slice_index (map mark_of es)) (take (i + 1) (map place_of es)) ++ drop (i + 1) (map place_of es)
place_moved xs es i p m v h k n e f g same places =
    let read : p ≡ get_or (map place_of xs) i p = e ∙ sym (get_or-map place_of xs i 0 p h) in
    let sent : place_of v ≡ slice_index (map mark_of es) p = g ∙ f ∙ sym (get_or-map mark_of xs p 0 0 k) ∙ ap (λ ms. slice_index ms p) same in
    map-set place_of xs i v ∙ ap (set (map place_of xs) i) sent
    ∙ map_over_more (slice_index (map mark_of es)) (map place_of es) (map place_of xs) i p (let l = length-map es place_of in omega arith) places read
