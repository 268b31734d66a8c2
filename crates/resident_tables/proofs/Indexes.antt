-- The search in an index, and an index after a key more and a key less.
use Rattle.std.proofs.Common.{◌≡◌, ◌≢◌, inl, inr, ℕ, zero, suc, ◌+◌, ◌-◌, ◌<◌, ◌≤◌, Bool, true, List, [], ◌∷◌, ◌++◌, length, get_or, map, refl, sym, ap, ◌∙◌, subst, arith}
use Rattle.std.proofs.lemmas.Bool.{cases_lt, ltb-true, lt-ltb}
use Rattle.std.proofs.lemmas.Bool.Decides.{nat_tests}
use Rattle.std.proofs.lemmas.List.{length-append, length-map, get_or_append_left, get_or-append-add, get_or-map}
use Rattle.std.proofs.lemmas.List.Edits.{length-insert, get_or-insert_below, get_or-insert_at, get_or-insert_above, length-remove, get_or-remove_below, get_or-remove_above}
use Rattle.std.proofs.lemmas.List.Elements.{filter_passes}
use Rattle.std.proofs.lemmas.List.Kept.{AllPairs-filter}
use Rattle.std.specs.Prelude.{slice_index, nat_lt, if◌then◌else◌}
use Rattle.std.specs.List.{AllPairs, filter, insert, remove}
use Rattle.std.specs.declared.cmp.Ordering.TheVariants.{Less, Greater}
use Rattle.containers.specs.Keys.{Key}
use Rattle.resident_tables.specs.Order.{key_cmp}
use Rattle.resident_tables.specs.Index.{no_key, key_at, ranked_at, IsIndex, Splits, place_moved_up}
use Rattle.resident_tables.proofs.Lists.{true_or_false}
use Rattle.resident_tables.proofs.Orders.{key_cmp_trans, key_cmp_turned, less_differs}

-- ---- the search

module _ (ks : List Key) (order : List ℕ) (k : Key) where
  pub splits_start : IsIndex ks order → Splits ks order k 0 (length order)
  splits_start ix = record { ordered = omega arith; within = omega arith; below = λ j h. absurd (omega arith); above = λ j h l. absurd (omega arith) }

  pub narrow_up : (lo hi mid : ℕ) → IsIndex ks order → Splits ks order k lo hi → lo ≤ mid → mid < hi → key_cmp (ranked_at ks order mid) k ≡ Less → Splits ks order k (mid + 1) hi
  narrow_up lo hi mid ix s low high less = record {
    ordered = omega arith;
    within = s.within;
    below = λ j h. elim (cases_lt j mid) [
      | inl l ↦ key_cmp_trans (ranked_at ks order j) (ranked_at ks order mid) k (ix.sorted j mid l (let w = s.within in omega arith)) less
      | inr g ↦ let e : mid ≡ j = omega arith in subst (λ i. key_cmp (ranked_at ks order i) k ≡ Less) e less
    ];
    above = s.above;
  }

  pub narrow_down : (lo hi mid : ℕ) → IsIndex ks order → Splits ks order k lo hi → lo ≤ mid → mid < hi → key_cmp (ranked_at ks order mid) k ≡ Greater → Splits ks order k lo mid
  narrow_down lo hi mid ix s low high greater = record {
    ordered = low;
    within = let w = s.within in omega arith;
    below = s.below;
    above = λ j h l. elim (cases_lt mid j) [
      | inl m ↦ key_cmp_trans k (ranked_at ks order mid) (ranked_at ks order j) (key_cmp_turned (ranked_at ks order mid) k greater) (ix.sorted mid j m l)
      | inr g ↦ let e : mid ≡ j = omega arith in subst (λ i. key_cmp k (ranked_at ks order i) ≡ Less) e (key_cmp_turned (ranked_at ks order mid) k greater)
    ];
  }

  -- a key that splits the index stands nowhere
  pub splits_absent : (i p : ℕ) → IsIndex ks order → Splits ks order k i i → p < length ks → ¬ (◌≡◌ {A = Key} (key_at ks p) k)
  splits_absent i p ix s h e =
      let at = ix.complete p h in
      let f : ◌≡◌ {A = Key} (ranked_at ks order at.0) k = subst (λ q. ◌≡◌ {A = Key} (key_at ks q) k) (sym at.2) e in
      elim (cases_lt at.0 i) [
        | inl l ↦ less_differs (ranked_at ks order at.0) k (s.below at.0 l) f
        | inr g ↦ less_differs k (ranked_at ks order at.0) (s.above at.0 g at.1) (sym f)
      ]

-- places of the index that differ hold places that differ
pub apart : (ks : List Key) (order : List ℕ) (i j : ℕ) → IsIndex ks order → i < length order → j < length order → i ≢ j → slice_index order i ≢ slice_index order j
apart ks order i j ix h k n e = elim (cases_lt i j) [
  | inl l ↦ less_differs (ranked_at ks order i) (ranked_at ks order j) (ix.sorted i j l k) (ap (key_at ks) e)
  | inr g ↦ elim (cases_lt j i) [
    | inl l ↦ less_differs (ranked_at ks order j) (ranked_at ks order i) (ix.sorted j i l h) (ap (key_at ks) (sym e))
    | inr m ↦ n (omega arith)
  ]
]

-- ---- a key more, at the list's end

module _ (ks : List Key) (order : List ℕ) (k : Key) (at : ℕ) (ix : IsIndex ks order) (s : Splits ks order k at at) where
  more : List ℕ
  more = insert order at (length ks)

  grown_keys : List Key
  grown_keys = ks ++ k ∷ []

  length_more : length more ≡ length order + 1
  unfolding more
  length_more = length-insert order at (length ks) s.within

  -- which place of the old index stands at a place of the new one
  data Came (j : ℕ) : Type 0 where
    front : j < at → j < length order → slice_index more j ≡ slice_index order j → Came j
    middle : j ≡ at → slice_index more j ≡ length ks → Came j
    back : (m : ℕ) → j ≡ m + 1 → at ≤ m → m < length order → slice_index more j ≡ slice_index order m → Came j

  came : (j : ℕ) → j < length more → Came j
  unfolding more
  came j h = elim (cases_lt j at) [
    | inl l ↦ front l (let w = s.within in omega arith) (get_or-insert_below order at (length ks) 0 j l s.within)
    | inr g ↦ elim (cases_lt at j) [
      | inl l ↦ let e : j ≡ (j - 1) + 1 = omega arith in
          back (j - 1) e (omega arith) (let n = length-insert order at (length ks) s.within in omega arith)
          (ap (slice_index (insert order at (length ks))) e ∙ get_or-insert_above order at (length ks) 0 (j - 1) (omega arith) s.within)
      | inr m ↦ let e : j ≡ at = omega arith in middle e (ap (slice_index (insert order at (length ks))) e ∙ get_or-insert_at order at (length ks) 0 s.within)
    ]
  ]

  -- the key at an old place, and the new key
  old_key : (p : ℕ) → p < length ks → key_at grown_keys p ≡ key_at ks p
  unfolding grown_keys
  old_key p h = get_or_append_left ks (k ∷ []) no_key p h

  new_key : key_at grown_keys (length ks) ≡ k
  unfolding grown_keys
  new_key = let n : length ks ≡ length ks + 0 = omega arith in ap (key_at (ks ++ k ∷ [])) n ∙ get_or-append-add ks (k ∷ []) 0 no_key

  stays : (j m : ℕ) → m < length order → slice_index more j ≡ slice_index order m → ◌≡◌ {A = Key} (ranked_at grown_keys more j) (ranked_at ks order m)
  stays j m h e = ap (key_at grown_keys) e ∙ old_key (slice_index order m) (ix.within m h)

  comes : (j : ℕ) → slice_index more j ≡ length ks → ◌≡◌ {A = Key} (ranked_at grown_keys more j) k
  comes j e = ap (key_at grown_keys) e ∙ new_key

  less_by : (a b c d : Key) → ◌≡◌ {A = Key} a c → ◌≡◌ {A = Key} b d → key_cmp c d ≡ Less → key_cmp a b ≡ Less
  less_by a b c d e f h = rw (e, f) h

  rises : (i j : ℕ) → i < j → Came i → Came j → key_cmp (ranked_at grown_keys more i) (ranked_at grown_keys more j) ≡ Less
  rises i j h (front a b c) (front d e f) = less_by _ _ _ _ (stays i i b c) (stays j j e f) (ix.sorted i j h e)
  rises i j h (front a b c) (middle d e) = less_by _ _ _ _ (stays i i b c) (comes j e) (s.below i a)
  rises i j h (front a b c) (back m d e f g) = less_by _ _ _ _ (stays i i b c) (stays j m f g) (ix.sorted i m (omega arith) f)
  rises i j h (middle a b) (front d e f) = absurd (omega arith)
  rises i j h (middle a b) (middle d e) = absurd (omega arith)
  rises i j h (middle a b) (back m d e f g) = less_by _ _ _ _ (comes i b) (stays j m f g) (s.above m e f)
  rises i j h (back n a b c d) (front e f g) = absurd (omega arith)
  rises i j h (back n a b c d) (middle e f) = absurd (omega arith)
  rises i j h (back n a b c d) (back m e f g o) = less_by _ _ _ _ (stays i n c d) (stays j m g o) (ix.sorted n m (omega arith) g)

  below_grown : (j : ℕ) → Came j → slice_index more j < length ks + 1
  below_grown j (front a b c) = let w = ix.within j b in omega arith
  below_grown j (middle a b) = omega arith
  below_grown j (back m a b c d) = let w = ix.within m c in omega arith

  stands : (p : ℕ) → p < length ks + 1 → (j : ℕ) × (j < length order + 1) × (slice_index more j ≡ p)
  unfolding more
  stands p h = elim (cases_lt p (length ks)) [
    | inl l ↦ let c = ix.complete p l in elim (cases_lt c.0 at) [
      | inl b ↦ (c.0, let w = c.1 in omega arith, get_or-insert_below order at (length ks) 0 c.0 b s.within ∙ c.2)
      | inr b ↦ (c.0 + 1, let w = c.1 in omega arith, get_or-insert_above order at (length ks) 0 c.0 b s.within ∙ c.2)
    ]
    | inr g ↦ (at, let w = s.within in omega arith, let e : length ks ≡ p = omega arith in get_or-insert_at order at (length ks) 0 s.within ∙ e)
  ]

  pub index_more : IsIndex (ks ++ k ∷ []) (insert order at (length ks))
  unfolding more grown_keys
  index_more = let n = length_more in let g = length-append ks (k ∷ []) in record {
    same = let e = ix.same in omega arith;
    within = λ j h. let b = below_grown j (came j h) in omega arith;
    sorted = λ i j h l. rises i j h (came i (omega arith)) (came j l);
    complete = λ p h. let c = stands p (omega arith) in (c.0, let w = c.1 in omega arith, c.2);
  }

-- ---- a key less

moved_below : (p q : ℕ) → q ≤ p → place_moved_up p q ≡ q
moved_below p q h = grind (arith, nat_tests)

moved_above : (p q : ℕ) → p < q → place_moved_up p q ≡ q - 1
moved_above p q h = grind (arith, nat_tests)

-- the key at a place that moves up with those behind it
key_moved : (ks : List Key) (p q : ℕ) → p < length ks → p ≢ q → ◌≡◌ {A = Key} (key_at (remove ks p) (place_moved_up p q)) (key_at ks q)
key_moved ks p q h n = elim (cases_lt q p) [
  | inl l ↦ rw (moved_below p q (omega arith)) (get_or-remove_below ks p no_key q l h)
  | inr g ↦ let l : p < q = elim (cases_lt p q) [ inl l ↦ l | inr m ↦ absurd (n (omega arith)) ] in
      let e : (q - 1) + 1 ≡ q = omega arith in
      rw (moved_above p q l) (get_or-remove_above ks p no_key (q - 1) (omega arith) h ∙ ap (key_at ks) e)
]

-- a place and the one that it comes from
before : ℕ → ℕ → ℕ
before at j = if nat_lt j at then j else j + 1

before_below : (at j : ℕ) → j < at → before at j ≡ j
unfolding before
before_below at j h = grind (arith, nat_tests)

before_above : (at j : ℕ) → at ≤ j → before at j ≡ j + 1
unfolding before
before_above at j h = grind (arith, nat_tests)

before_rises : (at i j : ℕ) → i < j → before at i < before at j
unfolding before
before_rises at i j h = grind (arith, nat_tests)

before_other : (at j : ℕ) → before at j ≢ at
before_other at j e = elim (cases_lt j at) [
  | inl l ↦ let b = before_below at j l in absurd (omega arith)
  | inr g ↦ let b = before_above at j g in absurd (omega arith)
]

before_within : (at j n : ℕ) → at < n → j + 1 < n → before at j < n
before_within at j n h k = elim (cases_lt j at) [
  | inl l ↦ let b = before_below at j l in omega arith
  | inr g ↦ let b = before_above at j g in omega arith
]

-- each place but one comes about
before_all : (at i : ℕ) → i ≢ at → (j : ℕ) × (before at j ≡ i) × ((n : ℕ) → at < n → i < n → j + 1 < n)
before_all at i n = elim (cases_lt i at) [
  | inl l ↦ (i, before_below at i l, λ m h k. omega arith)
  | inr g ↦ let l : at < i = elim (cases_lt at i) [ inl l ↦ l | inr m ↦ absurd (n (omega arith)) ] in
      let e : (i - 1) + 1 ≡ i = omega arith in
      (i - 1, before_above at (i - 1) (omega arith) ∙ e, λ m h k. omega arith)
]

removed_at : (order : List ℕ) (at j : ℕ) → at < length order → slice_index (remove order at) j ≡ slice_index order (before at j)
removed_at order at j h = elim (cases_lt j at) [
  | inl l ↦ rw (before_below at j l) (get_or-remove_below order at 0 j l h)
  | inr g ↦ rw (before_above at j g) (get_or-remove_above order at 0 j g h)
]

moved_within : (p q n : ℕ) → q < n → p < n → p ≢ q → place_moved_up p q + 1 < n
moved_within p q n h k o = elim (cases_lt q p) [
  | inl l ↦ let e = moved_below p q (omega arith) in omega arith
  | inr g ↦ let l : p < q = elim (cases_lt p q) [ inl l ↦ l | inr m ↦ absurd (o (omega arith)) ] in
      let e = moved_above p q l in omega arith
]

moved_before : (p q : ℕ) → place_moved_up p (before p q) ≡ q
moved_before p q = elim (cases_lt q p) [
  | inl l ↦ rw (before_below p q l) (moved_below p q (omega arith))
  | inr g ↦ rw (before_above p q g) (moved_above p (q + 1) (omega arith) ∙ omega arith)
]

module _ (ks : List Key) (order : List ℕ) (at : ℕ) (ix : IsIndex ks order) (h : at < length order) where
  gap : ℕ
  gap = slice_index order at

  less : List ℕ
  less = map (place_moved_up gap) (remove order at)

  length_less : length less + 1 ≡ length order
  unfolding less
  length_less = let e = length-map (remove order at) (place_moved_up gap) in let r = length-remove order at h in omega arith

  less_at : (j : ℕ) → j < length less → slice_index less j ≡ place_moved_up gap (slice_index order (before at j))
  unfolding less
  less_at j w = get_or-map (place_moved_up gap) (remove order at) j 0 0 (let e = length-map (remove order at) (place_moved_up gap) in omega arith) ∙ ap (place_moved_up gap) (removed_at order at j h)

  at_gap : slice_index order at ≡ gap
  unfolding gap
  at_gap = refl

  gap_within : gap < length ks
  unfolding gap
  gap_within = ix.within at h

  not_gap : (i : ℕ) → i < length order → i ≢ at → gap ≢ slice_index order i
  unfolding gap
  not_gap i l n e = apart ks order i at ix l h n (sym e)

  within_old : (j : ℕ) → j < length less → before at j < length order
  within_old j w = before_within at j (length order) h (let n = length_less in omega arith)

  ranked_less : (j : ℕ) → j < length less → ◌≡◌ {A = Key} (ranked_at (remove ks gap) less j) (ranked_at ks order (before at j))
  ranked_less j w = ap (key_at (remove ks gap)) (less_at j w) ∙ key_moved ks gap (slice_index order (before at j)) gap_within (not_gap (before at j) (within_old j w) (before_other at j))

  within_less : (j : ℕ) → j < length less → slice_index less j + 1 < length ks
  within_less j w = rw (less_at j w) (moved_within gap (slice_index order (before at j)) (length ks) (ix.within (before at j) (within_old j w)) gap_within (not_gap (before at j) (within_old j w) (before_other at j)))

  sorted_less : (i j : ℕ) → i < j → j < length less → key_cmp (ranked_at (remove ks gap) less i) (ranked_at (remove ks gap) less j) ≡ Less
  sorted_less i j l w = rw (ranked_less i (omega arith), ranked_less j w) (ix.sorted (before at i) (before at j) (before_rises at i j l) (within_old j w))

  stays_in : (p : ℕ) → p + 1 < length ks → (j : ℕ) × (j < length less) × (slice_index less j ≡ p)
  stays_in p l =
      let c = ix.complete (before gap p) (before_within gap p (length ks) gap_within l) in
      let n : c.0 ≢ at = λ e. before_other gap p (sym c.2 ∙ ap (slice_index order) e ∙ at_gap) in
      let b = before_all at c.0 n in
      let w : b.0 < length less = (let k = b.2 (length order) h c.1 in let e = length_less in omega arith) in
      (b.0, w, less_at b.0 w ∙ ap (λ i. place_moved_up gap (slice_index order i)) b.1 ∙ ap (place_moved_up gap) c.2 ∙ moved_before gap p)

  pub index_less : IsIndex (remove ks (slice_index order at)) (map (place_moved_up (slice_index order at)) (remove order at))
  unfolding less gap
  index_less = let n = length_less in let r = length-remove ks gap gap_within in record {
    same = let e = ix.same in omega arith;
    within = λ j l. let w = within_less j l in omega arith;
    sorted = sorted_less;
    complete = λ p l. stays_in p (omega arith);
  }

-- ---- keys fewer, with marks that say of each place where its key stands then

-- of numbers that differ, one stands at one place
module _ (xs : List ℕ) (n at : ℕ) (h : at < length xs) (e : slice_index xs at ≡ n) (differ : (i j : ℕ) → i < j → j < length xs → slice_index xs i ≢ slice_index xs j) where
  elsewhere : (i : ℕ) → i < length xs → i ≢ at → slice_index xs i ≢ n
  elsewhere i l o f = elim (cases_lt i at) [
    | inl m ↦ differ i at m h (f ∙ sym e)
    | inr g ↦ let m : at < i = elim (cases_lt at i) [ inl k ↦ k | inr k ↦ absurd (o (omega arith)) ] in differ at i m l (e ∙ sym f)
  ]

  rest_below : ((j : ℕ) → j < length xs → slice_index xs j < n + 1) → (j : ℕ) → j < length (remove xs at) → slice_index (remove xs at) j < n
  rest_below w j l =
      let k = before_within at j (length xs) h (let r = length-remove xs at h in omega arith) in
      let b = w (before at j) k in
      let o = elsewhere (before at j) k (before_other at j) in
      rw (removed_at xs at j h) (elim (cases_lt (slice_index xs (before at j)) n) [ inl m ↦ m | inr m ↦ absurd (o (omega arith)) ])

  rest_differ : (i j : ℕ) → i < j → j < length (remove xs at) → slice_index (remove xs at) i ≢ slice_index (remove xs at) j
  rest_differ i j m l =
      let k = before_within at j (length xs) h (let r = length-remove xs at h in omega arith) in
      rw (removed_at xs at i h, removed_at xs at j h) (differ (before at i) (before at j) (before_rises at i j m) k)

  rest_holds : (q i : ℕ) → q < n → i < length xs → slice_index xs i ≡ q → (j : ℕ) × (j < length (remove xs at)) × (slice_index (remove xs at) j ≡ q)
  rest_holds q i m l f =
      let o : i ≢ at = λ g. let s : q ≡ n = sym f ∙ ap (slice_index xs) g ∙ e in absurd (omega arith) in
      let b = before_all at i o in
      (b.0, let k = b.2 (length xs) h l in let r = length-remove xs at h in omega arith, removed_at xs at b.0 h ∙ ap (slice_index xs) b.1 ∙ f)

-- numbers below n that differ, of which none lacks, are n
full : (n : ℕ) (xs : List ℕ) → ((j : ℕ) → j < length xs → slice_index xs j < n) → ((i j : ℕ) → i < j → j < length xs → slice_index xs i ≢ slice_index xs j)
    → ((q : ℕ) → q < n → (j : ℕ) × (j < length xs) × (slice_index xs j ≡ q)) → length xs ≡ n
full zero [] w d c = refl
full zero (x ∷ xs) w d c = absurd (let h = w 0 (omega arith) in omega arith)
full (suc n) xs w d c =
    let at = c n (omega arith) in
    let less = full n (remove xs at.0) (rest_below xs n at.0 at.1 at.2 d (λ j h. let b = w j h in omega arith)) (rest_differ xs n at.0 at.1 at.2 d)
    (λ q h. let k = c q (omega arith) in rest_holds xs n at.0 at.1 at.2 d q k.0 h k.1 k.2) in
    let r = length-remove xs at.0 at.1 in
    omega arith

still_there : (t : ℕ → Bool) (xs : List ℕ) (q k : ℕ) → k < length xs → slice_index xs k ≡ q → t q ≡ true → (j : ℕ) × (j < length (filter t xs)) × (slice_index (filter t xs) j ≡ q)
still_there t [] q k l e h = absurd (omega arith)
still_there t (x ∷ xs) q zero l e h = let f : t x ≡ true = ap t e ∙ h in rw f (0, omega arith, e)
still_there t (x ∷ xs) q (suc k) l e h = let r = still_there t xs q k (omega arith) e h in elim (true_or_false (t x)) [
  | inl f ↦ rw f (suc r.0, let m = r.1 in omega arith, r.2)
  | inr f ↦ rw f r
]

-- the marks say where the keys stand that there are afterwards
pub record IsMove (ks new : List Key) (marks : List ℕ) : Type 0 where
  pub same : (p : ℕ) → p < length ks → slice_index marks p < length new → ◌≡◌ {A = Key} (key_at new (slice_index marks p)) (key_at ks p)
  pub all : (q : ℕ) → q < length new → (p : ℕ) × (p < length ks) × (slice_index marks p ≡ q)

module _ (ks new : List Key) (marks order : List ℕ) (ix : IsIndex ks order) (m : IsMove ks new marks) where
  abbrev Stays : ℕ → Bool
  Stays q = nat_lt q (length new)

  abbrev sent : List ℕ
  sent = map (slice_index marks) order

  abbrev kept : List ℕ
  kept = filter Stays sent

  abbrev Rises : ℕ → ℕ → Type 0
  Rises q r = q < length new → r < length new → key_cmp (key_at new q) (key_at new r) ≡ Less

  ranked_sent : (j d : ℕ) → j < length order → get_or sent j d < length new → ◌≡◌ {A = Key} (key_at new (get_or sent j d)) (ranked_at ks order j)
  ranked_sent j d h l =
      let e = get_or-map (slice_index marks) order j 0 d h in
      ap (key_at new) e ∙ m.same (slice_index order j) (ix.within j h) (subst (λ q. q < length new) e l)

  sent_rises : AllPairs Rises sent
  sent_rises i j d h l q r =
      let k : j < length order = (let n = length-map order (slice_index marks) in omega arith) in
      rw (ranked_sent i d (omega arith) q, ranked_sent j d k r) (ix.sorted i j h k)

  kept_within : (j : ℕ) → j < length kept → slice_index kept j < length new
  kept_within j h = ltb-true (slice_index kept j) (length new) (filter_passes Stays sent j 0 h)

  kept_sorted : (i j : ℕ) → i < j → j < length kept → key_cmp (ranked_at new kept i) (ranked_at new kept j) ≡ Less
  kept_sorted i j h l = AllPairs-filter Rises Stays sent sent_rises i j 0 h l (kept_within i (omega arith)) (kept_within j l)

  kept_holds : (q : ℕ) → q < length new → (j : ℕ) × (j < length kept) × (slice_index kept j ≡ q)
  kept_holds q h =
      let p = m.all q h in
      let i = ix.complete p.0 p.1 in
      still_there Stays sent q i.0 (let l = i.1 in let n = length-map order (slice_index marks) in omega arith)
      (get_or-map (slice_index marks) order i.0 0 0 i.1 ∙ ap (slice_index marks) i.2 ∙ p.2) (lt-ltb q (length new) h)

  pub index_kept : IsIndex new (filter (λ q. nat_lt q (length new)) (map (slice_index marks) order))
  index_kept = record {
    same = full (length new) kept kept_within (λ i j h l e. less_differs (ranked_at new kept i) (ranked_at new kept j) (kept_sorted i j h l) (ap (key_at new) e)) kept_holds;
    within = kept_within;
    sorted = kept_sorted;
    complete = kept_holds;
  }
