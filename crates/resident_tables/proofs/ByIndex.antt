-- What the index says of the items: look-ups, a put and a removal.
use Rattle.std.proofs.Common.{◌≡◌, ℕ, zero, suc, ◌<◌, List, [], ◌∷◌, ◌++◌, length, get_or, map, Some, None, Result, refl, sym, ap, ◌∙◌, subst, arith}
use Rattle.std.proofs.Math.ListN.{set}
use Rattle.std.proofs.lemmas.List.{length-map, get_or-map, get_or_default}
use Rattle.std.specs.Prelude.{slice_index}
use Rattle.std.specs.List.{insert, remove}
use Rattle.containers.specs.Keys.{Key, first_of_key, put, without, IsUnique}
use Rattle.resident_tables.specs.Index.{no_key, key_at, ranked_at, IsIndex, IsSpot, Splits, place_moved_up}
use Rattle.resident_tables.proofs.Lists.{found_at, found_nowhere, put_at, put_end, without_at, without_none, unique_put, unique_without}
use Rattle.resident_tables.proofs.Indexes.{splits_absent, index_more, index_less}

module _ {R : Type 0} (key : R → Key) where
  -- the key at a place of the index is that of the item read there
  pub ranked_read : (xs : List R) (order : List ℕ) (j : ℕ) (x : R) → IsIndex (map key xs) order → j < length order → x ≡ get_or xs (slice_index order j) x → ◌≡◌ {A = Key} (ranked_at (map key xs) order j) (key x)
  ranked_read xs order j x ix h e = get_or-map key xs (slice_index order j) x no_key (let w = ix.within j h in let n = length-map xs key in omega arith) ∙ ap key (sym e)

  key_read : (xs : List R) (p : ℕ) (d : R) → p < length xs → ◌≡◌ {A = Key} (key (get_or xs p d)) (key_at (map key xs) p)
  key_read xs p d h = sym (get_or-map key xs p d no_key h)

  place_within : (xs : List R) (order : List ℕ) (j : ℕ) → IsIndex (map key xs) order → j < length order → slice_index order j < length xs
  place_within xs order j ix h = let w = ix.within j h in let n = length-map xs key in omega arith

  -- ---- look-ups

  pub found_read : (k : Key) (xs : List R) (order : List ℕ) (j : ℕ) (x : R) → IsUnique key xs → IsIndex (map key xs) order → j < length order → ◌≡◌ {A = Key} (ranked_at (map key xs) order j) k
      → x ≡ get_or xs (slice_index order j) x → Some x ≡ first_of_key key k xs
  found_read k xs order j x u ix h e r = ap Some r ∙ sym (found_at key k xs (slice_index order j) x u (place_within xs order j ix h) (key_read xs (slice_index order j) x (place_within xs order j ix h) ∙ e))

  pub found_absent : (k : Key) (xs : List R) (order : List ℕ) (i : ℕ) → IsIndex (map key xs) order → Splits (map key xs) order k i i → first_of_key key k xs ≡ None
  found_absent k [] order i ix s = refl
  found_absent k (x ∷ xs) order i ix s = found_nowhere key k (x ∷ xs) x (λ p h e. splits_absent (map key (x ∷ xs)) order k i p ix s (let n = length-map (x ∷ xs) key in omega arith) (sym (key_read (x ∷ xs) p x h) ∙ e))

  -- ---- a put

  keys_set : (xs : List R) (p : ℕ) (d r : R) → ◌≡◌ {A = Key} (key (get_or xs p d)) (key r) → map key (set xs p r) ≡ map key xs
  keys_set [] p d r e = refl
  keys_set (x ∷ xs) zero d r e = ap (λ (k : Key). k ∷ map key xs) (sym e)
  keys_set (x ∷ xs) (suc p) d r e = ap (λ ks. key x ∷ ks) (keys_set xs p d r e)

  keys_append : (xs ys : List R) → map key (xs ++ ys) ≡ map key xs ++ map key ys
  keys_append [] ys = refl
  keys_append (x ∷ xs) ys = ap (λ ks. key x ∷ ks) (keys_append xs ys)

  keys_remove : (xs : List R) (p : ℕ) → map key (remove xs p) ≡ remove (map key xs) p
  keys_remove [] zero = refl
  keys_remove [] (suc p) = refl
  keys_remove (x ∷ xs) zero = refl
  keys_remove (x ∷ xs) (suc p) = ap (λ ks. key x ∷ ks) (keys_remove xs p)

  module _ (xs : List R) (order : List ℕ) (j : ℕ) (r : R) (u : IsUnique key xs) (ix : IsIndex (map key xs) order) (h : j < length order) (e : ◌≡◌ {A = Key} (ranked_at (map key xs) order j) (key r)) where
    pub put_found : put key r xs ≡ set xs (slice_index order j) r
    put_found = put_at key r xs (slice_index order j) r u (place_within xs order j ix h) (key_read xs (slice_index order j) r (place_within xs order j ix h) ∙ e)

    pub put_found_unique : IsUnique key (set xs (slice_index order j) r)
    put_found_unique = subst (λ ys. IsUnique key ys) put_found (unique_put key r xs u)

    pub put_found_index : IsIndex (map key (set xs (slice_index order j) r)) order
    put_found_index = subst (λ ks. IsIndex ks order) (sym (keys_set xs (slice_index order j) r r (key_read xs (slice_index order j) r (place_within xs order j ix h) ∙ e))) ix

  module _ (xs : List R) (order : List ℕ) (i : ℕ) (r : R) (u : IsUnique key xs) (ix : IsIndex (map key xs) order) (s : Splits (map key xs) order (key r) i i) where
    pub put_absent : put key r xs ≡ xs ++ r ∷ []
    put_absent = put_end key r xs (found_absent (key r) xs order i ix s)

    pub put_absent_unique : IsUnique key (xs ++ r ∷ [])
    put_absent_unique = subst (λ ys. IsUnique key ys) put_absent (unique_put key r xs u)

    pub put_absent_index : IsIndex (map key (xs ++ r ∷ [])) (insert order i (length xs))
    put_absent_index = rw (keys_append xs (r ∷ [])) (subst (λ n. IsIndex (map key xs ++ key r ∷ []) (insert order i n)) (length-map xs key) (index_more (map key xs) order (key r) i ix s))

  -- ---- a removal

  pub without_found : (k : Key) (xs : List R) (order : List ℕ) (j : ℕ) → IsUnique key xs → IsIndex (map key xs) order → j < length order → ◌≡◌ {A = Key} (ranked_at (map key xs) order j) k → without key k xs ≡ remove xs (slice_index order j)
  without_found k [] order j u ix h e = absurd (let w = place_within [] order j ix h in omega arith)
  without_found k (x ∷ xs) order j u ix h e =
      let w = place_within (x ∷ xs) order j ix h in
      without_at key k (x ∷ xs) (slice_index order j) x u w (key_read (x ∷ xs) (slice_index order j) x w ∙ e)

  pub without_absent : (k : Key) (xs : List R) (order : List ℕ) (i : ℕ) → IsIndex (map key xs) order → Splits (map key xs) order k i i → without key k xs ≡ xs
  without_absent k xs order i ix s = without_none key k xs (found_absent k xs order i ix s)

  pub unique_removed : (xs : List R) (order : List ℕ) (j : ℕ) → IsUnique key xs → IsIndex (map key xs) order → j < length order → IsUnique key (remove xs (slice_index order j))
  unique_removed xs order j u ix h = subst (λ ys. IsUnique key ys) (without_found (ranked_at (map key xs) order j) xs order j u ix h refl) (unique_without key (ranked_at (map key xs) order j) xs u)

  pub index_removed : (xs : List R) (order : List ℕ) (j : ℕ) → IsIndex (map key xs) order → j < length order → IsIndex (map key (remove xs (slice_index order j))) (map (place_moved_up (slice_index order j)) (remove order j))
  index_removed xs order j ix h = rw (keys_remove xs (slice_index order j)) (index_less (map key xs) order j ix h)

  -- ---- as the code reads and writes

  pub spot_here : (xs ys : List R) (order o : List ℕ) (k : Key) (r : Result ℕ ℕ) → ys ≡ xs → o ≡ order → IsSpot (map key ys) o k r → IsSpot (map key xs) order k r
  spot_here xs ys order o k r e f h = subst (λ os. IsSpot (map key xs) os k r) f (subst (λ zs. IsSpot (map key zs) o k r) e h)

  place_read : (order : List ℕ) (j p : ℕ) → j < length order → p ≡ get_or order j p → p ≡ slice_index order j
  place_read order j p h e = e ∙ get_or_default order j p 0 h

  module _ (xs new : List R) (order : List ℕ) (j p : ℕ) (r : R) (kept : IsUnique key xs × IsIndex (map key xs) order)
      (spot : (j < length order) × (◌≡◌ {A = Key} (ranked_at (map key xs) order j) (key r))) (e : p ≡ get_or order j p) (f : new ≡ set xs p r) where
    swap_is_set : new ≡ set xs (slice_index order j) r
    swap_is_set = f ∙ ap (λ q. set xs q r) (place_read order j p spot.0 e)

    pub swapped_kept : IsUnique key new × IsIndex (map key new) order
    swapped_kept = rw swap_is_set (put_found_unique xs order j r kept.0 kept.1 spot.0 spot.1, put_found_index xs order j r kept.0 kept.1 spot.0 spot.1)

    pub swapped_is : new ≡ put key r xs
    swapped_is = swap_is_set ∙ sym (put_found xs order j r kept.0 kept.1 spot.0 spot.1)

  module _ (xs new : List R) (order later : List ℕ) (i n : ℕ) (r : R) (kept : IsUnique key xs × IsIndex (map key xs) order) (s : Splits (map key xs) order (key r) i i) (e : n ≡ length xs)
      (f : new ≡ xs ++ r ∷ []) (g : later ≡ insert order i n) where
    pub added_kept : IsUnique key new × IsIndex (map key new) later
    added_kept = rw (f, g, e) (put_absent_unique xs order i r kept.0 kept.1 s, put_absent_index xs order i r kept.0 kept.1 s)

    pub added_is : new ≡ put key r xs
    added_is = f ∙ sym (put_absent xs order i r kept.0 kept.1 s)

  module _ (xs new : List R) (order : List ℕ) (j p : ℕ) where
    pub unique_taken : IsUnique key xs → IsIndex (map key xs) order → j < length order → p ≡ slice_index order j → new ≡ remove xs p → IsUnique key new
    unique_taken u ix h e f = rw (f, e) (unique_removed xs order j u ix h)

  module _ (xs new : List R) (order later : List ℕ) (j p : ℕ) where
    pub index_taken : IsIndex (map key xs) order → j < length order → p ≡ slice_index order j → new ≡ remove xs p → later ≡ map (place_moved_up p) (remove order j) → IsIndex (map key new) later
    index_taken ix h e f g = rw (f, g, e) (index_removed xs order j ix h)
