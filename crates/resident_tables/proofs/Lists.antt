-- Look-ups by key after a put and a removal, and what these are where the key's place is known.
use Rattle.std.proofs.Common.{◌≡◌, ◌⊎◌, inl, inr, ℕ, zero, suc, ◌<◌, Bool, true, false, List, [], ◌∷◌, ◌++◌, length, get_or, Some, None, refl, sym, ap, ◌∙◌, subst, arith}
use Rattle.std.proofs.Math.ListN.{set}
use Rattle.std.specs.List.{remove, filter}
use Rattle.containers.proofs.Options.{none-some}
use Rattle.containers.specs.Keys.{Key, first_of_key, put, without, IsUnique}
use Rattle.resident_tables.proofs.Orders.{same_key_true, same_key_false, same_or_not}

pub true_or_false : (b : Bool) → (b ≡ true) ⊎ (b ≡ false)
true_or_false true = inl refl
true_or_false false = inr refl

module _ {R : Type 0} (key : R → Key) where
  -- ---- one step, where the first item has the key and where it hasn't

  pub found_here : (k : Key) (x : R) (xs : List R) → ◌≡◌ {A = Key} (key x) k → first_of_key key k (x ∷ xs) ≡ Some x
  found_here k x xs e = rw (same_key_true (key x) k e)

  pub found_on : (k : Key) (x : R) (xs : List R) → ¬ (◌≡◌ {A = Key} (key x) k) → first_of_key key k (x ∷ xs) ≡ first_of_key key k xs
  found_on k x xs e = rw (same_key_false (key x) k e)

  pub put_here : (r x : R) (xs : List R) → ◌≡◌ {A = Key} (key x) (key r) → put key r (x ∷ xs) ≡ r ∷ xs
  put_here r x xs e = rw (same_key_true (key x) (key r) e)

  pub put_on : (r x : R) (xs : List R) → ¬ (◌≡◌ {A = Key} (key x) (key r)) → put key r (x ∷ xs) ≡ x ∷ put key r xs
  put_on r x xs e = rw (same_key_false (key x) (key r) e)

  pub without_here : (k : Key) (x : R) (xs : List R) → ◌≡◌ {A = Key} (key x) k → without key k (x ∷ xs) ≡ without key k xs
  without_here k x xs e = rw (same_key_true (key x) k e)

  pub without_on : (k : Key) (x : R) (xs : List R) → ¬ (◌≡◌ {A = Key} (key x) k) → without key k (x ∷ xs) ≡ x ∷ without key k xs
  without_on k x xs e = rw (same_key_false (key x) k e)

  -- ---- look-ups

  pub not_first : (k : Key) (x : R) (xs : List R) → first_of_key key k (x ∷ xs) ≡ None → ¬ (◌≡◌ {A = Key} (key x) k)
  not_first k x xs h e = none-some (sym h ∙ found_here k x xs e)

  pub not_later : (k : Key) (x : R) (xs : List R) → first_of_key key k (x ∷ xs) ≡ None → first_of_key key k xs ≡ None
  not_later k x xs h = sym (found_on k x xs (not_first k x xs h)) ∙ h

  pub not_found : (k : Key) (x : R) (xs : List R) → ¬ (◌≡◌ {A = Key} (key x) k) → first_of_key key k xs ≡ None → first_of_key key k (x ∷ xs) ≡ None
  not_found k x xs e h = found_on k x xs e ∙ h

  -- what is found has the key
  pub found_key : (k : Key) (xs : List R) (r : R) → first_of_key key k xs ≡ Some r → ◌≡◌ {A = Key} (key r) k
  found_key k [] r h = absurd (none-some h)
  found_key k (x ∷ xs) r h = elim (same_or_not (key x) k) [
    | inl e ↦ subst (λ (y : R). ◌≡◌ {A = Key} (key y) k) (let f = found_here k x xs e in cc) e
    | inr n ↦ found_key k xs r (sym (found_on k x xs n) ∙ h)
  ]

  pub found_put : (r : R) (xs : List R) → first_of_key key (key r) (put key r xs) ≡ Some r
  found_put r [] = found_here (key r) r [] refl
  found_put r (x ∷ xs) = elim (same_or_not (key x) (key r)) [
    | inl e ↦ rw (put_here r x xs e) (found_here (key r) r xs refl)
    | inr n ↦ rw (put_on r x xs n) (found_on (key r) x (put key r xs) n ∙ found_put r xs)
  ]

  pub found_put_other : (k : Key) (r : R) (xs : List R) → ¬ (◌≡◌ {A = Key} (key r) k) → first_of_key key k (put key r xs) ≡ first_of_key key k xs
  found_put_other k r [] n = found_on k r [] n
  found_put_other k r (x ∷ xs) n = elim (same_or_not (key x) (key r)) [
    | inl e ↦ rw (put_here r x xs e) (found_on k r xs n ∙ sym (found_on k x xs (λ f. n (sym e ∙ f))))
    | inr m ↦ rw (put_on r x xs m) (elim (same_or_not (key x) k) [
      | inl f ↦ found_here k x (put key r xs) f ∙ sym (found_here k x xs f)
      | inr o ↦ found_on k x (put key r xs) o ∙ found_put_other k r xs n ∙ sym (found_on k x xs o)
    ])
  ]

  pub found_without : (k : Key) (xs : List R) → first_of_key key k (without key k xs) ≡ None
  found_without k [] = refl
  found_without k (x ∷ xs) = elim (same_or_not (key x) k) [
    | inl e ↦ rw (without_here k x xs e) (found_without k xs)
    | inr n ↦ rw (without_on k x xs n) (found_on k x (without key k xs) n ∙ found_without k xs)
  ]

  pub found_without_other : (k j : Key) (xs : List R) → ¬ (◌≡◌ {A = Key} j k) → first_of_key key k (without key j xs) ≡ first_of_key key k xs
  found_without_other k j [] n = refl
  found_without_other k j (x ∷ xs) n = elim (same_or_not (key x) j) [
    | inl e ↦ rw (without_here j x xs e) (found_without_other k j xs n ∙ sym (found_on k x xs (λ f. n (sym e ∙ f))))
    | inr m ↦ rw (without_on j x xs m) (elim (same_or_not (key x) k) [
      | inl f ↦ found_here k x (without key j xs) f ∙ sym (found_here k x xs f)
      | inr o ↦ found_on k x (without key j xs) o ∙ found_without_other k j xs n ∙ sym (found_on k x xs o)
    ])
  ]

  pub without_none : (k : Key) (xs : List R) → first_of_key key k xs ≡ None → without key k xs ≡ xs
  without_none k [] h = refl
  without_none k (x ∷ xs) h = without_on k x xs (not_first k x xs h) ∙ ap (λ ys. x ∷ ys) (without_none k xs (not_later k x xs h))

  pub put_end : (r : R) (xs : List R) → first_of_key key (key r) xs ≡ None → put key r xs ≡ xs ++ r ∷ []
  put_end r [] h = refl
  put_end r (x ∷ xs) h = put_on r x xs (not_first (key r) x xs h) ∙ ap (λ ys. x ∷ ys) (put_end r xs (not_later (key r) x xs h))

  -- ---- no key twice

  pub unique_put : (r : R) (xs : List R) → IsUnique key xs → IsUnique key (put key r xs)
  unique_put r [] u = (refl, tt)
  unique_put r (x ∷ xs) u = elim (same_or_not (key x) (key r)) [
    | inl e ↦ rw (put_here r x xs e) (subst (λ (k : Key). first_of_key key k xs ≡ None) e u.0, u.1)
    | inr n ↦ rw (put_on r x xs n) (found_put_other (key x) r xs (λ f. n (sym f)) ∙ u.0, unique_put r xs u.1)
  ]

  still_none : (k j : Key) (xs : List R) → first_of_key key k xs ≡ None → first_of_key key k (without key j xs) ≡ None
  still_none k j xs h = elim (same_or_not j k) [
    | inl e ↦ subst (λ (i : Key). first_of_key key k (without key i xs) ≡ None) (sym e) (found_without k xs)
    | inr n ↦ found_without_other k j xs n ∙ h
  ]

  pub unique_without : (k : Key) (xs : List R) → IsUnique key xs → IsUnique key (without key k xs)
  unique_without k [] u = tt
  unique_without k (x ∷ xs) u = elim (same_or_not (key x) k) [
    | inl e ↦ rw (without_here k x xs e) (unique_without k xs u.1)
    | inr n ↦ rw (without_on k x xs n) (still_none (key x) k xs u.0, unique_without k xs u.1)
  ]

  none_kept : (t : R → Bool) (k : Key) (xs : List R) → first_of_key key k xs ≡ None → first_of_key key k (filter t xs) ≡ None
  none_kept t k [] h = refl
  none_kept t k (x ∷ xs) h = elim (true_or_false (t x)) [
    | inl e ↦ rw e (not_found k x (filter t xs) (not_first k x xs h) (none_kept t k xs (not_later k x xs h)))
    | inr e ↦ rw e (none_kept t k xs (not_later k x xs h))
  ]

  pub unique_kept : (t : R → Bool) (xs : List R) → IsUnique key xs → IsUnique key (filter t xs)
  unique_kept t [] u = tt
  unique_kept t (x ∷ xs) u = elim (true_or_false (t x)) [
    | inl e ↦ rw e (none_kept t (key x) xs u.0, unique_kept t xs u.1)
    | inr e ↦ rw e (unique_kept t xs u.1)
  ]

  -- ---- where the place of the key is known

  pub found_at : (k : Key) (xs : List R) (p : ℕ) (d : R) → IsUnique key xs → p < length xs → ◌≡◌ {A = Key} (key (get_or xs p d)) k → first_of_key key k xs ≡ Some (get_or xs p d)
  found_at k [] p d u h e = absurd (omega arith)
  found_at k (x ∷ xs) zero d u h e = found_here k x xs e
  found_at k (x ∷ xs) (suc p) d u h e =
      let later = found_at k xs p d u.1 (omega arith) e in
      found_on k x xs (λ f. none-some (sym (subst (λ (j : Key). first_of_key key j xs ≡ None) f u.0) ∙ later)) ∙ later

  pub found_nowhere : (k : Key) (xs : List R) (d : R) → ((p : ℕ) → p < length xs → ¬ (◌≡◌ {A = Key} (key (get_or xs p d)) k)) → first_of_key key k xs ≡ None
  found_nowhere k [] d h = refl
  found_nowhere k (x ∷ xs) d h = not_found k x xs (h 0 (omega arith)) (found_nowhere k xs d (λ p l. h (suc p) (omega arith)))

  pub put_at : (r : R) (xs : List R) (p : ℕ) (d : R) → IsUnique key xs → p < length xs → ◌≡◌ {A = Key} (key (get_or xs p d)) (key r) → put key r xs ≡ set xs p r
  put_at r [] p d u h e = absurd (omega arith)
  put_at r (x ∷ xs) zero d u h e = put_here r x xs e
  put_at r (x ∷ xs) (suc p) d u h e =
      let later = found_at (key r) xs p d u.1 (omega arith) e in
      put_on r x xs (λ f. none-some (sym (subst (λ (j : Key). first_of_key key j xs ≡ None) f u.0) ∙ later)) ∙ ap (λ ys. x ∷ ys) (put_at r xs p d u.1 (omega arith) e)

  pub without_at : (k : Key) (xs : List R) (p : ℕ) (d : R) → IsUnique key xs → p < length xs → ◌≡◌ {A = Key} (key (get_or xs p d)) k → without key k xs ≡ remove xs p
  without_at k [] p d u h e = absurd (omega arith)
  without_at k (x ∷ xs) zero d u h e = without_here k x xs e ∙ without_none k xs (subst (λ (j : Key). first_of_key key j xs ≡ None) e u.0)
  without_at k (x ∷ xs) (suc p) d u h e =
      let later = found_at k xs p d u.1 (omega arith) e in
      without_on k x xs (λ f. none-some (sym (subst (λ (j : Key). first_of_key key j xs ≡ None) f u.0) ∙ later)) ∙ ap (λ ys. x ∷ ys) (without_at k xs p d u.1 (omega arith) e)
