-- A layer of changes after one change more, and what is found in it.
use Rattle.std.proofs.Common.{◌≡◌, inl, inr, List, [], ◌∷◌, ◌++◌, Some, None, refl, sym, ap, ◌∙◌, subst}
use Rattle.containers.proofs.Options.{none-some}
use Rattle.containers.specs.Keys.{Key, first_of_key, put, IsUnique}
use Rattle.resident_tables.proofs.Orders.{same_or_not}
use Rattle.resident_tables.proofs.Lists.{found_here, found_on, found_put, found_put_other, found_without, found_without_other, put_here, put_on, without_here, without_on, unique_put, unique_without, not_first, not_later}
use Rattle.service_api.specs.declared.row.Row.{Row}
use Rattle.service_api.specs.Rows.{row_key, put_row, without_row, found_row}
use Rattle.resident_tables.specs.declared.gone.Gone.{Gone}
use Rattle.resident_tables.specs.Layers.{gone_key, put_all, without_all}

-- ---- what is found

pub found_all_none : (k : Key) (puts rows : List Row) → found_row k puts ≡ None → found_row k (put_all puts rows) ≡ found_row k rows
found_all_none k [] rows h = refl
found_all_none k (r ∷ rs) rows h = found_all_none k rs (put_row r rows) (not_later row_key k r rs h) ∙ found_put_other row_key k r rows (not_first row_key k r rs h)

pub found_all_some : (k : Key) (puts rows : List Row) (r : Row) → IsUnique row_key puts → found_row k puts ≡ Some r → found_row k (put_all puts rows) ≡ Some r
found_all_some k [] rows r u h = absurd (none-some h)
found_all_some k (x ∷ xs) rows r u h = elim (same_or_not (row_key x) k) [
  | inl e ↦ found_all_none k xs (put_row x rows) (subst (λ (j : Key). found_row j xs ≡ None) e u.0)
      ∙ subst (λ (j : Key). found_row j (put_row x rows) ≡ Some x) e (found_put row_key x rows) ∙ (sym (found_here row_key k x xs e) ∙ h)
  | inr n ↦ found_all_some k xs (put_row x rows) r u.1 (sym (found_on row_key k x xs n) ∙ h)
]

still_none : (k j : Key) (rows : List Row) → found_row k rows ≡ None → found_row k (without_row j rows) ≡ None
still_none k j rows h = elim (same_or_not j k) [
  | inl e ↦ subst (λ (i : Key). found_row k (without_row i rows) ≡ None) (sym e) (found_without row_key k rows)
  | inr n ↦ found_without_other row_key k j rows n ∙ h
]

pub still_none_all : (k : Key) (gone : List Gone) (rows : List Row) → found_row k rows ≡ None → found_row k (without_all gone rows) ≡ None
still_none_all k [] rows h = h
still_none_all k (g ∷ gs) rows h = still_none_all k gs (without_row (gone_key g) rows) (still_none k (gone_key g) rows h)

pub found_not_gone : (k : Key) (gone : List Gone) (rows : List Row) → first_of_key gone_key k gone ≡ None → found_row k (without_all gone rows) ≡ found_row k rows
found_not_gone k [] rows h = refl
found_not_gone k (g ∷ gs) rows h = found_not_gone k gs (without_row (gone_key g) rows) (not_later gone_key k g gs h) ∙ found_without_other row_key k (gone_key g) rows (not_first gone_key k g gs h)

pub found_all_gone : (k : Key) (gone : List Gone) (rows : List Row) (g : Gone) → first_of_key gone_key k gone ≡ Some g → found_row k (without_all gone rows) ≡ None
found_all_gone k [] rows g h = absurd (none-some h)
found_all_gone k (x ∷ xs) rows g h = elim (same_or_not (gone_key x) k) [
  | inl e ↦ still_none_all k xs (without_row (gone_key x) rows) (subst (λ (j : Key). found_row k (without_row j rows) ≡ None) (sym e) (found_without row_key k rows))
  | inr n ↦ found_all_gone k xs (without_row (gone_key x) rows) g (sym (found_on gone_key k x xs n) ∙ h)
]

-- ---- no key twice

pub unique_all : (puts rows : List Row) → IsUnique row_key rows → IsUnique row_key (put_all puts rows)
unique_all [] rows u = u
unique_all (r ∷ rs) rows u = unique_all rs (put_row r rows) (unique_put row_key r rows u)

pub unique_without_all : (gone : List Gone) (rows : List Row) → IsUnique row_key rows → IsUnique row_key (without_all gone rows)
unique_without_all [] rows u = u
unique_without_all (g ∷ gs) rows u = unique_without_all gs (without_row (gone_key g) rows) (unique_without row_key (gone_key g) rows u)

-- ---- one put more

-- puts of two keys, one of which is there, may be exchanged
exchange : (r x : Row) (rows : List Row) → ¬ (◌≡◌ {A = Key} (row_key x) (row_key r)) → (y : Row) → found_row (row_key r) rows ≡ Some y → put_row r (put_row x rows) ≡ put_row x (put_row r rows)
exchange r x [] n y h = absurd (none-some h)
exchange r x (z ∷ zs) n y h = elim (same_or_not (row_key z) (row_key x)) [
  | inl e ↦ let m = λ (f : ◌≡◌ {A = Key} (row_key z) (row_key r)). n (sym e ∙ f) in
      ap (put_row r) (put_here row_key x z zs e) ∙ put_on row_key r x zs n
      ∙ sym (ap (put_row x) (put_on row_key r z zs m) ∙ put_here row_key x z (put_row r zs) e)
  | inr o ↦ elim (same_or_not (row_key z) (row_key r)) [
    | inl e ↦ ap (put_row r) (put_on row_key x z zs o) ∙ put_here row_key r z (put_row x zs) e
        ∙ sym (ap (put_row x) (put_here row_key r z zs e) ∙ put_on row_key x r zs (λ f. n (sym f)))
    | inr m ↦ ap (put_row r) (put_on row_key x z zs o) ∙ put_on row_key r z (put_row x zs) m
        ∙ (ap (λ ys. z ∷ ys) (exchange r x zs n y (sym (found_on row_key (row_key r) z zs m) ∙ h))
        ∙ sym (ap (put_row x) (put_on row_key r z zs m) ∙ put_on row_key x z (put_row r zs) o))
  ]
]

-- a put behind puts of other keys, where the key is there before them
through : (r : Row) (xs rows : List Row) (y : Row) → found_row (row_key r) xs ≡ None → found_row (row_key r) rows ≡ Some y → put_row r (put_all xs rows) ≡ put_all xs (put_row r rows)
through r [] rows y n h = refl
through r (z ∷ zs) rows y n h =
    let o = not_first row_key (row_key r) z zs n in
    through r zs (put_row z rows) y (not_later row_key (row_key r) z zs n) (found_put_other row_key (row_key r) z rows o ∙ h) ∙ ap (put_all zs) (exchange r z rows o y h)

-- the later of two puts of one key stays
later_put_stays : (r x : Row) (rows : List Row) → ◌≡◌ {A = Key} (row_key x) (row_key r) → put_row r (put_row x rows) ≡ put_row r rows
later_put_stays r x [] e = put_here row_key r x [] e
later_put_stays r x (z ∷ zs) e = elim (same_or_not (row_key z) (row_key x)) [
  | inl f ↦ ap (put_row r) (put_here row_key x z zs f) ∙ put_here row_key r x zs e ∙ sym (put_here row_key r z zs (f ∙ e))
  | inr n ↦ let m = λ (f : ◌≡◌ {A = Key} (row_key z) (row_key r)). n (f ∙ sym e) in
      ap (put_row r) (put_on row_key x z zs n) ∙ put_on row_key r z (put_row x zs) m ∙ ap (λ ys. z ∷ ys) (later_put_stays r x zs e) ∙ sym (put_on row_key r z zs m)
]

found_same : (r x : Row) (rows : List Row) → ◌≡◌ {A = Key} (row_key x) (row_key r) → found_row (row_key r) (put_row x rows) ≡ Some x
found_same r x rows e = subst (λ (j : Key). found_row j (put_row x rows) ≡ Some x) e (found_put row_key x rows)

pub put_among : (r : Row) (puts rows : List Row) → IsUnique row_key puts → put_all (put_row r puts) rows ≡ put_row r (put_all puts rows)
put_among r [] rows u = refl
put_among r (x ∷ xs) rows u = elim (same_or_not (row_key x) (row_key r)) [
  | inl e ↦ ap (λ ys. put_all ys rows) (put_here row_key r x xs e) ∙ ap (put_all xs) (sym (later_put_stays r x rows e))
      ∙ sym (through r xs (put_row x rows) x (subst (λ (j : Key). found_row j xs ≡ None) e u.0) (found_same r x rows e))
  | inr n ↦ ap (λ ys. put_all ys rows) (put_on row_key r x xs n) ∙ put_among r xs (put_row x rows) u.1
]

-- ---- one removal more

pub without_more : (g : Gone) (gone : List Gone) (rows : List Row) → without_all (gone ++ g ∷ []) rows ≡ without_row (gone_key g) (without_all gone rows)
without_more g [] rows = refl
without_more g (x ∷ xs) rows = without_more g xs (without_row (gone_key x) rows)

-- a put of another key and a removal may be exchanged
apart : (k : Key) (x : Row) (rows : List Row) → ¬ (◌≡◌ {A = Key} (row_key x) k) → without_row k (put_row x rows) ≡ put_row x (without_row k rows)
apart k x [] n = without_on row_key k x [] n
apart k x (z ∷ zs) n = elim (same_or_not (row_key z) (row_key x)) [
  | inl e ↦ let m = λ (f : ◌≡◌ {A = Key} (row_key z) k). n (sym e ∙ f) in
      ap (without_row k) (put_here row_key x z zs e) ∙ without_on row_key k x zs n
      ∙ sym (ap (put_row x) (without_on row_key k z zs m) ∙ put_here row_key x z (without_row k zs) e)
  | inr o ↦ elim (same_or_not (row_key z) k) [
    | inl e ↦ ap (without_row k) (put_on row_key x z zs o) ∙ without_here row_key k z (put_row x zs) e ∙ apart k x zs n
        ∙ sym (ap (put_row x) (without_here row_key k z zs e))
    | inr m ↦ ap (without_row k) (put_on row_key x z zs o) ∙ without_on row_key k z (put_row x zs) m
        ∙ (ap (λ ys. z ∷ ys) (apart k x zs n) ∙ sym (ap (put_row x) (without_on row_key k z zs m) ∙ put_on row_key x z (without_row k zs) o))
  ]
]

-- a put of the key before its removal is nothing
undone : (k : Key) (x : Row) (rows : List Row) → ◌≡◌ {A = Key} (row_key x) k → without_row k (put_row x rows) ≡ without_row k rows
undone k x [] e = without_here row_key k x [] e
undone k x (z ∷ zs) e = elim (same_or_not (row_key z) (row_key x)) [
  | inl f ↦ ap (without_row k) (put_here row_key x z zs f) ∙ without_here row_key k x zs e ∙ sym (without_here row_key k z zs (f ∙ e))
  | inr n ↦ let m = λ (f : ◌≡◌ {A = Key} (row_key z) k). n (f ∙ sym e) in
      ap (without_row k) (put_on row_key x z zs n) ∙ without_on row_key k z (put_row x zs) m ∙ ap (λ ys. z ∷ ys) (undone k x zs e) ∙ sym (without_on row_key k z zs m)
]

pub without_among : (k : Key) (puts rows : List Row) → without_row k (put_all puts rows) ≡ put_all (without_row k puts) (without_row k rows)
without_among k [] rows = refl
without_among k (x ∷ xs) rows = elim (same_or_not (row_key x) k) [
  | inl e ↦ rw (without_here row_key k x xs e) (without_among k xs (put_row x rows) ∙ ap (put_all (without_row k xs)) (undone k x rows e))
  | inr n ↦ rw (without_on row_key k x xs n) (without_among k xs (put_row x rows) ∙ ap (put_all (without_row k xs)) (apart k x rows n))
]
