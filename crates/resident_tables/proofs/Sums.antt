-- The counts of a table's rows after a put and a removal.
use Rattle.std.proofs.Common.{◌≡◌, inl, inr, ℕ, ◌+◌, List, [], ◌∷◌, length, Option, Some, None, refl, sym, ap, ◌∙◌, subst, arith}
use Rattle.std.proofs.lemmas.List.Sums.{sum_by-cons}
use Rattle.containers.specs.Keys.{Key, put, IsUnique}
use Rattle.resident_tables.proofs.Orders.{same_or_not}
use Rattle.resident_tables.proofs.Lists.{found_here, found_on, put_here, put_on, without_here, without_on, without_none}
use Rattle.service_api.specs.declared.row.Row.{Row}
use Rattle.service_api.specs.Rows.{row_key, row_size, rows_size, put_row, without_row, found_row}
use Rattle.resident_tables.specs.declared.counts.Counts.{Counts}
use Rattle.resident_tables.specs.Counted.{counts_of, counts_less, counts_put, HasRow}

counts_path : (a b : Counts) → a.rows ≡ b.rows → a.bytes ≡ b.bytes → ◌≡◌ {A = Counts} a b
counts_path a b e f = λ i. record { rows = e i; bytes = f i }

-- ---- a row that is found is counted

has_more : (o : Option Row) (x : Row) (xs : List Row) → HasRow o (counts_of xs) → HasRow o (counts_of (x ∷ xs))
has_more None x xs h = tt
has_more (Some r) x xs h = let s = sum_by-cons row_size x xs in (omega arith, let w = h.1 in omega arith)

pub has_row : (k : Key) (xs : List Row) → HasRow (found_row k xs) (counts_of xs)
has_row k [] = tt
has_row k (x ∷ xs) = elim (same_or_not (row_key x) k) [
  | inl e ↦ rw (found_here row_key k x xs e) (let s = sum_by-cons row_size x xs in (omega arith, omega arith))
  | inr n ↦ rw (found_on row_key k x xs n) (has_more (found_row k xs) x xs (has_row k xs))
]

-- ---- a put

-- with one row more in front
front : Row → Counts → Counts
front x c = record { rows = c.rows + 1; bytes = row_size x + c.bytes }

counts_more : (x : Row) (xs : List Row) → counts_of (x ∷ xs) ≡ front x (counts_of xs)
unfolding front
counts_more x xs = counts_path (counts_of (x ∷ xs)) (record { rows = length xs + 1; bytes = row_size x + rows_size xs }) (omega arith) (sum_by-cons row_size x xs)

put_front : (o : Option Row) (size : ℕ) (x : Row) (c : Counts) → HasRow o c → counts_put o size (front x c) ≡ front x (counts_put o size c)
unfolding front
put_front None size x c h = counts_path _ _ refl (omega arith)
put_front (Some r) size x c h = counts_path _ _ (let a = h.0 in omega arith) (let b = h.1 in omega arith)

less_front : (o : Option Row) (x : Row) (c : Counts) → HasRow o c → counts_less o (front x c) ≡ front x (counts_less o c)
unfolding front
less_front None x c h = refl
less_front (Some r) x c h = counts_path _ _ (let a = h.0 in omega arith) (let b = h.1 in omega arith)

pub counts_put_is : (r : Row) (xs : List Row) → counts_put (found_row (row_key r) xs) (row_size r) (counts_of xs) ≡ counts_of (put_row r xs)
counts_put_is r [] = counts_path _ _ (omega arith) (let s = sum_by-cons row_size r [] in omega arith)
counts_put_is r (x ∷ xs) = elim (same_or_not (row_key x) (row_key r)) [
  | inl e ↦ rw (found_here row_key (row_key r) x xs e, put_here row_key r x xs e) (counts_path _ _ (omega arith) (let s = sum_by-cons row_size x xs in let t = sum_by-cons row_size r xs in omega arith))
  | inr n ↦ rw (found_on row_key (row_key r) x xs n, put_on row_key r x xs n)
      (ap (counts_put (found_row (row_key r) xs) (row_size r)) (counts_more x xs) ∙ put_front (found_row (row_key r) xs) (row_size r) x (counts_of xs) (has_row (row_key r) xs) ∙ ap (front x)
      (counts_put_is r xs) ∙ sym (counts_more x (put_row r xs)))
]

-- ---- a removal

pub counts_less_is : (k : Key) (xs : List Row) → IsUnique row_key xs → counts_less (found_row k xs) (counts_of xs) ≡ counts_of (without_row k xs)
counts_less_is k [] u = refl
counts_less_is k (x ∷ xs) u = elim (same_or_not (row_key x) k) [
  | inl e ↦ rw (found_here row_key k x xs e, without_here row_key k x xs e, without_none row_key k xs (subst (λ (j : Key). found_row j xs ≡ None) e u.0)) (counts_path _ _ (omega arith) (let s = sum_by-cons row_size x xs in omega arith))
  | inr n ↦ rw (found_on row_key k x xs n, without_on row_key k x xs n)
      (ap (counts_less (found_row k xs)) (counts_more x xs) ∙ less_front (found_row k xs) x (counts_of xs) (has_row k xs) ∙ ap (front x) (counts_less_is k xs u.1) ∙ sym (counts_more x (without_row k xs)))
]
