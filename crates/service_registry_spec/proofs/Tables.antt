-- Rows of a table stay good, and what a look-up finds in them is good.
use Rattle.std.proofs.Common.{◌≡◌, ℕ, ℤ, pos, ◌+ℤ◌, ◌≤ℤ◌, ◌≤◌, Bool, true, false, ◌&&◌, nat_le, if◌then◌else◌, List, [], ◌∷◌, length, Option, Some, None, refl, subst, arith}
use Rattle.std.specs.Prelude.{All, filter, not}
use Rattle.std.specs.Ordering.{int_eq}
use Rattle.std.proofs.lemmas.Bool.Decides.{nat_tests, Decides-int_eq}
use Rattle.std.proofs.lemmas.Int.{ints}
use Rattle.std.proofs.lemmas.List.Elements.{All-nil, All-cons, All-head, All-tail, All-filter}
use Rattle.containers.proofs.Bools.{and_left, and_right, and_both}
use Rattle.std.proofs.lemmas.List.Sums.{sum_by-cons}
use Rattle.containers.proofs.Options.{none-some, some-same}
use Rattle.plan_base.specs.declared.tree.Ty.{Ty}
use Rattle.plan_base.specs.declared.tree.Value.{Value}
use Rattle.plan_base.specs.SameTypes.{same_type}
use Rattle.plan_base.proofs.SameTypes.{same_type_true}
use Rattle.containers.specs.Keys.{Key, same_key}
use Rattle.service_api.specs.declared.row.Row.{Row}
use Rattle.service_api.specs.Rows.{row_key, row_size, rows_size, put_row, without_row, found_row, is_live, value_in, got, fits, last_key, key_after}
use Rattle.service_api.specs.Services.{Rows, IsGoodValue, AreGoodRows}

abbrev IsGoodRow : Row → Type 0
IsGoodRow r = IsGoodValue r.ty r.value

-- ---- a put

all_if : (b : Bool) (ys zs : List Row) → All IsGoodRow ys → All IsGoodRow zs → All IsGoodRow (if b then ys else zs)
all_if true ys zs g h = g
all_if false ys zs g h = h

put_all_good : (r : Row) (xs : List Row) → IsGoodRow r → All IsGoodRow xs → All IsGoodRow (put_row r xs)
put_all_good r [] g h = All-cons IsGoodRow r [] g (All-nil IsGoodRow)
put_all_good r (x ∷ xs) g h = all_if (same_key (row_key x) (row_key r)) (r ∷ xs) (x ∷ put_row r xs)
    (All-cons IsGoodRow r xs g (All-tail IsGoodRow x xs h))
    (All-cons IsGoodRow x (put_row r xs) (All-head IsGoodRow x xs h) (put_all_good r xs g (All-tail IsGoodRow x xs h)))

pub put_good : (r : Row) (rows : Rows) → IsGoodRow r → AreGoodRows rows → fits (put_row r rows.rows) ≡ true → AreGoodRows (record rows { rows = put_row r rows.rows })
put_good r rows g h f = record { values = put_all_good r rows.rows g h.values; room = f; least = h.least; greatest = h.greatest }

-- ---- a removal

less_if : (b : Bool) (x : Row) (ys xs : List Row) → (length ys ≤ length xs) × (rows_size ys ≤ rows_size xs) → (length (if b then (x ∷ ys) else ys) ≤ length (x ∷ xs)) × (rows_size (if b then (x ∷ ys) else ys) ≤ rows_size (x ∷ xs))
less_if true x ys xs h = let s = sum_by-cons row_size x xs in let t = sum_by-cons row_size x ys in (let a = h.0 in omega arith, let b = h.1 in omega arith)
less_if false x ys xs h = let s = sum_by-cons row_size x xs in (let a = h.0 in omega arith, let b = h.1 in omega arith)

filter_less : (p : Row → Bool) (xs : List Row) → (length (filter p xs) ≤ length xs) × (rows_size (filter p xs) ≤ rows_size xs)
filter_less p [] = (omega arith, omega arith)
filter_less p (x ∷ xs) = less_if (p x) x (filter p xs) xs (filter_less p xs)

le_within : (n m l : ℕ) → n ≤ m → nat_le m l ≡ true → nat_le n l ≡ true
le_within n m l h k = grind (arith, nat_tests)

filter_fits : (p : Row → Bool) (xs : List Row) → fits xs ≡ true → fits (filter p xs) ≡ true
filter_fits p xs h =
    let l = filter_less p xs in
    and_both (nat_le (length (filter p xs)) 1024) (nat_le (rows_size (filter p xs)) 1048576)
    (le_within (length (filter p xs)) (length xs) 1024 l.0 (and_left (nat_le (length xs) 1024) (nat_le (rows_size xs) 1048576) h))
    (le_within (rows_size (filter p xs)) (rows_size xs) 1048576 l.1 (and_right (nat_le (length xs) 1024) (nat_le (rows_size xs) 1048576) h))

pub without_good : (k : Key) (rows : Rows) → AreGoodRows rows → AreGoodRows (record rows { rows = without_row k rows.rows })
without_good k rows h = record {
  values = All-filter (λ x. not (same_key (row_key x) k)) IsGoodRow rows.rows h.values;
  room = filter_fits (λ x. not (same_key (row_key x) k)) rows.rows h.room;
  least = h.least;
  greatest = h.greatest;
}

-- ---- a new key

key_more : (z : ℤ) → pos 1 ≤ℤ z → z ≤ℤ last_key → (b : Bool) → int_eq z last_key ≡ b → (pos 1 ≤ℤ (if b then z else z +ℤ pos 1)) × ((if b then z else z +ℤ pos 1) ≤ℤ last_key)
key_more z g h true e = (g, h)
key_more z g h false e =
    let n : z ≡ last_key → ⊥ = λ f. let t = (Decides-int_eq z last_key).1 f in cc in
    (omega (arith, ints), omega (arith, ints))

pub key_good : (rows : Rows) → AreGoodRows rows → AreGoodRows (record rows { «next» = key_after rows.«next» })
key_good rows h = let k = key_more rows.«next» h.least h.greatest (int_eq rows.«next» last_key) refl in record { values = h.values; room = h.room; least = k.0; greatest = k.1 }

-- ---- a look-up

found_if : (b : Bool) (x r : Row) (rest : Option Row) → IsGoodRow x → (rest ≡ Some r → IsGoodRow r) → (if b then Some x else rest) ≡ Some r → IsGoodRow r
found_if true x r rest g h e = subst IsGoodRow (some-same e) g
found_if false x r rest g h e = h e

found_good : (k : Key) (xs : List Row) (r : Row) → All IsGoodRow xs → found_row k xs ≡ Some r → IsGoodRow r
found_good k [] r h e = absurd (none-some e)
found_good k (x ∷ xs) r h e = found_if (same_key (row_key x) k) x r (found_row k xs) (All-head IsGoodRow x xs h) (found_good k xs r (All-tail IsGoodRow x xs h)) e

typed_if : (t u : Ty) (b c : Bool) (v w : Value) → same_type t u ≡ b → (if b && c then Some v else None) ≡ Some w → IsGoodValue t v → IsGoodValue u w
typed_if t u true true v w s e g = subst (λ x. IsGoodValue u x) (some-same e) (subst (λ (x : Ty). IsGoodValue x v) (same_type_true t u s) g)
typed_if t u true false v w s e g = absurd (none-some e)
typed_if t u false c v w s e g = absurd (none-some e)

got_in : (o : Option Row) (t : Ty) (now : ℕ) (v : Value) → ((r : Row) → o ≡ Some r → IsGoodRow r) → value_in t now o ≡ Some v → IsGoodValue t v
got_in (Some r) t now v h e = typed_if r.ty t (same_type r.ty t) (is_live now r) r.value v refl e (h r refl)
got_in None t now v h e = absurd (none-some e)

pub got_good : (k : Key) (t : Ty) (now : ℕ) (rows : Rows) (v : Value) → AreGoodRows rows → got k t now rows.rows ≡ Some v → IsGoodValue t v
got_good k t now rows v h e = got_in (found_row k rows.rows) t now v (λ r f. found_good k rows.rows r h.values f) e
