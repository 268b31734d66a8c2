-- What the calls of a layer find and change, as their code reads and writes.
use Rattle.std.proofs.Common.{◌≡◌, ℕ, ℤ, ◌-◌, true, List, Option, Some, None, sym, ap, ◌∙◌, subst, arith}
use Rattle.std.specs.Prelude.{nat_le}
use Rattle.std.proofs.lemmas.Bool.Decides.{nat_tests}
use Rattle.containers.proofs.Bools.{and_left, and_right, and_both}
use Rattle.containers.specs.Keys.{Key, first_of_key, put, IsUnique}
use Rattle.resident_tables.proofs.Lists.{put_end, without_none}
use Rattle.service_api.specs.declared.row.Row.{Row}
use Rattle.service_api.specs.Rows.{row_key, row_size, put_row, without_row, found_row}
use Rattle.resident_tables.specs.declared.counts.Counts.{Counts}
use Rattle.resident_tables.specs.declared.gone.Gone.{Gone}
use Rattle.resident_tables.specs.Counted.{counts_of, within, counts_less, HasRow}
use Rattle.resident_tables.specs.Layers.{gone_key, put_all, without_all}
use Rattle.resident_tables.proofs.Sums.{has_row, counts_less_is}
use Rattle.resident_tables.proofs.Changed.{found_all_none, found_all_some, found_all_gone, found_not_gone, still_none_all, unique_all, unique_without_all, put_among, without_more, without_among}

pub has_found : (o : Option Row) (k : Key) (xs : List Row) (c : Counts) → o ≡ found_row k xs → c ≡ counts_of xs → HasRow o c
has_found o k xs c e f = rw (e, f) (has_row k xs)

-- ---- what is found

module _ (k : Key) (puts : List Row) (gone : List Gone) (base : List Row) where
  pub find_put : (r : Row) → IsUnique row_key puts → Some r ≡ found_row k puts → Some r ≡ found_row k (put_all puts (without_all gone base))
  find_put r u h = sym (found_all_some k puts (without_all gone base) r u (sym h))

  pub find_gone : (g : Gone) → None ≡ found_row k puts → Some g ≡ first_of_key gone_key k gone → None ≡ found_row k (put_all puts (without_all gone base))
  find_gone g h e = sym (found_all_none k puts (without_all gone base) (sym h) ∙ found_all_gone k gone base g (sym e))

  pub find_base : (o : Option Row) → None ≡ found_row k puts → None ≡ first_of_key gone_key k gone → o ≡ found_row k base → o ≡ found_row k (put_all puts (without_all gone base))
  find_base o h e f = f ∙ sym (found_all_none k puts (without_all gone base) (sym h) ∙ found_not_gone k gone base (sym e))

  pub unique_over : IsUnique row_key base → IsUnique row_key (put_all puts (without_all gone base))
  unique_over u = unique_all puts (without_all gone base) (unique_without_all gone base u)

-- ---- a removal

pub forget_absent : (k : Key) (gone : List Gone) (base : List Row) → None ≡ found_row k base → without_all gone base ≡ without_row k (without_all gone base)
forget_absent k gone base h = sym (without_none row_key k (without_all gone base) (still_none_all k gone base (sym h)))

pub forget_noted : (k : Key) (gone : List Gone) (base : List Row) (g : Gone) → Some g ≡ first_of_key gone_key k gone → without_all gone base ≡ without_row k (without_all gone base)
forget_noted k gone base g h = sym (without_none row_key k (without_all gone base) (found_all_gone k gone base g (sym h)))

-- a key by its parts
pub key_named : (y z : ℤ) (m n : List ℕ) → y ≡ z → m ≡ n → ◌≡◌ {A = Key} (record { name = m; number = y }) (record { name = n; number = z })
key_named y z m n f e = λ i. record { name = e i; number = f i }

forget_one : (g : Gone) (gone new : List Gone) (base : List Row) → None ≡ first_of_key gone_key (gone_key g) gone → new ≡ put gone_key g gone → without_all new base ≡ without_row (gone_key g) (without_all gone base)
forget_one g gone new base h e = ap (λ gs. without_all gs base) (e ∙ put_end gone_key g gone (sym h)) ∙ without_more g gone base

pub forget_new : (y z : ℤ) (name wanted : List ℕ) (gone mid new : List Gone) (base : List Row) → y ≡ z → name ≡ wanted → mid ≡ gone
    → None ≡ first_of_key gone_key (record { name = wanted; number = z }) gone → new ≡ put gone_key (record { name = name; key = y }) mid
    → without_all new base ≡ without_row (record { name = wanted; number = z }) (without_all gone base)
forget_new y z name wanted gone mid new base y-is e f h g =
    let k = key_named y z name wanted y-is e in
    forget_one (record { name = name; key = y }) gone new base (h ∙ ap (λ (j : Key). first_of_key gone_key j gone) (sym k)) (g ∙ ap (put gone_key (record { name = name; key = y })) f)
    ∙ ap (λ (j : Key). without_row j (without_all gone base)) k

pub removed_over : (k : Key) (puts later : List Row) (gone new : List Gone) (base : List Row) → without_all new base ≡ without_row k (without_all gone base) → later ≡ without_row k puts
    → put_all later (without_all new base) ≡ without_row k (put_all puts (without_all gone base))
removed_over k puts later gone new base e f = ap (λ ys. put_all ys (without_all new base)) f ∙ (ap (put_all (without_row k puts)) e ∙ sym (without_among k puts (without_all gone base)))

less_bytes : (n s : ℕ) → nat_le n 1048576 ≡ true → nat_le (n - s) 1048576 ≡ true
less_bytes n s h = grind (arith, nat_tests)

less_rows : (n : ℕ) → nat_le n 1024 ≡ true → nat_le (n - 1) 1024 ≡ true
less_rows n h = grind (arith, nat_tests)

pub less_within : (o : Option Row) (c : Counts) → within c ≡ true → within (counts_less o c) ≡ true
less_within None c h = h
less_within (Some r) c h =
    and_both (nat_le (c.rows - 1) 1024) (nat_le (c.bytes - row_size r) 1048576) (less_rows c.rows (and_left (nat_le c.rows 1024) (nat_le c.bytes 1048576) h))
    (less_bytes c.bytes (row_size r) (and_right (nat_le c.rows 1024) (nat_le c.bytes 1048576) h))

pub removed_counts : (k : Key) (xs : List Row) (o : Option Row) (c d : Counts) → IsUnique row_key xs → o ≡ found_row k xs → c ≡ counts_of xs → within c ≡ true → d ≡ counts_less o c → (d ≡ counts_of (without_row k xs)) × (within d ≡ true)
removed_counts k xs o c d u e f w h = (
  h ∙ (ap (λ p. counts_less p c) e ∙ (ap (counts_less (found_row k xs)) f ∙ counts_less_is k xs u)),
  subst (λ (x : Counts). within x ≡ true) (sym h) (less_within o c w),
)

-- ---- a put

pub put_over : (r : Row) (puts later : List Row) (gone : List Gone) (base : List Row) → IsUnique row_key puts → later ≡ put_row r puts → put_all later (without_all gone base) ≡ put_row r (put_all puts (without_all gone base))
put_over r puts later gone base u e = ap (λ ys. put_all ys (without_all gone base)) e ∙ put_among r puts (without_all gone base) u
