-- The limits of rows after a tick and after a commit.
use Rattle.std.proofs.Common.{◌≡◌, inl, inr, ℕ, ◌+◌, ◌-◌, ◌<◌, ◌≤◌, true, false, List, [], ◌∷◌, length, Option, Some, None, min, refl, sym, ap, ◌∙◌, subst, arith}
use Rattle.std.specs.Prelude.{nat_le}
use Rattle.std.proofs.lemmas.Bool.{leb-true}
use Rattle.std.proofs.lemmas.Bool.Decides.{nat_tests}
use Rattle.std.proofs.lemmas.List.Sums.{sum_by-cons}
use Rattle.containers.proofs.Bools.{and_left, and_right, and_both}
use Rattle.service_api.specs.declared.row.Row.{Row}
use Rattle.service_api.specs.Rows.{row_size, rows_size, is_live, living, fits}
use Rattle.resident_tables.specs.declared.counts.Counts.{Counts}
use Rattle.resident_tables.specs.Counted.{counts_of, within, bytes_after}
use Rattle.resident_tables.specs.Expiries.{size_gone, expired_size}
use Rattle.resident_tables.specs.Layers.{Layer, over, put_all, without_all, IsOver, IsCounted}
use Rattle.resident_tables.proofs.Lists.{true_or_false}
use Rattle.resident_tables.proofs.Steps.{kept_first, gone_first}

-- ---- a tick

pub living_less : (now : ℕ) (xs : List Row) → (length (living now xs) ≤ length xs) × (rows_size (living now xs) ≤ rows_size xs)
living_less now [] = (omega arith, omega arith)
living_less now (x ∷ xs) = let ih = living_less now xs in let s = sum_by-cons row_size x xs in elim (true_or_false (is_live now x)) [
  | inl e ↦ rw (kept_first now x xs e) (let a = ih.0 in omega arith, let b = ih.1 in let t = sum_by-cons row_size x (living now xs) in omega arith)
  | inr e ↦ rw (gone_first now x xs e) (let a = ih.0 in omega arith, let b = ih.1 in omega arith)
]

le_within : (n m : ℕ) (l : ℕ) → n ≤ m → nat_le m l ≡ true → nat_le n l ≡ true
le_within n m l h k = grind (arith, nat_tests)

pub living_fits : (now : ℕ) (xs : List Row) → fits xs ≡ true → fits (living now xs) ≡ true
living_fits now xs h =
    let l = living_less now xs in
    and_both (nat_le (length (living now xs)) 1024) (nat_le (rows_size (living now xs)) 1048576)
    (le_within (length (living now xs)) (length xs) 1024 l.0 (and_left (nat_le (length xs) 1024) (nat_le (rows_size xs) 1048576) h))
    (le_within (rows_size (living now xs)) (rows_size xs) 1048576 l.1 (and_right (nat_le (length xs) 1024) (nat_le (rows_size xs) 1048576) h))

pub few_rows : (xs : List Row) → fits xs ≡ true → length xs < 4294967296
few_rows xs h = let b = leb-true (length xs) 1024 (and_left (nat_le (length xs) 1024) (nat_le (rows_size xs) 1048576) h) in omega arith

sizes_apart : (now : ℕ) (xs : List Row) → rows_size (living now xs) + expired_size now xs ≡ rows_size xs
sizes_apart now [] = refl
sizes_apart now (x ∷ xs) =
    let ih = sizes_apart now xs in
    let s = sum_by-cons row_size x xs in
    let g = sum_by-cons (size_gone now) x xs in
    elim (true_or_false (is_live now x)) [
      | inl e ↦ let k : size_gone now x ≡ 0 = rw e refl in let t = sum_by-cons row_size x (living now xs) in rw (kept_first now x xs e) (omega arith)
      | inr e ↦ let k : size_gone now x ≡ row_size x = rw e refl in rw (gone_first now x xs e) (omega arith)
    ]

-- what is left of the bytes of rows once those are gone that go
module _ (now : ℕ) (xs : List Row) (bytes gone : ℕ) (fit : fits xs ≡ true) (b : bytes ≡ rows_size xs) (g : gone ≡ min (expired_size now xs) 18446744073709551615) where
  gone_is : gone ≡ expired_size now xs
  gone_is = let a = sizes_apart now xs in let w = leb-true (rows_size xs) 1048576 (and_right (nat_le (length xs) 1024) (nat_le (rows_size xs) 1048576) fit) in omega arith

  pub gone_within : gone ≤ bytes
  gone_within = let a = sizes_apart now xs in let e = gone_is in omega arith

  pub bytes_left : bytes - gone ≡ rows_size (living now xs)
  bytes_left = let a = sizes_apart now xs in let e = gone_is in omega arith

-- ---- the counts of a layer

none_over : (base : List Row) (o : Layer) → IsCounted base o None → over base o ≡ base
none_over base o h = ap (λ gs. put_all o.puts (without_all gs base)) h.0 ∙ ap (λ ps. put_all ps base) h.1

pub counted_none : (base : List Row) (o : Layer) → IsOver base o → o.counted ≡ None → over base o ≡ base
counted_none base o h e = none_over base o (subst (IsCounted base o) e h)

pub counted_some : (base : List Row) (o : Layer) (c : Counts) → IsOver base o → o.counted ≡ Some c → (c ≡ counts_of (over base o)) × (within c ≡ true)
counted_some base o c h e = subst (IsCounted base o) e h

committed_by : (base : List Row) (o : Layer) (k : Option Counts) (b : ℕ) → b ≡ rows_size base → fits base ≡ true → IsCounted base o k → (bytes_after k b ≡ rows_size (over base o)) × (fits (over base o) ≡ true)
committed_by base o (Some c) b e f h = (ap (λ (x : Counts). x.bytes) h.0, subst (λ (x : Counts). within x ≡ true) h.0 h.1)
committed_by base o None b e f h = let n = none_over base o h in (e ∙ ap rows_size (sym n), subst (λ xs. fits xs ≡ true) (sym n) f)

pub committed_rows_fit : (base : List Row) (o : Layer) (b : ℕ) → b ≡ rows_size base → fits base ≡ true → IsOver base o → (bytes_after o.counted b ≡ rows_size (over base o)) × (fits (over base o) ≡ true)
committed_rows_fit base o b e f h = committed_by base o o.counted b e f h
