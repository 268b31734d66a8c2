-- Whether the rows after a put keep the limits, by their counts.
use Rattle.std.proofs.Common.{◌≡◌, ℕ, ◌+◌, Bool, true, false, List, Option, Some, None, min, refl, sym, ap, ◌∙◌, subst, arith}
use Rattle.std.specs.Prelude.{◌&&◌, nat_le, if◌then◌else◌}
use Rattle.std.proofs.lemmas.Bool.{leb-true}
use Rattle.std.proofs.lemmas.Bool.Decides.{nat_tests}
use Rattle.containers.proofs.Bools.{and_right}
use Rattle.containers.proofs.Options.{none-some, some-same}
use Rattle.service_api.specs.declared.row.Row.{Row}
use Rattle.service_api.specs.Rows.{row_key, row_size, put_row, found_row, fits}
use Rattle.resident_tables.specs.declared.counts.Counts.{Counts}
use Rattle.resident_tables.specs.Counted.{counts_of, within, counts_less, counts_put, if_within, IsFit}
use Rattle.resident_tables.proofs.Sums.{counts_put_is}

some_case : (b : Bool) (c d : Counts) → (if b then Some c else None) ≡ Some d → (b ≡ true) × (d ≡ c)
some_case true c d e = (refl, sym (some-same e))
some_case false c d e = absurd (none-some e)

none_case : (b : Bool) (c : Counts) → (if b then Some c else None) ≡ None → b ≡ false
none_case true c e = absurd (none-some (sym e))
none_case false c e = refl

-- a size that was cut off at 2^64 - 1 passes the limit just the same
cut_bytes : (n s : ℕ) → nat_le (n + min s 18446744073709551615) 1048576 ≡ nat_le (n + s) 1048576
cut_bytes n s = grind (arith, nat_tests)

module _ (r : Row) (xs : List Row) (size : ℕ) (cut : size ≡ min (row_size r) 18446744073709551615) where
  put_counts : ℕ → Counts
  put_counts n = counts_put (found_row (row_key r) xs) n (counts_of xs)

  whole_size : within (put_counts size) ≡ true → size ≡ row_size r
  unfolding put_counts
  whole_size w =
      let b = leb-true ((counts_less (found_row (row_key r) xs) (counts_of xs)).bytes + size) 1048576
      (and_right (nat_le ((counts_less (found_row (row_key r) xs) (counts_of xs)).rows + 1) 1024) (nat_le ((counts_less (found_row (row_key r) xs) (counts_of xs)).bytes + size) 1048576) w) in
      omega arith

  pub fits_some : (d : Counts) → if_within (counts_put (found_row (row_key r) xs) size (counts_of xs)) ≡ Some d → (fits (put_row r xs) ≡ true) × (d ≡ counts_of (put_row r xs))
  unfolding put_counts
  fits_some d e =
      let s = some_case (within (counts_put (found_row (row_key r) xs) size (counts_of xs))) (counts_put (found_row (row_key r) xs) size (counts_of xs)) d e in
      let same = ap (λ n. counts_put (found_row (row_key r) xs) n (counts_of xs)) (whole_size s.0) ∙ counts_put_is r xs in
      (subst (λ (c : Counts). within c ≡ true) same s.0, s.1 ∙ same)

  pub fits_none : if_within (counts_put (found_row (row_key r) xs) size (counts_of xs)) ≡ None → fits (put_row r xs) ≡ false
  fits_none e =
      let rest = counts_less (found_row (row_key r) xs) (counts_of xs) in
      let n = none_case (within (counts_put (found_row (row_key r) xs) size (counts_of xs))) (counts_put (found_row (row_key r) xs) size (counts_of xs)) e in
      let cut_off = ap (λ m. nat_le (rest.rows + 1) 1024 && nat_le (rest.bytes + m) 1048576) cut in
      sym (ap within (counts_put_is r xs)) ∙ (ap (λ b. nat_le (rest.rows + 1) 1024 && b) (sym (cut_bytes rest.bytes (row_size r))) ∙ (sym cut_off ∙ n))

  pub fit_is : (o : Option Row) (c : Counts) (res : Option Counts) → o ≡ found_row (row_key r) xs → c ≡ counts_of xs → res ≡ if_within (counts_put o size c) → IsFit r xs res
  fit_is o c (Some d) e f g = fits_some d (sym (g ∙ (ap (λ p. if_within (counts_put p size c)) e ∙ ap (λ n. if_within (counts_put (found_row (row_key r) xs) size n)) f)))
  fit_is o c None e f g = fits_none (sym (g ∙ (ap (λ p. if_within (counts_put p size c)) e ∙ ap (λ n. if_within (counts_put (found_row (row_key r) xs) size n)) f)))
