-- An escaped text has no sign of XML but the ends of names.
use Rattle.std.proofs.Common.{◌≡◌, ℕ, true, List, [], ◌∷◌, ◌++◌, refl, arith}
use Rattle.std.proofs.lemmas.Bool.Decides.{nat_tests}
use Rattle.std.proofs.lemmas.List.Folds.{list_all-append}
use Rattle.std.specs.List.{list_all}
use Rattle.trace_chart_picture.specs.Escapes.{byte_text, seen_with, escaped_from, is_harmless}

append_harmless : (xs ys : List ℕ) → list_all is_harmless xs ≡ true → list_all is_harmless ys ≡ true → list_all is_harmless (xs ++ ys) ≡ true
append_harmless xs ys a b = rw (list_all-append is_harmless xs ys, a, b)

harmless_byte : (seen b : ℕ) → list_all is_harmless (byte_text seen b) ≡ true
unfolding byte_text
harmless_byte seen b = grind (arith, nat_tests)

pub harmless_from : (seen : ℕ) (bs : List ℕ) → list_all is_harmless (escaped_from seen bs) ≡ true
harmless_from seen [] = refl
harmless_from seen (b ∷ bs) = append_harmless (byte_text seen b) (escaped_from (seen_with seen b) bs) (harmless_byte seen b) (harmless_from (seen_with seen b) bs)
