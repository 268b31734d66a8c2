-- The order of keys is total, and tells two keys apart exactly where they differ.
use Rattle.std.proofs.Common.{◌≡◌, ◌⊎◌, inl, inr, Bool, true, false, refl, sym, ap, ◌∙◌, subst}
use Rattle.std.proofs.lemmas.Bool.Decides.{Decides-int_eq}
use Rattle.std.proofs.lemmas.Cmp.{on_total, then_total, int_cmp_total, nat_list_cmp_total, tied_itself}
use Rattle.std.proofs.lemmas.Map.Text.{is_eq-slice_cmp}
use Rattle.std.proofs.lemmas.Slice.Eq.{bytes_eq-Decides}
use Rattle.std.specs.Cmp.{IsTotalOrder}
use Rattle.std.specs.Cmp.Lexicographic.{slice_cmp}
use Rattle.std.specs.Ordering.{nat_cmp, int_cmp, is_eq, ordering_then, ordering_reverse}
use Rattle.std.specs.Str.{bytes_eq}
use Rattle.std.specs.declared.cmp.Ordering.{Ordering}
use Rattle.std.specs.declared.cmp.Ordering.TheVariants.{Less, Equal, Greater}
use Rattle.containers.proofs.Bools.{and_left, and_right, and_both, not_true}
use Rattle.containers.specs.Keys.{Key, same_key}
use Rattle.resident_tables.specs.Order.{key_cmp}

key_path : (a b : Key) → a.name ≡ b.name → a.number ≡ b.number → ◌≡◌ {A = Key} a b
key_path a b e f = λ i. record { name = e i; number = f i }

-- ---- the test for equal keys

pub same_key_is : (a b : Key) → same_key a b ≡ true → ◌≡◌ {A = Key} a b
unfolding same_key
same_key_is a b e = key_path a b ((bytes_eq-Decides a.name b.name).0 (and_right _ _ e)) ((Decides-int_eq a.number b.number).0 (and_left _ (bytes_eq a.name b.name) e))

same_key_self : (a : Key) → same_key a a ≡ true
unfolding same_key
same_key_self a = and_both _ _ ((Decides-int_eq a.number a.number).1 refl) ((bytes_eq-Decides a.name a.name).1 refl)

pub same_key_true : (a b : Key) → ◌≡◌ {A = Key} a b → same_key a b ≡ true
same_key_true a b e = subst (λ (k : Key). same_key a k ≡ true) e (same_key_self a)

pub same_key_false : (a b : Key) → ¬ (◌≡◌ {A = Key} a b) → same_key a b ≡ false
same_key_false a b h = not_true (same_key a b) (λ e. h (same_key_is a b e))

by_test : (a b : Key) (t : Bool) → same_key a b ≡ t → (◌≡◌ {A = Key} a b) ⊎ (¬ (◌≡◌ {A = Key} a b))
by_test a b true e = inl (same_key_is a b e)
by_test a b false e = inr (λ h. let f = same_key_true a b h in cc)

pub same_or_not : (a b : Key) → (◌≡◌ {A = Key} a b) ⊎ (¬ (◌≡◌ {A = Key} a b))
same_or_not a b = by_test a b (same_key a b) refl

-- ---- the order

pub key_cmp_total : IsTotalOrder key_cmp
unfolding key_cmp
key_cmp_total = then_total (on_total (λ (k : Key). k.number) int_cmp_total) (on_total (λ (k : Key). k.name) nat_list_cmp_total)

then_equal : (r s : Ordering) → ordering_then r s ≡ Equal → (r ≡ Equal) × (s ≡ Equal)
then_equal Less s e = cc
then_equal Equal s e = (refl, e)
then_equal Greater s e = cc

equal_parts : (a b : Key) → (int_cmp a.number b.number ≡ Equal) × (slice_cmp nat_cmp a.name b.name ≡ Equal) → ◌≡◌ {A = Key} a b
equal_parts a b h = key_path a b ((bytes_eq-Decides a.name b.name).0 (sym (is_eq-slice_cmp a.name b.name) ∙ ap is_eq h.1)) ((Decides-int_eq a.number b.number).0 (ap is_eq h.0))

pub key_cmp_equal : (a b : Key) → key_cmp a b ≡ Equal → ◌≡◌ {A = Key} a b
unfolding key_cmp
key_cmp_equal a b e = equal_parts a b (then_equal (int_cmp a.number b.number) (slice_cmp nat_cmp a.name b.name) e)

pub key_cmp_turned : (a b : Key) → key_cmp a b ≡ Greater → key_cmp b a ≡ Less
key_cmp_turned a b e = key_cmp_total.antisymm b a ∙ ap ordering_reverse e

pub key_cmp_trans : (a b c : Key) → key_cmp a b ≡ Less → key_cmp b c ≡ Less → key_cmp a c ≡ Less
key_cmp_trans a b c h k = key_cmp_total.trans a b c h k

pub less_differs : (a b : Key) → key_cmp a b ≡ Less → ¬ (◌≡◌ {A = Key} a b)
less_differs a b h e = let s = tied_itself key_cmp_total a in let t = subst (λ (k : Key). key_cmp a k ≡ Less) (sym e) h in cc
