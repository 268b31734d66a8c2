-- What a map finds for each thing that keys name, after a key has a new value.
use Rattle.std.proofs.Common.{◌≡◌, Bool, true, false, cond, List, Some, refl, sym, ap, ◌∙◌, true≢false}
use Rattle.std.specs.Map.{lookup, IsKeyTest, AreApart, KeepsOthers}

module _ {K C : Type 0} (view : K → C) (same : C → C → Bool) (is : (a b : C) → same a b ≡ true → a ≡ b) (eq : K → K → Bool) (eq_is : (a b : K) → eq a b ≡ same (view a) (view b)) where
  -- a key's own test is that of what it names
  pub own_test : (k : K) → eq k ≡ (λ q. same (view k) (view q))
  own_test k = λ i q. eq_is k q i

  is_test : (c : C) → IsKeyTest eq (λ q. same c (view q))
  is_test c x y h = ap (λ d. same d (view y)) (is c (view x) h) ∙ sym (eq_is x y)

  test_apart : (k : K) (c : C) → same c (view k) ≡ false → AreApart (eq k) (λ q. same c (view q))
  test_apart k c h q e = by (same c (view q)) refl
    where
      by : (b : Bool) → same c (view q) ≡ b → same c (view q) ≡ false
      by false t = t
      by true t = absurd (true≢false (sym t ∙ ap (same c) (sym (is (view k) (view q) (sym (eq_is k q) ∙ e))) ∙ h))

  pub found_after : {V : Type 0} (k : K) (w : V) (old new : List (K × V)) (c : C) → lookup (eq k) new ≡ Some w → KeepsOthers eq (eq k) old new
      → lookup (λ q. same c (view q)) new ≡ cond (same c (view k)) (Some w) (lookup (λ q. same c (view q)) old)
  unfolding KeepsOthers
  found_after k w old new c here others = by (same c (view k)) refl
    where
      by : (b : Bool) → same c (view k) ≡ b → lookup (λ q. same c (view q)) new ≡ cond b (Some w) (lookup (λ q. same c (view q)) old)
      by true t = ap (λ d. lookup (λ q. same d (view q)) new) (is c (view k) t) ∙ ap (λ f. lookup f new) (sym (own_test k)) ∙ here
      by false t = others (λ q. same c (view q)) (is_test c) (test_apart k c t)
