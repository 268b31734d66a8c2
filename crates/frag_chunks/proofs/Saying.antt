-- The values of a tuple by their places.
use Rattle.std.proofs.Common.{◌≡◌, ◌≢◌, List, [], ◌∷◌, length, None, refl, sym, arith}
use Rattle.std.specs.Prelude.{get_or}
use Rattle.plan_base.specs.declared.tree.Value.{Value, out-Value}
use Rattle.frag_chunks.specs.Gathers.{int_in, blob_in, said_with, of_four}

pub not_four : (vs : List Value) → length vs ≢ 4 → None ≡ of_four vs
not_four [] h = refl
not_four (a ∷ []) h = refl
not_four (a ∷ b ∷ []) h = refl
not_four (a ∷ b ∷ c ∷ []) h = refl
not_four (a ∷ b ∷ c ∷ d ∷ []) h = absurd (h refl)
not_four (a ∷ b ∷ c ∷ d ∷ e ∷ es) h = refl

pub four : (vs : List Value) (a b c d : Value) → length vs ≡ 4 → a ≡ get_or vs 0 a → b ≡ get_or vs 1 b → c ≡ get_or vs 2 c → d ≡ get_or vs 3 d
    → of_four vs ≡ said_with (int_in (out-Value a)) (int_in (out-Value b)) (int_in (out-Value c)) (blob_in (out-Value d))
four [] a b c d h e f g i = absurd (omega (arith, h))
four (w ∷ []) a b c d h e f g i = absurd (omega (arith, h))
four (w ∷ x ∷ []) a b c d h e f g i = absurd (omega (arith, h))
four (w ∷ x ∷ y ∷ []) a b c d h e f g i = absurd (omega (arith, h))
four (w ∷ x ∷ y ∷ z ∷ []) a b c d h e f g i = λ t. said_with (int_in (out-Value (sym e t))) (int_in (out-Value (sym f t))) (int_in (out-Value (sym g t))) (blob_in (out-Value (sym i t)))
four (w ∷ x ∷ y ∷ z ∷ u ∷ us) a b c d h e f g i = absurd (omega (arith, h))
