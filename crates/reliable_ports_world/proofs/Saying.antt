-- The values of a tuple by their places.
use Rattle.std.proofs.Common.{◌≡◌, ◌≢◌, List, [], ◌∷◌, length, None, refl, sym, arith}
use Rattle.std.specs.Prelude.{get_or}
use Rattle.plan_base.specs.declared.tree.Value.{Value, out-Value}
use Rattle.reliable_ports_world.specs.Ports.{int_in, blob_in, pair_with, pair_of}

pub not_two : (vs : List Value) → length vs ≢ 2 → None ≡ pair_of vs
not_two [] h = refl
not_two (a ∷ []) h = refl
not_two (a ∷ b ∷ []) h = absurd (h refl)
not_two (a ∷ b ∷ c ∷ cs) h = refl

pub two : (vs : List Value) (a b : Value) → length vs ≡ 2 → a ≡ get_or vs 0 a → b ≡ get_or vs 1 b → pair_of vs ≡ pair_with (int_in (out-Value a)) (blob_in (out-Value b))
two [] a b h e f = absurd (omega (arith, h))
two (w ∷ []) a b h e f = absurd (omega (arith, h))
two (w ∷ x ∷ []) a b h e f = λ t. pair_with (int_in (out-Value (sym e t))) (blob_in (out-Value (sym f t)))
two (w ∷ x ∷ y ∷ ys) a b h e f = absurd (omega (arith, h))
