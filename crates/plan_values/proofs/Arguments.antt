-- A primitive's rule by the number of its arguments.
use Rattle.std.proofs.Common.{◌≡◌, ◌≢◌, List, [], ◌∷◌, length, get_or, refl, arith}
use Rattle.plan_base.specs.declared.prim.Primitive.{Primitive}
use Rattle.plan_base.specs.declared.tree.Value.{Value, out-Value}
use Rattle.plan_types_spec.specs.Rules.{unfit, primitive_by, of_one, of_three}

pub primitive_one : (p : Primitive) (xs : List Value) (d : Value) → length xs ≡ 1 → primitive_by p xs ≡ of_one p (out-Value (get_or xs 0 d))
primitive_one p (a ∷ []) d h = refl
primitive_one p [] d h = absurd (omega arith)
primitive_one p (a ∷ b ∷ xs) d h = absurd (omega arith)

pub primitive_three : (p : Primitive) (xs : List Value) (d : Value) → length xs ≡ 3 → primitive_by p xs ≡ of_three p (out-Value (get_or xs 0 d)) (out-Value (get_or xs 1 d)) (out-Value (get_or xs 2 d))
primitive_three p (a ∷ b ∷ c ∷ []) d h = refl
primitive_three p [] d h = absurd (omega arith)
primitive_three p (a ∷ []) d h = absurd (omega arith)
primitive_three p (a ∷ b ∷ []) d h = absurd (omega arith)
primitive_three p (a ∷ b ∷ c ∷ e ∷ xs) d h = absurd (omega arith)

pub primitive_other : (p : Primitive) (xs : List Value) → length xs ≢ 1 → length xs ≢ 3 → primitive_by p xs ≡ unfit
primitive_other p [] g h = refl
primitive_other p (a ∷ []) g h = absurd (g refl)
primitive_other p (a ∷ b ∷ []) g h = refl
primitive_other p (a ∷ b ∷ c ∷ []) g h = absurd (h refl)
primitive_other p (a ∷ b ∷ c ∷ e ∷ xs) g h = refl

pub ruleset arguments = (primitive_one, primitive_three, primitive_other)
