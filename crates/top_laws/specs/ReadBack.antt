-- Which values are read again from their printed form.
use Rattle.std.specs.Prelude.{ℕ, ◌+◌, ◌≤◌, Bool, true, false, ◌&&◌, [], ◌∷◌, length, nat_le, IsTrue}
use Rattle.std.specs.List.{list_all}
use Rattle.plan_base.specs.declared.tree.Value.{Value, Value-F, fold-Value}
use Rattle.plan_base.specs.Sizes.{largest_by, type_depth}

-- no chunk, and at most 63 items in each list
abbrev pub plain_level : {X Y : Type 0} → (X → Bool) → Value-F X Y → Bool
plain_level plain (Value-F.Chunk c) = false
plain_level plain (Value-F.List t vs) = nat_le (length vs) 63 && list_all plain vs
plain_level plain (Value-F.Tuple vs) = list_all plain vs
plain_level plain _ = true

unfoldable pub plain : Value → Bool
plain = fold-Value Bool Bool (plain_level (λ b. b)) (λ _. false)

-- how many lists and tuples stand inside each other; an empty list counts as many as its element type is deep
abbrev pub reach_level : {X Y : Type 0} → (X → ℕ) → Value-F X Y → ℕ
reach_level reach (Value-F.List t []) = type_depth t
reach_level reach (Value-F.List t (v ∷ vs)) = 1 + largest_by reach (v ∷ vs)
reach_level reach (Value-F.Tuple vs) = 1 + largest_by reach vs
reach_level reach _ = 0

unfoldable pub reach : Value → ℕ
reach = fold-Value ℕ ℕ (reach_level (λ n. n)) (λ _. 0)

-- a value within the limits of the written form of values
pub record IsReadBack (v : Value) : Type 0 where
  pub plain : IsTrue (plain v)
  pub near : reach v ≤ 7
