-- Sums and greatest numbers of lists, and sizes of values.
use Rattle.std.proofs.Common.{ℕ, ◌+◌, ◌≤◌, max, List, [], ◌∷◌, length, arith}
use Rattle.std.specs.List.{fold, sum_by}
use Rattle.containers.proofs.Lists.{sum_from, largest_from}
use Rattle.plan_base.specs.declared.tree.Value.{Value, Value-F, out-Value}
use Rattle.plan_base.specs.Trees.{ValueLayer}
use Rattle.plan_base.specs.Sizes.{weight, weight_level, chunk_weight, largest_by}
use Rattle.plan_base.proofs.SizeLaws.{weight_out}

pub sum_bounds : {X : Type 0} (f : X → ℕ) (m n : ℕ) (x : X) (xs : List X) → fold (λ a y. a + f y) m (x ∷ xs) ≤ n → (f x ≤ n) × (fold (λ a y. a + f y) 0 xs ≤ n)
sum_bounds f m n x xs h = let k = sum_from f (m + f x) xs in (omega arith, omega arith)

pub largest_bounds : {X : Type 0} (f : X → ℕ) (m n : ℕ) (x : X) (xs : List X) → fold (λ a y. max a (f y)) m (x ∷ xs) ≤ n → (f x ≤ n) × (fold (λ a y. max a (f y)) 0 xs ≤ n)
largest_bounds f m n x xs h = let k = largest_from f (max m (f x)) xs in (omega arith, omega arith)

pub largest_within : {X : Type 0} (f : X → ℕ) (n : ℕ) (x : X) (xs : List X) → f x ≤ n → largest_by f xs ≤ n → largest_by f (x ∷ xs) ≤ n
largest_within f n x xs h k = let e = largest_from f (max 0 (f x)) xs in omega arith

-- each value weighs something, so no more than 16,384 stand in a small one
some_weight_level : (l : ValueLayer) → 1 ≤ weight_level weight chunk_weight l
some_weight_level Value-F.Unit = omega arith
some_weight_level (Value-F.Bool b) = omega arith
some_weight_level (Value-F.Int n) = omega arith
some_weight_level (Value-F.Char c) = omega arith
some_weight_level (Value-F.Str s) = omega arith
some_weight_level (Value-F.Blob b) = omega arith
some_weight_level (Value-F.Host h) = omega arith
some_weight_level (Value-F.Dev d) = omega arith
some_weight_level (Value-F.Chunk k) = omega arith
some_weight_level (Value-F.List t vs) = omega arith
some_weight_level (Value-F.Tuple vs) = omega arith

pub some_weight : (v : Value) → 1 ≤ weight v
some_weight v = let e = weight_out v in let k = some_weight_level (out-Value v) in omega arith

pub count_within : (vs : List Value) → length vs ≤ sum_by weight vs
count_within [] = omega arith
count_within (v ∷ vs) = let k = count_within vs in let w = some_weight v in let e = sum_from weight (0 + weight v) vs in omega arith
