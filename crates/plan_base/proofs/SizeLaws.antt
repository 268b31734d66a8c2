-- What each size of a tree is, by the tree's outermost level.
use Rattle.std.proofs.Common.{◌≡◌, ℕ, ◌+◌, ◌<◌, refl, ap, ◌∙◌, List, max, length, take, get_or}
use Rattle.std.proofs.lemmas.List.Sums.{sum-map, fold_more}
use Rattle.std.proofs.lemmas.List.Folds.{fold-map}
use Rattle.std.specs.Prelude.{map}
use Rattle.std.specs.List.{sum_by}
use Rattle.plan_base.specs.declared.tree.Ty.{Ty, Ty-F, out-Ty, map-Ty, fold_out-Ty}
use Rattle.plan_base.specs.declared.tree.Expr.{Expr, Expr-F, out-Expr, map-Expr, fold_out-Expr}
use Rattle.plan_base.specs.declared.tree.Clause.{Clause, fold-Clause, fold_out-Clause}
use Rattle.plan_base.specs.declared.tree.Value.{Value, Value-F, out-Value, map-Value, fold_out-Value}
use Rattle.plan_base.specs.declared.tree.Chunk.{Chunk, fold-Chunk, fold_out-Chunk}
use Rattle.plan_base.specs.Sizes.{largest_by, name_size, type_size_level, type_size, expr_size_level, expr_size, clause_size_level, clause_size, code_size, weight_level, weight, chunk_weight_level}
use Rattle.plan_base.specs.Sizes.{chunk_weight, type_depth_level, type_depth, expr_depth_level, expr_depth, clause_depth_level, clause_depth, expr_nodes_level, expr_nodes, clause_nodes_level}
use Rattle.plan_base.specs.Sizes.{clause_nodes, nesting_level, nesting, chunk_nesting_level, chunk_nesting, value_depth_level, value_depth}

pub largest_by-map : {X : Type 0} (f : X → ℕ) (xs : List X) → largest_by (λ n. n) (map f xs) ≡ largest_by f xs
largest_by-map f xs = fold-map (λ m n. max m n) f 0 xs

type_size_step : (f : Ty → ℕ) (x : Ty-F Ty) → type_size_level (λ n. n) (map-Ty Ty ℕ f x) ≡ type_size_level f x
type_size_step f (Ty-F.Tuple ts) = ap (λ n. 2 + n) (sum-map f ts)
type_size_step f _ = refl

pub type_size_out : (t : Ty) → type_size t ≡ type_size_level type_size (out-Ty t)
unfolding type_size
type_size_out t = fold_out-Ty ℕ (type_size_level (λ n. n)) t ∙ type_size_step type_size (out-Ty t)

type_depth_step : (f : Ty → ℕ) (x : Ty-F Ty) → type_depth_level (λ n. n) (map-Ty Ty ℕ f x) ≡ type_depth_level f x
type_depth_step f (Ty-F.Tuple ts) = ap (λ n. 1 + n) (largest_by-map f ts)
type_depth_step f _ = refl

pub type_depth_out : (t : Ty) → type_depth t ≡ type_depth_level type_depth (out-Ty t)
unfolding type_depth
type_depth_out t = fold_out-Ty ℕ (type_depth_level (λ n. n)) t ∙ type_depth_step type_depth (out-Ty t)

-- a sum or a greatest number of images is that of the items, by another function with the same values
sum_same : {X : Type 0} (f g : X → ℕ) → ((x : X) → f x ≡ g x) → (xs : List X) → sum_by (λ n. n) (map f xs) ≡ sum_by g xs
sum_same f g e xs = sum-map f xs ∙ (λ i. sum_by (λ x. e x i) xs)

largest_same : {X : Type 0} (f g : X → ℕ) → ((x : X) → f x ≡ g x) → (xs : List X) → largest_by (λ n. n) (map f xs) ≡ largest_by g xs
largest_same f g e xs = largest_by-map f xs ∙ (λ i. largest_by (λ x. e x i) xs)

expr_size_step : (f : Expr → ℕ) (g h : Clause → ℕ) → ((c : Clause) → g c ≡ h c) → (x : Expr-F Expr Clause) → expr_size_level (λ n. n) (λ n. n) (map-Expr Expr Clause ℕ ℕ f g x) ≡ expr_size_level f h x
expr_size_step f g h e (Expr-F.Tuple es) = ap (λ n. 2 + n) (sum-map f es)
expr_size_step f g h e (Expr-F.Call x es) = ap (λ n. 2 + name_size x + n) (sum-map f es)
expr_size_step f g h e (Expr-F.ChunkOf x es) = ap (λ n. 2 + name_size x + n) (sum-map f es)
expr_size_step f g h e (Expr-F.Try a cs) = ap (λ n. 2 + f a + n) (sum_same g h e cs)
expr_size_step f g h e _ = refl

pub expr_size_out : (e : Expr) → expr_size e ≡ expr_size_level expr_size clause_size (out-Expr e)
unfolding expr_size
expr_size_out e =
    fold_out-Expr ℕ ℕ (expr_size_level (λ n. n) (λ n. n)) (clause_size_level (λ n. n)) e
    ∙ expr_size_step expr_size (fold-Clause ℕ ℕ (expr_size_level (λ n. n) (λ n. n)) (clause_size_level (λ n. n))) clause_size
    (λ c. fold_out-Clause ℕ ℕ (expr_size_level (λ n. n) (λ n. n)) (clause_size_level (λ n. n)) c) (out-Expr e)

expr_depth_step : (f : Expr → ℕ) (g h : Clause → ℕ) → ((c : Clause) → g c ≡ h c) → (x : Expr-F Expr Clause) → expr_depth_level (λ n. n) (λ n. n) (map-Expr Expr Clause ℕ ℕ f g x) ≡ expr_depth_level f h x
expr_depth_step f g h e (Expr-F.Tuple es) = ap (λ n. 1 + n) (largest_by-map f es)
expr_depth_step f g h e (Expr-F.Call x es) = ap (λ n. 1 + n) (largest_by-map f es)
expr_depth_step f g h e (Expr-F.ChunkOf x es) = ap (λ n. 1 + n) (largest_by-map f es)
expr_depth_step f g h e (Expr-F.Try a cs) = ap (λ n. 1 + max (f a) n) (largest_same g h e cs)
expr_depth_step f g h e _ = refl

pub expr_depth_out : (e : Expr) → expr_depth e ≡ expr_depth_level expr_depth clause_depth (out-Expr e)
unfolding expr_depth
expr_depth_out e =
    fold_out-Expr ℕ ℕ (expr_depth_level (λ n. n) (λ n. n)) (clause_depth_level (λ n. n)) e
    ∙ expr_depth_step expr_depth (fold-Clause ℕ ℕ (expr_depth_level (λ n. n) (λ n. n)) (clause_depth_level (λ n. n))) clause_depth
    (λ c. fold_out-Clause ℕ ℕ (expr_depth_level (λ n. n) (λ n. n)) (clause_depth_level (λ n. n)) c) (out-Expr e)

expr_nodes_step : (f : Expr → ℕ) (g h : Clause → ℕ) → ((c : Clause) → g c ≡ h c) → (x : Expr-F Expr Clause) → expr_nodes_level (λ n. n) (λ n. n) (map-Expr Expr Clause ℕ ℕ f g x) ≡ expr_nodes_level f h x
expr_nodes_step f g h e (Expr-F.Tuple es) = ap (λ n. 1 + n) (sum-map f es)
expr_nodes_step f g h e (Expr-F.Call x es) = ap (λ n. 1 + n) (sum-map f es)
expr_nodes_step f g h e (Expr-F.ChunkOf x es) = ap (λ n. 1 + n) (sum-map f es)
expr_nodes_step f g h e (Expr-F.Try a cs) = ap (λ n. 1 + f a + n) (sum_same g h e cs)
expr_nodes_step f g h e _ = refl

pub expr_nodes_out : (e : Expr) → expr_nodes e ≡ expr_nodes_level expr_nodes clause_nodes (out-Expr e)
unfolding expr_nodes
expr_nodes_out e =
    fold_out-Expr ℕ ℕ (expr_nodes_level (λ n. n) (λ n. n)) (clause_nodes_level (λ n. n)) e
    ∙ expr_nodes_step expr_nodes (fold-Clause ℕ ℕ (expr_nodes_level (λ n. n) (λ n. n)) (clause_nodes_level (λ n. n))) clause_nodes
    (λ c. fold_out-Clause ℕ ℕ (expr_nodes_level (λ n. n) (λ n. n)) (clause_nodes_level (λ n. n)) c) (out-Expr e)

weight_step : (f : Value → ℕ) (g h : Chunk → ℕ) → ((c : Chunk) → g c ≡ h c) → (x : Value-F Value Chunk) → weight_level (λ n. n) (λ n. n) (map-Value Value Chunk ℕ ℕ f g x) ≡ weight_level f h x
weight_step f g h e (Value-F.Chunk c) = ap (λ n. 1 + n) (e c)
weight_step f g h e (Value-F.List t vs) = ap (λ n. 3 + type_size t + n) (sum-map f vs)
weight_step f g h e (Value-F.Tuple vs) = ap (λ n. 2 + n) (sum-map f vs)
weight_step f g h e _ = refl

-- a chunk weighs the same as a part of a value
pub chunk_weight_fold : (c : Chunk) → fold-Chunk ℕ ℕ (weight_level (λ n. n) (λ n. n)) (chunk_weight_level (λ n. n)) c ≡ chunk_weight c
unfolding weight chunk_weight
chunk_weight_fold c =
    fold_out-Chunk ℕ ℕ (weight_level (λ n. n) (λ n. n)) (chunk_weight_level (λ n. n)) c
    ∙ ap (λ n. 1 + code_size c.code + name_size c.entry + n) (sum-map weight c.args)

pub weight_out : (v : Value) → weight v ≡ weight_level weight chunk_weight (out-Value v)
unfolding weight
weight_out v =
    fold_out-Value ℕ ℕ (weight_level (λ n. n) (λ n. n)) (chunk_weight_level (λ n. n)) v
    ∙ weight_step weight (fold-Chunk ℕ ℕ (weight_level (λ n. n) (λ n. n)) (chunk_weight_level (λ n. n))) chunk_weight chunk_weight_fold (out-Value v)

pub chunk_weight_is : (c : Chunk) → chunk_weight c ≡ 1 + code_size c.code + name_size c.entry + sum_by weight c.args
unfolding chunk_weight
chunk_weight_is c = refl

nesting_step : (f : Value → ℕ) (g h : Chunk → ℕ) → ((c : Chunk) → g c ≡ h c) → (x : Value-F Value Chunk) → nesting_level (λ n. n) (λ n. n) (map-Value Value Chunk ℕ ℕ f g x) ≡ nesting_level f h x
nesting_step f g h e (Value-F.Chunk c) = e c
nesting_step f g h e (Value-F.List t vs) = largest_by-map f vs
nesting_step f g h e (Value-F.Tuple vs) = largest_by-map f vs
nesting_step f g h e _ = refl

-- a chunk nests the same as a part of a value
pub chunk_nesting_fold : (c : Chunk) → fold-Chunk ℕ ℕ (nesting_level (λ n. n) (λ n. n)) (chunk_nesting_level (λ n. n)) c ≡ chunk_nesting c
unfolding nesting chunk_nesting
chunk_nesting_fold c =
    fold_out-Chunk ℕ ℕ (nesting_level (λ n. n) (λ n. n)) (chunk_nesting_level (λ n. n)) c
    ∙ ap (λ n. 1 + n) (largest_by-map nesting c.args)

pub nesting_out : (v : Value) → nesting v ≡ nesting_level nesting chunk_nesting (out-Value v)
unfolding nesting
nesting_out v =
    fold_out-Value ℕ ℕ (nesting_level (λ n. n) (λ n. n)) (chunk_nesting_level (λ n. n)) v
    ∙ nesting_step nesting (fold-Chunk ℕ ℕ (nesting_level (λ n. n) (λ n. n)) (chunk_nesting_level (λ n. n))) chunk_nesting chunk_nesting_fold (out-Value v)

pub chunk_nesting_is : (c : Chunk) → chunk_nesting c ≡ 1 + largest_by nesting c.args
unfolding chunk_nesting
chunk_nesting_is c = refl

value_depth_step : (f : Value → ℕ) (g : Chunk → ℕ) (x : Value-F Value Chunk) → value_depth_level (λ n. n) (map-Value Value Chunk ℕ ℕ f g x) ≡ value_depth_level f x
value_depth_step f g (Value-F.List t vs) = ap (λ n. 1 + n) (largest_by-map f vs)
value_depth_step f g (Value-F.Tuple vs) = ap (λ n. 1 + n) (largest_by-map f vs)
value_depth_step f g _ = refl

pub value_depth_out : (v : Value) → value_depth v ≡ value_depth_level value_depth (out-Value v)
unfolding value_depth
value_depth_out v =
    fold_out-Value ℕ ℕ (value_depth_level (λ n. n)) (λ _. 0) v
    ∙ value_depth_step value_depth (fold-Chunk ℕ ℕ (value_depth_level (λ n. n)) (λ _. 0)) (out-Value v)

-- all sizes by their outermost level
pub ruleset sizes = (type_size_out, expr_size_out, weight_out, chunk_weight_is, type_depth_out, expr_depth_out, expr_nodes_out, nesting_out, chunk_nesting_is, value_depth_out)

-- the greatest number, one item on
pub largest_by_more : {X : Type 0} (f : X → ℕ) (xs : List X) (i : ℕ) (d : X) → i < length xs → largest_by f (take (i + 1) xs) ≡ max (largest_by f (take i xs)) (f (get_or xs i d))
largest_by_more f xs i d h = fold_more (λ m x. max m (f x)) 0 xs i d h
