-- What is in range is decided by the outermost level.
use Rattle.std.proofs.Common.{◌≡◌, Bool, true, refl, ◌∙◌, ap}
use Rattle.std.specs.Prelude.{◌&&◌}
use Rattle.std.proofs.lemmas.Bool.Decides.{nat_tests}
use Rattle.containers.proofs.Lists.{all-map, all-map-same}
use Rattle.plan_base.specs.Trees.{trees}
use Rattle.plan_base.specs.Words.{is_name}
use Rattle.plan_base.specs.declared.tree.Expr.{Expr, Expr-F, out-Expr, map-Expr, fold_out-Expr}
use Rattle.plan_base.specs.declared.tree.Clause.{Clause, fold-Clause, fold_out-Clause}
use Rattle.plan_base.specs.declared.tree.Value.{Value, Value-F, out-Value, map-Value, fold_out-Value}
use Rattle.plan_base.specs.declared.tree.Chunk.{Chunk, fold-Chunk}
use Rattle.chunk_codec.specs.Ranges.{clause_ranged_level}
use Rattle.chunk_codec.proofs.RangeLaws.{int_is}
use Rattle.top_laws.specs.Exact.{exact, exact_level, clause_exact, value_exact, value_exact_level}

expr_step : (f : Expr → Bool) (g h : Clause → Bool) → ((c : Clause) → g c ≡ h c) → (x : Expr-F Expr Clause)
    → exact_level (λ b. b) (λ b. b) (map-Expr Expr Clause Bool Bool f g x) ≡ exact_level f h x
expr_step f g h e (Expr-F.Tuple es) = all-map f es
expr_step f g h e (Expr-F.Call x es) = ap (λ b. is_name x && b) (all-map f es)
expr_step f g h e (Expr-F.ChunkOf x es) = ap (λ b. is_name x && b) (all-map f es)
expr_step f g h e (Expr-F.Try a cs) = ap (λ b. f a && b) (all-map-same g h e cs)
expr_step f g h e _ = refl

pub exact_out : (e : Expr) → exact e ≡ exact_level exact clause_exact (out-Expr e)
unfolding exact
exact_out e =
    fold_out-Expr Bool Bool (exact_level (λ b. b) (λ b. b)) (clause_ranged_level (λ b. b)) e
    ∙ expr_step exact (fold-Clause Bool Bool (exact_level (λ b. b) (λ b. b)) (clause_ranged_level (λ b. b))) clause_exact
    (λ c. fold_out-Clause Bool Bool (exact_level (λ b. b) (λ b. b)) (clause_ranged_level (λ b. b)) c) (out-Expr e)

value_step : (f : Value → Bool) (g : Chunk → Bool) → (x : Value-F Value Chunk) → value_exact_level (λ b. b) (map-Value Value Chunk Bool Bool f g x) ≡ value_exact_level f x
value_step f g (Value-F.List t vs) = all-map f vs
value_step f g (Value-F.Tuple vs) = all-map f vs
value_step f g _ = refl

pub value_exact_out : (v : Value) → value_exact v ≡ value_exact_level value_exact (out-Value v)
unfolding value_exact
value_exact_out v =
    fold_out-Value Bool Bool (value_exact_level (λ b. b)) (λ _. true) v
    ∙ value_step value_exact (fold-Chunk Bool Bool (value_exact_level (λ b. b)) (λ _. true)) (out-Value v)

pub ruleset exprs = (exact_out, trees, nat_tests, int_is)

pub ruleset values = (value_exact_out, trees, nat_tests, int_is)
