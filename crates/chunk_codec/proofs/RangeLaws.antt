-- What is in range is decided by the outermost level, and item by item.
use Rattle.std.proofs.Common.{◌≡◌, ℕ, ◌+◌, ◌<◌, ◌≤◌, Bool, true, List, length, take, get_or, refl, sym, ◌∙◌, ap, ℤ, pos, negsuc}
use Rattle.std.specs.Prelude.{◌&&◌, FitsSigned}
use Rattle.std.specs.List.{list_all}
use Rattle.std.specs.Int.{w64}
use Rattle.std.proofs.lemmas.Bool.{lt-ltb}
use Rattle.std.proofs.lemmas.Bool.Decides.{nat_tests}
use Rattle.std.proofs.lemmas.List.{take_all}
use Rattle.std.proofs.lemmas.List.Folds.{list_all_more}
use Rattle.containers.proofs.Lists.{all-map, all-map-same}
use Rattle.containers.proofs.Bools.{both}
use Rattle.plan_base.specs.Trees.{trees}
use Rattle.plan_base.specs.Words.{is_name}
use Rattle.plan_base.specs.declared.tree.Expr.{Expr, Expr-F, out-Expr, map-Expr, fold_out-Expr}
use Rattle.plan_base.specs.declared.tree.Clause.{Clause, fold-Clause, fold_out-Clause}
use Rattle.plan_base.specs.declared.tree.Value.{Value, Value-F, out-Value, map-Value, fold_out-Value}
use Rattle.plan_base.specs.declared.tree.Chunk.{Chunk, fold-Chunk, fold_out-Chunk}
use Rattle.chunk_codec.specs.Ranges.{is_int, expr_ranged, expr_ranged_level, clause_ranged, clause_ranged_level, program_ranged, value_ranged, value_ranged_level, chunk_ranged, chunk_ranged_level}

expr_step : (f : Expr → Bool) (g h : Clause → Bool) → ((c : Clause) → g c ≡ h c) → (x : Expr-F Expr Clause)
    → expr_ranged_level (λ b. b) (λ b. b) (map-Expr Expr Clause Bool Bool f g x) ≡ expr_ranged_level f h x
expr_step f g h e (Expr-F.Tuple es) = all-map f es
expr_step f g h e (Expr-F.Call x es) = ap (λ b. is_name x && b) (all-map f es)
expr_step f g h e (Expr-F.ChunkOf x es) = ap (λ b. is_name x && b) (all-map f es)
expr_step f g h e (Expr-F.Try a cs) = ap (λ b. f a && b) (all-map-same g h e cs)
expr_step f g h e _ = refl

pub expr_ranged_out : (e : Expr) → expr_ranged e ≡ expr_ranged_level expr_ranged clause_ranged (out-Expr e)
unfolding expr_ranged
expr_ranged_out e =
    fold_out-Expr Bool Bool (expr_ranged_level (λ b. b) (λ b. b)) (clause_ranged_level (λ b. b)) e
    ∙ expr_step expr_ranged (fold-Clause Bool Bool (expr_ranged_level (λ b. b) (λ b. b)) (clause_ranged_level (λ b. b))) clause_ranged
    (λ c. fold_out-Clause Bool Bool (expr_ranged_level (λ b. b) (λ b. b)) (clause_ranged_level (λ b. b)) c) (out-Expr e)

value_step : (f : Value → Bool) (g h : Chunk → Bool) → ((c : Chunk) → g c ≡ h c) → (x : Value-F Value Chunk)
    → value_ranged_level (λ b. b) (λ b. b) (map-Value Value Chunk Bool Bool f g x) ≡ value_ranged_level f h x
value_step f g h e (Value-F.Chunk c) = e c
value_step f g h e (Value-F.List t vs) = all-map f vs
value_step f g h e (Value-F.Tuple vs) = all-map f vs
value_step f g h e _ = refl

chunk_fold : (c : Chunk) → fold-Chunk Bool Bool (value_ranged_level (λ b. b) (λ b. b)) (chunk_ranged_level (λ b. b)) c ≡ chunk_ranged c
unfolding value_ranged
chunk_fold c =
    fold_out-Chunk Bool Bool (value_ranged_level (λ b. b) (λ b. b)) (chunk_ranged_level (λ b. b)) c
    ∙ (λ i. program_ranged c.code && (is_name c.entry && all-map value_ranged c.args i))

pub value_ranged_out : (v : Value) → value_ranged v ≡ value_ranged_level value_ranged chunk_ranged (out-Value v)
unfolding value_ranged
value_ranged_out v =
    fold_out-Value Bool Bool (value_ranged_level (λ b. b) (λ b. b)) (chunk_ranged_level (λ b. b)) v
    ∙ value_step value_ranged (fold-Chunk Bool Bool (value_ranged_level (λ b. b) (λ b. b)) (chunk_ranged_level (λ b. b))) chunk_ranged chunk_fold (out-Value v)

-- an int of the code is one
pub int_is : (z : ℤ) → FitsSigned w64 z → is_int z ≡ true
int_is (pos n) h = lt-ltb n 9223372036854775808 h.sfits
int_is (negsuc n) h = lt-ltb n 9223372036854775808 h.sfits

pub ruleset exprs = (expr_ranged_out, trees, nat_tests, int_is)

pub ruleset values = (value_ranged_out, trees, nat_tests, int_is)

-- ---- loops

module _ {X : Type 0} (f : X → Bool) (xs : List X) where
  pub more : (i : ℕ) (x : X) → i < length xs → x ≡ get_or xs i x → list_all f (take i xs) ≡ true → f x ≡ true → list_all f (take (i + 1) xs) ≡ true
  more i x h e w k = list_all_more f xs i x h ∙ both w (ap f (sym e) ∙ k)

  pub whole : (i : ℕ) → length xs ≤ i → list_all f (take i xs) ≡ true → list_all f xs ≡ true
  whole i h w = ap (list_all f) (sym (take_all i xs h)) ∙ w
