-- What can be written is decided by the outermost level.
use Rattle.std.proofs.Common.{◌≡◌, Bool, List, refl, ◌∙◌}
use Rattle.std.specs.Prelude.{nat_lt, ◌&&◌}
use Rattle.std.proofs.lemmas.List.{length-map}
use Rattle.containers.proofs.Lists.{all-map, all-map-same}
use Rattle.plan_base.specs.declared.tree.Ty.{Ty, Ty-F, out-Ty, map-Ty, fold_out-Ty}
use Rattle.plan_base.specs.declared.tree.Expr.{Expr, Expr-F, out-Expr, map-Expr, fold_out-Expr}
use Rattle.plan_base.specs.declared.tree.Clause.{Clause, fold-Clause, fold_out-Clause}
use Rattle.plan_base.specs.declared.tree.Value.{Value, Value-F, out-Value, map-Value, fold_out-Value}
use Rattle.plan_base.specs.declared.tree.Chunk.{Chunk, fold-Chunk, fold_out-Chunk}
use Rattle.chunk_codec_spec.specs.Kept.{type_kept, type_kept_level, expr_kept, expr_kept_level, clause_kept, clause_kept_level, program_kept, value_kept, value_kept_level, chunk_kept, chunk_kept_level}

type_step : (f : Ty → Bool) (x : Ty-F Ty) → type_kept_level (λ b. b) (map-Ty Ty Bool f x) ≡ type_kept_level f x
type_step f (Ty-F.Tuple ts) = (λ i. nat_lt (length-map ts f i) 256 && all-map f ts i)
type_step f _ = refl

pub type_kept_out : (t : Ty) → type_kept t ≡ type_kept_level type_kept (out-Ty t)
unfolding type_kept
type_kept_out t = fold_out-Ty Bool (type_kept_level (λ b. b)) t ∙ type_step type_kept (out-Ty t)

expr_step : (f : Expr → Bool) (g h : Clause → Bool) → ((c : Clause) → g c ≡ h c) → (x : Expr-F Expr Clause)
    → expr_kept_level (λ b. b) (λ b. b) (map-Expr Expr Clause Bool Bool f g x) ≡ expr_kept_level f h x
expr_step f g h e (Expr-F.Tuple es) = (λ i. nat_lt (length-map es f i) 256 && all-map f es i)
expr_step f g h e (Expr-F.Call x es) = (λ i. nat_lt (length-map es f i) 256 && all-map f es i)
expr_step f g h e (Expr-F.ChunkOf x es) = (λ i. nat_lt (length-map es f i) 256 && all-map f es i)
expr_step f g h e (Expr-F.Try a cs) = (λ i. f a && (nat_lt (length-map cs g i) 256 && all-map-same g h e cs i))
expr_step f g h e _ = refl

pub expr_kept_out : (e : Expr) → expr_kept e ≡ expr_kept_level expr_kept clause_kept (out-Expr e)
unfolding expr_kept
expr_kept_out e =
    fold_out-Expr Bool Bool (expr_kept_level (λ b. b) (λ b. b)) (clause_kept_level (λ b. b)) e
    ∙ expr_step expr_kept (fold-Clause Bool Bool (expr_kept_level (λ b. b) (λ b. b)) (clause_kept_level (λ b. b))) clause_kept
    (λ c. fold_out-Clause Bool Bool (expr_kept_level (λ b. b) (λ b. b)) (clause_kept_level (λ b. b)) c) (out-Expr e)

value_step : (f : Value → Bool) (g h : Chunk → Bool) → ((c : Chunk) → g c ≡ h c) → (x : Value-F Value Chunk)
    → value_kept_level (λ b. b) (λ b. b) (map-Value Value Chunk Bool Bool f g x) ≡ value_kept_level f h x
value_step f g h e (Value-F.Chunk c) = e c
value_step f g h e (Value-F.List t vs) = (λ i. type_kept t && (nat_lt (length-map vs f i) 65536 && all-map f vs i))
value_step f g h e (Value-F.Tuple vs) = (λ i. nat_lt (length-map vs f i) 256 && all-map f vs i)
value_step f g h e _ = refl

chunk_fold : (c : Chunk) → fold-Chunk Bool Bool (value_kept_level (λ b. b) (λ b. b)) (chunk_kept_level (λ b. b)) c ≡ chunk_kept c
unfolding value_kept
chunk_fold c =
    fold_out-Chunk Bool Bool (value_kept_level (λ b. b) (λ b. b)) (chunk_kept_level (λ b. b)) c
    ∙ (λ i. program_kept c.code && (nat_lt (length-map c.args value_kept i) 256 && all-map value_kept c.args i))

pub value_kept_out : (v : Value) → value_kept v ≡ value_kept_level value_kept chunk_kept (out-Value v)
unfolding value_kept
value_kept_out v =
    fold_out-Value Bool Bool (value_kept_level (λ b. b) (λ b. b)) (chunk_kept_level (λ b. b)) v
    ∙ value_step value_kept (fold-Chunk Bool Bool (value_kept_level (λ b. b) (λ b. b)) (chunk_kept_level (λ b. b))) chunk_kept chunk_fold (out-Value v)
