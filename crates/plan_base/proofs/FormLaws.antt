-- What the rules of well-formed trees are, by a tree's outermost level.
use Rattle.std.proofs.Common.{◌≡◌, ◌-◌, Bool, ◌&&◌, refl, ap, sym, ◌∙◌, length, take}
use Rattle.std.proofs.lemmas.List.{length-map, take-map}
use Rattle.std.specs.Prelude.{map, nat_le, is_some}
use Rattle.std.specs.List.{list_all}
use Rattle.containers.proofs.Lists.{list_all-map, list_all-same}
use Rattle.plan_base.specs.declared.tree.Ty.{Ty, Ty-F, out-Ty, map-Ty, fold_out-Ty}
use Rattle.plan_base.specs.declared.tree.Expr.{Expr, Expr-F, out-Expr, roll-out-Expr, map-Expr, fold_out-Expr, para-roll-Expr}
use Rattle.plan_base.specs.declared.tree.Clause.{Clause, out-Clause, roll-out-Clause, fold-Clause, fold_out-Clause, para-Clause, para-roll-Clause}
use Rattle.plan_base.specs.declared.tree.Value.{Value, Value-F, out-Value, roll-out-Value, map-Value, fold_out-Value, para-roll-Value}
use Rattle.plan_base.specs.declared.tree.Chunk.{Chunk, out-Chunk, roll-out-Chunk, fold-Chunk, fold_out-Chunk, para-Chunk, para-roll-Chunk}
use Rattle.plan_base.specs.Sizes.{value_depth, type_depth}
use Rattle.plan_base.specs.WellFormed.{formed_type_level, formed_type, formed_expr_level, formed_expr, formed_value_level, formed_chunk_level, formed_value, formed_chunk, well_formed_program}
use Rattle.plan_base.specs.WellFormed.{typed_expr_level, typed_clause_level, has_types, typed_value_level, typed_chunk_level, value_has_types, chunk_has_types, program_has_types}

formed_type_step : (f : Ty → Bool) (x : Ty-F Ty) → formed_type_level (λ b. b) (map-Ty Ty Bool f x) ≡ formed_type_level f x
formed_type_step f (Ty-F.Tuple ts) = (λ i. (nat_le 2 (length-map ts f i) && nat_le (length-map ts f i) 8) && list_all-map (λ b. b) f ts i)
formed_type_step f _ = refl

pub formed_type_out : (t : Ty) → formed_type t ≡ formed_type_level formed_type (out-Ty t)
unfolding formed_type
formed_type_out t = fold_out-Ty Bool (formed_type_level (λ b. b)) t ∙ formed_type_step formed_type (out-Ty t)

typed_expr_step : (f : Expr → Bool) (g h : Clause → Bool) → ((c : Clause) → g c ≡ h c) → (x : Expr-F Expr Clause) → typed_expr_level (λ b. b) (λ b. b) (map-Expr Expr Clause Bool Bool f g x) ≡ typed_expr_level f h x
typed_expr_step f g h e (Expr-F.Tuple es) = list_all-map (λ b. b) f es
typed_expr_step f g h e (Expr-F.Call x es) = list_all-map (λ b. b) f es
typed_expr_step f g h e (Expr-F.ChunkOf x es) = list_all-map (λ b. b) f es
typed_expr_step f g h e (Expr-F.Try a cs) = ap (λ b. f a && b) (list_all-map (λ b. b) g cs ∙ list_all-same g h e cs)
typed_expr_step f g h e _ = refl

pub has_types_out : (e : Expr) → has_types e ≡ typed_expr_level has_types (λ c. has_types c.body) (out-Expr e)
unfolding has_types
has_types_out e =
    fold_out-Expr Bool Bool (typed_expr_level (λ b. b) (λ b. b)) (typed_clause_level (λ b. b)) e
    ∙ typed_expr_step has_types (fold-Clause Bool Bool (typed_expr_level (λ b. b) (λ b. b)) (typed_clause_level (λ b. b))) (λ c. has_types c.body)
    (λ c. fold_out-Clause Bool Bool (typed_expr_level (λ b. b) (λ b. b)) (typed_clause_level (λ b. b)) c) (out-Expr e)

typed_value_step : (f : Value → Bool) (g h : Chunk → Bool) → ((c : Chunk) → g c ≡ h c) → (x : Value-F Value Chunk) → typed_value_level (λ b. b) (λ b. b) (map-Value Value Chunk Bool Bool f g x) ≡ typed_value_level f h x
typed_value_step f g h e (Value-F.Chunk c) = e c
typed_value_step f g h e (Value-F.List t vs) = list_all-map (λ b. b) f vs
typed_value_step f g h e (Value-F.Tuple vs) = list_all-map (λ b. b) f vs
typed_value_step f g h e _ = refl

chunk_has_types_fold : (c : Chunk) → fold-Chunk Bool Bool (typed_value_level (λ b. b) (λ b. b)) (typed_chunk_level (λ b. b)) c ≡ chunk_has_types c
unfolding value_has_types chunk_has_types
chunk_has_types_fold c =
    fold_out-Chunk Bool Bool (typed_value_level (λ b. b) (λ b. b)) (typed_chunk_level (λ b. b)) c
    ∙ ap (λ b. program_has_types c.code && b) (list_all-map (λ b. b) value_has_types c.args)

pub value_has_types_out : (v : Value) → value_has_types v ≡ typed_value_level value_has_types chunk_has_types (out-Value v)
unfolding value_has_types
value_has_types_out v =
    fold_out-Value Bool Bool (typed_value_level (λ b. b) (λ b. b)) (typed_chunk_level (λ b. b)) v
    ∙ typed_value_step value_has_types (fold-Chunk Bool Bool (typed_value_level (λ b. b) (λ b. b)) (typed_chunk_level (λ b. b))) chunk_has_types chunk_has_types_fold (out-Value v)

pub chunk_has_types_is : (c : Chunk) → chunk_has_types c ≡ (program_has_types c.code && list_all value_has_types c.args)
unfolding chunk_has_types
chunk_has_types_is c = refl

-- ---- counts and forms

abbrev pub paired_with_test : {X : Type 0} → (X → Bool) → X → (X × Bool)
paired_with_test f x = (x, f x)

formed_expr_step : (f : Expr → Bool) (g : Clause → Bool) (h : Clause → Bool) → ((c : Clause) → g c ≡ h c) → (x : Expr-F Expr Clause)
    → formed_expr_level (λ e. e.1) (λ c. is_some c.0.name) (λ c. c.1) (map-Expr Expr Clause (Expr × Bool) (Clause × Bool) (λ e. (e, f e)) (λ c. (c, g c)) x)
    ≡ formed_expr_level f (λ c. is_some c.name) h x
formed_expr_step f g h e (Expr-F.Tuple es) = (λ i. (nat_le 2 (length-map es (paired_with_test f) i) && nat_le (length-map es (paired_with_test f) i) 8) && list_all-map (λ e. e.1) (paired_with_test f) es i)
formed_expr_step f g h e (Expr-F.Call x es) = (λ i. nat_le (length-map es (paired_with_test f) i) 8 && list_all-map (λ e. e.1) (paired_with_test f) es i)
formed_expr_step f g h e (Expr-F.ChunkOf x es) = (λ i. nat_le (length-map es (paired_with_test f) i) 8 && list_all-map (λ e. e.1) (paired_with_test f) es i)
formed_expr_step f g h e (Expr-F.Try a cs) =
    (λ i.
    f a
    && (
    ((nat_le 1 (length-map cs (paired_with_test g) i) && nat_le (length-map cs (paired_with_test g) i) 8) && list_all (λ c. is_some c.0.name)
    (take (length-map cs (paired_with_test g) i - 1) (map (paired_with_test g) cs)))
    && list_all-map (λ c. c.1) (paired_with_test g) cs i))
    ∙ (λ i. f a && (((nat_le 1 (length cs) && nat_le (length cs) 8) && list_all (λ c. is_some c.0.name) (take-map (paired_with_test g) (length cs - 1) cs i)) && list_all (λ c. e c i) cs))
    ∙ (λ i. f a && (((nat_le 1 (length cs) && nat_le (length cs) 8) && list_all-map (λ c. is_some c.0.name) (paired_with_test g) (take (length cs - 1) cs) i) && list_all h cs))
formed_expr_step f g h e _ = refl

formed_clause_para : (c : Clause) → para-Clause Bool Bool (formed_expr_level (λ e. e.1) (λ c. is_some c.0.name) (λ c. c.1)) (λ c. c.body.1) c ≡ formed_expr c.body
unfolding formed_expr
formed_clause_para c =
    ap (para-Clause Bool Bool (formed_expr_level (λ e. e.1) (λ c. is_some c.0.name) (λ c. c.1)) (λ c. c.body.1)) (sym (roll-out-Clause c))
    ∙ para-roll-Clause Bool Bool (formed_expr_level (λ e. e.1) (λ c. is_some c.0.name) (λ c. c.1)) (λ c. c.body.1) (out-Clause c)

pub formed_expr_out : (e : Expr) → formed_expr e ≡ formed_expr_level formed_expr (λ c. is_some c.name) (λ c. formed_expr c.body) (out-Expr e)
unfolding formed_expr
formed_expr_out e =
    ap formed_expr (sym (roll-out-Expr e))
    ∙ para-roll-Expr Bool Bool (formed_expr_level (λ e. e.1) (λ c. is_some c.0.name) (λ c. c.1)) (λ c. c.body.1) (out-Expr e)
    ∙ formed_expr_step formed_expr (para-Clause Bool Bool (formed_expr_level (λ e. e.1) (λ c. is_some c.0.name) (λ c. c.1)) (λ c. c.body.1)) (λ c. formed_expr c.body) formed_clause_para (out-Expr e)

formed_value_step : (f : Value → Bool) (g h : Chunk → Bool) → ((c : Chunk) → g c ≡ h c) → (x : Value-F Value Chunk)
    → formed_value_level (λ v. v.1) (λ c. c.1) (map-Value Value Chunk (Value × Bool) (Chunk × Bool) (λ v. (v, f v)) (λ c. (c, g c)) x) ≡ formed_value_level f h x
formed_value_step f g h e (Value-F.Chunk c) = e c
formed_value_step f g h e (Value-F.List t vs) = ap (λ b. (formed_type t && nat_le (type_depth t) 7) && b) (λ i. nat_le (length-map vs (paired_with_test f) i) 65535 && list_all-map (λ v. v.1) (paired_with_test f) vs i)
formed_value_step f g h e (Value-F.Tuple vs) = (λ i. (nat_le 2 (length-map vs (paired_with_test f) i) && nat_le (length-map vs (paired_with_test f) i) 8) && list_all-map (λ v. v.1) (paired_with_test f) vs i)
formed_value_step f g h e _ = refl

formed_chunk_para : (c : Chunk) → para-Chunk Bool Bool (formed_value_level (λ v. v.1) (λ c. c.1)) (formed_chunk_level (λ v. v.1 && nat_le (value_depth v.0) 8)) c ≡ formed_chunk c
unfolding formed_value formed_chunk
formed_chunk_para c =
    ap (para-Chunk Bool Bool (formed_value_level (λ v. v.1) (λ c. c.1)) (formed_chunk_level (λ v. v.1 && nat_le (value_depth v.0) 8))) (sym (roll-out-Chunk c))
    ∙ para-roll-Chunk Bool Bool (formed_value_level (λ v. v.1) (λ c. c.1)) (formed_chunk_level (λ v. v.1 && nat_le (value_depth v.0) 8)) (out-Chunk c)
    ∙ ap (λ b. well_formed_program c.code && b) (λ i. nat_le (length-map c.args (paired_with_test formed_value) i) 8 && list_all-map (λ v. v.1 && nat_le (value_depth v.0) 8) (paired_with_test formed_value) c.args i)

pub formed_value_out : (v : Value) → formed_value v ≡ formed_value_level formed_value formed_chunk (out-Value v)
unfolding formed_value
formed_value_out v =
    ap formed_value (sym (roll-out-Value v))
    ∙ para-roll-Value Bool Bool (formed_value_level (λ v. v.1) (λ c. c.1)) (formed_chunk_level (λ v. v.1 && nat_le (value_depth v.0) 8)) (out-Value v)
    ∙ formed_value_step formed_value (para-Chunk Bool Bool (formed_value_level (λ v. v.1) (λ c. c.1)) (formed_chunk_level (λ v. v.1 && nat_le (value_depth v.0) 8))) formed_chunk formed_chunk_para (out-Value v)

pub formed_chunk_is : (c : Chunk) → formed_chunk c ≡ (well_formed_program c.code && (nat_le (length c.args) 8 && list_all (λ v. formed_value v && nat_le (value_depth v) 8) c.args))
unfolding formed_chunk
formed_chunk_is c = refl

-- all rules by their outermost level
pub ruleset forms = (formed_type_out, formed_expr_out, formed_value_out, formed_chunk_is, has_types_out, value_has_types_out, chunk_has_types_is)
