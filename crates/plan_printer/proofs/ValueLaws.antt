-- What a printed value is, by its outermost level.
use Rattle.std.proofs.Common.{◌≡◌, ℕ, ◌+◌, refl, sym, ap, ◌∙◌, subst, List, [], ◌∷◌, ◌++◌}
use Rattle.std.specs.Prelude.{map, codes}
use Rattle.std.specs.List.{sum_by}
use Rattle.std.proofs.lemmas.List.Sums.{sum_by-cons}
use Rattle.plan_base.specs.declared.tree.Value.{Value, Value-F, out-Value, roll-Value, out-roll-Value, map-Value, fold-Value, fold_out-Value, ind-Value}
use Rattle.plan_base.specs.declared.tree.Chunk.{Chunk, Chunk-F, roll-Chunk, out-roll-Chunk, fold-Chunk, fold_out-Chunk}
use Rattle.plan_base.specs.Sizes.{name_size, type_size, code_size, weight_level, weight, chunk_weight}
use Rattle.plan_base.proofs.SizeLaws.{weight_out}
use Rattle.plan_printer_spec.specs.Pieces.{listed_pieces}
use Rattle.plan_printer_spec.specs.Printed.{chunk_text_of, chunk_text, value_text_level, Shown, shown_level, shown_chunk_level, value_text}

shown_value : Value → Shown
shown_value = fold-Value Shown Shown shown_level shown_chunk_level

shown_chunk : Chunk → Shown
shown_chunk = fold-Chunk Shown Shown shown_level shown_chunk_level

-- the weights of parts that were weighed on the way
sums : {X : Type 0} (v : X → Value) → ((x : X) → (shown_value (v x)).0 ≡ weight (v x)) → (xs : List X) → sum_by (λ s. s.0) (map shown_value (map v xs)) ≡ sum_by weight (map v xs)
sums v h [] = refl
sums v h (x ∷ xs) =
    sum_by-cons (λ s. s.0) (shown_value (v x)) (map shown_value (map v xs)) ∙ ap (λ n. n + sum_by (λ s. s.0) (map shown_value (map v xs))) (h x)
    ∙ ap (λ n. weight (v x) + n) (sums v h xs) ∙ sym (sum_by-cons weight (v x) (map v xs))

weight_level_same : {X Y : Type 0} (v : X → Value) → ((x : X) → (shown_value (v x)).0 ≡ weight (v x)) → (w : Y → Chunk) → ((y : Y) → (shown_chunk (w y)).0 ≡ chunk_weight (w y)) → (z : Value-F X Y)
    → weight_level (λ s. s.0) (λ s. s.0) (map-Value Value Chunk Shown Shown shown_value shown_chunk (map-Value X Y Value Chunk v w z)) ≡ weight_level weight chunk_weight (map-Value X Y Value Chunk v w z)
weight_level_same v h w k (Value-F.Chunk c) = ap (λ n. 1 + n) (k c)
weight_level_same v h w k (Value-F.List t vs) = ap (λ n. 3 + type_size t + n) (sums v h vs)
weight_level_same v h w k (Value-F.Tuple vs) = ap (λ n. 2 + n) (sums v h vs)
weight_level_same v h w k _ = refl

value_weighs : (x : Value-F Value Chunk)
    → weight_level (λ s. s.0) (λ s. s.0) (map-Value Value Chunk Shown Shown shown_value shown_chunk x) ≡ weight_level weight chunk_weight x → (shown_value (roll-Value x)).0 ≡ weight (roll-Value x)
unfolding shown_value shown_chunk
value_weighs x h =
    ap (λ s. s.0) (fold_out-Value Shown Shown shown_level shown_chunk_level (roll-Value x))
    ∙ ap (λ z. weight_level (λ s. s.0) (λ s. s.0) (map-Value Value Chunk Shown Shown shown_value shown_chunk z)) (out-roll-Value x) ∙ h
    ∙ sym (weight_out (roll-Value x) ∙ ap (weight_level weight chunk_weight) (out-roll-Value x))

chunk_weighs : (c : Chunk) → sum_by (λ s. s.0) (map shown_value c.args) ≡ sum_by weight c.args → (shown_chunk c).0 ≡ chunk_weight c
unfolding shown_value shown_chunk chunk_weight
chunk_weighs c h =
    ap (λ s. s.0) (fold_out-Chunk Shown Shown shown_level shown_chunk_level c) ∙ ap (λ n. 1 + code_size c.code + name_size c.entry + n) h

args_of : (x : Chunk-F Value Chunk) → (roll-Chunk x).args ≡ x.args
args_of x = ap (λ c. c.args) (out-roll-Chunk x)

-- the weight that is found on the way is the weight
shown-weight : (v : Value) → (shown_value v).0 ≡ weight v
shown-weight = ind-Value (λ v. (shown_value v).0 ≡ weight v) (λ c. (shown_chunk c).0 ≡ chunk_weight c)
    (λ x y e. value_weighs x (let P : Value-F Value Chunk → Type 0 = λ z. weight_level (λ s. s.0) (λ s. s.0) (map-Value Value Chunk Shown Shown shown_value shown_chunk z) ≡ weight_level weight chunk_weight z in
    subst P e (weight_level_same (λ q. q.0) (λ q. q.1) (λ q. q.0) (λ q. q.1) y)))
    (λ x y e. chunk_weighs (roll-Chunk x) (let P : Chunk-F Value Chunk → Type 0 = λ z. sum_by (λ s. s.0) (map shown_value z.args) ≡ sum_by weight z.args in
    subst (λ vs. sum_by (λ s. s.0) (map shown_value vs) ≡ sum_by weight vs) (sym (args_of x)) (subst P e (sums (λ q. q.0) (λ q. q.1) y.args))))

args_weigh : (vs : List Value) → sum_by (λ s. s.0) (map shown_value vs) ≡ sum_by weight vs
args_weigh [] = refl
args_weigh (v ∷ vs) =
    sum_by-cons (λ s. s.0) (shown_value v) (map shown_value vs) ∙ ap (λ n. n + sum_by (λ s. s.0) (map shown_value vs)) (shown-weight v)
    ∙ ap (λ n. weight v + n) (args_weigh vs) ∙ sym (sum_by-cons weight v vs)

shown_chunk-text : (c : Chunk) → (shown_chunk c).1 ≡ chunk_text c
unfolding shown_value shown_chunk chunk_text chunk_weight
shown_chunk-text c =
    ap (λ s. s.1) (fold_out-Chunk Shown Shown shown_level shown_chunk_level c)
    ∙ ap (λ n. chunk_text_of c.entry (1 + (1 + code_size c.code + name_size c.entry + n))) (args_weigh c.args)

texts_map : (between first : List ℕ) (vs : List Value) → listed_pieces between first (λ s. s.1) (map shown_value vs) ≡ listed_pieces between first value_text vs
unfolding shown_value value_text
texts_map between first [] = refl
texts_map between first (v ∷ vs) = ap (λ s. first ++ ((shown_value v).1 ++ s)) (texts_map between between vs)

value_text_step : (x : Value-F Value Chunk) → value_text_level (λ s. s.1) (λ s. s.1) (map-Value Value Chunk Shown Shown shown_value shown_chunk x) ≡ value_text_level value_text chunk_text x
value_text_step (Value-F.Chunk c) = shown_chunk-text c
value_text_step (Value-F.List t []) = refl
value_text_step (Value-F.List t (v ∷ vs)) = ap (λ s. codes "[" ++ s ++ codes "]") (texts_map (codes ", ") [] (v ∷ vs))
value_text_step (Value-F.Tuple vs) = ap (λ s. codes "(" ++ s ++ codes ")") (texts_map (codes ", ") [] vs)
value_text_step _ = refl

pub value_text_out : (v : Value) → value_text v ≡ value_text_level value_text chunk_text (out-Value v)
unfolding value_text shown_value shown_chunk
value_text_out v = ap (λ s. s.1) (fold_out-Value Shown Shown shown_level shown_chunk_level v) ∙ value_text_step (out-Value v)
