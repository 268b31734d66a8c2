-- What each printed form is, by the tree's outermost level.
use Rattle.std.proofs.Common.{◌≡◌, ℕ, refl, sym, ap, ◌∙◌, ◌<◌, length, arith, List, [], ◌∷◌, ◌++◌, append_assoc}
use Rattle.std.specs.Prelude.{map, codes}
use Rattle.plan_base.specs.declared.tree.Ty.{Ty, Ty-F, out-Ty, map-Ty, fold_out-Ty}
use Rattle.plan_base.specs.declared.tree.Expr.{Expr, Expr-F, out-Expr, map-Expr, fold_out-Expr}
use Rattle.plan_base.specs.declared.tree.Clause.{Clause, fold-Clause, fold_out-Clause}
use Rattle.plan_printer_spec.specs.Pieces.{listed_pieces, commas}
use Rattle.plan_printer_spec.specs.Printed.{empty_text, values_text, type_text_level, type_text, expr_text_level, expr_text, clause_text_level, clause_text}

pub listed-map : {X A : Type 0} (between first : List A) (f : X → List A) (xs : List X) → listed_pieces between first (λ s. s) (map f xs) ≡ listed_pieces between first f xs
listed-map between first f [] = refl
listed-map between first f (x ∷ xs) = ap (λ s. first ++ (f x ++ s)) (listed-map between between f xs)

pub listed_same : {X A : Type 0} (between first : List A) (f g : X → List A) → ((x : X) → f x ≡ g x) → (xs : List X) → listed_pieces between first (λ s. s) (map f xs) ≡ listed_pieces between first g xs
listed_same between first f g e xs = listed-map between first f xs ∙ (λ i. listed_pieces between first (λ x. e x i) xs)

type_text_step : (f : Ty → List ℕ) (x : Ty-F Ty) → type_text_level (λ s. s) (map-Ty Ty (List ℕ) f x) ≡ type_text_level f x
type_text_step f (Ty-F.Tuple ts) = ap (λ s. codes "(" ++ s ++ codes ")") (listed-map (codes " * ") [] f ts)
type_text_step f _ = refl

pub type_text_out : (t : Ty) → type_text t ≡ type_text_level type_text (out-Ty t)
unfolding type_text
type_text_out t = fold_out-Ty (List ℕ) (type_text_level (λ s. s)) t ∙ type_text_step type_text (out-Ty t)

expr_text_step : (f : Expr → List ℕ) (g h : Clause → List ℕ) → ((c : Clause) → g c ≡ h c) → (x : Expr-F Expr Clause)
    → expr_text_level (λ s. s) (λ s. s) (map-Expr Expr Clause (List ℕ) (List ℕ) f g x) ≡ expr_text_level f h x
expr_text_step f g h e (Expr-F.Tuple es) = ap (λ s. codes "(" ++ s ++ codes ")") (listed-map (codes ", ") [] f es)
expr_text_step f g h e (Expr-F.Call n es) = ap (λ s. n ++ codes "(" ++ s ++ codes ")") (listed-map (codes ", ") [] f es)
expr_text_step f g h e (Expr-F.ChunkOf n es) = ap (λ s. codes "|" ++ n ++ codes "|(" ++ s ++ codes ")") (listed-map (codes ", ") [] f es)
expr_text_step f g h e (Expr-F.Try a cs) = ap (λ s. codes "try " ++ f a ++ codes " handle " ++ s ++ codes " end") (listed_same (codes " | ") [] g h e cs)
expr_text_step f g h e _ = refl

pub expr_text_out : (e : Expr) → expr_text e ≡ expr_text_level expr_text clause_text (out-Expr e)
unfolding expr_text
expr_text_out e =
    fold_out-Expr (List ℕ) (List ℕ) (expr_text_level (λ s. s) (λ s. s)) (clause_text_level (λ s. s)) e
    ∙ expr_text_step expr_text (fold-Clause (List ℕ) (List ℕ) (expr_text_level (λ s. s) (λ s. s)) (clause_text_level (λ s. s))) clause_text
    (λ c. fold_out-Clause (List ℕ) (List ℕ) (expr_text_level (λ s. s) (λ s. s)) (clause_text_level (λ s. s)) c) (out-Expr e)

pub values_text_none : {X : Type 0} (print : X → List ℕ) (t : Ty) (vs : List X) → length vs ≡ 0 → values_text print t vs ≡ empty_text t
values_text_none print t [] h = refl
values_text_none print t (v ∷ vs) h = absurd (omega arith)

pub values_text_some : {X : Type 0} (print : X → List ℕ) (t : Ty) (vs : List X) → 0 < length vs → values_text print t vs ≡ codes "[" ++ commas print vs ++ codes "]"
values_text_some print t [] h = absurd (omega arith)
values_text_some print t (v ∷ vs) h = refl

-- two pieces put behind one another, of which the second has four parts
pub pieces_put : (a x n k d e p s : List ℕ) → p ≡ a ++ x → s ≡ p ++ (((n ++ k) ++ d) ++ e) → s ≡ a ++ ((((x ++ n) ++ k) ++ d) ++ e)
pieces_put a x n k d e p s first second =
    second ∙ (ap (λ z. z ++ (((n ++ k) ++ d) ++ e)) first ∙ (append_assoc a x (((n ++ k) ++ d) ++ e)
    ∙ ap (λ z. a ++ z) (sym (append_assoc x ((n ++ k) ++ d) e) ∙ (ap (λ z. z ++ e) (sym (append_assoc x (n ++ k) d)) ∙ ap (λ z. (z ++ d) ++ e) (sym (append_assoc x n k))))))
