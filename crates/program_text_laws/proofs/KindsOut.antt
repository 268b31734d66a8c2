-- The tokens of a type and of an expression, by its outermost level.
use Rattle.std.proofs.Common.{◌≡◌, [], ◌∷◌, ◌++◌, refl, ap, ◌∙◌}
use Rattle.plan_base.specs.declared.tree.Ty.{Ty, Ty-F, out-Ty, map-Ty, fold_out-Ty}
use Rattle.plan_base.specs.declared.tree.Expr.{Expr, Expr-F, out-Expr, map-Expr, fold_out-Expr}
use Rattle.plan_base.specs.declared.tree.Clause.{Clause, fold-Clause, fold_out-Clause}
use Rattle.plan_lexer.specs.declared.token.Key.TheVariants as keys
use Rattle.plan_lexer.specs.declared.token.Symbol.TheVariants as symbols
use Rattle.plan_lexer.specs.declared.token.TokenKind.TheVariants as kind
use Rattle.plan_printer.proofs.PrintLaws.{listed-map, listed_same}
use Rattle.program_text_laws.specs.PrintedTokens.{Kinds, mark, word, type_kinds_level, type_kinds, expr_kinds_level, clause_kinds_level, expr_kinds, clause_kinds}

type_kinds_step : (f : Ty → Kinds) (x : Ty-F Ty) → type_kinds_level (λ s. s) (map-Ty Ty Kinds f x) ≡ type_kinds_level f x
type_kinds_step f (Ty-F.Tuple ts) = ap (λ s. mark symbols.ParenOpen ++ s ++ mark symbols.ParenClose) (listed-map (mark symbols.Star) [] f ts)
type_kinds_step f _ = refl

pub type_kinds_out : (t : Ty) → type_kinds t ≡ type_kinds_level type_kinds (out-Ty t)
unfolding type_kinds
type_kinds_out t = fold_out-Ty Kinds (type_kinds_level (λ s. s)) t ∙ type_kinds_step type_kinds (out-Ty t)

expr_kinds_step : (f : Expr → Kinds) (g h : Clause → Kinds) → ((c : Clause) → g c ≡ h c) → (x : Expr-F Expr Clause)
    → expr_kinds_level (λ s. s) (λ s. s) (map-Expr Expr Clause Kinds Kinds f g x) ≡ expr_kinds_level f h x
expr_kinds_step f g h e (Expr-F.Tuple es) = ap (λ s. mark symbols.ParenOpen ++ s ++ mark symbols.ParenClose) (listed-map (mark symbols.Comma) [] f es)
expr_kinds_step f g h e (Expr-F.Call x es) = ap (λ s. kind.Word x ∷ mark symbols.ParenOpen ++ s ++ mark symbols.ParenClose) (listed-map (mark symbols.Comma) [] f es)
expr_kinds_step f g h e (Expr-F.ChunkOf x es) = ap (λ s. mark symbols.Bar ++ kind.Word x ∷ mark symbols.Bar ++ mark symbols.ParenOpen ++ s ++ mark symbols.ParenClose) (listed-map (mark symbols.Comma) [] f es)
expr_kinds_step f g h e (Expr-F.Try a cs) = ap (λ s. word keys.Try ++ f a ++ word keys.Handle ++ s ++ word keys.End) (listed_same (mark symbols.Bar) [] g h e cs)
expr_kinds_step f g h e _ = refl

pub expr_kinds_out : (e : Expr) → expr_kinds e ≡ expr_kinds_level expr_kinds clause_kinds (out-Expr e)
unfolding expr_kinds
expr_kinds_out e =
    fold_out-Expr Kinds Kinds (expr_kinds_level (λ s. s) (λ s. s)) (clause_kinds_level (λ s. s)) e
    ∙ expr_kinds_step expr_kinds (fold-Clause Kinds Kinds (expr_kinds_level (λ s. s) (λ s. s)) (clause_kinds_level (λ s. s))) clause_kinds
    (λ c. fold_out-Clause Kinds Kinds (expr_kinds_level (λ s. s) (λ s. s)) (clause_kinds_level (λ s. s)) c) (out-Expr e)
