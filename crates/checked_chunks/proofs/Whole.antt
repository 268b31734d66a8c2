-- In a typed program no type of `[]` or `raise` is missing.
use Rattle.std.proofs.Common.{◌≡◌, ℕ, suc, ◌∙◌, ap, refl, Bool, true, ◌&&◌, List, [], ◌∷◌, Some}
use Rattle.std.specs.Prelude.{slice_get}
use Rattle.std.specs.List.{list_all}
use Rattle.containers.proofs.Bools.{and_both}
use Rattle.plan_base.specs.declared.tree.Ty.{Ty}
use Rattle.plan_base.specs.declared.tree.Expr.{Expr, Expr-F, out-Expr}
use Rattle.plan_base.specs.declared.tree.Clause.{Clause}
use Rattle.plan_base.specs.declared.tree.Fun.{Fun}
use Rattle.plan_base.specs.declared.tree.Program.{Program}
use Rattle.plan_base.specs.Trees.{ExprLayer}
use Rattle.plan_base.specs.WellFormed.{typed_expr_level, has_types, program_has_types, ProgramHasTypes}
use Rattle.plan_base.proofs.FormLaws.{has_types_out}
use Rattle.plan_types_spec.specs.Typing.{Ctx, literal_type, HasTy, HaveTys, ClausesHaveTy, Typed}
use Rattle.plan_types_spec.specs.Typing.{HasTy as H, HaveTys as P, ClausesHaveTy as C}

abbrev Whole : ExprLayer → Type 0
Whole l = typed_expr_level has_types (λ c. has_types c.body) l ≡ true

by_level : (e : Expr) (l : ExprLayer) → out-Expr e ≡ l → Whole l → has_types e ≡ true
by_level e l o h = has_types_out e ∙ ap (typed_expr_level has_types (λ c. has_types c.body)) o ∙ h

literal_whole : (l : ExprLayer) (t : Ty) → literal_type l ≡ Some t → Whole l
literal_whole Expr-F.Unit t h = refl
literal_whole (Expr-F.Bool b) t h = refl
literal_whole (Expr-F.Int n) t h = refl
literal_whole (Expr-F.Char c) t h = refl
literal_whole (Expr-F.Str s) t h = refl
literal_whole (Expr-F.Blob b) t h = refl
literal_whole (Expr-F.Host x) t h = refl
literal_whole (Expr-F.Dev d) t h = refl
literal_whole _ t h = absurd (cc)

two : (a b : Expr) → has_types a ≡ true → has_types b ≡ true → (has_types a && has_types b) ≡ true
two a b h k = and_both (has_types a) (has_types b) h k

three : (a b d : Expr) → has_types a ≡ true → has_types b ≡ true → has_types d ≡ true → (has_types a && (has_types b && has_types d)) ≡ true
three a b d h k l = and_both (has_types a) (has_types b && has_types d) h (two b d k l)

module _ (code : Program) (seen : ℕ) where
  mutual
    pub expr_whole : {c : Ctx} {e : Expr} {t : Ty} → HasTy code seen c e t → has_types e ≡ true
    expr_whole {e = e} {t = t} (H.literal h) = by_level e (out-Expr e) refl (literal_whole (out-Expr e) t h)
    expr_whole {e = e} (H.variable x o b) = by_level e (Expr-F.Var x) o refl
    expr_whole {e = e} (H.empty u o q s) = by_level e (Expr-F.Nil (Some u)) o refl
    expr_whole {e = e} {t = t} (H.raising x o k s) = by_level e (Expr-F.Raise x (Some t)) o refl
    expr_whole {e = e} (H.tuple es ts o h q s) = by_level e (Expr-F.Tuple es) o (parts_whole h)
    expr_whole {e = e} (H.part i a ts o h p) = by_level e (Expr-F.Part i a) o (expr_whole h)
    expr_whole {e = e} (H.of_items f a p u o q h r) = by_level e (Expr-F.Call f (a ∷ [])) o (and_both (has_types a) true (expr_whole h) refl)
    expr_whole {e = e} (H.primitive f es p ts o q w h r) = by_level e (Expr-F.Call f es) o (parts_whole h)
    expr_whole {e = e} (H.serving f es d o q w h r) = by_level e (Expr-F.Call f es) o (parts_whole h)
    expr_whole {e = e} (H.call f es at d o q w p g h r) = by_level e (Expr-F.Call f es) o (parts_whole h)
    expr_whole {e = e} (H.choice a b d o i j k) = by_level e (Expr-F.If a b d) o (three a b d (expr_whole i) (expr_whole j) (expr_whole k))
    expr_whole {e = e} (H.binder x u a b o i j) = by_level e (Expr-F.Let x u a b) o (two a b (expr_whole i) (expr_whole j))
    expr_whole {e = e} (H.sequence a b o i j) = by_level e (Expr-F.Then a b) o (two a b (expr_whole i) (expr_whole j))
    expr_whole {e = e} (H.both a b o i j q) = by_level e (Expr-F.And a b) o (two a b (expr_whole i) (expr_whole j))
    expr_whole {e = e} (H.either a b o i j q) = by_level e (Expr-F.Or a b) o (two a b (expr_whole i) (expr_whole j))
    expr_whole {e = e} (H.negation a o i q) = by_level e (Expr-F.Not a) o (expr_whole i)
    expr_whole {e = e} (H.calculation y a b o g i j q) = by_level e (Expr-F.Binary y a b) o (two a b (expr_whole i) (expr_whole j))
    expr_whole {e = e} (H.join y a b o g i w j) = by_level e (Expr-F.Binary y a b) o (two a b (expr_whole i) (expr_whole j))
    expr_whole {e = e} (H.comparison y a b u o g i j q) = by_level e (Expr-F.Binary y a b) o (two a b (expr_whole i) (expr_whole j))
    expr_whole {e = e} (H.order y a b u o g i w j q) = by_level e (Expr-F.Binary y a b) o (two a b (expr_whole i) (expr_whole j))
    expr_whole {e = e} (H.prefix y a b u o g i j q s) = by_level e (Expr-F.Binary y a b) o (two a b (expr_whole i) (expr_whole j))
    expr_whole {e = e} (H.handling a ks o i j) = by_level e (Expr-F.Try a ks) o (and_both (has_types a) (list_all (λ c. has_types c.body) ks) (expr_whole i) (clauses_whole j))
    expr_whole {e = e} (H.fold_left f a l at d u o p g q r i j) = by_level e (Expr-F.Foldl f a l) o (two a l (expr_whole i) (expr_whole j))
    expr_whole {e = e} (H.fold_right f a l at d u o p g q r i j) = by_level e (Expr-F.Foldr f a l) o (two a l (expr_whole i) (expr_whole j))
    expr_whole {e = e} (H.packing f es at d o p g h q) = by_level e (Expr-F.ChunkOf f es) o (parts_whole h)
    expr_whole {e = e} (H.evaluation a o i q) = by_level e (Expr-F.Eval a) o (expr_whole i)
    expr_whole {e = e} (H.remote a h n r o i j k q) = by_level e (Expr-F.OnRemote a h n r) o (three a h n (expr_whole i) (expr_whole j) (expr_whole k))
    expr_whole {e = e} (H.neighbour a h n d o i j k l q) =
        by_level e (Expr-F.OnNeighbor a h n d) o (and_both (has_types a && has_types h) (has_types n && has_types d) (two a h (expr_whole i) (expr_whole j)) (two n d (expr_whole k) (expr_whole l)))

    parts_whole : {c : Ctx} {es : List Expr} {ts : List Ty} → HaveTys code seen c es ts → list_all has_types es ≡ true
    parts_whole P.no_parts = refl
    parts_whole (P.and_part {e = e} {es = es} h hs) = and_both (has_types e) (list_all has_types es) (expr_whole h) (parts_whole hs)

    clauses_whole : {c : Ctx} {ks : List Clause} {t : Ty} → ClausesHaveTy code seen c ks t → list_all (λ c. has_types c.body) ks ≡ true
    clauses_whole C.no_clauses = refl
    clauses_whole (C.and_clause {k = k} {ks = ks} m h hs) = and_both (has_types k.body) (list_all (λ c. has_types c.body) ks) (expr_whole h) (clauses_whole hs)

bodies_whole : (ds : List Fun) → ((k : ℕ) (d : Fun) → slice_get ds k ≡ Some d → has_types d.body ≡ true) → list_all (λ f. has_types f.body) ds ≡ true
bodies_whole [] h = refl
bodies_whole (d ∷ ds) h = and_both (has_types d.body) (list_all (λ f. has_types f.body) ds) (h 0 d refl) (bodies_whole ds (λ k g e. h (suc k) g e))

pub program_whole : (code : Program) → Typed code → ProgramHasTypes code
unfolding program_has_types
program_whole code t = bodies_whole code.funs (λ k d e. expr_whole code k (t.bodies k d e))
