-- A typed expression, as a draft in which no type is missing, becomes itself.
use Rattle.std.proofs.Common.{◌≡◌, ℕ, suc, ◌+◌, ◌∙◌, sym, ap, refl, subst, Bool, List, [], ◌∷◌, length, Option, Some, None, arith, zero-add, add-zero}
use Rattle.std.specs.Prelude.{map, slice_get, option_and_then, if◌then◌else◌}
use Rattle.std.proofs.lemmas.Bool.{eq-eqb}
use Rattle.plan_base.specs.declared.tree.Ty.{Ty}
use Rattle.plan_base.specs.declared.tree.Ty as ty
use Rattle.plan_base.specs.declared.tree.Ty.TheVariants as made
use Rattle.plan_base.specs.declared.tree.Expr.{Expr, Expr-F, out-Expr, roll-Expr, roll-out-Expr}
use Rattle.plan_base.specs.declared.tree.Expr.TheVariants as v
use Rattle.plan_base.specs.declared.tree.Clause.{Clause}
use Rattle.plan_base.specs.declared.tree.Program.{Program}
use Rattle.plan_base.specs.Trees.{ExprLayer}
use Rattle.plan_types_spec.specs.Typing.{Ctx, HasTy, HaveTys, ClausesHaveTy}
use Rattle.plan_types_spec.specs.Typing.{HasTy as T, HaveTys as M, ClausesHaveTy as K}
use Rattle.plan_types_spec.specs.TypingOrder.{items_of_layer, items_of, parts_of_layer, parts_of, want_at}
use Rattle.plan_types_spec.specs.TypingFills.{Suits, Becomes, PartsBecome, ClausesBecome}
use Rattle.plan_types_spec.specs.TypingFills.{Becomes as B, PartsBecome as P, ClausesBecome as C}
use Rattle.plan_types_spec.proofs.Right.{wanted_suits}

-- an expression is made of its level
pub level_is : (e : Expr) (l : ExprLayer) → out-Expr e ≡ l → e ≡ roll-Expr l
level_is e l o = sym (roll-out-Expr e) ∙ ap roll-Expr o

all_wanted : (ts : List Ty) (k : ℕ) (t : Ty) → slice_get ts k ≡ Some t → Suits (want_at (Some ts) (0 + k)) t
all_wanted ts k t e = wanted_suits (ap (slice_get ts) (zero-add k) ∙ e)

types_count : {code : Program} {seen : ℕ} {c : Ctx} {es : List Expr} {ts : List Ty} → HaveTys code seen c es ts → length ts ≡ length es
types_count M.no_parts = refl
types_count (M.and_part h hs) = ap suc (types_count hs)

tuple_wanted : (want : Option Ty) (n : ℕ) (ts : List Ty) → Suits want (ty.Tuple ts) → length ts ≡ n → (k : ℕ) (t : Ty) → slice_get ts k ≡ Some t → Suits (want_at (option_and_then (parts_of n) want) (0 + k)) t
tuple_wanted None n ts s e k t h = tt
tuple_wanted (Some w) n ts s e k t h =
    let p : parts_of n w ≡ Some ts = ap (parts_of n) s ∙ (ap (parts_of_layer n) (made.outs-Tuple ts) ∙ ap (λ (b : Bool). if b then Some ts else None) (eq-eqb (length ts) n e)) in
    subst (λ ws. Suits (want_at ws (0 + k)) t) (sym p) (all_wanted ts k t h)

item_wanted : (want : Option Ty) (u : Ty) → Suits want (ty.List u) → Suits (option_and_then items_of want) u
item_wanted None u s = tt
item_wanted (Some w) u s = wanted_suits (ap items_of s ∙ ap items_of_layer (made.outs-List u))

module _ (code : Program) (seen : ℕ) where
  mutual
    pub itself : {c : Ctx} {e : Expr} {t : Ty} → HasTy code seen c e t → {want : Option Ty} → Suits want t → Becomes code seen c want e e t
    itself (T.literal h) s = B.literal h refl s
    itself (T.variable n o b) s = B.variable n o b refl s
    itself (T.empty u o q w) s = B.empty u o q w refl s
    itself (T.raising n o k w) s = B.raising n o k w refl s
    itself {c = c} {e = e} (T.tuple es ts o hs q w) {want = want} s =
        B.tuple es es ts o (parts_itself hs (option_and_then (parts_of (length es)) want) 0
        (tuple_wanted want (length es) ts (subst (λ z. Suits want z) q s) (types_count hs))) q w (level_is e (Expr-F.Tuple es) o ∙ v.rolls-Tuple es) s
    itself {e = e} (T.part i a ts o h q) s = B.part i a a ts o (itself h tt) q (level_is e (Expr-F.Part i a) o ∙ v.rolls-Part i a) s
    itself {e = e} (T.of_items f a p u o q h r) s = B.of_items f a a p u o q (itself h tt) r (level_is e (Expr-F.Call f (a ∷ [])) o ∙ v.rolls-Call f (a ∷ [])) s
    itself {e = e} (T.primitive f es p ts o q w hs r) s = B.primitive f es es p ts o q w (parts_itself hs (Some ts) 0 (all_wanted ts)) r (level_is e (Expr-F.Call f es) o ∙ v.rolls-Call f es) s
    itself {e = e} (T.serving f es d o q w hs r) s = B.serving f es es d o q w (parts_itself hs (Some d.params) 0 (all_wanted d.params)) r (level_is e (Expr-F.Call f es) o ∙ v.rolls-Call f es) s
    itself {e = e} (T.call f es at d o q w i j hs r) s =
        B.call f es es d o q w (ap (option_and_then (slice_get code.funs)) i ∙ j)
        (parts_itself hs (Some (map (λ p. p.ty) d.params)) 0 (all_wanted (map (λ p. p.ty) d.params))) r (level_is e (Expr-F.Call f es) o ∙ v.rolls-Call f es) s
    itself {e = e} (T.choice a b d o h i j) s = B.choice a b d a b d o (itself h refl) (itself i s) (itself j refl) (level_is e (Expr-F.If a b d) o ∙ v.rolls-If a b d)
    itself {e = e} (T.binder n u a b o h i) s = B.binder n u a b a b o (itself h refl) (itself i s) (level_is e (Expr-F.Let n u a b) o ∙ v.rolls-Let n u a b)
    itself {e = e} (T.sequence a b o h i) s = B.sequence a b a b o (itself h refl) (itself i s) (level_is e (Expr-F.Then a b) o ∙ v.rolls-Then a b)
    itself {e = e} (T.both a b o h i q) s = B.both a b a b o (itself h refl) (itself i refl) q (level_is e (Expr-F.And a b) o ∙ v.rolls-And a b) s
    itself {e = e} (T.either a b o h i q) s = B.either a b a b o (itself h refl) (itself i refl) q (level_is e (Expr-F.Or a b) o ∙ v.rolls-Or a b) s
    itself {e = e} (T.negation a o h q) s = B.negation a a o (itself h refl) q (level_is e (Expr-F.Not a) o ∙ v.rolls-Not a) s
    itself {e = e} (T.calculation r a b o g h i q) s = B.calculation r a b a b o g (itself h refl) (itself i refl) q (level_is e (Expr-F.Binary r a b) o ∙ v.rolls-Binary r a b) s
    itself {e = e} (T.join r a b o g h w i) s = B.join r a b a b o g (itself h tt) w (itself i refl) (level_is e (Expr-F.Binary r a b) o ∙ v.rolls-Binary r a b) s
    itself {e = e} (T.comparison r a b u o g h i q) s = B.comparison r a b a b u o g (itself h tt) (itself i refl) q (level_is e (Expr-F.Binary r a b) o ∙ v.rolls-Binary r a b) s
    itself {e = e} (T.order r a b u o g h w i q) s = B.order r a b a b u o g (itself h tt) w (itself i refl) q (level_is e (Expr-F.Binary r a b) o ∙ v.rolls-Binary r a b) s
    itself {e = e} (T.prefix r a b u o g h i q w) {want = want} s = B.prefix r a b a b u o g (itself h (item_wanted want u (subst (λ z. Suits want z) q s))) (itself i refl) q w (level_is e (Expr-F.Binary r a b) o ∙ v.rolls-Binary r a b) s
    itself {e = e} (T.handling a ks o h hs) s = B.handling a a ks ks o (itself h s) (clauses_itself hs) (level_is e (Expr-F.Try a ks) o ∙ v.rolls-Try a ks)
    itself {e = e} (T.fold_left f a l at d u o i j p q h k) s = B.fold_left f a l a l d u o (ap (option_and_then (slice_get code.funs)) i ∙ j) p q (itself h refl) (itself k refl) (level_is e (Expr-F.Foldl f a l) o ∙ v.rolls-Foldl f a l) s
    itself {e = e} (T.fold_right f a l at d u o i j p q h k) s = B.fold_right f a l a l d u o (ap (option_and_then (slice_get code.funs)) i ∙ j) p q (itself h refl) (itself k refl) (level_is e (Expr-F.Foldr f a l) o ∙ v.rolls-Foldr f a l) s
    itself {e = e} (T.packing f es at d o i j hs q) s =
        B.packing f es es d o (ap (option_and_then (slice_get code.funs)) i ∙ j)
        (parts_itself hs (Some (map (λ p. p.ty) d.params)) 0 (all_wanted (map (λ p. p.ty) d.params))) q (level_is e (Expr-F.ChunkOf f es) o ∙ v.rolls-ChunkOf f es) s
    itself {e = e} (T.evaluation a o h q) s = B.evaluation a a o (itself h refl) q (level_is e (Expr-F.Eval a) o ∙ v.rolls-Eval a) s
    itself {e = e} (T.remote a h n r o i j k q) s = B.remote a h n a h n r o (itself i refl) (itself j refl) (itself k refl) q (level_is e (Expr-F.OnRemote a h n r) o ∙ v.rolls-OnRemote a h n r) s
    itself {e = e} (T.neighbour a h n d o i j k m q) s = B.neighbour a h n d a h n d o (itself i refl) (itself j refl) (itself k refl) (itself m refl) q (level_is e (Expr-F.OnNeighbor a h n d) o ∙ v.rolls-OnNeighbor a h n d) s

    parts_itself : {c : Ctx} {es : List Expr} {ts : List Ty} → HaveTys code seen c es ts → (wants : Option (List Ty)) (i : ℕ)
        → ((k : ℕ) (t : Ty) → slice_get ts k ≡ Some t → Suits (want_at wants (i + k)) t) → PartsBecome code seen c wants i es es ts
    parts_itself M.no_parts wants i f = P.no_parts
    parts_itself (M.and_part {t = t} h hs) wants i f =
        P.and_part (itself h (subst (λ j. Suits (want_at wants j) t) (add-zero i) (f 0 t refl)))
        (parts_itself hs wants (i + 1) (λ k u e. let q : i + suc k ≡ i + 1 + k = omega arith in subst (λ j. Suits (want_at wants j) u) q (f (suc k) u e)))

    clauses_itself : {c : Ctx} {ks : List Clause} {t : Ty} → ClausesHaveTy code seen c ks t → ClausesBecome code seen c t ks ks
    clauses_itself K.no_clauses = C.no_clauses
    clauses_itself (K.and_clause m h hs) = C.and_clause m (itself h refl) refl (clauses_itself hs)
