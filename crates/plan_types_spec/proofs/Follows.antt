-- What a draft becomes has its type by the typing rules.
use Rattle.std.proofs.Common.{ℕ, ◌∙◌, sym, ap, subst, List, [], ◌∷◌, Option, Some}
use Rattle.plan_base.specs.declared.tree.Ty.{Ty}
use Rattle.plan_base.specs.declared.tree.Expr.{Expr, out-Expr}
use Rattle.plan_base.specs.declared.tree.Expr.TheVariants as v
use Rattle.plan_base.specs.declared.tree.Clause.{Clause}
use Rattle.plan_base.specs.declared.tree.Program.{Program}
use Rattle.plan_types_spec.specs.Typing.{Ctx, literal_type, HasTy, HaveTys, ClausesHaveTy}
use Rattle.plan_types_spec.specs.Typing.{HasTy as T, HaveTys as M, ClausesHaveTy as K}
use Rattle.plan_types_spec.specs.TypingNames.{param_types, may_catch}
use Rattle.plan_types_spec.specs.TypingFills.{Becomes, PartsBecome, ClausesBecome}
use Rattle.plan_types_spec.specs.TypingFills.{Becomes as B, PartsBecome as P, ClausesBecome as C}
use Rattle.plan_types_spec.proofs.Heads.{SameHeads, known_there, service_there, earlier_there, any_there, catch_there}

module _ (code whole : Program) (same : SameHeads code whole) (seen : ℕ) where
  mutual
    pub becomes_typed : {c : Ctx} {want : Option Ty} {d e : Expr} {t : Ty} → Becomes code seen c want d e t → HasTy whole seen c e t
    becomes_typed (B.literal h p s) = T.literal (ap (λ z. literal_type (out-Expr z)) p ∙ h)
    becomes_typed (B.variable n h b p s) = T.variable n (ap out-Expr p ∙ h) b
    becomes_typed (B.empty u h q w p s) = T.empty u (ap out-Expr p ∙ h) q w
    becomes_typed (B.empty_filled u h q w p e) = T.empty u (ap out-Expr p ∙ v.outs-Nil (Some u)) q w
    becomes_typed (B.raising n h k w p s) = T.raising n (ap out-Expr p ∙ h) (known_there same n k) w
    becomes_typed (B.raising_filled {t = t} n h k w p e) = T.raising n (ap out-Expr p ∙ v.outs-Raise n (Some t)) (known_there same n k) w
    becomes_typed (B.tuple ds es ts h b q w p s) = T.tuple es ts (ap out-Expr p ∙ v.outs-Tuple es) (parts_typed b) q w
    becomes_typed (B.part i a a1 ts h b q p s) = T.part i a1 ts (ap out-Expr p ∙ v.outs-Part i a1) (becomes_typed b) q
    becomes_typed (B.of_items f a a1 p u h q b o r s) = T.of_items f a1 p u (ap out-Expr r ∙ v.outs-Call f (a1 ∷ [])) q (becomes_typed b) o
    becomes_typed (B.primitive f ds es p ts h q w b o r s) = T.primitive f es p ts (ap out-Expr r ∙ v.outs-Call f es) q w (parts_typed b) o
    becomes_typed (B.serving f ds es d h q w b o r s) = T.serving f es d (ap out-Expr r ∙ v.outs-Call f es) q (service_there same f w) (parts_typed b) o
    becomes_typed (B.call {c = c} f ds es g h q w k b o r s) =
        let at = earlier_there same seen f g k in
        T.call f es at.0 at.1 (ap out-Expr r ∙ v.outs-Call f es) q (service_there same f w) at.2 at.3 (subst (λ ps. HaveTys whole seen c es (param_types ps)) (sym at.4) (parts_typed b)) (o ∙ sym at.5)
    becomes_typed (B.choice p a b p1 a1 b1 h i j k e) = T.choice p1 a1 b1 (ap out-Expr e ∙ v.outs-If p1 a1 b1) (becomes_typed i) (becomes_typed j) (becomes_typed k)
    becomes_typed (B.binder n u a b a1 b1 h i j e) = T.binder n u a1 b1 (ap out-Expr e ∙ v.outs-Let n u a1 b1) (becomes_typed i) (becomes_typed j)
    becomes_typed (B.sequence a b a1 b1 h i j e) = T.sequence a1 b1 (ap out-Expr e ∙ v.outs-Then a1 b1) (becomes_typed i) (becomes_typed j)
    becomes_typed (B.both a b a1 b1 h k m o p s) = T.both a1 b1 (ap out-Expr p ∙ v.outs-And a1 b1) (becomes_typed k) (becomes_typed m) o
    becomes_typed (B.either a b a1 b1 h k m o p s) = T.either a1 b1 (ap out-Expr p ∙ v.outs-Or a1 b1) (becomes_typed k) (becomes_typed m) o
    becomes_typed (B.negation a a1 h k o p s) = T.negation a1 (ap out-Expr p ∙ v.outs-Not a1) (becomes_typed k) o
    becomes_typed (B.calculation q a b a1 b1 h i k m o p s) = T.calculation q a1 b1 (ap out-Expr p ∙ v.outs-Binary q a1 b1) i (becomes_typed k) (becomes_typed m) o
    becomes_typed (B.join q a b a1 b1 h i k j m p s) = T.join q a1 b1 (ap out-Expr p ∙ v.outs-Binary q a1 b1) i (becomes_typed k) j (becomes_typed m)
    becomes_typed (B.comparison q a b a1 b1 u h i k m o p s) = T.comparison q a1 b1 u (ap out-Expr p ∙ v.outs-Binary q a1 b1) i (becomes_typed k) (becomes_typed m) o
    becomes_typed (B.order q a b a1 b1 u h i k j m o p s) = T.order q a1 b1 u (ap out-Expr p ∙ v.outs-Binary q a1 b1) i (becomes_typed k) j (becomes_typed m) o
    becomes_typed (B.prefix q a b a1 b1 u h i k m o w p s) = T.prefix q a1 b1 u (ap out-Expr p ∙ v.outs-Binary q a1 b1) i (becomes_typed k) (becomes_typed m) o w
    becomes_typed (B.handling a a1 ks ks1 h i j e) = T.handling a1 ks1 (ap out-Expr e ∙ v.outs-Try a1 ks1) (becomes_typed i) (clauses_typed j)
    becomes_typed (B.fold_left f a l a1 l1 g u h i j k m o p s) =
        let at = earlier_there same seen f g i in
        T.fold_left f a1 l1 at.0 at.1 u (ap out-Expr p ∙ v.outs-Foldl f a1 l1) at.2 at.3 (ap param_types at.4 ∙ j) (at.5 ∙ k) (becomes_typed m) (becomes_typed o)
    becomes_typed (B.fold_right f a l a1 l1 g u h i j k m o p s) =
        let at = earlier_there same seen f g i in
        T.fold_right f a1 l1 at.0 at.1 u (ap out-Expr p ∙ v.outs-Foldr f a1 l1) at.2 at.3 (ap param_types at.4 ∙ j) (at.5 ∙ k) (becomes_typed m) (becomes_typed o)
    becomes_typed (B.packing {c = c} f ds es g h i b o p s) =
        let at = any_there same f g i in
        T.packing f es at.0 at.1 (ap out-Expr p ∙ v.outs-ChunkOf f es) at.2 at.3 (subst (λ ps. HaveTys whole seen c es (param_types ps)) (sym at.4) (parts_typed b)) o
    becomes_typed (B.evaluation a a1 h k o p s) = T.evaluation a1 (ap out-Expr p ∙ v.outs-Eval a1) (becomes_typed k) o
    becomes_typed (B.remote a h n a1 h1 n1 r i j k m o p s) = T.remote a1 h1 n1 r (ap out-Expr p ∙ v.outs-OnRemote a1 h1 n1 r) (becomes_typed j) (becomes_typed k) (becomes_typed m) o
    becomes_typed (B.neighbour a h n d a1 h1 n1 d1 i j k m q o p s) = T.neighbour a1 h1 n1 d1 (ap out-Expr p ∙ v.outs-OnNeighbor a1 h1 n1 d1) (becomes_typed j) (becomes_typed k) (becomes_typed m) (becomes_typed q) o

    pub parts_typed : {c : Ctx} {wants : Option (List Ty)} {i : ℕ} {ds es : List Expr} {ts : List Ty} → PartsBecome code seen c wants i ds es ts → HaveTys whole seen c es ts
    parts_typed P.no_parts = M.no_parts
    parts_typed (P.and_part b bs) = M.and_part (becomes_typed b) (parts_typed bs)

    pub clauses_typed : {c : Ctx} {t : Ty} {ks hs : List Clause} → ClausesBecome code seen c t ks hs → ClausesHaveTy whole seen c hs t
    clauses_typed C.no_clauses = K.no_clauses
    clauses_typed (C.and_clause {k = k} m b n bs) = K.and_clause (ap (may_catch whole) n ∙ catch_there same k.name m) (becomes_typed b) (clauses_typed bs)
