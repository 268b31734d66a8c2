-- Where no type is missing in a draft, nothing is filled in: it becomes itself or nothing.
use Rattle.std.proofs.Common.{◌≡◌, ℕ, ◌∙◌, sym, ap, refl, true, ◌&&◌, List, [], ◌∷◌, Option, None}
use Rattle.std.specs.List.{list_all}
use Rattle.containers.proofs.Bools.{and_left, and_right}
use Rattle.plan_base.specs.declared.tree.Ty.{Ty}
use Rattle.plan_base.specs.declared.tree.Expr.{Expr, Expr-F, out-Expr}
use Rattle.plan_base.specs.declared.tree.Expr as x
use Rattle.plan_base.specs.declared.tree.Expr.TheVariants as v
use Rattle.plan_base.specs.declared.tree.Clause.{Clause}
use Rattle.plan_base.specs.declared.tree.Program.{Program}
use Rattle.plan_base.specs.Trees.{ExprLayer}
use Rattle.plan_base.specs.WellFormed.{typed_expr_level, has_types}
use Rattle.plan_base.proofs.FormLaws.{has_types_out}
use Rattle.plan_types_spec.specs.Typing.{Ctx}
use Rattle.plan_types_spec.specs.TypingFills.{Becomes, PartsBecome, ClausesBecome}
use Rattle.plan_types_spec.specs.TypingFills.{Becomes as B, PartsBecome as P, ClausesBecome as C}
use Rattle.plan_types_spec.proofs.Itself.{level_is}

level_full : (d : Expr) (l : ExprLayer) → out-Expr d ≡ l → has_types d ≡ true → typed_expr_level has_types (λ c. has_types c.body) l ≡ true
level_full d l o h = ap (typed_expr_level has_types (λ c. has_types c.body)) (sym o) ∙ (sym (has_types_out d) ∙ h)

same_clause : (j k : Clause) → j.name ≡ k.name → j.body ≡ k.body → j ≡ k
same_clause j k n b = λ i. record { name = n i; body = b i }

module _ (code : Program) (seen : ℕ) where
  mutual
    pub becomes_full : {c : Ctx} {want : Option Ty} {d e : Expr} {t : Ty} → Becomes code seen c want d e t → has_types d ≡ true → e ≡ d
    becomes_full (B.literal h p s) f = p
    becomes_full (B.variable n o b p s) f = p
    becomes_full (B.empty u o q w p s) f = p
    becomes_full {d = d} (B.empty_filled u o q w p e) f = let z = level_full d (Expr-F.Nil None) o f in absurd (cc)
    becomes_full (B.raising n o k w p s) f = p
    becomes_full {d = d} (B.raising_filled n o k w p e) f = let z = level_full d (Expr-F.Raise n None) o f in absurd (cc)
    becomes_full {d = d} (B.tuple ds es ts o b q w p s) f = let z = level_full d (Expr-F.Tuple ds) o f in let q0 : es ≡ ds = parts_full b z in let m : d ≡ x.Tuple ds = level_is d (Expr-F.Tuple ds) o ∙ v.rolls-Tuple ds in cc
    becomes_full {d = d} (B.part i a a1 ts o b q p s) f = let z = level_full d (Expr-F.Part i a) o f in let q0 : a1 ≡ a = becomes_full b z in let m : d ≡ x.Part i a = level_is d (Expr-F.Part i a) o ∙ v.rolls-Part i a in cc
    becomes_full {d = d} (B.of_items n a a1 p u o q b g r s) f =
        let z = level_full d (Expr-F.Call n (a ∷ [])) o f in
        let q0 : a1 ≡ a = becomes_full b (and_left (has_types a) true z) in
        let m : d ≡ x.Call n (a ∷ []) = level_is d (Expr-F.Call n (a ∷ [])) o ∙ v.rolls-Call n (a ∷ []) in
        cc
    becomes_full {d = d} (B.primitive n ds es p ts o q w b g r s) f = let z = level_full d (Expr-F.Call n ds) o f in let q0 : es ≡ ds = parts_full b z in let m : d ≡ x.Call n ds = level_is d (Expr-F.Call n ds) o ∙ v.rolls-Call n ds in cc
    becomes_full {d = d} (B.serving n ds es y o q w b g r s) f = let z = level_full d (Expr-F.Call n ds) o f in let q0 : es ≡ ds = parts_full b z in let m : d ≡ x.Call n ds = level_is d (Expr-F.Call n ds) o ∙ v.rolls-Call n ds in cc
    becomes_full {d = d} (B.call n ds es y o q w k b g r s) f = let z = level_full d (Expr-F.Call n ds) o f in let q0 : es ≡ ds = parts_full b z in let m : d ≡ x.Call n ds = level_is d (Expr-F.Call n ds) o ∙ v.rolls-Call n ds in cc
    becomes_full {d = d} (B.choice p a b p1 a1 b1 o i j k r) f =
        let z = level_full d (Expr-F.If p a b) o f in
        let q0 : p1 ≡ p = becomes_full i (and_left (has_types p) (has_types a && (has_types b)) z) in
        let q1 : a1 ≡ a = becomes_full j (and_left (has_types a) (has_types b) (and_right (has_types p) (has_types a && (has_types b)) z)) in
        let q2 : b1 ≡ b = becomes_full k (and_right (has_types a) (has_types b) (and_right (has_types p) (has_types a && (has_types b)) z)) in
        let m : d ≡ x.If p a b = level_is d (Expr-F.If p a b) o ∙ v.rolls-If p a b in
        cc
    becomes_full {d = d} (B.binder n u a b a1 b1 o i j r) f =
        let z = level_full d (Expr-F.Let n u a b) o f in
        let q0 : a1 ≡ a = becomes_full i (and_left (has_types a) (has_types b) z) in
        let q1 : b1 ≡ b = becomes_full j (and_right (has_types a) (has_types b) z) in
        let m : d ≡ x.Let n u a b = level_is d (Expr-F.Let n u a b) o ∙ v.rolls-Let n u a b in
        cc
    becomes_full {d = d} (B.sequence a b a1 b1 o i j r) f =
        let z = level_full d (Expr-F.Then a b) o f in
        let q0 : a1 ≡ a = becomes_full i (and_left (has_types a) (has_types b) z) in
        let q1 : b1 ≡ b = becomes_full j (and_right (has_types a) (has_types b) z) in
        let m : d ≡ x.Then a b = level_is d (Expr-F.Then a b) o ∙ v.rolls-Then a b in
        cc
    becomes_full {d = d} (B.both a b a1 b1 o i j q p s) f =
        let z = level_full d (Expr-F.And a b) o f in
        let q0 : a1 ≡ a = becomes_full i (and_left (has_types a) (has_types b) z) in
        let q1 : b1 ≡ b = becomes_full j (and_right (has_types a) (has_types b) z) in
        let m : d ≡ x.And a b = level_is d (Expr-F.And a b) o ∙ v.rolls-And a b in
        cc
    becomes_full {d = d} (B.either a b a1 b1 o i j q p s) f =
        let z = level_full d (Expr-F.Or a b) o f in
        let q0 : a1 ≡ a = becomes_full i (and_left (has_types a) (has_types b) z) in
        let q1 : b1 ≡ b = becomes_full j (and_right (has_types a) (has_types b) z) in
        let m : d ≡ x.Or a b = level_is d (Expr-F.Or a b) o ∙ v.rolls-Or a b in
        cc
    becomes_full {d = d} (B.negation a a1 o i q p s) f = let z = level_full d (Expr-F.Not a) o f in let q0 : a1 ≡ a = becomes_full i z in let m : d ≡ x.Not a = level_is d (Expr-F.Not a) o ∙ v.rolls-Not a in cc
    becomes_full {d = d} (B.calculation y a b a1 b1 o g i j q p s) f =
        let z = level_full d (Expr-F.Binary y a b) o f in
        let q0 : a1 ≡ a = becomes_full i (and_left (has_types a) (has_types b) z) in
        let q1 : b1 ≡ b = becomes_full j (and_right (has_types a) (has_types b) z) in
        let m : d ≡ x.Binary y a b = level_is d (Expr-F.Binary y a b) o ∙ v.rolls-Binary y a b in
        cc
    becomes_full {d = d} (B.join y a b a1 b1 o g i w j p s) f =
        let z = level_full d (Expr-F.Binary y a b) o f in
        let q0 : a1 ≡ a = becomes_full i (and_left (has_types a) (has_types b) z) in
        let q1 : b1 ≡ b = becomes_full j (and_right (has_types a) (has_types b) z) in
        let m : d ≡ x.Binary y a b = level_is d (Expr-F.Binary y a b) o ∙ v.rolls-Binary y a b in
        cc
    becomes_full {d = d} (B.comparison y a b a1 b1 u o g i j q p s) f =
        let z = level_full d (Expr-F.Binary y a b) o f in
        let q0 : a1 ≡ a = becomes_full i (and_left (has_types a) (has_types b) z) in
        let q1 : b1 ≡ b = becomes_full j (and_right (has_types a) (has_types b) z) in
        let m : d ≡ x.Binary y a b = level_is d (Expr-F.Binary y a b) o ∙ v.rolls-Binary y a b in
        cc
    becomes_full {d = d} (B.order y a b a1 b1 u o g i w j q p s) f =
        let z = level_full d (Expr-F.Binary y a b) o f in
        let q0 : a1 ≡ a = becomes_full i (and_left (has_types a) (has_types b) z) in
        let q1 : b1 ≡ b = becomes_full j (and_right (has_types a) (has_types b) z) in
        let m : d ≡ x.Binary y a b = level_is d (Expr-F.Binary y a b) o ∙ v.rolls-Binary y a b in
        cc
    becomes_full {d = d} (B.prefix y a b a1 b1 u o g i j q w p s) f =
        let z = level_full d (Expr-F.Binary y a b) o f in
        let q0 : a1 ≡ a = becomes_full i (and_left (has_types a) (has_types b) z) in
        let q1 : b1 ≡ b = becomes_full j (and_right (has_types a) (has_types b) z) in
        let m : d ≡ x.Binary y a b = level_is d (Expr-F.Binary y a b) o ∙ v.rolls-Binary y a b in
        cc
    becomes_full {d = d} (B.handling a a1 ks hs o i j r) f =
        let z = level_full d (Expr-F.Try a ks) o f in
        let q0 : a1 ≡ a = becomes_full i (and_left (has_types a) (list_all (λ c. has_types c.body) ks) z) in
        let q1 : hs ≡ ks = clauses_full j (and_right (has_types a) (list_all (λ c. has_types c.body) ks) z) in
        let m : d ≡ x.Try a ks = level_is d (Expr-F.Try a ks) o ∙ v.rolls-Try a ks in
        cc
    becomes_full {d = d} (B.fold_left n a l a1 l1 g u o e k r i j p s) f =
        let z = level_full d (Expr-F.Foldl n a l) o f in
        let q0 : a1 ≡ a = becomes_full i (and_left (has_types a) (has_types l) z) in
        let q1 : l1 ≡ l = becomes_full j (and_right (has_types a) (has_types l) z) in
        let m : d ≡ x.Foldl n a l = level_is d (Expr-F.Foldl n a l) o ∙ v.rolls-Foldl n a l in
        cc
    becomes_full {d = d} (B.fold_right n a l a1 l1 g u o e k r i j p s) f =
        let z = level_full d (Expr-F.Foldr n a l) o f in
        let q0 : a1 ≡ a = becomes_full i (and_left (has_types a) (has_types l) z) in
        let q1 : l1 ≡ l = becomes_full j (and_right (has_types a) (has_types l) z) in
        let m : d ≡ x.Foldr n a l = level_is d (Expr-F.Foldr n a l) o ∙ v.rolls-Foldr n a l in
        cc
    becomes_full {d = d} (B.packing n ds es g o e b q p s) f =
        let z = level_full d (Expr-F.ChunkOf n ds) o f in
        let q0 : es ≡ ds = parts_full b z in
        let m : d ≡ x.ChunkOf n ds = level_is d (Expr-F.ChunkOf n ds) o ∙ v.rolls-ChunkOf n ds in
        cc
    becomes_full {d = d} (B.evaluation a a1 o i q p s) f = let z = level_full d (Expr-F.Eval a) o f in let q0 : a1 ≡ a = becomes_full i z in let m : d ≡ x.Eval a = level_is d (Expr-F.Eval a) o ∙ v.rolls-Eval a in cc
    becomes_full {d = d} (B.remote a h n a1 h1 n1 r o i j k q p s) f =
        let z = level_full d (Expr-F.OnRemote a h n r) o f in
        let q0 : a1 ≡ a = becomes_full i (and_left (has_types a) (has_types h && (has_types n)) z) in
        let q1 : h1 ≡ h = becomes_full j (and_left (has_types h) (has_types n) (and_right (has_types a) (has_types h && (has_types n)) z)) in
        let q2 : n1 ≡ n = becomes_full k (and_right (has_types h) (has_types n) (and_right (has_types a) (has_types h && (has_types n)) z)) in
        let m : d ≡ x.OnRemote a h n r = level_is d (Expr-F.OnRemote a h n r) o ∙ v.rolls-OnRemote a h n r in
        cc
    becomes_full {d = d} (B.neighbour a h n y a1 h1 n1 y1 o i j k l q p s) f =
        let z = level_full d (Expr-F.OnNeighbor a h n y) o f in
        let z0 = and_left (has_types a && has_types h) (has_types n && has_types y) z in
        let z1 = and_right (has_types a && has_types h) (has_types n && has_types y) z in
        let q0 : a1 ≡ a = becomes_full i (and_left (has_types a) (has_types h) z0) in
        let q1 : h1 ≡ h = becomes_full j (and_right (has_types a) (has_types h) z0) in
        let q2 : n1 ≡ n = becomes_full k (and_left (has_types n) (has_types y) z1) in
        let q3 : y1 ≡ y = becomes_full l (and_right (has_types n) (has_types y) z1) in
        let m : d ≡ x.OnNeighbor a h n y = level_is d (Expr-F.OnNeighbor a h n y) o ∙ v.rolls-OnNeighbor a h n y in
        cc

    pub parts_full : {c : Ctx} {wants : Option (List Ty)} {i : ℕ} {ds es : List Expr} {ts : List Ty} → PartsBecome code seen c wants i ds es ts → list_all has_types ds ≡ true → es ≡ ds
    parts_full P.no_parts f = refl
    parts_full (P.and_part {d = d} {ds = ds} b bs) f = let p = becomes_full b (and_left (has_types d) (list_all has_types ds) f) in let q = parts_full bs (and_right (has_types d) (list_all has_types ds) f) in cc

    pub clauses_full : {c : Ctx} {t : Ty} {ks hs : List Clause} → ClausesBecome code seen c t ks hs → list_all (λ c. has_types c.body) ks ≡ true → hs ≡ ks
    clauses_full C.no_clauses f = refl
    clauses_full (C.and_clause {k = k} {k' = j} {ks = ks} m b n bs) f =
        let p = becomes_full b (and_left (has_types k.body) (list_all (λ c. has_types c.body) ks) f) in
        let q = clauses_full bs (and_right (has_types k.body) (list_all (λ c. has_types c.body) ks) f) in
        let r : j ≡ k = same_clause j k n p in
        cc
