-- The test whether two types are the same is right.
use Rattle.std.proofs.Common.{◌≡◌, ℕ, zero, suc, ◌≤◌, ◌∙◌, sym, ap, refl, Bool, true, false, max, List, [], ◌∷◌, map, arith}
use Rattle.std.specs.List.{fold}
use Rattle.std.specs.Prelude.{IsTrue, ◌↔◌}
use Rattle.containers.proofs.Bools.{and_left, and_right, and_both}
use Rattle.plan_base.specs.declared.tree.Ty.{Ty, Ty-F, out-Ty, roll-Ty, roll-out-Ty, map-Ty, fold_out-Ty}
use Rattle.plan_base.specs.Trees.{TyLayer}
use Rattle.plan_base.specs.Sizes.{type_depth, type_depth_level}
use Rattle.plan_base.proofs.SizeLaws.{type_depth_out}
use Rattle.plan_base.specs.SameTypes.{same_all, same_layer, same_type}

pub same_type_out : (t u : Ty) → same_type t u ≡ same_layer (map-Ty Ty (Ty → Bool) same_type (out-Ty t)) (out-Ty u)
unfolding same_type
same_type_out t u = ap (λ f. f u) (fold_out-Ty (Ty → Bool) (λ l u. same_layer l (out-Ty u)) t)

pub out_same : (t u : Ty) → out-Ty t ≡ out-Ty u → t ≡ u
out_same t u h = sym (roll-out-Ty t) ∙ (ap roll-Ty h ∙ roll-out-Ty u)

no_depth : (l : TyLayer) → type_depth_level type_depth l ≤ zero → ⊥
no_depth (Ty-F.List t) d = omega arith
no_depth (Ty-F.Tuple ts) d = omega arith
no_depth _ d = omega arith

fold_above : (f : Ty → ℕ) (a : ℕ) (ts : List Ty) → a ≤ fold (λ m t. max m (f t)) a ts
fold_above f a [] = omega arith
fold_above f a (t ∷ ts) = let h = fold_above f (max a (f t)) ts in omega arith

all_true : (n a : ℕ) (ts us : List Ty) → fold (λ m t. max m (type_depth t)) a ts ≤ n → ((t u : Ty) → type_depth t ≤ n → same_type t u ≡ true → t ≡ u) → same_all (map same_type ts) us ≡ true → ts ≡ us
all_true n a [] [] d ih h = refl
all_true n a [] (u ∷ us) d ih h = cc
all_true n a (t ∷ ts) [] d ih h = cc
all_true n a (t ∷ ts) (u ∷ us) d ih h =
    let low = fold_above type_depth (max a (type_depth t)) ts in
    let e = ih t u (omega arith) (and_left (same_type t u) (same_all (map same_type ts) us) h) in
    let es = all_true n (max a (type_depth t)) ts us d ih (and_right (same_type t u) (same_all (map same_type ts) us) h) in
    cc

layer_true : (n : ℕ) (l m : TyLayer) → type_depth_level type_depth l ≤ suc n → ((t u : Ty) → type_depth t ≤ n → same_type t u ≡ true → t ≡ u) → same_layer (map-Ty Ty (Ty → Bool) same_type l) m ≡ true → l ≡ m
layer_true n Ty-F.Unit Ty-F.Unit d ih h = refl
layer_true n Ty-F.Bool Ty-F.Bool d ih h = refl
layer_true n Ty-F.Int Ty-F.Int d ih h = refl
layer_true n Ty-F.Char Ty-F.Char d ih h = refl
layer_true n Ty-F.Str Ty-F.Str d ih h = refl
layer_true n Ty-F.Blob Ty-F.Blob d ih h = refl
layer_true n Ty-F.Host Ty-F.Host d ih h = refl
layer_true n Ty-F.Dev Ty-F.Dev d ih h = refl
layer_true n Ty-F.Chunk Ty-F.Chunk d ih h = refl
layer_true n (Ty-F.List t) (Ty-F.List u) d ih h = ap Ty-F.List (ih t u (omega arith) h)
layer_true n (Ty-F.Tuple ts) (Ty-F.Tuple us) d ih h = ap Ty-F.Tuple (all_true n 0 ts us (omega arith) ih h)
layer_true n _ _ d ih h = cc

same_true : (n : ℕ) (t u : Ty) → type_depth t ≤ n → same_type t u ≡ true → t ≡ u
same_true zero t u d h = absurd (no_depth (out-Ty t) (rw type_depth_out at d))
same_true (suc n) t u d h = out_same t u (layer_true n (out-Ty t) (out-Ty u) (rw type_depth_out at d) (λ a b. same_true n a b) (rw same_type_out at h))

pub same_type_true : (t u : Ty) → same_type t u ≡ true → t ≡ u
same_type_true t u h = same_true (type_depth t) t u (omega arith) h

all_same : (n a : ℕ) (ts : List Ty) → fold (λ m t. max m (type_depth t)) a ts ≤ n → ((t : Ty) → type_depth t ≤ n → same_type t t ≡ true) → same_all (map same_type ts) ts ≡ true
all_same n a [] d ih = refl
all_same n a (t ∷ ts) d ih =
    let low = fold_above type_depth (max a (type_depth t)) ts in
    and_both (same_type t t) (same_all (map same_type ts) ts) (ih t (omega arith)) (all_same n (max a (type_depth t)) ts d ih)

layer_same : (n : ℕ) (l : TyLayer) → type_depth_level type_depth l ≤ suc n → ((t : Ty) → type_depth t ≤ n → same_type t t ≡ true) → same_layer (map-Ty Ty (Ty → Bool) same_type l) l ≡ true
layer_same n (Ty-F.List t) d ih = ih t (omega arith)
layer_same n (Ty-F.Tuple ts) d ih = all_same n 0 ts (omega arith) ih
layer_same n _ d ih = refl

same_itself : (n : ℕ) (t : Ty) → type_depth t ≤ n → same_type t t ≡ true
same_itself zero t d = absurd (no_depth (out-Ty t) (rw type_depth_out at d))
same_itself (suc n) t d = rw same_type_out (layer_same n (out-Ty t) (rw type_depth_out at d) (λ a. same_itself n a))

pub same_type_itself : (t : Ty) → same_type t t ≡ true
same_type_itself t = same_itself (type_depth t) t (omega arith)

pub same_type_of : (t u : Ty) → t ≡ u → same_type t u ≡ true
same_type_of t u e = rw (← e) (same_type_itself t)

-- an answer that is true exactly where the types are equal is the test's
pub same_decided : (r : Bool) (t u : Ty) → IsTrue r ↔ (t ≡ u) → r ≡ same_type t u
same_decided true t u h = sym (same_type_of t u (h.0 refl))
same_decided false t u h = go (same_type t u) refl
  where
    go : (b : Bool) → same_type t u ≡ b → false ≡ b
    go true e = let w : false ≡ true = h.1 (same_type_true t u e) in absurd (cc)
    go false e = refl
