-- A type or an expression from its outermost level, and what the questions about a type's level say of the type.
use Rattle.std.proofs.Common.{◌≡◌, ℕ, ◌∙◌, sym, ap, refl, List, [], ◌∷◌, Option, Some, None}
use Rattle.std.specs.Prelude.{option_and_then}
use Rattle.plan_base.specs.declared.prim.Primitive.{Primitive}
use Rattle.plan_base.specs.declared.tree.Ty.{Ty, Ty-F, out-Ty, roll-Ty, roll-out-Ty}
use Rattle.plan_base.specs.declared.tree.Ty as ty
use Rattle.plan_base.specs.declared.tree.Ty.TheVariants as made
use Rattle.plan_base.specs.Trees.{TyLayer}
use Rattle.plan_types_spec.specs.TypingNames.{of_list, part_of}
use Rattle.plan_types_spec.specs.TypingOrder.{items_of_layer, items_of, part_in_layer, part_in, given_of}

pub is_list : (t u : Ty) → out-Ty t ≡ Ty-F.List u → t ≡ ty.List u
is_list t u h = sym (roll-out-Ty t) ∙ (ap roll-Ty h ∙ made.rolls-List u)

pub is_tuple : (t : Ty) (ts : List Ty) → out-Ty t ≡ Ty-F.Tuple ts → t ≡ ty.Tuple ts
is_tuple t ts h = sym (roll-out-Ty t) ∙ (ap roll-Ty h ∙ made.rolls-Tuple ts)

items_layer : (l : TyLayer) (u : Ty) → items_of_layer l ≡ Some u → l ≡ Ty-F.List u
items_layer (Ty-F.List t) u h = cc
items_layer _ u h = cc

pub items_list : (t u : Ty) → items_of t ≡ Some u → t ≡ ty.List u
items_list t u h = is_list t u (items_layer (out-Ty t) u h)

part_layer : (i : ℕ) (l : TyLayer) (t : Ty) → part_in_layer i l ≡ Some t → (ts : List Ty) × (l ≡ Ty-F.Tuple ts) × (part_of i ts ≡ Some t)
part_layer i (Ty-F.Tuple ts) t h = (ts, refl, h)
part_layer i Ty-F.Unit t h = absurd (cc)
part_layer i Ty-F.Bool t h = absurd (cc)
part_layer i Ty-F.Int t h = absurd (cc)
part_layer i Ty-F.Char t h = absurd (cc)
part_layer i Ty-F.Str t h = absurd (cc)
part_layer i Ty-F.Blob t h = absurd (cc)
part_layer i Ty-F.Host t h = absurd (cc)
part_layer i Ty-F.Dev t h = absurd (cc)
part_layer i Ty-F.Chunk t h = absurd (cc)
part_layer i (Ty-F.List u) t h = absurd (cc)

pub part_tuple : (i : ℕ) (u t : Ty) → part_in i u ≡ Some t → (ts : List Ty) × (u ≡ ty.Tuple ts) × (part_of i ts ≡ Some t)
part_tuple i u t h =
    let w = part_layer i (out-Ty u) t h in
    (w.0, is_tuple u w.0 w.1, w.2)

pub and_then_some : {A B : Type 0} (f : A → Option B) (o : Option A) (b : B) → option_and_then f o ≡ Some b → (a : A) × (o ≡ Some a) × (f a ≡ Some b)
and_then_some f (Some a) b h = (a, refl, h)
and_then_some f None b h = absurd (cc)

pub given_list : (p : Primitive) (u t : Ty) → given_of p (u ∷ []) ≡ Some t → (i : Ty) × (u ≡ ty.List i) × (of_list p i ≡ Some t)
given_list p u t h =
    let w = and_then_some (of_list p) (items_of u) t h in
    (w.0, items_list u w.0 w.1, w.2)
