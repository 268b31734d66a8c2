-- What operators, parts and primitives give of typed values.
use Rattle.std.proofs.Common.{◌≡◌, ℕ, zero, suc, ◌+◌, ◌-◌, Bool, true, false, not, if◌then◌else◌, ◌==◌, nat_le, ℤ, pos, negsuc, List, [], ◌∷◌, ◌++◌, length, take, drop, Option, Some, None, slice_get, refl, sym, ap, ◌∙◌, subst}
use Rattle.plan_base.specs.declared.prim.Primitive.{Primitive}
use Rattle.plan_base.specs.declared.prim.Primitive.TheVariants as prim
use Rattle.plan_base.specs.declared.tree.Op.{Op}
use Rattle.plan_base.specs.declared.tree.Op.TheVariants as op
use Rattle.plan_base.specs.declared.tree.Ty.{Ty, Ty-F, out-Ty, roll-Ty, roll-out-Ty}
use Rattle.plan_base.specs.declared.tree.Ty.TheVariants as ty
use Rattle.plan_base.specs.declared.tree.Value.{Value, Value-F, out-Value}
use Rattle.plan_base.specs.declared.tree.Value.TheVariants as value
use Rattle.plan_base.specs.Trees.{ValueLayer}
use Rattle.plan_types_spec.specs.Typing.{HasType, bool, int, str, blob, list, HaveTypes, no_values, and_value, AllHaveType, and_item}
use Rattle.plan_types_spec.specs.TypingNames.{OpKind, of_list, takes, makes, kind_of, arithmetic, joining, equality, ordering, listing, is_joined, is_joined_at, is_ordered, is_ordered_at, part_of}
use Rattle.plan_types_spec.specs.Rules as rules
use Rattle.plan_types_spec.specs.Rules.{Given, gives, raises, unfit, bounded_number, divided_number, remainder, computed_number, numbers, before, answered_truth, limited_value, joined_values}
use Rattle.plan_types_spec.specs.Rules.{put_first, binary, found_value, part, first_item, later_items, blob_part, of_one, of_three, primitive, too_large}
use Rattle.plan_types_spec.specs.Same.{same_value}
use Rattle.plan_types_spec.specs.Typed.{OperatorTakes, KindTakes, PrimitiveTakes, fixed, any_list, Fits}
use Rattle.plan_types_spec.proofs.Shapes.{Shape, shape_of, shape_at}

choose : (t : Ty) (b : Bool) (g h : Given) → Fits t g → Fits t h → Fits t (if b then g else h)
choose t true g h x y = x
choose t false g h x y = y

a_bool : (b : Bool) → HasType (value.Bool b) ty.Bool
a_bool b = bool b (value.outs-Bool b) refl

an_int : (n : ℤ) → HasType (value.Int n) ty.Int
an_int n = int n (value.outs-Int n) refl

bounded_fits : (z : ℤ) → Fits ty.Int (bounded_number z)
unfolding bounded_number
bounded_fits z = choose ty.Int _ (gives (value.Int z)) (raises rules.overflow) (an_int z) tt

divided_fits : (a b : ℤ) → Fits ty.Int (divided_number a b)
unfolding divided_number
divided_fits a b = choose ty.Int _ (raises rules.division_by_zero) _ tt (bounded_fits _)

remainder_fits : (a b : ℤ) → Fits ty.Int (remainder a b)
unfolding remainder
remainder_fits a b = choose ty.Int _ (raises rules.division_by_zero) _ tt (bounded_fits _)

limited_fits : (t : Ty) (v : Value) → HasType v t → Fits t (limited_value v)
unfolding limited_value
limited_fits t v h = choose t _ (raises too_large) (gives v) tt h

-- at values whose levels are known
numbers_fit : (f : ℤ → ℤ → Given) → ((a b : ℤ) → Fits ty.Int (f a b)) → (k l : ValueLayer) → Shape Ty-F.Int k → Shape Ty-F.Int l → Fits ty.Int (numbers f k l)
numbers_fit f h k l (a, d) (b, e) = subst (λ x. Fits ty.Int (numbers f x l)) (sym d) (subst (λ x. Fits ty.Int (numbers f (Value-F.Int a) x)) (sym e) (h a b))

int_shape : {v : Value} → HasType v ty.Int → Shape Ty-F.Int (out-Value v)
int_shape h = shape_at ty.Int Ty-F.Int ty.outs-Int h

pub calculation_fits : (o : Op) (a b : Value) → kind_of o ≡ arithmetic → HasType a ty.Int → HasType b ty.Int → Fits ty.Int (binary o a b)
unfolding binary
calculation_fits op.Add a b e h k = numbers_fit (computed_number op.Add) (λ x y. bounded_fits _) _ _ (int_shape h) (int_shape k)
calculation_fits op.Sub a b e h k = numbers_fit (computed_number op.Sub) (λ x y. bounded_fits _) _ _ (int_shape h) (int_shape k)
calculation_fits op.Mul a b e h k = numbers_fit (computed_number op.Mul) (λ x y. bounded_fits _) _ _ (int_shape h) (int_shape k)
calculation_fits op.Div a b e h k = numbers_fit (computed_number op.Div) divided_fits _ _ (int_shape h) (int_shape k)
calculation_fits op.Mod a b e h k = numbers_fit (computed_number op.Mod) remainder_fits _ _ (int_shape h) (int_shape k)
calculation_fits op.Cat a b e h k = cc
calculation_fits op.Eq a b e h k = cc
calculation_fits op.Ne a b e h k = cc
calculation_fits op.Lt a b e h k = cc
calculation_fits op.Le a b e h k = cc
calculation_fits op.Gt a b e h k = cc
calculation_fits op.Ge a b e h k = cc
calculation_fits op.Cons a b e h k = cc

pub comparison_fits : (o : Op) (a b : Value) → kind_of o ≡ equality → Fits ty.Bool (binary o a b)
unfolding binary
comparison_fits op.Eq a b e = a_bool (same_value a b)
comparison_fits op.Ne a b e = a_bool (not (same_value a b))
comparison_fits op.Add a b e = cc
comparison_fits op.Sub a b e = cc
comparison_fits op.Mul a b e = cc
comparison_fits op.Div a b e = cc
comparison_fits op.Mod a b e = cc
comparison_fits op.Cat a b e = cc
comparison_fits op.Lt a b e = cc
comparison_fits op.Le a b e = cc
comparison_fits op.Gt a b e = cc
comparison_fits op.Ge a b e = cc
comparison_fits op.Cons a b e = cc

-- two values of an ordered type have an order
abbrev IsKnown : Option Bool → Type 0
IsKnown (Some b) = Unit {0}
IsKnown None = ⊥

ordered_at : (l : Ty-F Ty) (j k : ValueLayer) → is_ordered_at l ≡ true → Shape l j → Shape l k → IsKnown (before j k)
ordered_at Ty-F.Int j k e (a, d) (b, f) = subst (λ x. IsKnown (before x k)) (sym d) (subst (λ x. IsKnown (before (Value-F.Int a) x)) (sym f) tt)
ordered_at Ty-F.Char j k e (a, d) (b, f) = subst (λ x. IsKnown (before x k)) (sym d) (subst (λ x. IsKnown (before (Value-F.Char a) x)) (sym f) tt)
ordered_at Ty-F.Str j k e (a, d) (b, f) = subst (λ x. IsKnown (before x k)) (sym d) (subst (λ x. IsKnown (before (Value-F.Str a) x)) (sym f) tt)
ordered_at Ty-F.Unit j k e h i = cc
ordered_at Ty-F.Bool j k e h i = cc
ordered_at Ty-F.Blob j k e h i = cc
ordered_at Ty-F.Host j k e h i = cc
ordered_at Ty-F.Dev j k e h i = cc
ordered_at Ty-F.Chunk j k e h i = cc
ordered_at (Ty-F.List u) j k e h i = cc
ordered_at (Ty-F.Tuple ts) j k e h i = cc

answered_fits : (f : Bool → Bool) (o : Option Bool) → IsKnown o → Fits ty.Bool (answered_truth f o)
answered_fits f (Some b) h = a_bool (f b)
answered_fits f None h = h

pub order_fits : (o : Op) (a b : Value) (u : Ty) → kind_of o ≡ ordering → is_ordered u ≡ true → HasType a u → HasType b u → Fits ty.Bool (binary o a b)
unfolding binary
order_fits op.Lt a b u e i h k = answered_fits (λ r. r) _ (ordered_at (out-Ty u) _ _ i (shape_of h) (shape_of k))
order_fits op.Le a b u e i h k = answered_fits not _ (ordered_at (out-Ty u) _ _ i (shape_of k) (shape_of h))
order_fits op.Gt a b u e i h k = answered_fits (λ r. r) _ (ordered_at (out-Ty u) _ _ i (shape_of k) (shape_of h))
order_fits op.Ge a b u e i h k = answered_fits not _ (ordered_at (out-Ty u) _ _ i (shape_of h) (shape_of k))
order_fits op.Add a b u e i h k = cc
order_fits op.Sub a b u e i h k = cc
order_fits op.Mul a b u e i h k = cc
order_fits op.Div a b u e i h k = cc
order_fits op.Mod a b u e i h k = cc
order_fits op.Cat a b u e i h k = cc
order_fits op.Eq a b u e i h k = cc
order_fits op.Ne a b u e i h k = cc
order_fits op.Cons a b u e i h k = cc

-- a value that is made as the type's level says
out_type : (t u : Ty) → out-Ty t ≡ out-Ty u → t ≡ u
out_type t u e = sym (roll-out-Ty t) ∙ ap roll-Ty e ∙ roll-out-Ty u

joined_at : (t : Ty) (l : Ty-F Ty) (j k : ValueLayer) → out-Ty t ≡ l → is_joined_at l ≡ true → Shape l j → Shape l k → Fits t (joined_values j k)
joined_at t Ty-F.Str j k o e (a, d) (b, f) =
    subst (λ x. Fits t (joined_values x k)) (sym d) (subst (λ x. Fits t (joined_values (Value-F.Str a) x)) (sym f)
    (limited_fits t _ (str (a ++ b) (value.outs-Str (a ++ b)) (out_type t ty.Str (o ∙ sym ty.outs-Str)))))
joined_at t Ty-F.Blob j k o e (a, d) (b, f) =
    subst (λ x. Fits t (joined_values x k)) (sym d) (subst (λ x. Fits t (joined_values (Value-F.Blob a) x)) (sym f)
    (limited_fits t _ (blob (a ++ b) (value.outs-Blob (a ++ b)) (out_type t ty.Blob (o ∙ sym ty.outs-Blob)))))
joined_at t Ty-F.Int j k o e h i = cc
joined_at t Ty-F.Char j k o e h i = cc
joined_at t Ty-F.Unit j k o e h i = cc
joined_at t Ty-F.Bool j k o e h i = cc
joined_at t Ty-F.Host j k o e h i = cc
joined_at t Ty-F.Dev j k o e h i = cc
joined_at t Ty-F.Chunk j k o e h i = cc
joined_at t (Ty-F.List u) j k o e h i = cc
joined_at t (Ty-F.Tuple ts) j k o e h i = cc

pub concatenation_fits : (o : Op) (a b : Value) (t : Ty) → kind_of o ≡ joining → is_joined t ≡ true → HasType a t → HasType b t → Fits t (binary o a b)
unfolding binary
concatenation_fits op.Cat a b t e i h k = joined_at t (out-Ty t) _ _ refl i (shape_of h) (shape_of k)
concatenation_fits op.Add a b t e i h k = cc
concatenation_fits op.Sub a b t e i h k = cc
concatenation_fits op.Mul a b t e i h k = cc
concatenation_fits op.Div a b t e i h k = cc
concatenation_fits op.Mod a b t e i h k = cc
concatenation_fits op.Eq a b t e i h k = cc
concatenation_fits op.Ne a b t e i h k = cc
concatenation_fits op.Lt a b t e i h k = cc
concatenation_fits op.Le a b t e i h k = cc
concatenation_fits op.Gt a b t e i h k = cc
concatenation_fits op.Ge a b t e i h k = cc
concatenation_fits op.Cons a b t e i h k = cc

pub list_shape : {v : Value} (u : Ty) → HasType v (ty.List u) → Shape (Ty-F.List u) (out-Value v)
list_shape u h = shape_at (ty.List u) (Ty-F.List u) (ty.outs-List u) h

a_list : (u : Ty) (vs : List Value) → AllHaveType u vs → HasType (value.List u vs) (ty.List u)
a_list u vs h = list u vs (value.outs-List u vs) refl h

put_fits : (u : Ty) (a : Value) (l : ValueLayer) → HasType a u → Shape (Ty-F.List u) l → Fits (ty.List u) (put_first a l)
put_fits u a l h (vs, e, k) = subst (λ x. Fits (ty.List u) (put_first a x)) (sym e) (limited_fits _ _ (a_list u (a ∷ vs) (and_item h k)))

pub put : (o : Op) (a b : Value) (u : Ty) → kind_of o ≡ listing → HasType a u → HasType b (ty.List u) → Fits (ty.List u) (binary o a b)
unfolding binary
put op.Cons a b u e h k = put_fits u a _ h (list_shape u k)
put op.Add a b u e h k = cc
put op.Sub a b u e h k = cc
put op.Mul a b u e h k = cc
put op.Div a b u e h k = cc
put op.Mod a b u e h k = cc
put op.Cat a b u e h k = cc
put op.Eq a b u e h k = cc
put op.Ne a b u e h k = cc
put op.Lt a b u e h k = cc
put op.Le a b u e h k = cc
put op.Gt a b u e h k = cc
put op.Ge a b u e h k = cc

-- ---- parts

found_fits : (vs : List Value) (ts : List Ty) (i : ℕ) (t : Ty) → HaveTypes vs ts → slice_get ts i ≡ Some t → Fits t (found_value (slice_get vs i))
found_fits [] [] i t h e = cc
found_fits [] (u ∷ ts) i t h e = elim h [ ]
found_fits (v ∷ vs) [] i t h e = elim h [ ]
found_fits (v ∷ vs) (u ∷ ts) zero t (and_value h k) e = let same : u ≡ t = cc in subst (λ x. HasType v x) same h
found_fits (v ∷ vs) (u ∷ ts) (suc i) t (and_value h k) e = found_fits vs ts i t k e

part_at : (i : ℕ) (vs : List Value) (ts : List Ty) (t : Ty) (b : Bool) → HaveTypes vs ts → (if b then None else slice_get ts (i - 1)) ≡ Some t → Fits t (if b then unfit else found_value (slice_get vs (i - 1)))
part_at i vs ts t true h e = cc
part_at i vs ts t false h e = found_fits vs ts (i - 1) t h e

part_fits : (i : ℕ) (ts : List Ty) (t : Ty) (l : ValueLayer) → Shape (Ty-F.Tuple ts) l → part_of i ts ≡ Some t → Fits t (rules.part_of i l)
part_fits i ts t l (vs, d, h) e = subst (λ x. Fits t (rules.part_of i x)) (sym d) (part_at i vs ts t (i == 0) h e)

pub selection_fits : (i : ℕ) (v : Value) (ts : List Ty) (t : Ty) → HasType v (ty.Tuple ts) → part_of i ts ≡ Some t → Fits t (part i v)
unfolding part
selection_fits i v ts t h e = part_fits i ts t (out-Value v) (shape_at (ty.Tuple ts) (Ty-F.Tuple ts) (ty.outs-Tuple ts) h) e

-- ---- primitives

first_fits : (u : Ty) (vs : List Value) → AllHaveType u vs → Fits u (first_item vs)
first_fits u [] h = tt
first_fits u (v ∷ vs) (and_item h k) = h

later_fits : (u : Ty) (vs : List Value) → AllHaveType u vs → Fits (ty.List u) (later_items u vs)
later_fits u [] h = tt
later_fits u (v ∷ vs) (and_item h k) = a_list u vs k

of_list_at : (p : Primitive) (u t : Ty) (vs : List Value) → AllHaveType u vs → of_list p u ≡ Some t → Fits t (of_one p (Value-F.List u vs))
of_list_at prim.Hd u t vs h e = let same : u ≡ t = cc in subst (λ x. Fits x (first_item vs)) same (first_fits u vs h)
of_list_at prim.Tl u t vs h e = let same : ty.List u ≡ t = cc in subst (λ x. Fits x (later_items u vs)) same (later_fits u vs h)
of_list_at prim.Length u t vs h e = let same : ty.Int ≡ t = cc in subst (λ x. Fits x (gives (value.Int (pos (length vs))))) same (an_int _)
of_list_at prim.IntToString u t vs h e = cc
of_list_at prim.HostToString u t vs h e = cc
of_list_at prim.StringToBlob u t vs h e = cc
of_list_at prim.BlobLength u t vs h e = cc
of_list_at prim.BlobPart u t vs h e = cc

of_list_shape : (p : Primitive) (u t : Ty) (l : ValueLayer) → Shape (Ty-F.List u) l → of_list p u ≡ Some t → Fits t (of_one p l)
of_list_shape p u t l (vs, d, h) e = subst (λ x. Fits t (of_one p x)) (sym d) (of_list_at p u t vs h e)

pub of_items : (p : Primitive) (u t : Ty) (v : Value) → HasType v (ty.List u) → of_list p u ≡ Some t → Fits t (primitive p (v ∷ []))
unfolding primitive
of_items p u t v h e = of_list_shape p u t (out-Value v) (list_shape u h) e

blob_part_at : (bytes : List ℕ) (i n : ℤ) → Fits ty.Blob (blob_part bytes i n)
blob_part_at bytes (pos i) (pos n) = choose ty.Blob (nat_le (i + n) (length bytes)) (gives (value.Blob (take n (drop i bytes)))) (raises rules.bad_index) (blob (take n (drop i bytes)) (value.outs-Blob (take n (drop i bytes))) refl) tt
blob_part_at bytes (pos i) (negsuc n) = tt
blob_part_at bytes (negsuc i) (pos n) = tt
blob_part_at bytes (negsuc i) (negsuc n) = tt

int_to_string : (l : ValueLayer) → Shape Ty-F.Int l → Fits ty.Str (of_one prim.IntToString l)
int_to_string l (n, d) = subst (λ x. Fits ty.Str (of_one prim.IntToString x)) (sym d) (str _ (value.outs-Str _) refl)

host_to_string : (l : ValueLayer) → Shape Ty-F.Host l → Fits ty.Str (of_one prim.HostToString l)
host_to_string l (n, d) = subst (λ x. Fits ty.Str (of_one prim.HostToString x)) (sym d) (str _ (value.outs-Str _) refl)

string_to_blob : (l : ValueLayer) → Shape Ty-F.Str l → Fits ty.Blob (of_one prim.StringToBlob l)
string_to_blob l (n, d) = subst (λ x. Fits ty.Blob (of_one prim.StringToBlob x)) (sym d) (blob _ (value.outs-Blob _) refl)

blob_length : (l : ValueLayer) → Shape Ty-F.Blob l → Fits ty.Int (of_one prim.BlobLength l)
blob_length l (n, d) = subst (λ x. Fits ty.Int (of_one prim.BlobLength x)) (sym d) (an_int _)

part_of_blob : (j k l : ValueLayer) → Shape Ty-F.Blob j → Shape Ty-F.Int k → Shape Ty-F.Int l → Fits ty.Blob (of_three prim.BlobPart j k l)
part_of_blob j k l (b, d) (i, e) (n, f) =
    subst (λ x. Fits ty.Blob (of_three prim.BlobPart x k l)) (sym d) (subst (λ x. Fits ty.Blob (of_three prim.BlobPart (Value-F.Blob b) x l)) (sym e)
    (subst (λ x. Fits ty.Blob (of_three prim.BlobPart (Value-F.Blob b) (Value-F.Int i) x)) (sym f) (blob_part_at b i n)))

-- one or three values of the types
abbrev One : (Ty → Value → Type 0) → Ty → List Value → Type 0
One P t (v ∷ []) = P t v
One P t _ = ⊥

only_one : (t : Ty) (vs : List Value) → HaveTypes vs (t ∷ []) → One (λ u v. HasType v u) t vs
only_one t [] h = elim h [ ]
only_one t (v ∷ []) (and_value h k) = h
only_one t (v ∷ w ∷ vs) (and_value h k) = elim k [ ]

of_one_value : (p : Primitive) (t u : Ty) → ((v : Value) → HasType v t → Fits u (of_one p (out-Value v))) → (vs : List Value) → One (λ x v. HasType v x) t vs → Fits u (primitive p vs)
unfolding primitive
of_one_value p t u f (v ∷ []) h = f v h
of_one_value p t u f [] h = absurd h
of_one_value p t u f (v ∷ w ∷ vs) h = absurd h

of_three_values : (a b c : Value) → HasType a ty.Blob → HasType b ty.Int → HasType c ty.Int → Fits ty.Blob (primitive prim.BlobPart (a ∷ b ∷ c ∷ []))
unfolding primitive
of_three_values a b c h k l = part_of_blob _ _ _ (shape_at ty.Blob Ty-F.Blob ty.outs-Blob h) (int_shape k) (int_shape l)

none_left : {vs : List Value} → HaveTypes vs [] → vs ≡ []
none_left no_values = refl

three : {vs : List Value} → HaveTypes vs (ty.Blob ∷ ty.Int ∷ ty.Int ∷ []) → Fits ty.Blob (primitive prim.BlobPart vs)
three (and_value {v = a} h (and_value {v = b} k (and_value {v = c} l m))) =
    subst (λ vs. Fits ty.Blob (primitive prim.BlobPart (a ∷ b ∷ c ∷ vs))) (sym (none_left m)) (of_three_values a b c h k l)

pub of_values : (p : Primitive) (ts : List Ty) (vs : List Value) → takes p ≡ Some ts → HaveTypes vs ts → Fits (makes p) (primitive p vs)
of_values prim.IntToString ts vs e h =
    let same : ts ≡ ty.Int ∷ [] = cc in
    of_one_value prim.IntToString ty.Int ty.Str (λ v k. int_to_string _ (int_shape k)) vs (only_one ty.Int vs (subst (λ x. HaveTypes vs x) same h))
of_values prim.HostToString ts vs e h =
    let same : ts ≡ ty.Host ∷ [] = cc in
    of_one_value prim.HostToString ty.Host ty.Str (λ v k. host_to_string _ (shape_at ty.Host Ty-F.Host ty.outs-Host k)) vs (only_one ty.Host vs (subst (λ x. HaveTypes vs x) same h))
of_values prim.StringToBlob ts vs e h =
    let same : ts ≡ ty.Str ∷ [] = cc in
    of_one_value prim.StringToBlob ty.Str ty.Blob (λ v k. string_to_blob _ (shape_at ty.Str Ty-F.Str ty.outs-Str k)) vs (only_one ty.Str vs (subst (λ x. HaveTypes vs x) same h))
of_values prim.BlobLength ts vs e h =
    let same : ts ≡ ty.Blob ∷ [] = cc in
    of_one_value prim.BlobLength ty.Blob ty.Int (λ v k. blob_length _ (shape_at ty.Blob Ty-F.Blob ty.outs-Blob k)) vs (only_one ty.Blob vs (subst (λ x. HaveTypes vs x) same h))
of_values prim.BlobPart ts vs e h = let same : ts ≡ ty.Blob ∷ ty.Int ∷ ty.Int ∷ [] = cc in three (subst (λ x. HaveTypes vs x) same h)
of_values prim.Hd ts vs e h = cc
of_values prim.Tl ts vs e h = cc
of_values prim.Length ts vs e h = cc

-- ---- all operators and primitives

by_kind : (o : Op) (k : OpKind) → kind_of o ≡ k → (a b : Value) (t u r : Ty) → KindTakes k t u r → HasType a t → HasType b u → Fits r (binary o a b)
by_kind o arithmetic e a b t u r k h l = subst (λ x. Fits x (binary o a b)) (sym k.2) (calculation_fits o a b e (subst (λ x. HasType a x) k.0 h) (subst (λ x. HasType b x) k.1 l))
by_kind o joining e a b t u r k h l = subst (λ x. Fits x (binary o a b)) (sym k.2) (concatenation_fits o a b t e k.0 h (subst (λ x. HasType b x) k.1 l))
by_kind o equality e a b t u r k h l = subst (λ x. Fits x (binary o a b)) (sym k.1) (comparison_fits o a b e)
by_kind o ordering e a b t u r k h l = subst (λ x. Fits x (binary o a b)) (sym k.2) (order_fits o a b t e k.0 h (subst (λ x. HasType b x) k.1 l))
by_kind o listing e a b t u r k h l = subst (λ x. Fits x (binary o a b)) (sym (k.1 ∙ k.0)) (put o a b t e h (subst (λ x. HasType b x) k.0 l))

pub operator_fits : (o : Op) (a b : Value) (t u r : Ty) → OperatorTakes o t u r → HasType a t → HasType b u → Fits r (binary o a b)
operator_fits o a b t u r k h l = by_kind o (kind_of o) refl a b t u r k h l

list_fits : (p : Primitive) (u r : Ty) (vs : List Value) → of_list p u ≡ Some r → HaveTypes vs (ty.List u ∷ []) → Fits r (primitive p vs)
list_fits p u r [] e h = elim h [ ]
list_fits p u r (v ∷ vs) e (and_value h k) = subst (λ ws. Fits r (primitive p (v ∷ ws))) (sym (none_left k)) (of_items p u r v h e)

pub primitive_fits : (p : Primitive) (vs : List Value) (ts : List Ty) (r : Ty) → PrimitiveTakes p ts r → HaveTypes vs ts → Fits r (primitive p vs)
primitive_fits p vs ts r (fixed e q) h = subst (λ x. Fits x (primitive p vs)) (sym q) (of_values p ts vs e h)
primitive_fits p vs ts r (any_list u q e) h = list_fits p u r vs e (subst (λ x. HaveTypes vs x) q h)
