-- What operators, parts and primitives give of well-formed values is well formed.
use Rattle.std.proofs.Common.{◌≡◌, ℕ, zero, suc, ◌+◌, ◌-◌, ◌/◌, ◌%◌, ◌≤◌, ◌<◌, Bool, true, false, if◌then◌else◌, ◌==◌, nat_lt, nat_le, ℤ, pos, negsuc, List, [], ◌∷◌, ◌++◌, length, Some, slice_get}
use Rattle.std.proofs.Common.{decimal, IsAscii, refl, sym, ap, ◌∙◌, subst, lit≤, arith}
use Rattle.std.specs.Str.{is_utf8}
use Rattle.std.specs.Fmt.{digits, digits_onto, digit_glyph}
use Rattle.std.proofs.lemmas.Bool.{lt-ltb}
use Rattle.std.proofs.lemmas.Str.{is_utf8-from_IsUtf8, IsUtf8-from_is_utf8, IsUtf8-append, IsUtf8-from_ascii}
use Rattle.std.proofs.lemmas.Str.Ascii.{IsAscii-nil, IsAscii-cons}
use Rattle.plan_base.specs.declared.ids.Host.{Host}
use Rattle.plan_base.specs.declared.prim.Primitive.{Primitive}
use Rattle.plan_base.specs.declared.prim.Primitive.TheVariants as prim
use Rattle.plan_base.specs.declared.tree.Op.{Op}
use Rattle.plan_base.specs.declared.tree.Op.TheVariants as op
use Rattle.plan_base.specs.declared.tree.Ty.{Ty, Ty-F, out-Ty}
use Rattle.plan_base.specs.declared.tree.Ty.TheVariants as ty
use Rattle.plan_base.specs.declared.tree.Value.{Value, Value-F, out-Value}
use Rattle.plan_base.specs.declared.tree.Value.TheVariants as value
use Rattle.plan_base.specs.Trees.{ValueLayer}
use Rattle.plan_base.specs.Sizes.{weight, weight_level, chunk_weight, value_depth}
use Rattle.plan_base.proofs.SizeLaws.{weight_out}
use Rattle.plan_base.specs.WellFormed.{well_formed_text}
use Rattle.plan_types_spec.specs.Typing.{IsSmall, HasType}
use Rattle.plan_types_spec.specs.TypingNames.{of_list, takes, makes, kind_of, joining, listing, is_joined, is_joined_at}
use Rattle.plan_types_spec.specs.Rules as rules
use Rattle.plan_types_spec.specs.Rules.{Given, gives, raises, unfit, limited_value, joined_values, put_first, binary, found_value, part, first_item, later_items, of_one, primitive, printed_int, printed_host, too_large}
use Rattle.containers.proofs.Bools.{and_both, and_left}
use Rattle.plan_types_spec.proofs.Fitting.{list_shape}
use Rattle.plan_types_spec.proofs.Shapes.{Shape, shape_of, shape_at}
use Rattle.plan_meaning.proofs.Totals.{largest_within, largest_bounds}
use Rattle.plan_meaning.proofs.Formed.{at_most, IsFormed, AllFormed, shapes, shape_level, depth_level, a_unit, a_bool, an_int, a_host, a_dev, a_str, a_list, small_blob, small_list, items_formed, items_type, parts_formed}
use Rattle.plan_types_spec.specs.Typed.{Fits}

-- a value that is well formed where it is small, or no value
abbrev pub Keeps : Given → Type 0
Keeps (gives v) = IsSmall v → IsFormed v
Keeps (raises x) = Unit {0}
Keeps unfit = Unit {0}

choose : (b : Bool) (g h : Given) → Keeps g → Keeps h → Keeps (if b then g else h)
choose true g h x y = x
choose false g h x y = y

limited_keeps : (v : Value) → (IsSmall v → IsFormed v) → Keeps (limited_value v)
unfolding limited_value
limited_keeps v h = choose (nat_lt 16384 (weight v)) (raises too_large) (gives v) tt h

-- ---- by the type alone

-- values of these types are well formed where they are small
abbrev pub is_plain : Ty-F Ty → Bool
is_plain Ty-F.Unit = true
is_plain Ty-F.Bool = true
is_plain Ty-F.Int = true
is_plain Ty-F.Blob = true
is_plain Ty-F.Host = true
is_plain Ty-F.Dev = true
is_plain _ = false

plain_value : (v : Value) (l : Ty-F Ty) → is_plain l ≡ true → Shape l (out-Value v) → IsSmall v → IsFormed v
plain_value v Ty-F.Unit e h s = a_unit v h
plain_value v Ty-F.Bool e h s = a_bool v h.0 h.1
plain_value v Ty-F.Int e h s = an_int v h.0 h.1
plain_value v Ty-F.Blob e h s = small_blob v h.0 h.1 s
plain_value v Ty-F.Host e h s = a_host v h.0 h.1
plain_value v Ty-F.Dev e h s = a_dev v h.0 h.1
plain_value v Ty-F.Char e h s = cc
plain_value v Ty-F.Str e h s = cc
plain_value v Ty-F.Chunk e h s = cc
plain_value v (Ty-F.List u) e h s = cc
plain_value v (Ty-F.Tuple ts) e h s = cc

pub plain : (t : Ty) (l : Ty-F Ty) → out-Ty t ≡ l → is_plain l ≡ true → (g : Given) → Fits t g → Keeps g
plain t l o e (gives v) h = plain_value v l e (shape_at t l o h)
plain t l o e (raises x) h = tt
plain t l o e unfit h = tt

-- ---- texts

text_of : (s : List ℕ) → is_utf8 s ≡ true → length s ≤ 65535 → well_formed_text s ≡ true
unfolding well_formed_text
text_of s u n = and_both (is_utf8 s) (nat_le (length s) 65535) u (at_most (length s) 65535 n)

text_valid : (s : List ℕ) → well_formed_text s ≡ true → is_utf8 s ≡ true
unfolding well_formed_text
text_valid s h = and_left (is_utf8 s) (nat_le (length s) 65535) h

-- the weight bounds the bytes of a string
small_text : (s : List ℕ) → is_utf8 s ≡ true → IsSmall (value.Str s) → IsFormed (value.Str s)
small_text s u small =
    let e = weight_out (value.Str s) ∙ ap (λ l. weight_level weight chunk_weight l) (value.outs-Str s) in
    let w = small.weighs in
    a_str (value.Str s) s (value.outs-Str s) (text_of s u (omega arith))

joined_texts : (a b : List ℕ) → is_utf8 a ≡ true → is_utf8 b ≡ true → is_utf8 (a ++ b) ≡ true
joined_texts a b h k = is_utf8-from_IsUtf8 (a ++ b) (IsUtf8-append a b (IsUtf8-from_is_utf8 a h) (IsUtf8-from_is_utf8 b k))

joined_keeps : (t : Ty) (l : Ty-F Ty) (a b : Value) → out-Ty t ≡ l → is_joined_at l ≡ true → Shape l (out-Value a) → Shape l (out-Value b) → IsFormed a → IsFormed b
    → Fits t (joined_values (out-Value a) (out-Value b)) → Keeps (joined_values (out-Value a) (out-Value b))
joined_keeps t Ty-F.Str a b o e (s, d) (r, f) h k fits =
    subst (λ x. Keeps (joined_values x (out-Value b))) (sym d) (subst (λ x. Keeps (joined_values (Value-F.Str s) x)) (sym f)
    (limited_keeps (value.Str (s ++ r)) (small_text (s ++ r) (joined_texts s r (text_valid s (shape_level a (Value-F.Str s) d h)) (text_valid r (shape_level b (Value-F.Str r) f k))))))
joined_keeps t Ty-F.Blob a b o e i j h k fits = plain t Ty-F.Blob o refl _ fits
joined_keeps t Ty-F.Int a b o e i j h k fits = cc
joined_keeps t Ty-F.Char a b o e i j h k fits = cc
joined_keeps t Ty-F.Unit a b o e i j h k fits = cc
joined_keeps t Ty-F.Bool a b o e i j h k fits = cc
joined_keeps t Ty-F.Host a b o e i j h k fits = cc
joined_keeps t Ty-F.Dev a b o e i j h k fits = cc
joined_keeps t Ty-F.Chunk a b o e i j h k fits = cc
joined_keeps t (Ty-F.List u) a b o e i j h k fits = cc
joined_keeps t (Ty-F.Tuple ts) a b o e i j h k fits = cc

pub concatenation_keeps : (o : Op) (a b : Value) (t : Ty) → kind_of o ≡ joining → is_joined t ≡ true → HasType a t → HasType b t → IsFormed a → IsFormed b → Fits t (binary o a b) → Keeps (binary o a b)
unfolding binary
concatenation_keeps op.Cat a b t e i h k f g fits = joined_keeps t (out-Ty t) a b refl i (shape_of h) (shape_of k) f g fits
concatenation_keeps op.Add a b t e i h k f g fits = cc
concatenation_keeps op.Sub a b t e i h k f g fits = cc
concatenation_keeps op.Mul a b t e i h k f g fits = cc
concatenation_keeps op.Div a b t e i h k f g fits = cc
concatenation_keeps op.Mod a b t e i h k f g fits = cc
concatenation_keeps op.Eq a b t e i h k f g fits = cc
concatenation_keeps op.Ne a b t e i h k f g fits = cc
concatenation_keeps op.Lt a b t e i h k f g fits = cc
concatenation_keeps op.Le a b t e i h k f g fits = cc
concatenation_keeps op.Gt a b t e i h k f g fits = cc
concatenation_keeps op.Ge a b t e i h k f g fits = cc
concatenation_keeps op.Cons a b t e i h k f g fits = cc

-- ---- lists

longer_list : (u : Ty) (a b : Value) (vs : List Value) → out-Value b ≡ Value-F.List u vs → IsFormed a → IsFormed b → value_depth a ≤ 7 → IsSmall (value.List u (a ∷ vs)) → IsFormed (value.List u (a ∷ vs))
longer_list u a b vs o f g d s =
    let n = depth_level b (Value-F.List u vs) o g in
    let k = largest_within value_depth 7 a vs d (omega arith) in
    a_list (value.List u (a ∷ vs)) u (a ∷ vs) (value.outs-List u (a ∷ vs)) (items_type b u vs o g) (small_list (value.List u (a ∷ vs)) u (a ∷ vs) (value.outs-List u (a ∷ vs)) s)
    (shapes (a ∷ vs) (f, items_formed b u vs o g)) (omega (arith, k))

pub put : (o : Op) (a b : Value) (u : Ty) → kind_of o ≡ listing → HasType b (ty.List u) → IsFormed a → IsFormed b → value_depth a ≤ 7 → Keeps (binary o a b)
unfolding binary
put op.Cons a b u e h f g d =
    let s = list_shape u h in
    subst (λ x. Keeps (put_first a x)) (sym s.1) (limited_keeps (value.List u (a ∷ s.0)) (longer_list u a b s.0 s.1 f g d))
put op.Add a b u e h f g d = cc
put op.Sub a b u e h f g d = cc
put op.Mul a b u e h f g d = cc
put op.Div a b u e h f g d = cc
put op.Mod a b u e h f g d = cc
put op.Cat a b u e h f g d = cc
put op.Eq a b u e h f g d = cc
put op.Ne a b u e h f g d = cc
put op.Lt a b u e h f g d = cc
put op.Le a b u e h f g d = cc
put op.Gt a b u e h f g d = cc
put op.Ge a b u e h f g d = cc

-- ---- parts

found_keeps : (vs : List Value) (i : ℕ) → AllFormed vs → Keeps (found_value (slice_get vs i))
found_keeps [] i h = tt
found_keeps (v ∷ vs) zero h = λ _. h.0
found_keeps (v ∷ vs) (suc i) h = found_keeps vs i h.1

part_keeps : (i : ℕ) (ts : List Ty) (v : Value) → Shape (Ty-F.Tuple ts) (out-Value v) → IsFormed v → Keeps (rules.part_of i (out-Value v))
part_keeps i ts v (vs, d, h) f = subst (λ x. Keeps (rules.part_of i x)) (sym d) (choose (i == 0) unfit (found_value (slice_get vs (i - 1))) tt (found_keeps vs (i - 1) (parts_formed v vs d f)))

pub selection_keeps : (i : ℕ) (v : Value) (ts : List Ty) → HasType v (ty.Tuple ts) → IsFormed v → Keeps (part i v)
unfolding part
selection_keeps i v ts h f = part_keeps i ts v (shape_at (ty.Tuple ts) (Ty-F.Tuple ts) (ty.outs-Tuple ts) h) f

-- ---- primitives

first_keeps : (vs : List Value) → AllFormed vs → Keeps (first_item vs)
first_keeps [] h = tt
first_keeps (v ∷ vs) h = λ _. h.0

shorter_list : (u : Ty) (b v : Value) (vs : List Value) → out-Value b ≡ Value-F.List u (v ∷ vs) → IsFormed b → IsSmall (value.List u vs) → IsFormed (value.List u vs)
shorter_list u b v vs o g s =
    let n = depth_level b (Value-F.List u (v ∷ vs)) o g in
    let k = largest_bounds value_depth 0 7 v vs (omega arith) in
    let items = items_formed b u (v ∷ vs) o g in
    a_list (value.List u vs) u vs (value.outs-List u vs) (items_type b u (v ∷ vs) o g) (small_list (value.List u vs) u vs (value.outs-List u vs) s) (shapes vs items.1) (omega (arith, k.1))

later_keeps : (u : Ty) (b : Value) (vs : List Value) → out-Value b ≡ Value-F.List u vs → IsFormed b → Keeps (later_items u vs)
later_keeps u b [] o g = tt
later_keeps u b (v ∷ vs) o g = shorter_list u b v vs o g

of_list_keeps : (p : Primitive) (u t : Ty) (b : Value) (vs : List Value) → out-Value b ≡ Value-F.List u vs → IsFormed b → of_list p u ≡ Some t → Keeps (of_one p (Value-F.List u vs))
of_list_keeps prim.Hd u t b vs o g e = first_keeps vs (items_formed b u vs o g)
of_list_keeps prim.Tl u t b vs o g e = later_keeps u b vs o g
of_list_keeps prim.Length u t b vs o g e = λ _. an_int (value.Int (pos (length vs))) (pos (length vs)) (value.outs-Int (pos (length vs)))
of_list_keeps prim.IntToString u t b vs o g e = cc
of_list_keeps prim.HostToString u t b vs o g e = cc
of_list_keeps prim.StringToBlob u t b vs o g e = cc
of_list_keeps prim.BlobLength u t b vs o g e = cc
of_list_keeps prim.BlobPart u t b vs o g e = cc

pub of_items : (p : Primitive) (u t : Ty) (v : Value) → HasType v (ty.List u) → IsFormed v → of_list p u ≡ Some t → Keeps (primitive p (v ∷ []))
unfolding primitive
of_items p u t v h f e = let s = list_shape u h in subst (λ x. Keeps (of_one p x)) (sym s.1) (of_list_keeps p u t v s.0 s.1 f e)

ascii_if : (b : Bool) (xs ys : List ℕ) → IsAscii xs → IsAscii ys → IsAscii (if b then xs else ys)
ascii_if true xs ys h k = h
ascii_if false xs ys h k = k

glyph_ascii : (d : ℕ) → d < 10 → digit_glyph false d < 128
glyph_ascii d h = rw (lt-ltb d 10 h) (omega arith)

onto_ascii : (k n : ℕ) (acc : List ℕ) → IsAscii acc → IsAscii (digits_onto k 10 false n acc)
onto_ascii zero n acc h = h
onto_ascii (suc k) n acc h =
    let more = IsAscii-cons (digit_glyph false (n % 10)) acc (glyph_ascii (n % 10) (omega arith)) h in
    ascii_if (n / 10 == 0) _ _ more (onto_ascii k (n / 10) (digit_glyph false (n % 10) ∷ acc) more)

decimal_ascii : (n : ℕ) → IsAscii (decimal n)
unfolding digits
decimal_ascii n = onto_ascii 64 n [] IsAscii-nil

int_ascii : (n : ℤ) → IsAscii (printed_int n)
int_ascii (pos n) = decimal_ascii n
int_ascii (negsuc n) = IsAscii-cons 126 (decimal (n + 1)) (lit≤ tt) (decimal_ascii (n + 1))

host_ascii : (h : Host) → IsAscii (printed_host h)
host_ascii h = IsAscii-cons 64 (decimal h.0) (lit≤ tt) (decimal_ascii h.0)

ascii_text : (s : List ℕ) → IsAscii s → IsSmall (value.Str s) → IsFormed (value.Str s)
ascii_text s h = small_text s (is_utf8-from_IsUtf8 s (IsUtf8-from_ascii s h))

int_keeps : (l : ValueLayer) → Keeps (of_one prim.IntToString l)
int_keeps (Value-F.Int n) = ascii_text (printed_int n) (int_ascii n)
int_keeps Value-F.Unit = tt
int_keeps (Value-F.Bool b) = tt
int_keeps (Value-F.Char c) = tt
int_keeps (Value-F.Str s) = tt
int_keeps (Value-F.Blob b) = tt
int_keeps (Value-F.Host h) = tt
int_keeps (Value-F.Dev d) = tt
int_keeps (Value-F.Chunk k) = tt
int_keeps (Value-F.List t vs) = tt
int_keeps (Value-F.Tuple vs) = tt

host_keeps : (l : ValueLayer) → Keeps (of_one prim.HostToString l)
host_keeps (Value-F.Host h) = ascii_text (printed_host h) (host_ascii h)
host_keeps Value-F.Unit = tt
host_keeps (Value-F.Bool b) = tt
host_keeps (Value-F.Int n) = tt
host_keeps (Value-F.Char c) = tt
host_keeps (Value-F.Str s) = tt
host_keeps (Value-F.Blob b) = tt
host_keeps (Value-F.Dev d) = tt
host_keeps (Value-F.Chunk k) = tt
host_keeps (Value-F.List t vs) = tt
host_keeps (Value-F.Tuple vs) = tt

int_text : (vs : List Value) → Keeps (rules.primitive_by prim.IntToString vs)
int_text [] = tt
int_text (a ∷ []) = int_keeps (out-Value a)
int_text (a ∷ b ∷ []) = tt
int_text (a ∷ b ∷ c ∷ []) = tt
int_text (a ∷ b ∷ c ∷ d ∷ vs) = tt

host_text : (vs : List Value) → Keeps (rules.primitive_by prim.HostToString vs)
host_text [] = tt
host_text (a ∷ []) = host_keeps (out-Value a)
host_text (a ∷ b ∷ []) = tt
host_text (a ∷ b ∷ c ∷ []) = tt
host_text (a ∷ b ∷ c ∷ d ∷ vs) = tt

pub of_values : (p : Primitive) (ts : List Ty) (vs : List Value) → takes p ≡ Some ts → Fits (makes p) (primitive p vs) → Keeps (primitive p vs)
unfolding primitive
of_values prim.StringToBlob ts vs e h = plain ty.Blob Ty-F.Blob ty.outs-Blob refl _ h
of_values prim.BlobLength ts vs e h = plain ty.Int Ty-F.Int ty.outs-Int refl _ h
of_values prim.BlobPart ts vs e h = plain ty.Blob Ty-F.Blob ty.outs-Blob refl _ h
of_values prim.IntToString ts vs e h = int_text vs
of_values prim.HostToString ts vs e h = host_text vs
of_values prim.Hd ts vs e h = cc
of_values prim.Tl ts vs e h = cc
of_values prim.Length ts vs e h = cc
