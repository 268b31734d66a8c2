-- The value or the exception of each operator and primitive.
use Rattle.std.specs.Prelude.{ℕ, ◌+◌, ◌-◌, Bool, false, not, ◌&&◌, if◌then◌else◌, ◌==◌, nat_lt, nat_le, ℤ, pos, negsuc, ◌+ℤ◌, ◌-ℤ◌, ◌*ℤ◌}
use Rattle.std.specs.Prelude.{int_lt, int_le, int_div, int_rem, List, [], ◌∷◌, ◌++◌, length, take, drop, slice_get, codes, decimal, Option}
use Rattle.std.specs.Prelude.{Some, None}
use Rattle.std.specs.Ordering.{is_lt, nat_cmp}
use Rattle.std.specs.Cmp.Lexicographic.{slice_cmp}
use Rattle.plan_base.specs.declared.ids.Host.{Host}
use Rattle.plan_base.specs.declared.tree.Exn.{Exn}
use Rattle.plan_base.specs.declared.tree.Ty.{Ty}
use Rattle.plan_base.specs.declared.tree.Op.{Op}
use Rattle.plan_base.specs.declared.tree.Op.TheVariants as op
use Rattle.plan_base.specs.declared.tree.Value.{Value, out-Value}
use Rattle.plan_base.specs.declared.tree.Value.TheVariants as value
use Rattle.plan_base.specs.declared.tree.Value.TheOpen.{Value-F}
use Rattle.plan_base.specs.declared.prim.Primitive.{Primitive}
use Rattle.plan_base.specs.declared.prim.Primitive.TheVariants as prim
use Rattle.plan_types_spec.specs.Same.{same_value}
use Rattle.plan_base.specs.Trees.{ValueLayer}
use Rattle.plan_base.specs.Sizes.{weight}

-- what an operator or a primitive gives; `unfit` where the operands have other types than it takes
pub data Given : Type 0 where
  gives : Value → Given
  raises : Exn → Given
  unfit : Given

-- the exception of that name
abbrev pub exception : List ℕ → Exn
exception name = record { 0 = name }

abbrev pub overflow : Exn
overflow = exception (codes "Overflow")

abbrev pub division_by_zero : Exn
division_by_zero = exception (codes "DivByZero")

abbrev pub empty : Exn
empty = exception (codes "Empty")

abbrev pub bad_index : Exn
bad_index = exception (codes "BadIndex")

abbrev pub too_large : Exn
too_large = exception (codes "TooLarge")

abbrev pub no_service : Exn
no_service = exception (codes "NoService")

abbrev pub bool : Bool → Given
bool b = gives (value.Bool b)

-- ---- numbers

abbrev pub least_int : ℤ
least_int = negsuc 9223372036854775807

abbrev pub greatest_int : ℤ
greatest_int = pos 9223372036854775807

-- a number of 64 bits, or `Overflow`
unfoldable pub bounded_number : ℤ → Given
bounded_number z = if int_le least_int z && int_le z greatest_int then gives (value.Int z) else raises overflow

abbrev pub is_zero : ℤ → Bool
is_zero (pos n) = n == 0
is_zero (negsuc n) = false

-- towards zero
unfoldable pub divided_number : ℤ → ℤ → Given
divided_number a b = if is_zero b then raises division_by_zero else bounded_number (int_div a b)

-- with the sign of the left
unfoldable pub remainder : ℤ → ℤ → Given
remainder a b = if is_zero b then raises division_by_zero else bounded_number (int_rem a b)

abbrev pub computed_number : Op → ℤ → ℤ → Given
computed_number op.Add a b = bounded_number (a +ℤ b)
computed_number op.Sub a b = bounded_number (a -ℤ b)
computed_number op.Mul a b = bounded_number (a *ℤ b)
computed_number op.Div a b = divided_number a b
computed_number op.Mod a b = remainder a b
computed_number _ a b = unfit

-- on two numbers, else unfit
abbrev pub numbers : (ℤ → ℤ → Given) → ValueLayer → ValueLayer → Given
numbers f (Value-F.Int a) (Value-F.Int b) = f a b
numbers f _ _ = unfit

-- ---- order

-- whether a stands before b: numbers and chars by size, strings by their bytes
abbrev pub before : ValueLayer → ValueLayer → Option Bool
before (Value-F.Int a) (Value-F.Int b) = Some (int_lt a b)
before (Value-F.Char a) (Value-F.Char b) = Some (nat_lt a b)
before (Value-F.Str a) (Value-F.Str b) = Some (is_lt (slice_cmp nat_cmp a b))
before _ _ = None

abbrev pub answered_truth : (Bool → Bool) → Option Bool → Given
answered_truth f (Some b) = bool (f b)
answered_truth f None = unfit

-- ---- lists and texts

-- a value of weight 16,384 at most, else `TooLarge`
unfoldable pub limited_value : Value → Given
limited_value v = if nat_lt 16384 (weight v) then raises too_large else gives v

abbrev pub joined_values : ValueLayer → ValueLayer → Given
joined_values (Value-F.Str a) (Value-F.Str b) = limited_value (value.Str (a ++ b))
joined_values (Value-F.Blob a) (Value-F.Blob b) = limited_value (value.Blob (a ++ b))
joined_values _ _ = unfit

abbrev pub put_first : Value → ValueLayer → Given
put_first x (Value-F.List t xs) = limited_value (value.List t (x ∷ xs))
put_first x _ = unfit

-- ---- operators

abbrev pub binary_by : Op → Value → Value → Given
binary_by op.Cat a b = joined_values (out-Value a) (out-Value b)
binary_by op.Cons a b = put_first a (out-Value b)
binary_by op.Eq a b = bool (same_value a b)
binary_by op.Ne a b = bool (not (same_value a b))
binary_by op.Lt a b = answered_truth (λ r. r) (before (out-Value a) (out-Value b))
binary_by op.Le a b = answered_truth not (before (out-Value b) (out-Value a))
binary_by op.Gt a b = answered_truth (λ r. r) (before (out-Value b) (out-Value a))
binary_by op.Ge a b = answered_truth not (before (out-Value a) (out-Value b))
binary_by o a b = numbers (computed_number o) (out-Value a) (out-Value b)

-- what `a op b` gives
unfoldable pub binary : Op → Value → Value → Given
binary = binary_by

-- ---- parts

abbrev pub found_value : Option Value → Given
found_value (Some v) = gives v
found_value None = unfit

abbrev pub part_of : ℕ → ValueLayer → Given
part_of i (Value-F.Tuple vs) = if i == 0 then unfit else found_value (slice_get vs (i - 1))
part_of i _ = unfit

-- what `#i v` gives: the part with number i, from 1
unfoldable pub part : ℕ → Value → Given
part i v = part_of i (out-Value v)

-- ---- primitives

abbrev pub first_item : List Value → Given
first_item [] = raises empty
first_item (x ∷ xs) = gives x

abbrev pub later_items : Ty → List Value → Given
later_items t [] = raises empty
later_items t (x ∷ xs) = gives (value.List t xs)

-- the printed form: digits, after `~` for a negative number
abbrev pub printed_int : ℤ → List ℕ
printed_int (pos n) = decimal n
printed_int (negsuc n) = 126 ∷ decimal (n + 1)

-- `@` and the number
abbrev pub printed_host : Host → List ℕ
printed_host h = 64 ∷ decimal h.0

-- n bytes from place i, or `BadIndex` where these aren't all there
abbrev pub blob_part : List ℕ → ℤ → ℤ → Given
blob_part b (pos i) (pos n) = if nat_le (i + n) (length b) then gives (value.Blob (take n (drop i b))) else raises bad_index
blob_part b _ _ = raises bad_index

abbrev pub of_one : Primitive → ValueLayer → Given
of_one prim.Hd (Value-F.List t xs) = first_item xs
of_one prim.Tl (Value-F.List t xs) = later_items t xs
of_one prim.Length (Value-F.List t xs) = gives (value.Int (pos (length xs)))
of_one prim.IntToString (Value-F.Int n) = gives (value.Str (printed_int n))
of_one prim.HostToString (Value-F.Host h) = gives (value.Str (printed_host h))
of_one prim.StringToBlob (Value-F.Str s) = gives (value.Blob s)
of_one prim.BlobLength (Value-F.Blob b) = gives (value.Int (pos (length b)))
of_one _ _ = unfit

abbrev pub of_three : Primitive → ValueLayer → ValueLayer → ValueLayer → Given
of_three prim.BlobPart (Value-F.Blob b) (Value-F.Int i) (Value-F.Int n) = blob_part b i n
of_three _ _ _ _ = unfit

abbrev pub primitive_by : Primitive → List Value → Given
primitive_by p (a ∷ []) = of_one p (out-Value a)
primitive_by p (a ∷ b ∷ c ∷ []) = of_three p (out-Value a) (out-Value b) (out-Value c)
primitive_by p _ = unfit

-- what the primitive gives of its arguments
unfoldable pub primitive : Primitive → List Value → Given
primitive = primitive_by
