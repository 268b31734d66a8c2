-- The names that every program has, and how a name is found.
use Rattle.std.specs.Prelude.{ℕ, ◌-◌, ◌==◌, ◌++◌, Bool, true, false, not, ◌&&◌, ◌||◌, if◌then◌else◌, List, [], ◌∷◌, map, codes, Option}
use Rattle.std.specs.Prelude.{Some, None, is_some, slice_get}
use Rattle.std.specs.List.{position, find, list_any}
use Rattle.std.specs.Option.{option_or}
use Rattle.std.specs.Str.{bytes_eq}
use Rattle.plan_base.specs.declared.name.Name.{Name}
use Rattle.plan_base.specs.declared.prim.Primitive.{Primitive}
use Rattle.plan_base.specs.declared.prim.Primitive.TheVariants.{Hd, Tl, Length, IntToString, HostToString, StringToBlob, BlobLength, BlobPart}
use Rattle.plan_base.specs.declared.tree.Op.{Op}
use Rattle.plan_base.specs.declared.tree.Op.TheVariants.{Add, Sub, Mul, Div, Mod, Cat, Eq, Ne, Lt, Le, Gt, Ge, Cons}
use Rattle.plan_base.specs.declared.tree.Ty.{Ty, Ty-F, out-Ty}
use Rattle.plan_base.specs.declared.tree.Ty as ty
use Rattle.plan_base.specs.declared.tree.Param.{Param}
use Rattle.plan_base.specs.declared.tree.Svc.{Svc}
use Rattle.plan_base.specs.declared.tree.Fun.{Fun}
use Rattle.plan_base.specs.declared.tree.Program.{Program}

-- whether a name stands among others
abbrev pub has_name : List Name → Name → Bool
has_name ns x = list_any (λ n. bytes_eq n x) ns

-- the place of the first function of that name
abbrev pub place_of : Name → List Fun → Option ℕ
place_of f funs = position (λ d. bytes_eq d.name f) funs

-- the first declared service of that name
abbrev pub service_of : Name → List Svc → Option Svc
service_of f svcs = find (λ d. bytes_eq d.name f) svcs

-- a parameter or a binding: a name and its type
abbrev pub binds : Name → Ty → Param
binds x t = record { name = x; ty = t }

-- the type of a name's innermost binding, which is the last
abbrev pub binding : Name → List Param → Option Ty
binding x [] = None
binding x (p ∷ ps) = option_or (binding x ps) (if bytes_eq p.name x then Some p.ty else None)

-- the types of parameters
abbrev pub param_types : List Param → List Ty
param_types ps = map (λ p. p.ty) ps

-- the primitive of that name
unfoldable pub prim_of : Name → Option Primitive
prim_of f =
    if bytes_eq f (codes "hd") then Some Hd else
    (if bytes_eq f (codes "tl") then Some Tl else
    (if bytes_eq f (codes "length") then Some Length else
    (if bytes_eq f (codes "intToString") then Some IntToString else
    (if bytes_eq f (codes "hostToString") then Some HostToString else
    (if bytes_eq f (codes "stringToBlob") then Some StringToBlob else
    (if bytes_eq f (codes "blobLength") then Some BlobLength else
    (if bytes_eq f (codes "blobPart") then Some BlobPart else None)))))))

-- the type of what a primitive that takes a list of any type gives, by its items' type
abbrev pub of_list : Primitive → Ty → Option Ty
of_list Hd t = Some t
of_list Tl t = Some (ty.List t)
of_list Length t = Some ty.Int
of_list _ t = None

-- the types that another primitive takes
abbrev pub takes : Primitive → Option (List Ty)
takes IntToString = Some (ty.Int ∷ [])
takes HostToString = Some (ty.Host ∷ [])
takes StringToBlob = Some (ty.Str ∷ [])
takes BlobLength = Some (ty.Blob ∷ [])
takes BlobPart = Some (ty.Blob ∷ ty.Int ∷ ty.Int ∷ [])
takes _ = None

-- the type that it gives
abbrev pub makes : Primitive → Ty
makes IntToString = ty.Str
makes HostToString = ty.Str
makes StringToBlob = ty.Blob
makes BlobLength = ty.Int
makes _ = ty.Blob

-- the exceptions that every program has
abbrev pub built_in : List Name
built_in = codes "Overflow" ∷ codes "DivByZero" ∷ codes "Empty" ∷ codes "BadIndex" ∷ codes "TooLarge" ∷ codes "NoBound" ∷ codes "NoService"
    ∷ codes "NoRoute" ∷ codes "NotNeighbor" ∷ codes "TableFull" ∷ codes "NotFound" ∷ []

-- an exception that may be raised and caught: built in or declared
abbrev pub is_exception : Program → Name → Bool
is_exception code x = has_name built_in x || has_name code.exns x

-- what a clause may name: an exception, or nothing
abbrev pub may_catch : Program → Option Name → Bool
may_catch code None = true
may_catch code (Some x) = is_exception code x

-- the kinds of operators that share a rule
pub data OpKind : Type 0 where
  arithmetic joining equality ordering listing : OpKind

abbrev pub kind_of : Op → OpKind
kind_of Add = arithmetic
kind_of Sub = arithmetic
kind_of Mul = arithmetic
kind_of Div = arithmetic
kind_of Mod = arithmetic
kind_of Cat = joining
kind_of Eq = equality
kind_of Ne = equality
kind_of Lt = ordering
kind_of Le = ordering
kind_of Gt = ordering
kind_of Ge = ordering
kind_of Cons = listing

-- what `^` joins: strings and blobs
abbrev pub is_joined_at : Ty-F Ty → Bool
is_joined_at Ty-F.Str = true
is_joined_at Ty-F.Blob = true
is_joined_at _ = false

abbrev pub is_joined : Ty → Bool
is_joined t = is_joined_at (out-Ty t)

-- what `<` and its like compare: numbers, chars and strings
abbrev pub is_ordered_at : Ty-F Ty → Bool
is_ordered_at Ty-F.Int = true
is_ordered_at Ty-F.Char = true
is_ordered_at Ty-F.Str = true
is_ordered_at _ = false

abbrev pub is_ordered : Ty → Bool
is_ordered t = is_ordered_at (out-Ty t)

-- the part of a tuple with that number, from 1
abbrev pub part_of : ℕ → List Ty → Option Ty
part_of i ts = if i == 0 then None else slice_get ts (i - 1)

-- names that are new one after the other, beside those taken before
abbrev pub are_new : List Name → List Name → Bool
are_new taken [] = true
are_new taken (n ∷ ns) = not (has_name taken n) && are_new (taken ++ n ∷ []) ns

-- whether a primitive has that name
abbrev pub is_prim : Name → Bool
is_prim f = is_some (prim_of f)

-- names that are new so and that no primitive has
abbrev pub are_callable : List Name → List Name → Bool
are_callable taken [] = true
are_callable taken (n ∷ ns) = not (is_prim n) && not (has_name taken n) && are_callable (taken ++ n ∷ []) ns
