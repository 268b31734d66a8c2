-- Primitives by the lengths of their names.
use Rattle.std.proofs.Common.{◌≡◌, ◌≢◌, codes, false, true, ℕ, List, length, Some, None, refl, sym, ◌∙◌, ap, arith}
use Rattle.std.specs.Str.{bytes_eq}
use Rattle.std.proofs.lemmas.Slice.Eq.{bytes_eq-Decides}
use Rattle.containers.proofs.Bools.{not_true}
use Rattle.plan_base.specs.declared.name.Name.{Name}
use Rattle.plan_base.specs.declared.prim.Primitive.TheVariants.{Hd, Tl, Length}
use Rattle.plan_types_spec.specs.TypingNames.{prim_of}

-- names of other lengths are other names
other_long : (f g : List ℕ) → length f ≢ length g → bytes_eq f g ≡ false
other_long f g h = not_true (bytes_eq f g) (λ same. h (ap length ((bytes_eq-Decides f g).0 same)))

pub no_primitive : (f : Name) → length f ≢ 2 → length f ≢ 6 → length f ≢ 8 → length f ≢ 10 → length f ≢ 11 → length f ≢ 12 → prim_of f ≡ None
unfolding prim_of
no_primitive f two six eight ten eleven twelve =
    rw (
      other_long f (codes "hd") two,
      other_long f (codes "tl") two,
      other_long f (codes "length") six,
      other_long f (codes "intToString") eleven,
      other_long f (codes "hostToString") twelve,
      other_long f (codes "stringToBlob") twelve,
      other_long f (codes "blobLength") ten,
      other_long f (codes "blobPart") eight,
    ) refl

pub is_hd : (f : Name) → bytes_eq f (codes "hd") ≡ true → prim_of f ≡ Some Hd
unfolding prim_of
is_hd f h = rw h refl

pub is_tl : (f : Name) → bytes_eq f (codes "hd") ≡ false → bytes_eq f (codes "tl") ≡ true → prim_of f ≡ Some Tl
unfolding prim_of
is_tl f first h = rw (first, h) refl

-- a name of that length is no longer word
longer : (f : Name) (n : ℕ) (g : List ℕ) → length f ≡ n → n ≢ length g → bytes_eq f g ≡ false
longer f n g long other = other_long f g (λ same. other (sym long ∙ same))

pub none_of_two : (f : Name) → length f ≡ 2 → bytes_eq f (codes "hd") ≡ false → bytes_eq f (codes "tl") ≡ false → prim_of f ≡ None
unfolding prim_of
none_of_two f long hd tl =
    rw (
      hd,
      tl,
      longer f 2 (codes "length") long (λ (e : 2 ≡ 6). omega (arith, e)),
      longer f 2 (codes "intToString") long (λ (e : 2 ≡ 11). omega (arith, e)),
      longer f 2 (codes "hostToString") long (λ (e : 2 ≡ 12). omega (arith, e)),
      longer f 2 (codes "stringToBlob") long (λ (e : 2 ≡ 12). omega (arith, e)),
      longer f 2 (codes "blobLength") long (λ (e : 2 ≡ 10). omega (arith, e)),
      longer f 2 (codes "blobPart") long (λ (e : 2 ≡ 8). omega (arith, e)),
    ) refl

pub is_length : (f : Name) → length f ≡ 6 → bytes_eq f (codes "length") ≡ true → prim_of f ≡ Some Length
unfolding prim_of
is_length f long h = rw (longer f 6 (codes "hd") long (λ (e : 6 ≡ 2). omega (arith, e)), longer f 6 (codes "tl") long (λ (e : 6 ≡ 2). omega (arith, e)), h) refl

pub none_of_six : (f : Name) → length f ≡ 6 → bytes_eq f (codes "length") ≡ false → prim_of f ≡ None
unfolding prim_of
none_of_six f long h =
    rw (
      longer f 6 (codes "hd") long (λ (e : 6 ≡ 2). omega (arith, e)),
      longer f 6 (codes "tl") long (λ (e : 6 ≡ 2). omega (arith, e)),
      h,
      longer f 6 (codes "intToString") long (λ (e : 6 ≡ 11). omega (arith, e)),
      longer f 6 (codes "hostToString") long (λ (e : 6 ≡ 12). omega (arith, e)),
      longer f 6 (codes "stringToBlob") long (λ (e : 6 ≡ 12). omega (arith, e)),
      longer f 6 (codes "blobLength") long (λ (e : 6 ≡ 10). omega (arith, e)),
      longer f 6 (codes "blobPart") long (λ (e : 6 ≡ 8). omega (arith, e)),
    ) refl
