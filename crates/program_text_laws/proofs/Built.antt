-- Types and expressions that are given by their trees: how large they are, which type they have, and that they are read again.
use Rattle.std.proofs.Common.{◌≡◌, ℕ, ℤ, ◌+◌, ◌≤◌, max, true, ◌&&◌, List, [], ◌∷◌, length, Some, None, refl, ap, arith}
use Rattle.std.specs.Prelude.{nat_le, slice_get, FitsSigned}
use Rattle.std.specs.Int.{w64}
use Rattle.std.specs.List.{list_all}
use Rattle.std.proofs.lemmas.Bool.{leb-true, le-leb}
use Rattle.std.proofs.lemmas.Str.{IsUtf8-from_is_utf8}
use Rattle.containers.proofs.Bools.{and_left as left, and_right as right}
use Rattle.plan_base.specs.Words.{IsName}
use Rattle.plan_base.specs.declared.name.Name.{Name}
use Rattle.plan_base.specs.declared.tree.Ty.{Ty}
use Rattle.plan_base.specs.declared.tree.Ty.TheVariants as ty
use Rattle.plan_base.specs.declared.tree.Expr.{Expr}
use Rattle.plan_base.specs.declared.tree.Expr.TheVariants as x
use Rattle.plan_base.specs.declared.tree.Svc.{Svc}
use Rattle.plan_base.specs.declared.tree.Fun.{Fun}
use Rattle.plan_base.specs.declared.tree.Program.{Program}
use Rattle.plan_base.specs.Sizes.{type_depth}
use Rattle.plan_base.specs.WellFormed.{has_from_to, well_formed_text, well_formed_type}
use Rattle.plan_types_spec.specs.Typing.{Ctx, literal_type, HasTy, HaveTys}
use Rattle.plan_types_spec.specs.Typing as y
use Rattle.plan_types_spec.specs.TypingNames.{place_of, service_of, binding, param_types, prim_of}
use Rattle.plan_lexer.specs.declared.token.Key.TheVariants as key
use Rattle.program_text_laws.specs.Proper.{AreBytes, IsPartCount, base_key, IsProperType, AreProperTypes, IsReadableType, IsProper, AreProper, AllProper}
use Rattle.program_text_laws.specs.Proper as p
use Rattle.program_text_laws.proofs.TreeSizes.{TypeFits, host_fits, bool_fits, int_fits, blob_fits, unit_fits, str_fits, TypesFit, no_types_fit, and_type_fits, tuple_type_fits, Fits, AllFit, no_parts_fit, and_fits, wider}
use Rattle.program_text_laws.proofs.TreeSizes.{var_fits, number_fits, bytes_fit, text_fits, not_fits, tuple_fits, call_fits, packing_fits, choice_fits, remote_fits}

-- ---- types

-- a type of at most m bytes and at most so deep, which is read again
pub record BuiltType (t : Ty) (m d : ℕ) : Type 0 where
  pub fits : TypeFits t m d
  pub shallow : d ≤ 8
  pub proper : IsProperType t

pub type_formed : (t : Ty) {m d : ℕ} → BuiltType t m d → well_formed_type t ≡ true
unfolding well_formed_type
type_formed t h = λ i. h.fits.formed i && le-leb (type_depth t) 8 (omega (arith, h.fits.depth, h.shallow)) i

pub type_readable : (t : Ty) {m d : ℕ} → BuiltType t m d → IsReadableType t
type_readable t h = (h.proper, omega (arith, h.fits.depth, h.shallow))

-- so of types, in sum
pub record BuiltTypes (ts : List Ty) (m d : ℕ) : Type 0 where
  pub fits : TypesFit ts m d
  pub proper : AreProperTypes ts
  pub formed : list_all well_formed_type ts ≡ true
  pub readable : AllProper IsReadableType ts

one_deep : 1 ≤ 8
one_deep = omega arith

pub unit_type : BuiltType ty.Unit 1 1
unit_type = record { fits = unit_fits; shallow = one_deep; proper = p.base key.Unit (ap base_key ty.outs-Unit) }

pub bool_type : BuiltType ty.Bool 1 1
bool_type = record { fits = bool_fits; shallow = one_deep; proper = p.base key.Bool (ap base_key ty.outs-Bool) }

pub int_type : BuiltType ty.Int 1 1
int_type = record { fits = int_fits; shallow = one_deep; proper = p.base key.Int (ap base_key ty.outs-Int) }

pub str_type : BuiltType ty.Str 1 1
str_type = record { fits = str_fits; shallow = one_deep; proper = p.base key.Str (ap base_key ty.outs-Str) }

pub blob_type : BuiltType ty.Blob 1 1
blob_type = record { fits = blob_fits; shallow = one_deep; proper = p.base key.Blob (ap base_key ty.outs-Blob) }

pub host_type : BuiltType ty.Host 1 1
host_type = record { fits = host_fits; shallow = one_deep; proper = p.base key.Host (ap base_key ty.outs-Host) }

pub no_types : BuiltTypes [] 0 0
no_types = record { fits = no_types_fit; proper = p.no_types; formed = refl; readable = tt }

pub and_type : {t : Ty} {ts : List Ty} {m n d k : ℕ} → BuiltType t m d → BuiltTypes ts n k → BuiltTypes (t ∷ ts) (m + n) (max d k)
and_type {t = t} {ts = ts} {m = m} {n = n} {d = d} {k = k} h j = record {
  fits = and_type_fits t ts m n d k h.fits j.fits;
  proper = p.and_type h.proper j.proper;
  formed = λ i. type_formed t h i && j.formed i;
  readable = (type_readable t h, j.readable);
}

-- a count of parts, as it is tested
part_count : {X : Type 0} (xs : List X) → has_from_to 2 8 xs ≡ true → IsPartCount (length xs)
part_count xs h = (leb-true 2 (length xs) (left _ _ h), leb-true (length xs) 8 (right (nat_le 2 (length xs)) _ h))

pub tuple_type : (ts : List Ty) {m d : ℕ} → has_from_to 2 8 ts ≡ true → BuiltTypes ts m d → d + 1 ≤ 8 → BuiltType (ty.Tuple ts) (m + 2) (d + 1)
tuple_type ts {m = m} {d = d} few h w = record { fits = tuple_type_fits ts m d few h.fits; shallow = w; proper = p.tuple ts (ty.outs-Tuple ts) (part_count ts few) h.proper }

-- ---- expressions

module _ (code : Program) (seen : ℕ) (c : Ctx) where
  -- an expression of a type, of at most m bytes and at most so deep, which is read again
  pub record Built (e : Expr) (t : Ty) (m d : ℕ) : Type 0 where
    pub typed : HasTy code seen c e t
    pub fits : Fits e m d
    pub proper : IsProper e

  pub record AreBuilt (es : List Expr) (ts : List Ty) (m d : ℕ) : Type 0 where
    pub typed : HaveTys code seen c es ts
    pub fits : AllFit es m d
    pub proper : AreProper es

  pub none_built : AreBuilt [] [] 0 0
  none_built = record { typed = y.no_parts; fits = no_parts_fit; proper = p.no_parts }

  pub and_built : {e : Expr} {es : List Expr} {t : Ty} {ts : List Ty} {m n d k : ℕ} → Built e t m d → AreBuilt es ts n k → AreBuilt (e ∷ es) (t ∷ ts) (m + n) (max d k)
  and_built {e = e} {es = es} {m = m} {n = n} {d = d} {k = k} h j = record { typed = y.and_part h.typed j.typed; fits = and_fits e es m n d k h.fits j.fits; proper = p.and_part h.proper j.proper }

  pub var_built : (v : Name) {t : Ty} → IsName v → binding v c ≡ Some t → Built (x.Var v) t (length v + 2) 1
  var_built v n b = record { typed = y.variable v (x.outs-Var v) b; fits = var_fits v; proper = p.var v (x.outs-Var v) n }

  pub int_built : (z : ℤ) → FitsSigned w64 z → Built (x.Int z) ty.Int 9 1
  int_built z h = record { typed = y.literal (ap literal_type (x.outs-Int z)); fits = number_fits z; proper = p.int z (x.outs-Int z) h }

  pub text_built : (s : List ℕ) → well_formed_text s ≡ true → Built (x.Str s) ty.Str (length s + 3) 1
  unfolding well_formed_text
  text_built s h = record { typed = y.literal (ap literal_type (x.outs-Str s)); fits = text_fits s h; proper = p.str s (x.outs-Str s) (IsUtf8-from_is_utf8 s (left _ _ h)) }

  pub bytes_built : (b : List ℕ) → AreBytes b → length b ≤ 65535 → Built (x.Blob b) ty.Blob (length b + 3) 1
  bytes_built b h l = record { typed = y.literal (ap literal_type (x.outs-Blob b)); fits = bytes_fit b l; proper = p.blob b (x.outs-Blob b) h }

  pub tuple_built : (es : List Expr) (ts : List Ty) {m d n k : ℕ} → has_from_to 2 8 es ≡ true → BuiltType (ty.Tuple ts) n k → AreBuilt es ts m d → Built (x.Tuple es) (ty.Tuple ts) (m + 2) (d + 1)
  tuple_built es ts {m = m} {d = d} few u h = record {
    typed = y.tuple es ts (x.outs-Tuple es) h.typed refl (omega (arith, u.fits.depth, u.shallow));
    fits = tuple_fits es m d few h.fits;
    proper = p.tuple es (x.outs-Tuple es) (part_count es few) h.proper;
  }

  pub serving_built : (f : Name) (es : List Expr) (s : Svc) {m d : ℕ} → IsName f → nat_le (length es) 8 ≡ true → prim_of f ≡ None → service_of f code.svcs ≡ Some s → AreBuilt es s.params m d
      → Built (x.Call f es) s.result (m + length f + 3) (d + 1)
  serving_built f es s {m = m} {d = d} n few own is h = record {
    typed = y.serving f es s (x.outs-Call f es) own is h.typed refl;
    fits = call_fits f es m d few h.fits;
    proper = p.call f es (x.outs-Call f es) n (leb-true (length es) 8 few) h.proper;
  }

  pub packing_built : (f : Name) (es : List Expr) (at : ℕ) (g : Fun) {m d : ℕ} → IsName f → nat_le (length es) 8 ≡ true → place_of f code.funs ≡ Some at → slice_get code.funs at ≡ Some g
      → AreBuilt es (param_types g.params) m d → Built (x.ChunkOf f es) ty.Chunk (m + length f + 3) (d + 1)
  packing_built f es at g {m = m} {d = d} n few at_place is h = record {
    typed = y.packing f es at g (x.outs-ChunkOf f es) at_place is h.typed refl;
    fits = packing_fits f es m d few h.fits;
    proper = p.packing f es (x.outs-ChunkOf f es) n (leb-true (length es) 8 few) h.proper;
  }

  pub not_built : {a : Expr} {m d : ℕ} → Built a ty.Bool m d → Built (x.Not a) ty.Bool (m + 1) (d + 1)
  not_built {a = a} {m = m} {d = d} h = record { typed = y.negation a (x.outs-Not a) h.typed refl; fits = not_fits a m d h.fits; proper = p.negation a (x.outs-Not a) h.proper }

  pub choice_built : {a b e : Expr} {t : Ty} {m n k d i j : ℕ} → Built a ty.Bool m d → Built b t n i → Built e t k j → Built (x.If a b e) t (m + n + k + 1) (max d (max i j) + 1)
  choice_built {a = a} {b = b} {e = e} {m = m} {n = n} {k = k} {d = d} {i = i} {j = j} u v w =
      let most : ℕ = max d (max i j) in
      record {
        typed = y.choice a b e (x.outs-If a b e) u.typed v.typed w.typed;
        fits = choice_fits a b e m n k most (wider a m d m most u.fits (omega arith) (omega arith)) (wider b n i n most v.fits (omega arith) (omega arith)) (wider e k j k most w.fits (omega arith) (omega arith));
        proper = p.choice a b e (x.outs-If a b e) u.proper v.proper w.proper;
      }

  pub remote_built : {a h n : Expr} (r : Name) {m k l d i j : ℕ} → IsName r → Built a ty.Chunk m d → Built h ty.Host k i → Built n ty.Int l j
      → Built (x.OnRemote a h n r) ty.Unit (m + k + l + length r + 2) (max d (max i j) + 1)
  remote_built {a = a} {h = h} {n = n} r {m = m} {k = k} {l = l} {d = d} {i = i} {j = j} q u v w =
      let most : ℕ = max d (max i j) in
      record {
        typed = y.remote a h n r (x.outs-OnRemote a h n r) u.typed v.typed w.typed refl;
        fits = remote_fits a h n r m k l most (wider a m d m most u.fits (omega arith) (omega arith)) (wider h k i k most v.fits (omega arith) (omega arith)) (wider n l j l most w.fits (omega arith) (omega arith));
        proper = p.remote a h n r (x.outs-OnRemote a h n r) u.proper v.proper w.proper q;
      }
