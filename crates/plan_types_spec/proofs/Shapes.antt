-- What a value of a type looks like.
use Rattle.std.proofs.Common.{◌≡◌, ℕ, Bool, ℤ, List, sym, ap, ◌∙◌, subst}
use Rattle.plan_base.specs.declared.ids.Host.{Host}
use Rattle.plan_base.specs.declared.ids.Dev.{Dev}
use Rattle.plan_base.specs.declared.tree.Ty.{Ty, Ty-F, out-Ty}
use Rattle.plan_base.specs.declared.tree.Ty.TheVariants as ty
use Rattle.plan_base.specs.declared.tree.Value.{Value, Value-F, out-Value}
use Rattle.plan_base.specs.declared.tree.Chunk.{Chunk}
use Rattle.plan_base.specs.Trees.{ValueLayer}
use Rattle.plan_types_spec.specs.Typing.{HasType, unit, bool, int, char, str, blob, host, dev, list, tuple, chunk, HaveTypes, AllHaveType, IsTypedChunk}

abbrev pub Shape : Ty-F Ty → ValueLayer → Type 0
Shape Ty-F.Unit l = l ≡ Value-F.Unit
Shape Ty-F.Bool l = (b : Bool) × (l ≡ Value-F.Bool b)
Shape Ty-F.Int l = (n : ℤ) × (l ≡ Value-F.Int n)
Shape Ty-F.Char l = (n : ℕ) × (l ≡ Value-F.Char n)
Shape Ty-F.Str l = (s : List ℕ) × (l ≡ Value-F.Str s)
Shape Ty-F.Blob l = (b : List ℕ) × (l ≡ Value-F.Blob b)
Shape Ty-F.Host l = (h : Host) × (l ≡ Value-F.Host h)
Shape Ty-F.Dev l = (d : Dev) × (l ≡ Value-F.Dev d)
Shape Ty-F.Chunk l = (k : Chunk) × (l ≡ Value-F.Chunk k) × IsTypedChunk k
Shape (Ty-F.List u) l = (vs : List Value) × (l ≡ Value-F.List u vs) × AllHaveType u vs
Shape (Ty-F.Tuple ts) l = (vs : List Value) × (l ≡ Value-F.Tuple vs) × HaveTypes vs ts

at : (v : Value) (t u : Ty) (l : Ty-F Ty) → t ≡ u → out-Ty u ≡ l → Shape l (out-Value v) → Shape (out-Ty t) (out-Value v)
at v t u l e o h = subst (λ x. Shape x (out-Value v)) (sym (ap out-Ty e ∙ o)) h

pub shape_of : {v : Value} {t : Ty} → HasType v t → Shape (out-Ty t) (out-Value v)
shape_of (unit o e) = at _ _ _ _ e ty.outs-Unit o
shape_of (bool b o e) = at _ _ _ _ e ty.outs-Bool (b, o)
shape_of (int n o e) = at _ _ _ _ e ty.outs-Int (n, o)
shape_of (char n o e) = at _ _ _ _ e ty.outs-Char (n, o)
shape_of (str s o e) = at _ _ _ _ e ty.outs-Str (s, o)
shape_of (blob b o e) = at _ _ _ _ e ty.outs-Blob (b, o)
shape_of (host h o e) = at _ _ _ _ e ty.outs-Host (h, o)
shape_of (dev d o e) = at _ _ _ _ e ty.outs-Dev (d, o)
shape_of (list u vs o e h) = at _ _ _ _ e (ty.outs-List u) (vs, o, h)
shape_of (tuple vs ts o e h) = at _ _ _ _ e (ty.outs-Tuple ts) (vs, o, h)
shape_of (chunk k o e h) = at _ _ _ _ e ty.outs-Chunk (k, o, h)

-- at a type whose level is known
pub shape_at : {v : Value} (t : Ty) (l : Ty-F Ty) → out-Ty t ≡ l → HasType v t → Shape l (out-Value v)
shape_at {v} t l o h = subst (λ x. Shape x (out-Value v)) o (shape_of h)
