-- Chunks of programs that are given by their trees are typed.
use Rattle.std.proofs.Common.{◌≡◌, ℕ, ℤ, ◌+◌, ◌≤◌, List, [], ◌∷◌, length, Some, refl, ap, ◌∙◌, arith}
use Rattle.std.specs.Prelude.{slice_get}
use Rattle.std.specs.List.{sum_by}
use Rattle.std.proofs.lemmas.List.Sums.{sum_by-cons}
use Rattle.plan_base.specs.declared.ids.Host.{Host}
use Rattle.plan_base.specs.declared.name.Name.{Name}
use Rattle.plan_base.specs.declared.tree.Ty.{Ty}
use Rattle.plan_base.specs.declared.tree.Ty.TheVariants as ty
use Rattle.plan_base.specs.declared.tree.Fun.{Fun}
use Rattle.plan_base.specs.declared.tree.Program.{Program}
use Rattle.plan_base.specs.declared.tree.Value.{Value, Value-F, out-Value}
use Rattle.plan_base.specs.declared.tree.Value.TheVariants as value
use Rattle.plan_base.specs.declared.tree.Chunk.{Chunk}
use Rattle.plan_base.specs.Trees.{ValueLayer}
use Rattle.plan_base.specs.Sizes.{largest_by, weight_level, weight, chunk_weight, nesting_level, nesting, chunk_nesting}
use Rattle.plan_base.proofs.SizeLaws.{weight_out, nesting_out, chunk_weight_is, chunk_nesting_is}
use Rattle.plan_types_spec.specs.Typing.{HaveTypes, IsTypedChunk}
use Rattle.plan_types_spec.specs.Typing as y
use Rattle.plan_types_spec.specs.TypingNames.{place_of, param_types}
use Rattle.program_text_laws.proofs.TypesRead.{largest_cons}
use Rattle.program_text_laws.proofs.BuiltPrograms.{BuiltProgram}

-- arguments of these types that weigh at most m and hold no chunk
pub record BuiltArgs (vs : List Value) (ts : List Ty) (m : ℕ) : Type 0 where
  pub types : HaveTypes vs ts
  pub weighs : sum_by weight vs ≤ m
  pub nests : largest_by nesting vs ≤ 0

pub no_args : BuiltArgs [] [] 0
no_args = record { types = y.no_values; weighs = omega arith; nests = omega arith }

-- a value without parts weighs m
record IsLeaf (v : Value) (m : ℕ) : Type 0 where
  weighs : weight v ≡ m
  nests : nesting v ≡ 0

leaf : (v : Value) (l : ValueLayer) (m : ℕ) → out-Value v ≡ l → weight_level weight chunk_weight l ≡ m → nesting_level nesting chunk_nesting l ≡ 0 → IsLeaf v m
leaf v l m o w n = record { weighs = weight_out v ∙ (ap (λ x. weight_level weight chunk_weight x) o ∙ w); nests = nesting_out v ∙ (ap (λ x. nesting_level nesting chunk_nesting x) o ∙ n) }

and_leaf : (v : Value) (t : Ty) {vs : List Value} {ts : List Ty} {m n : ℕ} → y.HasType v t → IsLeaf v m → BuiltArgs vs ts n → BuiltArgs (v ∷ vs) (t ∷ ts) (m + n)
and_leaf v t {vs = vs} h l b = record {
  types = y.and_value h b.types;
  weighs = omega (arith, sum_by-cons weight v vs, l.weighs, b.weighs);
  nests = omega (arith, largest_cons nesting v vs, l.nests, b.nests);
}

pub and_host : (h : Host) {vs : List Value} {ts : List Ty} {n : ℕ} → BuiltArgs vs ts n → BuiltArgs (value.Host h ∷ vs) (ty.Host ∷ ts) (5 + n)
and_host h b = and_leaf (value.Host h) ty.Host (y.host h (value.outs-Host h) refl) (leaf (value.Host h) (Value-F.Host h) 5 (value.outs-Host h) refl refl) b

pub and_int : (z : ℤ) {vs : List Value} {ts : List Ty} {n : ℕ} → BuiltArgs vs ts n → BuiltArgs (value.Int z ∷ vs) (ty.Int ∷ ts) (9 + n)
and_int z b = and_leaf (value.Int z) ty.Int (y.int z (value.outs-Int z) refl) (leaf (value.Int z) (Value-F.Int z) 9 (value.outs-Int z) refl refl) b

pub and_blob : (d : List ℕ) {vs : List Value} {ts : List Ty} {n : ℕ} → BuiltArgs vs ts n → BuiltArgs (value.Blob d ∷ vs) (ty.Blob ∷ ts) (3 + length d + n)
and_blob d b = and_leaf (value.Blob d) ty.Blob (y.blob d (value.outs-Blob d) refl) (leaf (value.Blob d) (Value-F.Blob d) (3 + length d) (value.outs-Blob d) refl refl) b

-- a chunk of a program
abbrev chunk_by : Program → Name → List Value → Chunk
chunk_by code entry vs = record { code = code; entry = entry; args = vs }

pub chunk_typed : (code : Program) (entry : Name) (vs : List Value) (at : ℕ) (f : Fun) {m n : ℕ} → BuiltProgram code m → place_of entry code.funs ≡ Some at → slice_get code.funs at ≡ Some f
    → BuiltArgs vs (param_types f.params) n → 3 + m + length entry + n ≤ 16384 → IsTypedChunk (record { code = code; entry = entry; args = vs })
chunk_typed code entry vs at f p here is b l =
    y.within at f p.checked.typed here is b.types
    (omega (arith, chunk_nesting_is (chunk_by code entry vs), b.nests))
    (omega (arith, chunk_weight_is (chunk_by code entry vs), p.size, b.weighs, l))
