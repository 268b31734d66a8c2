-- Hosts, ints and blobs are well formed and lack no types.
use Rattle.std.proofs.Common.{◌≡◌, ℕ, ℤ, ◌≤◌, true, ◌&&◌, List, length, nat_le, refl, ap, ◌∙◌, arith}
use Rattle.std.proofs.lemmas.Bool.Decides.{nat_tests}
use Rattle.plan_base.specs.declared.ids.Host.{Host}
use Rattle.plan_base.specs.declared.tree.Value.{Value, out-Value}
use Rattle.plan_base.specs.declared.tree.Value.TheVariants as value
use Rattle.plan_base.specs.declared.tree.Value.TheOpen.{Value-F}
use Rattle.plan_base.specs.Trees.{ValueLayer}
use Rattle.plan_base.specs.Sizes.{nesting, nesting_level, chunk_nesting, value_depth, value_depth_level}
use Rattle.plan_base.specs.WellFormed.{formed_value, formed_value_level, formed_chunk, well_formed_value, typed_value_level, value_has_types, chunk_has_types}
use Rattle.plan_base.proofs.SizeLaws.{nesting_out, value_depth_out}
use Rattle.plan_base.proofs.FormLaws.{formed_value_out, value_has_types_out}

-- a value without parts
formed_leaf : (v : Value) (l : ValueLayer) → out-Value v ≡ l → nesting_level nesting chunk_nesting l ≡ 0 → value_depth_level value_depth l ≡ 0
    → formed_value_level formed_value formed_chunk l ≡ true → well_formed_value v ≡ true
unfolding well_formed_value
formed_leaf v l e n d f =
    (λ i. (formed_value_out v ∙ (ap (λ x. formed_value_level formed_value formed_chunk x) e ∙ f)) i
    && (nat_le ((value_depth_out v ∙ (ap (λ x. value_depth_level value_depth x) e ∙ d)) i) 8 && nat_le ((nesting_out v ∙ (ap (λ x. nesting_level nesting chunk_nesting x) e ∙ n)) i) 4))

full_leaf : (v : Value) (l : ValueLayer) → out-Value v ≡ l → typed_value_level value_has_types chunk_has_types l ≡ true → value_has_types v ≡ true
full_leaf v l e t = value_has_types_out v ∙ ap (λ x. typed_value_level value_has_types chunk_has_types x) e ∙ t

pub host_formed : (h : Host) → well_formed_value (value.Host h) ≡ true
host_formed h = formed_leaf (value.Host h) (Value-F.Host h) (value.outs-Host h) refl refl refl

pub int_formed : (z : ℤ) → well_formed_value (value.Int z) ≡ true
int_formed z = formed_leaf (value.Int z) (Value-F.Int z) (value.outs-Int z) refl refl refl

pub blob_formed : (b : List ℕ) → length b ≤ 65535 → well_formed_value (value.Blob b) ≡ true
blob_formed b h = let t : nat_le (length b) 65535 ≡ true = grind (arith, nat_tests) in formed_leaf (value.Blob b) (Value-F.Blob b) (value.outs-Blob b) refl refl t

pub host_full : (h : Host) → value_has_types (value.Host h) ≡ true
host_full h = full_leaf (value.Host h) (Value-F.Host h) (value.outs-Host h) refl

pub int_full : (z : ℤ) → value_has_types (value.Int z) ≡ true
int_full z = full_leaf (value.Int z) (Value-F.Int z) (value.outs-Int z) refl

pub blob_full : (b : List ℕ) → value_has_types (value.Blob b) ≡ true
blob_full b = full_leaf (value.Blob b) (Value-F.Blob b) (value.outs-Blob b) refl
