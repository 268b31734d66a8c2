-- Values without parts are good.
use Rattle.std.proofs.Common.{◌≡◌, ℕ, ℤ, ◌≤◌, Bool, true, ◌&&◌, nat_le, refl, ap, sym, ◌∙◌, subst, lit≤}
use Rattle.plan_base.specs.declared.ids.Host.{Host}
use Rattle.plan_base.specs.declared.ids.Dev.{Dev}
use Rattle.plan_base.specs.declared.tree.Ty.{Ty}
use Rattle.plan_base.specs.declared.tree.Ty.TheVariants as ty
use Rattle.plan_base.specs.declared.tree.Value.{Value, out-Value}
use Rattle.plan_base.specs.declared.tree.Value.TheVariants as value
use Rattle.plan_base.specs.declared.tree.Value.TheOpen.{Value-F}
use Rattle.plan_base.specs.Trees.{ValueLayer}
use Rattle.plan_base.specs.Sizes.{weight, nesting, weight_level, nesting_level, chunk_weight, chunk_nesting, value_depth, value_depth_level}
use Rattle.plan_base.specs.WellFormed.{formed_value, formed_value_level, formed_chunk, well_formed_value}
use Rattle.plan_base.proofs.SizeLaws.{weight_out, nesting_out, value_depth_out}
use Rattle.plan_base.proofs.FormLaws.{formed_value_out}
use Rattle.plan_types_spec.specs.Typing.{HasType, unit, bool, int, host, dev}
use Rattle.service_api.specs.Services.{IsGoodValue}

-- the sizes of a value by its level
pub record Sized (v : Value) (w d : ℕ) : Type 0 where
  pub weighs : weight v ≡ w
  pub nests : nesting v ≡ 0
  pub deep : value_depth v ≡ d
  pub formed : formed_value v ≡ true

pub good_sized : (t : Ty) (v : Value) (w d : ℕ) → HasType v t → Sized v w d → w ≤ 16384 → nat_le d 8 ≡ true → IsGoodValue t v
unfolding well_formed_value
good_sized t v w d h s l k = record {
  typed = h;
  small = record { weighs = subst (λ x. x ≤ 16384) (sym s.weighs) l; nests = subst (λ x. x ≤ 4) (sym s.nests) (lit≤ tt) };
  formed = (λ i. s.formed i && (nat_le (s.deep i) 8 && nat_le (s.nests i) 4)) ∙ ap (λ b. b && true) k;
}

leaf : (v : Value) (l : ValueLayer) (w : ℕ) → out-Value v ≡ l → weight_level weight chunk_weight l ≡ w → nesting_level nesting chunk_nesting l ≡ 0 → value_depth_level value_depth l ≡ 0
    → formed_value_level formed_value formed_chunk l ≡ true → Sized v w 0
leaf v l w e a b c d = record {
  weighs = weight_out v ∙ (ap (λ x. weight_level weight chunk_weight x) e ∙ a);
  nests = nesting_out v ∙ (ap (λ x. nesting_level nesting chunk_nesting x) e ∙ b);
  deep = value_depth_out v ∙ (ap (λ x. value_depth_level value_depth x) e ∙ c);
  formed = formed_value_out v ∙ (ap (λ x. formed_value_level formed_value formed_chunk x) e ∙ d);
}

pub sized_host : (h : Host) → Sized (value.Host h) 5 0
sized_host h = leaf (value.Host h) (Value-F.Host h) 5 (value.outs-Host h) refl refl refl refl

pub sized_dev : (d : Dev) → Sized (value.Dev d) 5 0
sized_dev d = leaf (value.Dev d) (Value-F.Dev d) 5 (value.outs-Dev d) refl refl refl refl

pub good_unit : IsGoodValue ty.Unit value.Unit
good_unit = good_sized ty.Unit value.Unit 1 0 (unit value.outs-Unit refl) (leaf value.Unit Value-F.Unit 1 value.outs-Unit refl refl refl refl) (lit≤ tt) refl

pub good_bool : (b : Bool) → IsGoodValue ty.Bool (value.Bool b)
good_bool b = good_sized ty.Bool (value.Bool b) 2 0 (bool b (value.outs-Bool b) refl) (leaf (value.Bool b) (Value-F.Bool b) 2 (value.outs-Bool b) refl refl refl refl) (lit≤ tt) refl

pub good_int : (z : ℤ) → IsGoodValue ty.Int (value.Int z)
good_int z = good_sized ty.Int (value.Int z) 9 0 (int z (value.outs-Int z) refl) (leaf (value.Int z) (Value-F.Int z) 9 (value.outs-Int z) refl refl refl refl) (lit≤ tt) refl

pub good_host : (h : Host) → IsGoodValue ty.Host (value.Host h)
good_host h = good_sized ty.Host (value.Host h) 5 0 (host h (value.outs-Host h) refl) (sized_host h) (lit≤ tt) refl

pub type_host : (h : Host) → HasType (value.Host h) ty.Host
type_host h = host h (value.outs-Host h) refl

pub type_dev : (d : Dev) → HasType (value.Dev d) ty.Dev
type_dev d = dev d (value.outs-Dev d) refl
