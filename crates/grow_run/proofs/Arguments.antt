-- Hosts as arguments are well formed and lack no types.
use Rattle.std.proofs.Common.{◌≡◌, true, ◌&&◌, List, [], ◌∷◌, IsTrue, ap, ◌∙◌}
use Rattle.std.specs.List.{list_all}
use Rattle.plan_base.specs.declared.ids.Host.{Host}
use Rattle.plan_base.specs.declared.tree.Value.{Value}
use Rattle.plan_base.specs.declared.tree.Value.TheVariants as value
use Rattle.plan_base.specs.WellFormed.{well_formed_value, typed_value_level, value_has_types, chunk_has_types}
use Rattle.plan_base.proofs.FormLaws.{value_has_types_out}
use Rattle.service_registry_spec.proofs.Leaves.{good_host}

host_full : (h : Host) → value_has_types (value.Host h) ≡ true
host_full h = value_has_types_out (value.Host h) ∙ ap (λ l. typed_value_level value_has_types chunk_has_types l) (value.outs-Host h)

pub hosts_formed : (a b : Host) (vs : List Value) → vs ≡ value.Host a ∷ value.Host b ∷ [] → IsTrue (list_all well_formed_value vs)
hosts_formed a b vs is = ap (list_all well_formed_value) is ∙ (λ i. (good_host a).formed i && ((good_host b).formed i && true))

pub hosts_full : (a b : Host) (vs : List Value) → vs ≡ value.Host a ∷ value.Host b ∷ [] → IsTrue (list_all value_has_types vs)
hosts_full a b vs is = ap (list_all value_has_types) is ∙ (λ i. host_full a i && (host_full b i && true))
