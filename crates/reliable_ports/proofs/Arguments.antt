-- The arguments of a message and of an ack are well formed and lack no types.
use Rattle.std.proofs.Common.{◌≡◌, ℕ, ℤ, ◌≤◌, true, ◌&&◌, List, IsTrue, length, ap, ◌∙◌, arith}
use Rattle.std.specs.List.{list_all}
use Rattle.plan_base.specs.declared.ids.Host.{Host}
use Rattle.plan_base.specs.declared.tree.Value.{Value}
use Rattle.plan_base.specs.WellFormed.{well_formed_value, value_has_types}
use Rattle.plan_base.proofs.Leaves.{host_formed, int_formed, blob_formed, host_full, int_full, blob_full}
use Rattle.reliable_ports.specs.Programs.{data_args, ack_args}

pub data_formed : (h : Host) (seq : ℤ) (b : List ℕ) (vs : List Value) → vs ≡ data_args h seq b → length b ≤ 4096 → IsTrue (list_all well_formed_value vs)
data_formed h seq b vs e s =
    let l : length b ≤ 65535 = omega (arith, s) in
    ap (list_all well_formed_value) e ∙ (λ t. host_formed h t && (int_formed seq t && (blob_formed b l t && true)))

pub data_full : (h : Host) (seq : ℤ) (b : List ℕ) (vs : List Value) → vs ≡ data_args h seq b → IsTrue (list_all value_has_types vs)
data_full h seq b vs e = ap (list_all value_has_types) e ∙ (λ t. host_full h t && (int_full seq t && (blob_full b t && true)))

pub ack_formed : (h : Host) (next : ℤ) (vs : List Value) → vs ≡ ack_args h next → IsTrue (list_all well_formed_value vs)
ack_formed h next vs e = ap (list_all well_formed_value) e ∙ (λ t. host_formed h t && (int_formed next t && true))

pub ack_full : (h : Host) (next : ℤ) (vs : List Value) → vs ≡ ack_args h next → IsTrue (list_all value_has_types vs)
ack_full h next vs e = ap (list_all value_has_types) e ∙ (λ t. host_full h t && (int_full next t && true))
