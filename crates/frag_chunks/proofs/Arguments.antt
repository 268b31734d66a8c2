-- The arguments of a part are well formed and lack no types.
use Rattle.std.proofs.Common.{◌≡◌, ℕ, ◌≤◌, true, ◌&&◌, List, IsTrue, length, pos, ap, ◌∙◌, arith}
use Rattle.std.specs.List.{list_all}
use Rattle.plan_base.specs.declared.tree.Value.{Value}
use Rattle.plan_base.specs.WellFormed.{well_formed_value, value_has_types}
use Rattle.plan_base.proofs.Leaves.{host_formed, int_formed, blob_formed, host_full, int_full, blob_full}
use Rattle.frag_chunks.specs.declared.cutting.PartId.{PartId}
use Rattle.frag_chunks.specs.Parts.{part_args}

pub args_formed : (a : PartId) (i m : ℕ) (p : List ℕ) (vs : List Value) → vs ≡ part_args a i m p → length p ≤ 8192 → IsTrue (list_all well_formed_value vs)
args_formed a i m p vs e h =
    let l : length p ≤ 65535 = omega arith in
    ap (list_all well_formed_value) e
    ∙ (λ t. host_formed a.dest t && (int_formed (pos a.port) t && (int_formed a.key t && (int_formed (pos i) t && (int_formed (pos m) t && (blob_formed p l t && true))))))

pub args_full : (a : PartId) (i m : ℕ) (p : List ℕ) (vs : List Value) → vs ≡ part_args a i m p → IsTrue (list_all value_has_types vs)
args_full a i m p vs e =
    ap (list_all value_has_types) e
    ∙ (λ t. host_full a.dest t && (int_full (pos a.port) t && (int_full a.key t && (int_full (pos i) t && (int_full (pos m) t && (blob_full p t && true))))))
