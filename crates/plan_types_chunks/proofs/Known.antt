-- Code that was checked is not checked again.
use Rattle.std.proofs.Common.{◌≡◌, ap}
use Rattle.plan_base.specs.declared.tree.Chunk.{Chunk}
use Rattle.plan_types_spec.proofs.Programs.{annotated_complete, fills_itself, depths_kept}
use Rattle.checked_chunks.specs.Kept.{IsChecked}
use Rattle.plan_types_chunks.specs.Chunks.{ill_call, ill_code, right, illness}

-- what is wrong with a chunk of checked code comes after the code
pub known_passes : (c : Chunk) → IsChecked c.code → illness c ≡ ill_call right c.code c.entry c.args
unfolding illness
known_passes c k = ap (λ r. ill_code r (ill_call right c.code c.entry c.args)) (annotated_complete c.code c.code (depths_kept c.code k.formed) (fills_itself c.code k.typed) k.typed)
