use Rattle.std.proofs.Common.{◌++◌, ◌+◌, ◌-◌, List, ap, ◌∙◌, [], ◌∷◌}
use Rattle.frag_chunks.specs.declared.cutting.Part.{Part}
use Rattle.frag_chunks.specs.Parts.{parts_from}
use Rattle.frag_chunks.proofs.Shares.{part_step}
use Rattle.frag_chunks.proofs.cutting.parts_of.Goals as goal

pub loop-index-preserved : goal.loop-index-preserved
loop-index-preserved c =
    let rest : List Part = parts_from c.args.code.now c.args.bound c.args.to.now c.args.bytes.now c.count_of-count.result (c.loop-index.index + 1) (c.count_of-count.result - (c.loop-index.index + 1)) in
    ap (λ ps. ps ++ rest) (c.in_ok-add.ensures.ok ∙ ap (λ p. c.loop-index.parts ++ p ∷ []) c.in_ok-part.ensures)
    ∙ part_step c.args.code.now c.args.bound c.args.to.now c.args.bytes.now c.count_of-count.result c.loop-index.index c.loop-index.parts _ c.loop-index.invariant c.loop-index-test.true
