use Rattle.std.proofs.Common.{◌≡◌, ◌++◌, ◌-◌}
use Rattle.frag_chunks.specs.Parts.{parts_from}
use Rattle.frag_chunks.proofs.cutting.parts_of.Given as goal

abbrev pub invariant-loop-index : goal.invariant-loop-index
invariant-loop-index l =
    l.parts ++ parts_from l.code l.bound l.to l.bytes l.count l.index (l.count - l.index)
    ≡ parts_from l.code l.bound l.to l.bytes l.count 0 l.count
