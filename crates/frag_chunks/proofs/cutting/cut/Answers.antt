use Rattle.std.proofs.Common.{◌≡◌, ap, ◌∙◌, w64, to_z, of_z}
use Rattle.std.proofs.lemmas.Int.{to_z-of_z}
use Rattle.plan_meaning.specs.Meaning.{bound_of}
use Rattle.frag_chunks.specs.Parts.{address}
use Rattle.frag_chunks.proofs.Shares.{parts_are, bounds_all, bound_is}
use Rattle.frag_chunks.proofs.cutting.cut.Goals as goal

pub returns-clause-parts : goal.returns-clause-parts
returns-clause-parts c =
    let bound : c.in-Some.bound ≡ bound_of c.args.n =
    bound_is (to_z w64 (of_z w64 c.args.n)) c.args.purse.now c.in-Some.bound c.in-Some.ensures.value ∙ ap bound_of (to_z-of_z w64 c.args.n c.ranges.n) in
    let to = ap (λ k. address c.args.dest c.args.port k) (to_z-of_z w64 c.args.key c.ranges.key) in
    let bytes = c.as_slice.ensures in
    let parts = c.in_ok-parts.ensures in
    let said = parts_are c.in_ok-code.code c.args.n c.args.dest c.args.port c.args.key c.args.bytes.now c.in_ok-code.ensures.text in
    cc

pub returns-clause-sum : goal.returns-clause-sum
returns-clause-sum c =
    let bound : c.in-Some.bound ≡ bound_of c.args.n =
    bound_is (to_z w64 (of_z w64 c.args.n)) c.args.purse.now c.in-Some.bound c.in-Some.ensures.value ∙ ap bound_of (to_z-of_z w64 c.args.n c.ranges.n) in
    let to = ap (λ k. address c.args.dest c.args.port k) (to_z-of_z w64 c.args.key c.ranges.key) in
    let bytes = c.as_slice.ensures in
    let parts = c.in_ok-parts.ensures in
    let sum = bounds_all c.in_ok-code.code c.in-Some.bound (address c.args.dest c.args.port c.args.key) c.args.bytes.now c.requires.message in
    cc
