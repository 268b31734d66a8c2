use Rattle.std.proofs.Common.{◌≡◌, ◌++◌, ◌+◌, ◌-◌, ◌≤◌, length, IsTrue}
use Rattle.node_io.specs.FileStates.{OnlyReads}
use Rattle.node_io.proofs.read.read_rest.Given as goal

abbrev pub invariant-loop-bytes : goal.invariant-loop-bytes
invariant-loop-bytes g l =
    let old = g.F.Files.state l.initial.files in
    let now = g.F.Files.state l.files in
    record {
      begun : IsTrue now.reading;
      few : length l.bytes ≤ l.limit + 1;
      only : OnlyReads old now;
      asked : now.asked ≡ old.asked;
      whole : IsTrue old.observable → old.left ≡ l.bytes ++ now.left;
    }

abbrev pub decreases-loop-bytes : goal.decreases-loop-bytes
decreases-loop-bytes g l = l.limit + 1 - length l.bytes
