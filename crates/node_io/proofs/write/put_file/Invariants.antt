use Rattle.std.proofs.Common.{◌-◌, ◌≤◌, length, take, IsTrue}
use Rattle.node_io.specs.FileStates.{Adds}
use Rattle.node_io.proofs.write.put_file.Given as goal

abbrev pub invariant-loop-at : goal.invariant-loop-at
invariant-loop-at g l = record {
  within : l.at ≤ length l.bytes;
  begun : IsTrue (g.F.Files.state l.files).writing;
  written : Adds (g.F.Files.state l.initial.files) (g.F.Files.state l.files) (take l.at l.bytes);
}

abbrev pub decreases-loop-at : goal.decreases-loop-at
decreases-loop-at g l = length l.bytes - l.at
