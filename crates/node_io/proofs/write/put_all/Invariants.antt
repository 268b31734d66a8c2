use Rattle.std.proofs.Common.{◌-◌, ◌≤◌, length, take}
use Rattle.node_io.specs.Sinks.{Writes}
use Rattle.node_io.proofs.write.put_all.Given as goal

abbrev pub invariant-loop-at : goal.invariant-loop-at
invariant-loop-at g l = record {
  within : l.at ≤ length l.bytes;
  written : Writes (g.K.Sink.state l.initial.sink) (g.K.Sink.state l.sink) (take l.at l.bytes);
}

abbrev pub decreases-loop-at : goal.decreases-loop-at
decreases-loop-at g l = length l.bytes - l.at
