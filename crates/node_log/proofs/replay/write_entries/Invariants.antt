use Rattle.std.proofs.Common.{◌≡◌, take}
use Rattle.node_io.specs.Sinks.{Writes}
use Rattle.node_core_spec.specs.State.{NodeState}
use Rattle.node_core.specs.Stands.{version_of, NodeStands}
use Rattle.node_log.specs.Runs.{played_entries, node_after}
use Rattle.node_log.specs.Texts.{lines_text}
use Rattle.node_log.proofs.replay.write_entries.Given as goal

abbrev pub invariant-loop-entry : goal.invariant-loop-entry
invariant-loop-entry g l = record {
  number : l.number ≡ l.entry-index;
  version : version_of l.node ≡ version_of l.initial.node;
  stands : (s : NodeState) → NodeStands g.S.Services.stands l.initial.node s → NodeStands g.S.Services.stands l.node (node_after s (take l.entry-index l.entries));
  written : (s : NodeState) → NodeStands g.S.Services.stands l.initial.node s → Writes (g.K.Sink.state l.initial.out) (g.K.Sink.state l.out) (lines_text l.config.here (played_entries 0 s (take l.entry-index l.entries)));
}
