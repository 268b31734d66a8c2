use Rattle.std.proofs.Common.{◌≡◌, take}
use Rattle.node_core_spec.specs.State.{NodeState}
use Rattle.node_core.specs.Stands.{version_of, NodeStands}
use Rattle.node_log.specs.Runs.{node_after}
use Rattle.frag_chunks_log.specs.Counting.{with_entries}
use Rattle.frag_chunks_log.proofs.counting.count_entries.Given as goal

abbrev pub invariant-loop-entry : goal.invariant-loop-entry
invariant-loop-entry g l = record {
  version : version_of l.node ≡ version_of l.initial.node;
  stands : (s : NodeState) → NodeStands g.S.Services.stands l.initial.node s → NodeStands g.S.Services.stands l.node (node_after s (take l.entry-index l.entries));
  counted : (s : NodeState) → NodeStands g.S.Services.stands l.initial.node s → l.counting ≡ with_entries s (take l.entry-index l.entries) l.initial.counting;
}
