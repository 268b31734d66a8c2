use Rattle.std.proofs.Common.{◌≡◌, take}
use Rattle.node_core_spec.specs.State.{NodeState}
use Rattle.node_core.specs.Stands.{version_of, NodeStands}
use Rattle.node_log.specs.Runs.{node_after}
use Rattle.ledger_audit.specs.Spelling.{EntriesRead}
use Rattle.ledger_audit.specs.Pasts.{Past, with_entries, Holds}
use Rattle.ledger_audit.proofs.reckoning.reckon_entries.Given as goal

abbrev pub invariant-loop-entry : goal.invariant-loop-entry
invariant-loop-entry g l = record {
  number : l.event ≡ l.entry-index;
  version : version_of l.node ≡ version_of l.initial.node;
  stands : (s : NodeState) → NodeStands g.S.Services.stands l.initial.node s → NodeStands g.S.Services.stands l.node (node_after s (take l.entry-index l.entries));
  held : (s : NodeState) → NodeStands g.S.Services.stands l.initial.node s → (p : Past) → Holds l.initial.reckoning p
      → Holds l.reckoning (with_entries l.links l.log 0 s (take l.entry-index l.entries) p);
  reads : (s : NodeState) → NodeStands g.S.Services.stands l.initial.node s → EntriesRead s (take l.entry-index l.entries);
}
