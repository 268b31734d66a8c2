use Rattle.std.proofs.Common.{sym, subst, refl}
use Rattle.std.specs.List.{All}
use Rattle.network_config.specs.NodeRules.{KeepsEntry}
use Rattle.node_core.specs.Stands.{version_of}
use Rattle.ledger_audit.specs.Spelling.{EntriesRead}
use Rattle.ledger_audit.specs.Pasts.{with_entries, Holds}
use Rattle.ledger_audit.proofs.PastLaws.{host_held}
use Rattle.ledger_audit.proofs.reckoning.reckon_node.Goals as goal

pub reckon_entries-requires-clause-keeps : goal.reckon_entries-requires-clause-keeps
reckon_entries-requires-clause-keeps g c = subst (All (KeepsEntry (version_of c.args.node.now))) (sym c.as_slice.ensures) c.requires.keeps

pub returns-clause-holds : goal.returns-clause-holds
returns-clause-holds g c = λ s at p h.
    let held = subst (λ es. Holds c.reckon_entries.new.reckoning (with_entries c.args.links.now c.args.number 0 s es p)) c.as_slice.ensures (c.in_ok-reckon_entries.ensures.holds s at p h) in
    host_held (with_entries c.args.links.now c.args.number 0 s c.args.log.now.events p) c.reckon_entries.new.reckoning _ c.args.log.now.node.here held c.in_ok-add.ensures.ok refl refl refl refl

pub returns-clause-reads : goal.returns-clause-reads
returns-clause-reads g c = λ s at. subst (EntriesRead s) c.as_slice.ensures (c.in_ok-reckon_entries.ensures.reads s at)
