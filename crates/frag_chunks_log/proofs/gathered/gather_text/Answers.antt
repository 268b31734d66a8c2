use Rattle.std.proofs.Common.{sym, subst}
use Rattle.std.specs.List.{All}
use Rattle.network_config.specs.NodeRules.{KeepsEntry}
use Rattle.node_core.specs.Stands.{version_of}
use Rattle.frag_chunks_log.proofs.gathered.gather_text.Goals as goal

pub count_entries-requires : goal.count_entries-requires
count_entries-requires g c =
    let same = subst (λ v. All (KeepsEntry v) c.args.log.now.events) (sym c.in_ok-node.ensures.version) c.requires.keeps.events in
    subst (All (KeepsEntry (version_of c.in_ok-node.node))) (sym c.as_slice.ensures) same
