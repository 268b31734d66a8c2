use Rattle.std.proofs.Common.{◌∙◌, ◌++◌, ap, refl}
use Rattle.packet_frame.specs.Decoding.{read_by}
use Rattle.net_world_spec.specs.World.{forged_lines, forged_at}
use Rattle.node_core_spec.specs.Node.{arrive_step}
use Rattle.net_world_spec.specs.World.{lines_at}
use Rattle.std.proofs.lemmas.List.{length-set}
use Rattle.net_world.proofs.StandLaws.{if_ok, given_back}
use Rattle.net_world.proofs.EventLaws.{lent_nodes_stand, no_step, one_step}
use Rattle.net_world.proofs.network.Network.raw.Goals as goal

pub returns-in_default-clause-ok : goal.returns-in_default-clause-ok
returns-in_default-clause-ok g c = λ w h.
    let there = c.in_default.ensures.place w.nodes (lent_nodes_stand _ c.args.self.now w _ h.is c.as_slice.ensures.value) in
    if_ok _ _ c.nothing.result (λ lines e. no_step _ c.args.self.now w c.args.host (forged_at c.args.host c.args.bytes.now) lines (λ node. arrive_step node c.args.dev c.args.bytes.now) h.is there e) c.nothing.ensures

pub returns-clause-ok : goal.returns-clause-ok
returns-clause-ok g c = λ w h.
    let there = c.in-Some.ensures.place w.nodes (lent_nodes_stand _ c.args.self.now w _ h.is c.as_slice.ensures.value) in
    let done = c.in_ok-acts.ensures w.nodes (lent_nodes_stand _ c.args.self.now w _ h.is c.deref_mut.ensures.value) in
    let version = c.version_at-version.ensures w.nodes done.node (lent_nodes_stand _ c.args.self.now w _ h.is c.as_slice-2.ensures.value) done.there in
    if_ok _ _ c.with_acts.result (λ lines e.
    one_step _ c.args.self.now _ w c.args.host (forged_at c.args.host c.args.bytes.now) lines (λ node. arrive_step node c.args.dev c.args.bytes.now) c.in-Some.at c.in_ok-acts.acts
    c.arrive_at.new.nodes h.is there done
    (e ∙ ap (λ x. x ++ lines_at c.args.host c.in_ok-acts.acts.list)
    (c.in_ok-before.ensures ∙ ap (λ v. forged_lines c.args.host (read_by v c.args.bytes.now))
    version)) (given_back _ c.args.self.now.nodes c.arrive_at.new.nodes w.nodes _ h.is.nodes done.after (length-set w.nodes c.in-Some.at _)) refl refl refl refl refl) c.with_acts.ensures
