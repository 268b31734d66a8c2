use Rattle.std.proofs.Common.{◌<◌, ◌∙◌, length, sym, ap, subst}
use Rattle.std.specs.Prelude.{map, slice_get}
use Rattle.std.proofs.lemmas.List.{nil_from_length}
use Rattle.net_world_spec.specs.World.{opening_node}
use Rattle.net_world.specs.Stands.{AllStand}
use Rattle.net_world.proofs.OpeningLaws.{Left, none_open, is_within, own_services, one_opened, all_opened}
use Rattle.net_world.proofs.opening.open_nodes.Goals as goal

pub at-host-requires : goal.at-host-requires
at-host-requires g c =
    let left = subst (Left g.S.Services.stands c.args.topology.now c.loop-own.nodes) c.in-Some.ensures.steps.0 c.loop-own.invariant in
    let within = is_within g.S.Services.stands c.args.topology.now c.loop-own.nodes c.in-Some.own _ left in
    subst (λ n. n < length c.args.topology.now.hosts) (sym c.len.ensures) within

pub open_node-requires-clause-services : goal.open_node-requires-clause-services
open_node-requires-clause-services g c =
    let left = subst (Left g.S.Services.stands c.args.topology.now c.loop-own.nodes) c.in-Some.ensures.steps.0 c.loop-own.invariant in
    own_services g.S.Services.stands c.args.topology.now c.loop-own.nodes c.in-Some.own _ left c.at-host.result.now (ap (slice_get c.args.topology.now.hosts) (sym c.len.ensures) ∙ c.at-host.ensures)

pub loop-own-init : goal.loop-own-init
loop-own-init g c = none_open g.S.Services.stands c.args.topology.now c.new-nodes.result _ c.new-nodes.ensures
    (ap (map g.S.Services.stands) (c.into_iter-own-iterator.ensures.into_iter_gives.0 ∙ c.into_vec-own-items.ensures) ∙ c.requires.services)

pub loop-own-preserved : goal.loop-own-preserved
loop-own-preserved g c =
    let left = subst (Left g.S.Services.stands c.args.topology.now c.loop-own.nodes) c.in-Some.ensures.steps.0 c.loop-own.invariant in
    one_opened g.S.Services.stands c.args.topology.now c.loop-own.nodes c.in-Some.own _ left c.add.new.self c.at-host.result.now c.in_ok-open_node.field-0 c.in_ok-add.ensures.ok
    (ap (slice_get c.args.topology.now.hosts) (sym c.len.ensures) ∙ c.at-host.ensures) c.in_ok-open_node.ensures

pub returns : goal.returns
returns g c =
    let none = nil_from_length c.loop-own.own-iterator.rest.items (sym c.loop-own.own-iterator.rest.ok.0 ∙ c.in-None.ensures.steps.0) in
    let all = all_opened g.S.Services.stands c.args.topology.now c.loop-own.nodes (subst (Left g.S.Services.stands c.args.topology.now c.loop-own.nodes) none c.loop-own.invariant) in
    subst (λ x. AllStand g.S.Services.stands x (map (opening_node c.args.topology.now) c.args.topology.now.hosts)) (sym c.into_vec.ensures) all
