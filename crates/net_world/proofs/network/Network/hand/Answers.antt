use Rattle.std.proofs.Common.{◌∙◌, ◌++◌, ◌∷◌, [], ap, refl}
use Rattle.net_world_spec.specs.World.{wire_place, lines_at}
use Rattle.std.proofs.lemmas.List.{length-set}
use Rattle.net_world.proofs.StandLaws.{if_ok, given_back, marked_there}
use Rattle.net_world.proofs.EventLaws.{lent_nodes_stand, none_handed, none_there, one_handed}
use Rattle.net_world.proofs.network.Network.hand.Goals as goal

pub returns-in_default-clause-ok : goal.returns-in_default-clause-ok
returns-in_default-clause-ok g c = λ w h.
    let none = c.in_default.ensures.place ∙ ap (λ x. wire_place x c.args.number) c.as_slice.ensures in
    if_ok _ _ c.nothing.result (λ lines e. none_handed _ c.args.self.now w c.args.number h.is lines c.args.how none e) c.nothing.ensures

pub returns-in_default-node_place-clause-ok : goal.returns-in_default-node_place-clause-ok
returns-in_default-node_place-clause-ok g c = λ w h.
    let there = c.in-Some.ensures.place ∙ ap (λ x. wire_place x c.args.number) c.as_slice.ensures in
    let none = c.in_default-node_place.ensures.place w.nodes (lent_nodes_stand _ c.args.self.now w _ h.is c.as_slice-2.ensures.value) in
    if_ok _ _ c.nothing-in_default-node_place.result (λ lines e. none_there _ c.args.self.now w c.args.number h.is lines c.args.how c.in-Some.place c.at-x.result.now there c.at-x.ensures none e) c.nothing-in_default-node_place.ensures

pub returns-clause-ok : goal.returns-clause-ok
returns-clause-ok g c = λ w h.
    let there = c.in-Some.ensures.place ∙ ap (λ x. wire_place x c.args.number) c.as_slice.ensures in
    let node = c.in-Some-node_place.ensures.place w.nodes (lent_nodes_stand _ c.args.self.now w _ h.is c.as_slice-2.ensures.value) in
    let x = c.at-x.result.now in
    let marked = marked_there _ c.args.self.now w c.in-Some.place x h c.at-x.ensures c.in-Some-node_place.at in
    let done = c.in_ok-acts.ensures w.nodes (lent_nodes_stand _ c.args.self.now w _ h.is c.deref_mut.ensures.value) marked in
    let line = c.in_ok-before.ensures ∙ ap (λ l. l ∷ []) c.hand_line.ensures in
    let back = given_back _ c.args.self.now.nodes c.hand_to.new.nodes w.nodes _ h.is.nodes done.after (length-set w.nodes c.in-Some-node_place.at _) in
    if_ok _ _ c.with_acts.result
    (λ lines e. one_handed _ c.args.self.now w c.args.number h.is lines c.args.how _ c.in-Some.place x c.in-Some-node_place.at c.in_ok-acts.acts c.hand_to.new.nodes there c.at-x.ensures node done
    (e ∙ ap (λ b. b ++ lines_at x.to.host c.in_ok-acts.acts.list) line) back refl (c.hand_off.ensures x c.at-x.ensures) refl refl refl)
    c.with_acts.ensures
