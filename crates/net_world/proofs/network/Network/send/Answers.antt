use Rattle.std.proofs.Common.{◌∙◌, ap, refl, subst, ◌≤◌, ◌<◌}
use Rattle.net_world_spec.specs.World.{far_end}
use Rattle.std.proofs.lemmas.List.{length-set}
use Rattle.net_world.proofs.StandLaws.{if_ok, given_back}
use Rattle.net_world.proofs.EventLaws.{lent_nodes_stand, no_node_sends, no_end_sends, no_room_sends, none_sent, one_sent}
use Rattle.net_world.proofs.network.Network.send.Goals as goal

pub returns-in_default-clause-ok : goal.returns-in_default-clause-ok
returns-in_default-clause-ok g c = λ w h.
    let none = c.in_default.ensures.place w.nodes (lent_nodes_stand _ c.args.self.now w _ h.is c.as_slice.ensures.value) in
    if_ok _ _ c.nothing.result (λ lines e. no_node_sends _ c.args.self.now w c.args.host c.args.dev h.is lines none e) c.nothing.ensures

pub returns-in_default-far_end-clause-ok : goal.returns-in_default-far_end-clause-ok
returns-in_default-far_end-clause-ok g c = λ w h.
    let node = c.in-Some.ensures.place w.nodes (lent_nodes_stand _ c.args.self.now w _ h.is c.as_slice.ensures.value) in
    let none = c.in_default-far_end.ensures ∙ ap (λ x. far_end x c.args.host c.args.dev) c.as_slice-2.ensures in
    if_ok _ _ c.nothing-in_default-far_end.result (λ lines e. no_end_sends _ c.args.self.now w c.args.host c.args.dev h.is lines c.in-Some.at node none e) c.nothing-in_default-far_end.ensures

pub returns-then-len-ge-MOST_ON_WIRE-clause-ok : goal.returns-then-len-ge-MOST_ON_WIRE-clause-ok
returns-then-len-ge-MOST_ON_WIRE-clause-ok g c = λ w h.
    let node = c.in-Some.ensures.place w.nodes (lent_nodes_stand _ c.args.self.now w _ h.is c.as_slice.ensures.value) in
    let far = c.in-Some-far_end.ensures ∙ ap (λ x. far_end x c.args.host c.args.dev) c.as_slice-2.ensures in
    if_ok _ _ c.nothing-then-len-ge-MOST_ON_WIRE.result
    (λ lines e. no_room_sends _ c.args.self.now w c.args.host c.args.dev h.is lines c.in-Some.at c.in-Some-far_end.to node far (subst (λ n. 4096 ≤ n) c.len.ensures c.if-len-ge-MOST_ON_WIRE.true) e)
    c.nothing-then-len-ge-MOST_ON_WIRE.ensures

pub returns-in_default-frame-clause-ok : goal.returns-in_default-frame-clause-ok
returns-in_default-frame-clause-ok g c = λ w h.
    let node = c.in-Some.ensures.place w.nodes (lent_nodes_stand _ c.args.self.now w _ h.is c.as_slice.ensures.value) in
    let far = c.in-Some-far_end.ensures ∙ ap (λ x. far_end x c.args.host c.args.dev) c.as_slice-2.ensures in
    let stand = lent_nodes_stand _ c.args.self.now w _ h.is c.deref_mut.ensures.value in
    let done = c.in_ok-list.ensures.step w.nodes stand in
    let none = c.in_default-frame.is in
    let same = c.in_ok-list.ensures.same w.nodes stand none in
    if_ok _ _ c.nothing-in_default-frame.result
    (λ lines e. none_sent _ c.args.self.now w c.args.host c.args.dev h.is lines _ c.in-Some.at c.in-Some-far_end.to c.in_ok-list.field-0 c.take_at.new.nodes node far
    (subst (λ n. n < 4096) c.len.ensures c.if-len-ge-MOST_ON_WIRE.false) done none same e (given_back _ c.args.self.now.nodes c.take_at.new.nodes w.nodes w.nodes h.is.nodes same refl) refl refl refl refl refl)
    c.nothing-in_default-frame.ensures

pub returns-clause-ok : goal.returns-clause-ok
returns-clause-ok g c = λ w h.
    let node = c.in-Some.ensures.place w.nodes (lent_nodes_stand _ c.args.self.now w _ h.is c.as_slice.ensures.value) in
    let far = c.in-Some-far_end.ensures ∙ ap (λ x. far_end x c.args.host c.args.dev) c.as_slice-2.ensures in
    let stand = lent_nodes_stand _ c.args.self.now w _ h.is c.deref_mut.ensures.value in
    let done = c.in_ok-list.ensures.step w.nodes stand in
    one_sent _ c.args.self.now w c.args.host c.args.dev h.is _ _ c.in-Some.at c.in-Some-far_end.to c.in_ok-list.field-0 c.take_at.new.nodes c.in-Some-frame.frame node far
    (subst (λ n. n < 4096) c.len.ensures c.if-len-ge-MOST_ON_WIRE.false) done c.in-Some-frame.is
    c.in_ok-lines.ensures
    (given_back _ c.args.self.now.nodes c.take_at.new.nodes w.nodes _ h.is.nodes done.after (length-set w.nodes c.in-Some.at _)) refl c.in_ok-add.ensures.ok refl refl refl
