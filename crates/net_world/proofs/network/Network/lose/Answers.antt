use Rattle.std.proofs.Common.{◌∙◌, ◌++◌, ◌∷◌, [], ap, refl}
use Rattle.net_world_spec.specs.declared.lines.Line.TheVariants.{Lost}
use Rattle.net_world_spec.specs.World.{wire_place}
use Rattle.net_world.proofs.StandLaws.{if_ok}
use Rattle.net_world.proofs.EventLaws.{none_lost, one_lost}
use Rattle.net_world.proofs.network.Network.lose.Goals as goal

pub returns-in_default-clause-ok : goal.returns-in_default-clause-ok
returns-in_default-clause-ok g c = λ w h.
    let none = c.in_default.ensures.place ∙ ap (λ x. wire_place x c.args.number) c.as_slice.ensures in
    if_ok _ _ c.nothing.result (λ lines e. none_lost _ c.args.self.now w c.args.number h.is lines none e) c.nothing.ensures

pub returns-clause-ok : goal.returns-clause-ok
returns-clause-ok g c = λ w h.
    let there = c.in-Some.ensures.place ∙ ap (λ x. wire_place x c.args.number) c.as_slice.ensures in
    one_lost _ c.args.self.now w c.args.number h.is _ _ c.in-Some.place c.remove-lost.result there c.remove-lost.ensures.item
    (c.in_ok-add.ensures.ok ∙ (λ i. c.in_ok-lines.ensures i ++ Lost (c.what.ensures i) ∷ [])) refl refl c.remove-lost.ensures.rest refl refl refl
