use Rattle.std.proofs.Common.{◌≡◌}
use Rattle.grow_run.specs.Grow as grow
use Rattle.net_world.proofs.StandLaws.{if_ok}
use Rattle.grow_run.specs.Pings.{ping}
use Rattle.grow_run.proofs.Drawing.{choice_is, drawn_is}
use Rattle.grow_run.proofs.events.drawn_event.Goals as goal

pub event_of-requires-clause-choice : goal.event_of-requires-clause-choice
event_of-requires-clause-choice g c = choice_is c.lowest.result c.highest.result c.args.words.now c.choose-choice.result c.choose-choice.new.words c.choose-choice.ensures

pub returns-clause-event : goal.returns-clause-event
returns-clause-event g c = λ w h.
    if_ok (λ e. e ≡ grow.event_of (ping c.args.code.now) c.choose-choice.result) _ c.event_of.result
    (λ e is.
    drawn_is (ping c.args.code.now) c.args.words.now c.choose-choice.new.words w c.args.world.now.wire c.lowest.result c.highest.result c.choose-choice.result e c.lowest.ensures c.highest.ensures
    h.is.wire c.choose-choice.ensures is)
    c.event_of.ensures.event
