use Rattle.std.proofs.Common.{◌≡◌, ◌∙◌}
use Rattle.grow_run.specs.Grow as grow
use Rattle.net_world.proofs.StandLaws.{if_ok}
use Rattle.grow_run.specs.Pings.{ping}
use Rattle.grow_run.proofs.Drawing.{ticks_first, draws_then}
use Rattle.grow_run.proofs.events.next_event.Goals as goal

pub returns-then-made-lt-HOSTS-clause-event : goal.returns-then-made-lt-HOSTS-clause-event
returns-then-made-lt-HOSTS-clause-event g c = λ w h. ticks_first (ping c.args.code.now) c.args.words.now w c.event_count-made.result (c.event_count-made.ensures ∙ h.is.made) c.if-made-lt-HOSTS.true

pub returns-clause-event : goal.returns-clause-event
returns-clause-event g c = λ w h.
    if_ok _ (λ e. (e, c.drawn_event.new.words) ≡ grow.next_event (ping c.args.code.now) c.args.words.now w) c.drawn_event.result
    (λ e is. draws_then (ping c.args.code.now) c.args.words.now w c.event_count-made.result (c.event_count-made.ensures ∙ h.is.made) e c.drawn_event.new.words c.if-made-lt-HOSTS.false is)
    (c.drawn_event.ensures.event w h)
