use Rattle.std.proofs.Common.{◌+◌, [], length, sym, ap, ◌∙◌, subst, arith, rules}
use Rattle.std.proofs.lemmas.Iterator.Adapters.{YieldsList-from_vec}
use Rattle.std.proofs.lemmas.Iterator.Consumers.{YieldsList-turn, YieldsList-end}
use Rattle.std.proofs.lemmas.List.{length_push}
use Rattle.std.proofs.lemmas.List.Elements.{All-get_or}
use Rattle.net_world_spec.specs.World.{opening}
use Rattle.net_world_spec.specs.Sound.{event_fits}
use Rattle.node_io.specs.Sinks.{Writes, FailsIn}
use Rattle.node_io.proofs.SinkLaws.{writes_none}
use Rattle.net_world.specs.declared.runs.RunFault.TheVariants.{WriteFault}
use Rattle.net_world.proofs.RunLaws.{stands_none, counts_none, text_none, opening_made, events_fit, version_at, countable, all_leave, stands_next, counts_next, waits_next, stopped_event, waits_all}
use Rattle.net_world.proofs.RunLaws.{waited_written, waited_stopped, counts_all}
use Rattle.net_world.proofs.runs.run_events.Goals as goal

pub loop-event-init : goal.loop-event-init
loop-event-init g c =
    let s = c.args.schedule in
    record {
      world = stands_none g.S.Services.stands c.args.world.now (opening s.topology) s.events c.requires.opening;
      ledger = counts_none c.args.ledger.now (opening s.topology) s.events c.requires.empty;
      made = c.requires.opening.is.made ∙ opening_made s.topology;
      waits = record { done = []; written = writes_none (g.K.Sink.state c.args.out.now); is = text_none s.frames (opening s.topology) s.events ∙ sym c.new-text.ensures };
    }

pub run_event-requires : goal.run_event-requires
run_event-requires g c =
    let s = c.args.schedule in
    let turn = YieldsList-turn (YieldsList-from_vec {s = c.into_iter-event-iterator.result} s.events (search rules)
    (search rules)) c.loop-event.yielded c.loop-event.event-iterator c.loop-event.yielded_by c.next.result c.next.new.self c.in-Some.event c.in-Some.is c.next.ensures.steps in
    let v = s.topology.version in
    let own = subst (event_fits v) (sym turn.1) (All-get_or (event_fits v) s.events (length c.loop-event.yielded) c.in-Some.event turn.0 (events_fit s c.requires.rules)) in
    let same = c.loop-event.invariant.world.is.version ∙ version_at s c.requires.rules (length c.loop-event.yielded) in
    record {
      fits = subst (λ u. event_fits u c.in-Some.event) (sym same) own;
      few = omega (arith, turn.0, c.loop-event.invariant.made, c.requires.rules.few);
      room = countable g.S.Services.stands c.loop-event.world s (length c.loop-event.yielded) c.in-Some.event c.loop-event.ledger turn.0 turn.1 c.requires.rules c.loop-event.invariant.world
          c.loop-event.invariant.ledger;
    }

pub loop-event-preserved : goal.loop-event-preserved
loop-event-preserved g c =
    let s = c.args.schedule in
    let w = opening s.topology in
    let i = c.loop-event.invariant in
    let n = length c.loop-event.yielded in
    let e = c.in-Some.event in
    let turn = YieldsList-turn (YieldsList-from_vec {s = c.into_iter-event-iterator.result} s.events (search rules)
    (search rules)) c.loop-event.yielded c.loop-event.event-iterator c.loop-event.yielded_by c.next.result c.next.new.self e c.in-Some.is c.next.ensures.steps in
    let done = c.in-Ok.ensures in
    let out = g.K.Sink.state in
    let count = length_push c.loop-event.yielded e in
    record {
      world = stands_next w s.events n e turn.0 turn.1 g.S.Services.stands c.run_event.new.world _ count (done.counts.world _ i.world);
      ledger = counts_next w s.events n e turn.0 turn.1 c.run_event.new.ledger _ count (done.counts.ledger _ _ i.world (all_leave s n e c.requires.rules) i.ledger);
      made = done.counts.made ∙ ap (λ n. n + 1) i.made ∙ sym count;
      waits = waits_next w s.events n e turn.0 turn.1 s.frames (out c.args.out.now) (out c.loop-event.out) (out c.run_event.new.out) c.loop-event.text _ _ count i.waits (done.waits _ i.world);
    }

pub returns-in-Err-clause-lines : goal.returns-in-Err-clause-lines
returns-in-Err-clause-lines g c =
    let s = c.args.schedule in
    let i = c.loop-event.invariant in
    let out = g.K.Sink.state in
    let turn = YieldsList-turn (YieldsList-from_vec {s = c.into_iter-event-iterator.result} s.events (search rules)
    (search rules)) c.loop-event.yielded c.loop-event.event-iterator c.loop-event.yielded_by c.next.result c.next.new.self c.in-Some.event c.in-Some.is c.next.ensures.steps in
    stopped_event (opening s.topology) s.events (length c.loop-event.yielded) c.in-Some.event turn.0 turn.1 s.frames c.in-Err.fault (out c.args.out.now) (out c.loop-event.out) (out c.run_event.new.out) c.loop-event.text i.waits
    (c.in-Err.ensures.waits _ i.world)

pub returns-in-Ok-put_all-clause-lines : goal.returns-in-Ok-put_all-clause-lines
returns-in-Ok-put_all-clause-lines g c =
    let s = c.args.schedule in
    let out = g.K.Sink.state in
    let end = YieldsList-end (YieldsList-from_vec {s = c.into_iter-event-iterator.result} s.events (search rules)
    (search rules)) c.loop-event.yielded c.loop-event.event-iterator c.loop-event.yielded_by c.next.result c.next.new.self c.in-None.is c.next.ensures.steps in
    waited_written (out c.args.out.now) (out c.loop-event.out) (out c.put_all.new.sink) c.loop-event.text _
    (waits_all s.frames (opening s.topology) s.events (length c.loop-event.yielded) (out c.args.out.now) (out c.loop-event.out) c.loop-event.text (omega (arith, end.1)) c.loop-event.invariant.waits)
    (subst (Writes (out c.loop-event.out) (out c.put_all.new.sink)) c.as_slice.ensures c.in-Ok-put_all.ensures)

pub returns-clause-lines : goal.returns-clause-lines
returns-clause-lines g c =
    let s = c.args.schedule in
    let out = g.K.Sink.state in
    let end = YieldsList-end (YieldsList-from_vec {s = c.into_iter-event-iterator.result} s.events (search rules)
    (search rules)) c.loop-event.yielded c.loop-event.event-iterator c.loop-event.yielded_by c.next.result c.next.new.self c.in-None.is c.next.ensures.steps in
    waited_stopped WriteFault (out c.args.out.now) (out c.loop-event.out) (out c.put_all.new.sink) c.loop-event.text _
    (waits_all s.frames (opening s.topology) s.events (length c.loop-event.yielded) (out c.args.out.now) (out c.loop-event.out) c.loop-event.text (omega (arith, end.1)) c.loop-event.invariant.waits)
    (subst (FailsIn (out c.loop-event.out) (out c.put_all.new.sink)) c.as_slice.ensures c.in-Err-put_all.ensures)

pub returns-in-Ok-put_all-clause-ledger : goal.returns-in-Ok-put_all-clause-ledger
returns-in-Ok-put_all-clause-ledger g c =
    let s = c.args.schedule in
    let end = YieldsList-end (YieldsList-from_vec {s = c.into_iter-event-iterator.result} s.events (search rules)
    (search rules)) c.loop-event.yielded c.loop-event.event-iterator c.loop-event.yielded_by c.next.result c.next.new.self c.in-None.is c.next.ensures.steps in
    counts_all c.loop-event.ledger (opening s.topology) s.events (length c.loop-event.yielded) (omega (arith, end.1)) c.loop-event.invariant.ledger
