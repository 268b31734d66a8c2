use Rattle.std.proofs.Common.{◌≡◌, ◌<◌, ◌≤◌, get_or, length, refl, sym, subst, append-nil, arith}
use Rattle.std.proofs.lemmas.List.{length-map, length-take-le}
use Rattle.command_files.specs.PortRules.{KeepsEvent}
use Rattle.reliable_ports_world.specs.Scripts.{happening, script_of, state_at}
use Rattle.reliable_ports_world.specs.Stands.{PortStands}
use Rattle.reliable_ports_world.proofs.Few.{all_at, kept_at, offers_few, event_few}
use Rattle.reliable_ports_world.proofs.Runs.{state_next, script_next, state_all, script_all}
use Rattle.reliable_ports_world.proofs.run.run_events.Goals as goal

pub loop-event-init : goal.loop-event-init
loop-event-init g c = record {
  number = refl;
  stands = c.requires.begun;
  text = sym (append-nil c.args.text.now);
  cost = omega arith;
}

pub event-requires-clause-ready : goal.event-requires-clause-ready
event-requires-clause-ready g c =
    let p = c.args.file.now in
    let i = c.loop-event.event-index in
    record {
      state = state_at p i;
      is = c.loop-event.invariant.stands;
      few = event_few c.event-item.result (state_at p i) (kept_at p i) (offers_few p i c.requires.keeps.few);
    }

pub event-requires-clause-keeps : goal.event-requires-clause-keeps
event-requires-clause-keeps g c =
    let within = subst (λ es. c.loop-event.event-index < length es) c.as_slice-event-items.ensures c.loop-event-test.true in
    all_at KeepsEvent c.args.file.now.events c.loop-event.event-index c.event-item.result c.requires.keeps.events within
    (subst (λ es. c.event-item.result ≡ get_or es c.loop-event.event-index c.event-item.result) c.as_slice-event-items.ensures c.event-item.is)

pub event-requires-clause-room : goal.event-requires-clause-room
event-requires-clause-room g c =
    let within = subst (λ es. c.loop-event.event-index < length es) c.as_slice-event-items.ensures c.loop-event-test.true in
    omega (arith, c.loop-event.invariant.cost, c.requires.cost, c.requires.keeps.few, within)

pub loop-event-preserved : goal.loop-event-preserved
loop-event-preserved g c =
    let p = c.args.file.now in
    let i = c.loop-event.event-index in
    let e = c.event-item.result in
    let inv = c.loop-event.invariant in
    let within = subst (λ es. i < length es) c.as_slice-event-items.ensures c.loop-event-test.true in
    let is = subst (λ es. e ≡ get_or es i e) c.as_slice-event-items.ensures c.event-item.is in
    let goes = c.in_ok-event.ensures.goes (state_at p i) inv.stands in
    let next = state_next p i e within is in
    let long : i ≤ length (script_of p) = omega (arith, within, length-map p.events happening) in
    record {
      number = omega (arith, inv.number);
      stands = subst (PortStands g.S.Services.stands c.event.new.self) (sym next) goes.is;
      text = script_next p i e within is c.loop-event.number c.args.text.now c.loop-event.text c.event.new.text (omega (arith, inv.number, length-take-le i (script_of p) long)) inv.text goes.text;
      cost = omega (arith, inv.cost, c.in_ok-event.ensures.cost);
    }

pub returns-clause-stands : goal.returns-clause-stands
returns-clause-stands g c =
    let done = subst (λ es. length es ≤ c.loop-event.event-index) c.as_slice-event-items.ensures c.loop-event-test.false in
    subst (PortStands g.S.Services.stands c.loop-event.ports) (state_all c.args.file.now c.loop-event.event-index done) c.loop-event.invariant.stands

pub returns-clause-text : goal.returns-clause-text
returns-clause-text g c =
    let done = subst (λ es. length es ≤ c.loop-event.event-index) c.as_slice-event-items.ensures c.loop-event-test.false in
    script_all c.args.file.now c.loop-event.event-index c.args.text.now c.loop-event.text done c.loop-event.invariant.text
