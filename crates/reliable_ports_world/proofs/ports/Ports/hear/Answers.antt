use Rattle.std.proofs.Common.{◌+◌, ◌<◌, ◌^◌, take, length, refl, ◌∙◌, subst, arith}
use Rattle.reliable_ports_world.specs.Ports.{PortState, hears}
use Rattle.reliable_ports_world.proofs.Runs.{heard_next}
use Rattle.reliable_ports_world.proofs.Standing.{lines_none, lines_next, lines_all}
use Rattle.reliable_ports_world.proofs.ports.Ports.hear.Goals as goal

pub loop-line-init : goal.loop-line-init
loop-line-init g c = record {
  goes = λ s h. lines_none g.S.Services.stands c.args.self.now c.args.lines.now 0 c.args.number s c.args.text.now h;
  cost = refl;
}

pub hear_line-requires-clause-ready : goal.hear_line-requires-clause-ready
hear_line-requires-clause-ready g c =
    let ls = c.args.lines.now in
    let i = c.loop-line.line-index in
    let l = c.line-item.result in
    let s = c.requires.ready.state in
    record {
      state = hears (take i ls) s;
      is = (c.loop-line.invariant.goes s c.requires.ready.is).is;
      few = subst (λ (x : PortState). length x.receiver.delivered < 2 ^ 62) (heard_next ls i l c.loop-line-test.true c.line-item.is s) (c.requires.ready.few (i + 1));
    }

pub hear_line-requires-clause-room : goal.hear_line-requires-clause-room
hear_line-requires-clause-room g c = omega (arith, c.loop-line.invariant.cost, c.requires.room)

pub loop-line-preserved : goal.loop-line-preserved
loop-line-preserved g c =
    let ls = c.args.lines.now in
    let i = c.loop-line.line-index in
    let l = c.line-item.result in
    let inv = c.loop-line.invariant in
    record {
      goes = λ s h. lines_next g.S.Services.stands c.hear_line.new.self ls i c.args.number s c.args.text.now l c.loop-line-test.true c.line-item.is c.loop-line.text c.hear_line.new.text (inv.goes s h).text
          (c.in_ok-hear_line.ensures.goes (hears (take i ls) s) (inv.goes s h).is);
      cost = c.in_ok-hear_line.ensures.cost ∙ inv.cost;
    }

pub returns-clause-goes : goal.returns-clause-goes
returns-clause-goes g c = λ s h.
    lines_all g.S.Services.stands c.loop-line.self c.args.lines.now c.loop-line.line-index c.args.number s c.args.text.now c.loop-line.text c.loop-line-test.false (c.loop-line.invariant.goes s h)
