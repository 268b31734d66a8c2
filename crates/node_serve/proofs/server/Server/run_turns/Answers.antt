use Rattle.std.proofs.Common.{◌≡◌, IsTrue, Ok, sym, subst, ◌∙◌, arith}
use Rattle.node_serve.specs.Desks.{serving}
use Rattle.node_serve.specs.Goes.{GoesTurns}
use Rattle.node_serve.proofs.MakeLaws.{time_none}
use Rattle.node_serve.proofs.Turning.{turns_begin, turns_more, turns_stop, last_next}
use Rattle.node_serve.proofs.server.Server.run_turns.Goals as goal

pub loop-done-init : goal.loop-done-init
loop-done-init g c = record {
  within = omega arith;
  run = turns_begin g.S.Services.stands c.args.cfg.now c.args.self.now (serving (g.F.Files.state c.args.files.now) (g.K.Sink.state c.args.out.now) (g.L.Link.state c.args.link.now) (g.C.Clock.state c.args.clock.now)) tt;
  last = λ seen. time_none (g.C.Clock.state c.args.clock.now).last (g.C.Clock.state c.args.clock.now).answers;
  room = c.requires.room;
}

pub turn-requires : goal.turn-requires
turn-requires g c = record {
  writing = subst IsTrue (sym c.loop-done.invariant.run.keeps.writing) c.requires.writing;
  bound = c.loop-done.invariant.run.keeps.bound ∙ c.requires.bound;
  keeps = c.requires.keeps;
  room = c.loop-done.invariant.room;
}

pub loop-done-preserved : goal.loop-done-preserved
loop-done-preserved g c =
    let i = c.loop-done.invariant in
    let first = (serving (g.F.Files.state c.args.files.now) (g.K.Sink.state c.args.out.now) (g.L.Link.state c.args.link.now) (g.C.Clock.state c.args.clock.now)) in
    let mid = (serving (g.F.Files.state c.loop-done.files) (g.K.Sink.state c.loop-done.out) (g.L.Link.state c.loop-done.link) (g.C.Clock.state c.loop-done.clock)) in
    let last = (serving (g.F.Files.state c.turn.new.files) (g.K.Sink.state c.turn.new.out) (g.L.Link.state c.turn.new.link) (g.C.Clock.state c.turn.new.clock)) in
    record {
      within = omega (arith, c.loop-done-test.true);
      run = turns_more g.S.Services.stands c.args.cfg.now c.loop-done.done c.args.self.now c.loop-done.self c.turn.new.self first mid last tt tt i.run c.in_default.ensures.goes i.last;
      last = last_next g.S.Services.stands c.args.cfg.now c.loop-done.done c.args.self.now c.loop-done.self c.turn.new.self first mid last (Ok tt) tt i.run c.in_default.ensures.goes i.last;
      room = c.turn.ensures.room ∙ i.room;
    }

pub returns-in-Err : goal.returns-in-Err
returns-in-Err g c =
    let i = c.loop-done.invariant in
    turns_stop g.S.Services.stands c.args.cfg.now c.loop-done.done c.args.turns c.args.self.now c.loop-done.self c.turn.new.self
    (serving (g.F.Files.state c.args.files.now) (g.K.Sink.state c.args.out.now) (g.L.Link.state c.args.link.now) (g.C.Clock.state c.args.clock.now))
    (serving (g.F.Files.state c.loop-done.files) (g.K.Sink.state c.loop-done.out) (g.L.Link.state c.loop-done.link) (g.C.Clock.state c.loop-done.clock))
    (serving (g.F.Files.state c.turn.new.files) (g.K.Sink.state c.turn.new.out) (g.L.Link.state c.turn.new.link) (g.C.Clock.state c.turn.new.clock))
    tt c.in-Err.fault c.loop-done-test.true i.run c.in-Err.ensures.goes i.last

pub returns : goal.returns
returns g c =
    let all : c.loop-done.done ≡ c.args.turns = omega (arith, c.loop-done.invariant.within, c.loop-done-test.false) in
    let first = (serving (g.F.Files.state c.args.files.now) (g.K.Sink.state c.args.out.now) (g.L.Link.state c.args.link.now) (g.C.Clock.state c.args.clock.now)) in
    let last = (serving (g.F.Files.state c.loop-done.files) (g.K.Sink.state c.loop-done.out) (g.L.Link.state c.loop-done.link) (g.C.Clock.state c.loop-done.clock)) in
    subst (λ n. GoesTurns {T = Unit {0}} g.S.Services.stands c.args.cfg.now n c.args.self.now c.loop-done.self first last (Ok tt)) all c.loop-done.invariant.run
