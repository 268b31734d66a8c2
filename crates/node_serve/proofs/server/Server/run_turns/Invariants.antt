use Rattle.std.proofs.Common.{◌≡◌, ◌≤◌, IsTrue, Ok, length}
use Rattle.node_log.specs.Runs.{time_at}
use Rattle.node_serve.specs.Desks.{serving}
use Rattle.node_serve.specs.Goes.{GoesTurns}
use Rattle.node_serve.proofs.server.Server.run_turns.Given as goal

abbrev pub invariant-loop-done : goal.invariant-loop-done
invariant-loop-done g l = record {
  within : l.done ≤ l.turns;
  run : GoesTurns {T = Unit {0}} g.S.Services.stands l.cfg l.done l.initial.self l.self
      (serving (g.F.Files.state l.initial.files) (g.K.Sink.state l.initial.out) (g.L.Link.state l.initial.link) (g.C.Clock.state l.initial.clock))
      (serving (g.F.Files.state l.files) (g.K.Sink.state l.out) (g.L.Link.state l.link) (g.C.Clock.state l.clock)) (Ok tt);
  last : IsTrue (g.C.Clock.state l.initial.clock).observable → (g.C.Clock.state l.clock).last ≡ time_at (g.C.Clock.state l.initial.clock).last (g.C.Clock.state l.initial.clock).answers l.done;
  room : length l.buf ≡ 16513;
}
