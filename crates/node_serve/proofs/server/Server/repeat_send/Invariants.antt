use Rattle.std.proofs.Common.{◌≡◌, ◌≤◌, Ok}
use Rattle.node_log.specs.Runs.{repeat_send}
use Rattle.node_serve.specs.Desks.{desk}
use Rattle.node_serve.specs.Goes.{Goes}
use Rattle.node_serve.proofs.server.Server.repeat_send.Given as goal

abbrev pub invariant-loop : goal.invariant-loop
invariant-loop g l = record {
  within : l.counter ≤ l.count;
  run : Goes {T = Unit {0}} g.S.Services.stands l.cfg (repeat_send l.dev l.counter) l.initial.self l.self
      (desk (g.F.Files.state l.initial.files) (g.K.Sink.state l.initial.out) (g.L.Link.state l.initial.link)) (desk (g.F.Files.state l.files) (g.K.Sink.state l.out) (g.L.Link.state l.link)) (Ok tt);
  script : (g.L.Link.state l.link).script ≡ (g.L.Link.state l.initial.link).script;
}
