use Rattle.std.proofs.Common.{◌≡◌, ◌≤◌, Ok}
use Rattle.node_log.specs.Runs.{flush_to, peers_of}
use Rattle.node_serve.specs.Desks.{desk}
use Rattle.node_serve.specs.Goes.{Goes}
use Rattle.node_serve.proofs.server.Server.flush_all.Given as goal

abbrev pub invariant-loop-number : goal.invariant-loop-number
invariant-loop-number g l = record {
  within : l.number ≤ 8;
  run : Goes {T = Unit {0}} g.S.Services.stands l.cfg (flush_to (peers_of l.cfg) l.number) l.initial.self l.self
      (desk (g.F.Files.state l.initial.files) (g.K.Sink.state l.initial.out) (g.L.Link.state l.initial.link)) (desk (g.F.Files.state l.files) (g.K.Sink.state l.out) (g.L.Link.state l.link)) (Ok tt);
  script : (g.L.Link.state l.link).script ≡ (g.L.Link.state l.initial.link).script;
}
