use Rattle.std.proofs.Common.{Ok, IsTrue}
use Rattle.node_io.specs.Links.{LinkState}
use Rattle.node_log.specs.Runs.{inject_to}
use Rattle.node_serve.specs.Desks.{desk}
use Rattle.node_serve.specs.Goes.{Goes}
use Rattle.node_serve.proofs.server.Server.inject_all.Given as goal

abbrev pub invariant-loop-inject : goal.invariant-loop-inject
invariant-loop-inject g l = record {
  writing : IsTrue (g.F.Files.state l.files).writing;
  run : (k : LinkState) → Goes {T = Unit {0}} g.S.Services.stands l.cfg (inject_to l.turn l.cfg.at l.inject-index) l.initial.self l.self
      (desk (g.F.Files.state l.initial.files) (g.K.Sink.state l.initial.out) k) (desk (g.F.Files.state l.files) (g.K.Sink.state l.out) k) (Ok tt);
}
