use Rattle.node_serve.specs.Desks.{desk}
use Rattle.node_serve.proofs.Starting.{serves_unopened, serves_opened}
use Rattle.node_serve.proofs.server.Server.begin_and_run.Goals as goal

pub returns-in-Err : goal.returns-in-Err
returns-in-Err g c =
    λ node st. serves_unopened c.args.cfg.now node c.args.turns (desk (g.F.Files.state c.args.files.now) (g.K.Sink.state c.args.out.now) (g.L.Link.state c.args.link.now))
    (desk (g.F.Files.state c.begin.new.files) (g.K.Sink.state c.begin.new.out) (g.L.Link.state c.begin.new.link))
    (g.C.Clock.state c.args.clock.now) c.in-Err.fault c.in-Err.ensures

pub returns : goal.returns
returns g c =
    λ node st. serves_opened g.S.Services.stands c.args.cfg.now node c.args.turns c.args.self.now
    (desk (g.F.Files.state c.args.files.now) (g.K.Sink.state c.args.out.now) (g.L.Link.state c.args.link.now))
    (desk (g.F.Files.state c.begin.new.files) (g.K.Sink.state c.begin.new.out) (g.L.Link.state c.begin.new.link))
    (g.C.Clock.state c.args.clock.now) _ c.finish.result st c.in_default.ensures c.finish.ensures
