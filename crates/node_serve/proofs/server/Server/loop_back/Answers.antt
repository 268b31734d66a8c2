use Rattle.node_log.specs.Runs.{take_back, loop_back}
use Rattle.network_config.specs.Hosts.{dev_of}
use Rattle.node_serve.specs.Desks.{desk}
use Rattle.node_serve.proofs.Joining.{goes_same, goes_as}
use Rattle.node_serve.proofs.MakeLaws.{no_back, some_back, some_one, count_is}
use Rattle.node_serve.proofs.server.Server.loop_back.Goals as goal

pub returns-then-queued-eq0 : goal.returns-then-queued-eq0
returns-then-queued-eq0 g c = λ l. goes_same g.S.Services.stands c.args.cfg.now loop_back c.args.self.now (desk (g.F.Files.state c.args.files.now) (g.K.Sink.state c.args.out.now) l) tt
    (λ r st. no_back r c.queued.result (count_is g.S.Services.stands c.args.self.now r (dev_of 0) c.queued.result st c.queued.ensures) c.if-queued-eq0.true)

pub returns : goal.returns
returns g c = λ l. goes_as g.S.Services.stands c.args.cfg.now take_back loop_back c.args.self.now c.take_back.new.self _ _ c.take_back.result
    (λ seen r st. some_back r c.queued.result (count_is g.S.Services.stands c.args.self.now r (dev_of 0) c.queued.result st c.queued.ensures) (some_one c.queued.result c.if-queued-eq0.false))
    (c.take_back.ensures l)
