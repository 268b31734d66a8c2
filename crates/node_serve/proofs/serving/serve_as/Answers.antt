use Rattle.node_core_spec.specs.State.{new_node}
use Rattle.node_serve.specs.Desks.{serving}
use Rattle.node_serve.proofs.Starting.{serves_none}
use Rattle.node_serve.proofs.serving.serve_as.Goals as goal

pub returns-in_default : goal.returns-in_default
returns-in_default g c =
    serves_none c.args.cfg.now (new_node c.args.cfg.now.node (g.S.Services.stands c.args.services)) c.args.turns
    (serving (g.F.Files.state c.args.files.now) (g.K.Sink.state c.args.out.now) (g.L.Link.state c.args.link.now) (g.C.Clock.state c.args.clock.now))

pub returns-in_default-room : goal.returns-in_default-room
returns-in_default-room g c =
    serves_none c.args.cfg.now (new_node c.args.cfg.now.node (g.S.Services.stands c.args.services)) c.args.turns
    (serving (g.F.Files.state c.args.files.now) (g.K.Sink.state c.args.out.now) (g.L.Link.state c.args.link.now) (g.C.Clock.state c.args.clock.now))

pub returns : goal.returns
returns g c = c.begin_and_run.ensures (new_node c.args.cfg.now.node (g.S.Services.stands c.args.services)) c.in-Ok.ensures
