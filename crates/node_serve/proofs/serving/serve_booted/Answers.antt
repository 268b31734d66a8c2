use Rattle.std.proofs.Common.{refl}
use Rattle.node_core_spec.specs.State.{new_node}
use Rattle.node_serve.specs.Desks.{serving}
use Rattle.node_serve.specs.Moments.{booted_config}
use Rattle.node_serve.proofs.Moments.{two_served}
use Rattle.node_serve.proofs.Starting.{serves_none}
use Rattle.node_serve.proofs.serving.serve_booted.Goals as goal

pub returns-in_default : goal.returns-in_default
returns-in_default g c =
    let cfg = booted_config c.now-boot.result c.args.cfg.now in
    let clock = g.C.Clock.state c.now-boot.new.self in
    two_served c.args.cfg.now (g.S.Services.stands c.args.services) c.args.turns _ _ _ c.now-boot.result clock cfg c.requires.config.two c.now-boot.ensures.tells c.with_boot.ensures.fits refl
    (serves_none cfg (new_node cfg.node (g.S.Services.stands c.args.services)) c.args.turns (serving (g.F.Files.state c.args.files.now) (g.K.Sink.state c.args.out.now) (g.L.Link.state c.args.link.now) clock))
