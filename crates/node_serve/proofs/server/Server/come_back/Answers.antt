use Rattle.std.proofs.Common.{◌≡◌, Some, None, refl, arith}
use Rattle.std.proofs.lemmas.Grind.{common_steps}
use Rattle.node_log.specs.Runs.{come_back, make}
use Rattle.network_config.specs.Hosts.{dev_of}
use Rattle.network_config.specs.declared.event.Event.TheVariants.{Frame}
use Rattle.packet_frame.specs.Stamped.{stamped_bytes}
use Rattle.node_core.specs.Stands.{version_of}
use Rattle.node_serve.specs.Desks.{desk}
use Rattle.node_serve.proofs.Coming.{may_come_always}
use Rattle.node_serve.proofs.Joining.{goes_same, goes_as}
use Rattle.node_serve.proofs.MakeLaws.{back_stay, back_makes}
use Rattle.node_serve.proofs.server.Server.come_back.Goals as goal

pub returns-in_default : goal.returns-in_default
returns-in_default g c =
    let none : c.args.frame ≡ None = grind (arith, common_steps, c.in_default.not-Some) in
    λ l. goes_same g.S.Services.stands c.args.cfg.now (come_back c.args.frame) c.args.self.now (desk (g.F.Files.state c.args.files.now) (g.K.Sink.state c.args.out.now) l) tt (λ r st. back_stay c.args.frame r none)

pub returns : goal.returns
returns g c = λ l.
    let e = Frame (dev_of 0) (stamped_bytes c.in-Some.frame) in
    goes_as g.S.Services.stands c.args.cfg.now (make e) (come_back c.args.frame) c.args.self.now c.step.new.self _ _ c.step.result
    (λ seen r st. back_makes c.args.frame c.in-Some.frame r c.in-Some.is) (c.step.ensures l e c.event_of_frame.ensures.event (λ node. refl))

pub step-requires-clause-event : goal.step-requires-clause-event
step-requires-clause-event g c = may_come_always c.args.cfg.now.node.version (version_of c.args.self.now.node) (Some c.event_of_frame.result) c.event_of_frame.ensures.keeps
