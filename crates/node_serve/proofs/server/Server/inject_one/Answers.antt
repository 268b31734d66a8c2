use Rattle.std.proofs.Common.{Some, IfSome, refl, subst}
use Rattle.node_log.specs.Runs.{inject_one, make}
use Rattle.network_config.specs.declared.event.Event.TheVariants.{Inject}
use Rattle.node_core_spec.specs.Fits.{comes_within}
use Rattle.node_serve.specs.Desks.{desk}
use Rattle.node_serve.proofs.MakeLaws.{inject_stay, inject_makes, not_same, is_same}
use Rattle.node_serve.proofs.Joining.{goes_same, goes_as}
use Rattle.node_serve.proofs.server.Server.inject_one.Goals as goal

pub returns-then-inject-turn : goal.returns-then-inject-turn
returns-then-inject-turn g c = λ l. goes_same g.S.Services.stands c.args.cfg.now (inject_one c.args.turn (Some c.args.inject.now)) c.args.self.now (desk (g.F.Files.state c.args.files.now) (g.K.Sink.state c.args.out.now) l) tt
    (λ r st. inject_stay c.args.turn c.args.inject.now r (not_same _ _ c.if-inject-turn.true))

pub returns : goal.returns
returns g c = λ l.
    let e = Inject c.args.inject.now.chunk c.args.inject.now.bound c.args.inject.now.handler in
    goes_as g.S.Services.stands c.args.cfg.now (make e) (inject_one c.args.turn (Some c.args.inject.now)) c.args.self.now c.step.new.self _ _ c.step.result
    (λ seen r st. inject_makes c.args.turn c.args.inject.now r (is_same _ _ c.if-inject-turn.false)) (c.step.ensures l e c.injection-event.ensures.event (λ node. refl))

pub step-requires-clause-event : goal.step-requires-clause-event
step-requires-clause-event g c = record {
  keeps = c.injection-event.ensures.keeps c.args.cfg.now.node.version c.requires.keeps;
  within = subst (λ v. IfSome c.injection-event.result (comes_within v)) c.version.ensures (c.injection-event.ensures.within c.args.cfg.now.node.version c.requires.keeps);
}
