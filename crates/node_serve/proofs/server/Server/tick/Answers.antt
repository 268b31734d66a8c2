use Rattle.std.proofs.Common.{◌≡◌, true, false, refl, arith, ◌∙◌}
use Rattle.node_log.specs.Runs.{tick}
use Rattle.node_serve.specs.Desks.{desk}
use Rattle.node_serve.proofs.Following.{tick_early}
use Rattle.node_serve.proofs.MakeLaws.{over_is}
use Rattle.node_serve.proofs.Joining.{goes_same, goes_ticked, goes_unticked}
use Rattle.node_serve.proofs.server.Server.tick.Goals as goal

pub returns-then-not-is_over : goal.returns-then-not-is_over
returns-then-not-is_over g c =
    let early : c.is_over.result ≡ false = grind (arith, c.if-not-is_over.true) in
    λ l. goes_same g.S.Services.stands c.args.cfg.now (tick c.args.cfg.now.period c.args.now) c.args.self.now (desk (g.F.Files.state c.args.files.now) (g.K.Sink.state c.args.out.now) l) tt
    (λ r st. tick_early c.args.cfg.now.period c.args.now r (over_is g.S.Services.stands c.args.self.now r c.args.cfg.now.period c.args.now c.is_over.result st c.is_over.ensures ∙ early))

pub returns-in-Err : goal.returns-in-Err
returns-in-Err g c =
    let over : c.is_over.result ≡ true = grind (arith, c.if-not-is_over.false) in
    λ l. goes_unticked g.S.Services.stands c.args.cfg.now c.args.cfg.now.period c.args.now c.args.self.now c.step_tick.new.self _ _ c.in-Err.fault
    (λ r st. over_is g.S.Services.stands c.args.self.now r c.args.cfg.now.period c.args.now c.is_over.result st c.is_over.ensures ∙ over) (c.in-Err.ensures l)

pub returns : goal.returns
returns g c =
    let over : c.is_over.result ≡ true = grind (arith, c.if-not-is_over.false) in
    λ l. goes_ticked g.S.Services.stands c.args.cfg.now c.args.cfg.now.period c.args.now c.args.self.now c.step_tick.new.self _ _ _ tt refl refl refl refl
    (λ r st. over_is g.S.Services.stands c.args.self.now r c.args.cfg.now.period c.args.now c.is_over.result st c.is_over.ensures ∙ over) (c.in_default.ensures l)
