use Rattle.std.proofs.Common.{length, IsTrue, subst, sym}
use Rattle.node_log.proofs.Going.{inject_to_grows}
use Rattle.node_log.specs.Runs.{tick, inject_to}
use Rattle.node_serve.proofs.Joining.{goes_then, goes_stopped, no_link}
use Rattle.node_serve.proofs.server.Server.begin_turn.Goals as goal

pub returns-in-Err : goal.returns-in-Err
returns-in-Err g c = λ l. goes_stopped g.S.Services.stands c.args.cfg.now (tick c.args.cfg.now.period c.args.now) (inject_to c.args.turn c.args.cfg.now.at (length c.args.cfg.now.at)) c.args.self.now c.tick.new.self _ _ c.in-Err.fault
    (inject_to_grows c.args.turn c.args.cfg.now.at (length c.args.cfg.now.at)) (c.in-Err.ensures l)

pub returns-in-Ok : goal.returns-in-Ok
returns-in-Ok g c = λ l. goes_then g.S.Services.stands c.args.cfg.now (tick c.args.cfg.now.period c.args.now) (inject_to c.args.turn c.args.cfg.now.at (length c.args.cfg.now.at)) c.args.self.now c.tick.new.self c.inject_all.new.self
    _ _ _ tt c.inject_all.result (c.in-Ok.ensures l) (c.inject_all.ensures l)

pub inject_all-requires-clause-writing : goal.inject_all-requires-clause-writing
inject_all-requires-clause-writing g c = subst IsTrue (sym (c.in-Ok.ensures no_link).keeps.writing) c.requires.writing
