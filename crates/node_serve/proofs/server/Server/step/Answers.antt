use Rattle.node_serve.proofs.Joining.{goes_made, goes_unmade}
use Rattle.node_serve.proofs.server.Server.step.Goals as goal

pub returns-in-Err : goal.returns-in-Err
returns-in-Err g c = λ l e ev none. goes_unmade g.S.Services.stands c.args.cfg.now e c.args.self.now c.make.new.self _ _ c.in-Err.fault (c.in-Err.ensures l e ev)

pub returns : goal.returns
returns g c = λ l e ev none. goes_made g.S.Services.stands c.args.cfg.now e c.args.self.now c.make.new.self _ _ _ tt none (c.in_default.ensures l e ev)
