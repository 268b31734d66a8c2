use Rattle.std.proofs.Common.{refl}
use Rattle.node_serve.proofs.Starting.{opens_unbound, opens_unlogged, opens_untraced, opens_all}
use Rattle.node_serve.proofs.opening.begin.Goals as goal

pub returns-in-Err : goal.returns-in-Err
returns-in-Err g c = opens_unbound c.args.cfg.now (g.F.Files.state c.args.files.now) (g.K.Sink.state c.args.out.now) _ _ c.in-Err.fault c.in-Err.ensures

pub returns-in-Err-begin_log : goal.returns-in-Err-begin_log
returns-in-Err-begin_log g c = opens_unlogged c.args.cfg.now _ _ _ _ _ _ c.in_default.ensures c.in-Err-begin_log.fault c.in-Err-begin_log.ensures refl

pub returns-in-Ok : goal.returns-in-Ok
returns-in-Ok g c = opens_all c.args.cfg.now _ _ _ _ _ _ c.in_default.ensures c.in_default-begin_log.ensures c.in-Ok.ensures

pub returns-in-Err-put_all : goal.returns-in-Err-put_all
returns-in-Err-put_all g c = opens_untraced c.args.cfg.now _ _ _ _ _ _ c.in_default.ensures c.in_default-begin_log.ensures c.in-Err-put_all.ensures
