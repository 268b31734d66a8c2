use Rattle.std.proofs.Common.{refl}
use Rattle.node_log.specs.Runs.{flush_to, peers_of}
use Rattle.node_serve.proofs.Turning.{goes_released}
use Rattle.node_serve.proofs.server.Server.flush.Goals as goal

pub returns : goal.returns
returns g c = record {
  goes = goes_released g.S.Services.stands c.args.cfg.now (flush_to (peers_of c.args.cfg.now) 8) c.args.self.now _ c.flush_all.new.self _ _ c.flush_all.result refl refl refl refl c.flush_all.ensures.goes;
  script = c.flush_all.ensures.script;
}
