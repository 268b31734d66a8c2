use Rattle.std.proofs.Common.{refl}
use Rattle.node_log.specs.Runs.{loop_back, flush, peers_of}
use Rattle.node_log.proofs.Going.{flush_grows}
use Rattle.node_serve.proofs.Joining.{still_serving, goes_then, goes_stopped}
use Rattle.node_serve.proofs.server.Server.end_turn.Goals as goal

pub returns-in-Ok : goal.returns-in-Ok
returns-in-Ok g c = record {
  goes = goes_then g.S.Services.stands c.args.cfg.now loop_back (flush (peers_of c.args.cfg.now)) c.args.self.now c.loop_back.new.self c.flush.new.self _ _ _ tt c.flush.result
      (c.in-Ok.ensures (g.L.Link.state c.args.link.now)) c.flush.ensures.goes;
  script = c.flush.ensures.script;
}

pub returns-in-Err : goal.returns-in-Err
returns-in-Err g c = record {
  goes = goes_stopped g.S.Services.stands c.args.cfg.now loop_back (flush (peers_of c.args.cfg.now)) c.args.self.now c.loop_back.new.self _ _ c.in-Err.fault (flush_grows (peers_of c.args.cfg.now))
      (c.in-Err.ensures (g.L.Link.state c.args.link.now));
  script = refl;
}

pub loop_back-requires : goal.loop_back-requires
loop_back-requires g c = c.requires.writing

pub flush-requires : goal.flush-requires
flush-requires g c = still_serving c.args.cfg.now _ _ (c.in-Ok.ensures (g.L.Link.state c.args.link.now)).keeps c.requires
