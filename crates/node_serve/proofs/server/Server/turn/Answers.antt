use Rattle.std.proofs.Common.{IsTrue, Err, refl, sym, subst, inl, ◌∙◌}
use Rattle.node_io.specs.Links.{next_heard}
use Rattle.node_log.specs.Runs.{hear, begin_turn, end_turn, then_do, peers_of}
use Rattle.node_log.proofs.Going.{grows_then, hear_grows, end_turn_grows}
use Rattle.node_serve.proofs.Joining.{goes_then, goes_stopped, no_link}
use Rattle.node_serve.proofs.Turning.{used_one}
use Rattle.node_serve.proofs.server.Server.turn.Goals as goal

pub returns-in-Err : goal.returns-in-Err
returns-in-Err g c =
    let h = (next_heard (peers_of c.args.cfg.now) (g.L.Link.state c.args.link.now).script) in
    record {
      goes = record {
        time = c.now-now.result;
        told = c.now-now.ensures.tells;
        goes = goes_stopped g.S.Services.stands c.args.cfg.now (begin_turn c.args.cfg.now c.args.number c.now-now.result) (then_do (hear h) (end_turn (peers_of c.args.cfg.now))) c.args.self.now c.begin_turn.new.self _ _ c.in-Err.fault
            (grows_then (hear h) (end_turn (peers_of c.args.cfg.now)) (hear_grows h) (end_turn_grows (peers_of c.args.cfg.now))) (c.in-Err.ensures (g.L.Link.state c.args.link.now));
        script = λ seen. inl refl;
      };
      room = refl;
    }

pub returns-in-Err-hear : goal.returns-in-Err-hear
returns-in-Err-hear g c =
    let h = (next_heard (peers_of c.args.cfg.now) (g.L.Link.state c.args.link.now).script) in
    record {
      goes = record {
        time = c.now-now.result;
        told = c.now-now.ensures.tells;
        goes = goes_then g.S.Services.stands c.args.cfg.now (begin_turn c.args.cfg.now c.args.number c.now-now.result) (then_do (hear h) (end_turn (peers_of c.args.cfg.now))) c.args.self.now
            c.begin_turn.new.self c.hear.new.self _ _ _ tt (Err c.in-Err-hear.fault) (c.in_default.ensures (g.L.Link.state c.args.link.now))
            (goes_stopped g.S.Services.stands c.args.cfg.now (hear h) (end_turn (peers_of c.args.cfg.now)) c.begin_turn.new.self c.hear.new.self _ _ c.in-Err-hear.fault (end_turn_grows (peers_of c.args.cfg.now)) c.in-Err-hear.ensures.goes);
        script = c.in-Err-hear.ensures.script;
      };
      room = c.in-Err-hear.ensures.room;
    }

pub returns : goal.returns
returns g c =
    let h = (next_heard (peers_of c.args.cfg.now) (g.L.Link.state c.args.link.now).script) in
    record {
      goes = record {
        time = c.now-now.result;
        told = c.now-now.ensures.tells;
        goes = goes_then g.S.Services.stands c.args.cfg.now (begin_turn c.args.cfg.now c.args.number c.now-now.result) (then_do (hear h) (end_turn (peers_of c.args.cfg.now))) c.args.self.now
            c.begin_turn.new.self c.end_turn.new.self _ _ _ tt c.end_turn.result (c.in_default.ensures (g.L.Link.state c.args.link.now))
            (goes_then g.S.Services.stands c.args.cfg.now (hear h) (end_turn (peers_of c.args.cfg.now)) c.begin_turn.new.self c.hear.new.self c.end_turn.new.self _ _ _ tt c.end_turn.result
            c.in_default-hear.ensures.goes c.end_turn.ensures.goes);
        script = λ seen. used_one c.end_turn.result (g.L.Link.state c.args.link.now).script (g.L.Link.state c.end_turn.new.link).script (c.end_turn.ensures.script ∙ c.in_default-hear.ensures.script seen);
      };
      room = c.in_default-hear.ensures.room;
    }

pub hear-requires : goal.hear-requires
hear-requires g c = record {
  writing = subst IsTrue (sym (c.in_default.ensures no_link).keeps.writing) c.requires.writing;
  bound = c.requires.bound;
  keeps = c.requires.keeps;
  room = c.requires.room;
}

pub end_turn-requires : goal.end_turn-requires
end_turn-requires g c = record {
  writing = subst IsTrue (sym (c.in_default-hear.ensures.goes.keeps.writing ∙ (c.in_default.ensures no_link).keeps.writing)) c.requires.writing;
  bound = c.in_default-hear.ensures.goes.keeps.bound ∙ c.requires.bound;
}
