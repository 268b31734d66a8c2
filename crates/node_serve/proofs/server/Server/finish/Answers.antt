use Rattle.node_serve.specs.Desks.{serving}
use Rattle.node_serve.proofs.Starting.{finish_stops, finish_cut, finish_whole}
use Rattle.node_serve.proofs.server.Server.finish.Goals as goal

pub returns-in-Err : goal.returns-in-Err
returns-in-Err g c = finish_stops g.S.Services.stands c.args.cfg.now c.args.turns c.args.self.now c.run_turns.new.self _ _ c.in-Err.fault c.in-Err.ensures

pub returns-in-Ok : goal.returns-in-Ok
returns-in-Ok g c =
    finish_whole g.S.Services.stands c.args.cfg.now c.args.turns c.args.self.now c.run_turns.new.self _
    (serving (g.F.Files.state c.run_turns.new.files) (g.K.Sink.state c.run_turns.new.out) (g.L.Link.state c.run_turns.new.link)
    (g.C.Clock.state c.run_turns.new.clock)) c.in_default.ensures (g.K.Sink.state c.put_all.new.sink) c.in-Ok.ensures

pub returns-in-Err-put_all : goal.returns-in-Err-put_all
returns-in-Err-put_all g c =
    finish_cut g.S.Services.stands c.args.cfg.now c.args.turns c.args.self.now c.run_turns.new.self _
    (serving (g.F.Files.state c.run_turns.new.files) (g.K.Sink.state c.run_turns.new.out) (g.L.Link.state c.run_turns.new.link)
    (g.C.Clock.state c.run_turns.new.clock)) c.in_default.ensures (g.K.Sink.state c.put_all.new.sink) c.in-Err-put_all.ensures
