use Rattle.std.proofs.Common.{refl, sym, subst}
use Rattle.node_io.specs.Links.{HasPeer}
use Rattle.node_serve.specs.Desks.{desk}
use Rattle.node_serve.proofs.Taking.{send_holds, send_lost, send_took, send_stops}
use Rattle.node_serve.proofs.server.Server.take_send.Goals as goal

pub returns-then-self : goal.returns-then-self
returns-then-self g c = record {
  goes = send_holds g.S.Services.stands c.args.cfg.now c.args.dev c.args.self.now c.args.self.now (desk (g.F.Files.state c.args.files.now) (g.K.Sink.state c.args.out.now) (g.L.Link.state c.args.link.now)) tt c.if-self.true;
  script = refl;
}

pub returns-in-Ok-Lost : goal.returns-in-Ok-Lost
returns-in-Ok-Lost g c = record {
  goes = send_lost g.S.Services.stands c.args.cfg.now c.args.dev c.args.self.now c.take_frame.new.self _ _ c.in-Ok-Lost.field-0 _ tt c.if-self.false c.in-Ok-Lost.field-0-is
      (c.in-Ok-Lost.ensures (g.L.Link.state c.args.link.now)) refl refl refl refl;
  script = refl;
}

pub returns-in-Ok-Took : goal.returns-in-Ok-Took
returns-in-Ok-Took g c = record {
  goes = send_took g.S.Services.stands c.args.cfg.now c.args.dev c.args.self.now c.take_frame.new.self _ (g.F.Files.state c.take_frame.new.files) (g.K.Sink.state c.take_frame.new.out)
      (g.L.Link.state c.args.link.now) (g.L.Link.state c.send_frame.new.link)
      c.in-Ok-Took.field-0 c.in-Ok-Took.frame c.send_frame.result c.if-self.false c.requires.device.outward.other c.in-Ok-Took.field-0-is (c.in-Ok-Took.ensures (g.L.Link.state c.args.link.now)) c.send_frame.ensures;
  script = c.send_frame.ensures.script;
}

pub returns-in-Err : goal.returns-in-Err
returns-in-Err g c = record {
  goes = send_stops g.S.Services.stands c.args.cfg.now c.args.dev c.args.self.now c.take_frame.new.self _ _ c.in-Err.fault c.if-self.false (c.in-Err.ensures (g.L.Link.state c.args.link.now));
  script = refl;
}

pub take_frame-requires-clause-writing : goal.take_frame-requires-clause-writing
take_frame-requires-clause-writing g c = c.requires.serving.writing

pub take_frame-requires-clause-device : goal.take_frame-requires-clause-device
take_frame-requires-clause-device g c = c.requires.device.outward.device

pub send_frame-requires : goal.send_frame-requires
send_frame-requires g c = subst (λ peers. HasPeer peers c.args.dev) (sym c.requires.serving.bound) c.requires.device.peer
