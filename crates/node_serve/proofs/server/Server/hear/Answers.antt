use Rattle.std.proofs.Common.{◌≡◌, Some, None, take, length, subst, inl, ◌∙◌, arith}
use Rattle.std.proofs.lemmas.List.{length-take-le}
use Rattle.node_log.specs.Runs.{peers_of}
use Rattle.node_io.specs.Links.{Heard, HasPeer, next_heard}
use Rattle.node_serve.proofs.PeerLaws.{peer_small}
use Rattle.node_serve.proofs.Turning.{hears_frame, hears_nothing, hears_fail, used_one}
use Rattle.node_serve.proofs.server.Server.hear.Goals as goal

pub returns-in-Frame : goal.returns-in-Frame
returns-in-Frame g c =
    let x : Heard = (c.in-Frame.dev, take c.in-Frame.count c.recv.new.buf) in
    record {
      goes = hears_frame g.S.Services.stands c.args.cfg.now
          (next_heard (peers_of c.args.cfg.now)
          (g.L.Link.state c.args.link.now).script) c.args.self.now (g.F.Files.state c.args.files.now) (g.K.Sink.state c.args.out.now) (g.L.Link.state c.args.link.now) (g.L.Link.state
          c.recv.new.self) _ _ c.in-Frame.ensures.hears
          x c.arrive.new.self _ _ c.arrive.result (λ seen.
          subst (λ ps. next_heard ps (g.L.Link.state c.args.link.now).script ≡ Some x) c.requires.bound (c.in-Frame.ensures.hears.did seen).0) (c.arrive.ensures (g.L.Link.state c.recv.new.self));
      script = λ seen. used_one c.arrive.result (g.L.Link.state c.args.link.now).script (g.L.Link.state c.recv.new.self).script (c.in-Frame.ensures.hears.did seen).1;
      room = c.in-Frame.ensures.room;
    }

pub returns-in-Nothing : goal.returns-in-Nothing
returns-in-Nothing g c = record {
  goes = hears_nothing g.S.Services.stands c.args.cfg.now
      (next_heard (peers_of c.args.cfg.now)
      (g.L.Link.state c.args.link.now).script) c.args.self.now (g.F.Files.state c.args.files.now) (g.K.Sink.state c.args.out.now) (g.L.Link.state c.args.link.now) (g.L.Link.state
      c.recv.new.self) _ _ c.in-Nothing.ensures.hears
      tt (λ seen. subst (λ ps. next_heard ps (g.L.Link.state c.args.link.now).script ≡ None) c.requires.bound (c.in-Nothing.ensures.hears.did seen).0);
  script = λ seen. (c.in-Nothing.ensures.hears.did seen).1;
  room = c.in-Nothing.ensures.room;
}

pub returns-in-Failed : goal.returns-in-Failed
returns-in-Failed g c = record {
  goes = hears_fail g.S.Services.stands c.args.cfg.now
      (next_heard (peers_of c.args.cfg.now)
      (g.L.Link.state c.args.link.now).script) c.args.self.now (g.F.Files.state c.args.files.now) (g.K.Sink.state c.args.out.now) (g.L.Link.state c.args.link.now) (g.L.Link.state
      c.recv.new.self) _ _ c.in-Failed.ensures.hears c.in-Failed.ensures.hears.did.1;
  script = λ seen. inl c.in-Failed.ensures.hears.did.0;
  room = c.in-Failed.ensures.room;
}

pub recv-requires : goal.recv-requires
recv-requires g c = c.requires.room

pub arrive-requires-clause-writing : goal.arrive-requires-clause-writing
arrive-requires-clause-writing g c = c.requires.writing

pub arrive-requires-clause-arrival : goal.arrive-requires-clause-arrival
arrive-requires-clause-arrival g c =
    let frame = c.in-Frame.ensures.hears.frame in
    let room : length c.recv.new.buf ≡ 16513 = c.in-Frame.ensures.room ∙ c.requires.room in
    let count : length (take c.in-Frame.count c.recv.new.buf) ≡ c.in-Frame.count = length-take-le c.in-Frame.count c.recv.new.buf (omega (arith, frame.2, room)) in
    record {
      device = peer_small c.args.cfg.now c.in-Frame.dev c.requires.keeps (subst (λ ps. HasPeer ps c.in-Frame.dev) c.requires.bound frame.0);
      some = omega (arith, frame.1, count);
      few = omega (arith, frame.2, count);
    }
