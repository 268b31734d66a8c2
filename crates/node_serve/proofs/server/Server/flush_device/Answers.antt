use Rattle.std.proofs.Common.{◌≡◌, true, false, arith, refl, sym, ◌∙◌}
use Rattle.node_log.specs.Runs.{repeat_send, flush_device, peers_of}
use Rattle.node_serve.specs.Desks.{desk}
use Rattle.node_serve.proofs.Joining.{goes_same, goes_as}
use Rattle.node_serve.proofs.MakeLaws.{no_flush, some_flush, count_is}
use Rattle.node_serve.proofs.server.Server.flush_device.Goals as goal

pub returns-then-not-has_peer : goal.returns-then-not-has_peer
returns-then-not-has_peer g c =
    let none : c.has_peer.result ≡ false = grind (arith, c.if-not-has_peer.true) in
    record {
      goes = goes_same g.S.Services.stands c.args.cfg.now (flush_device (peers_of c.args.cfg.now) c.args.dev) c.args.self.now
          (desk (g.F.Files.state c.args.files.now) (g.K.Sink.state c.args.out.now)
          (g.L.Link.state c.args.link.now)) tt (λ r st. no_flush (peers_of c.args.cfg.now) c.args.dev r (sym c.has_peer.ensures ∙ none));
      script = refl;
    }

pub returns : goal.returns
returns g c =
    let there : c.has_peer.result ≡ true = grind (arith, c.if-not-has_peer.false) in
    record {
      goes = goes_as g.S.Services.stands c.args.cfg.now (repeat_send c.args.dev c.queued-count.result) (flush_device (peers_of c.args.cfg.now) c.args.dev) c.args.self.now c.repeat_send.new.self _ _ c.repeat_send.result
          (λ seen r st. some_flush (peers_of c.args.cfg.now) c.args.dev r c.queued-count.result (sym c.has_peer.ensures ∙ there) (count_is g.S.Services.stands c.args.self.now r c.args.dev c.queued-count.result st c.queued-count.ensures))
          c.repeat_send.ensures.goes;
      script = c.repeat_send.ensures.script;
    }

pub repeat_send-requires-clause-device : goal.repeat_send-requires-clause-device
repeat_send-requires-clause-device g c =
    let there : c.has_peer.result ≡ true = grind (arith, c.if-not-has_peer.false) in
    record { outward = c.requires.device; peer = sym c.has_peer.ensures ∙ there }
