use Rattle.std.proofs.Common.{◌≡◌, ◌+◌, refl, ap, ◌∙◌, arith}
use Rattle.node_log.specs.Runs.{flush_device, flush_to, peers_of}
use Rattle.network_config.specs.Hosts.{dev_of}
use Rattle.node_serve.proofs.MakeLaws.{flush_none, flush_next}
use Rattle.node_serve.specs.Desks.{desk}
use Rattle.node_serve.proofs.Looping.{flush_up}
use Rattle.node_serve.proofs.Joining.{still_serving, goes_same, goes_as, goes_next, goes_no_more}
use Rattle.node_serve.proofs.server.Server.flush_all.Goals as goal

pub loop-number-init : goal.loop-number-init
loop-number-init g c = record {
  within = omega arith;
  run = goes_same g.S.Services.stands c.args.cfg.now (flush_to (peers_of c.args.cfg.now) 0) c.args.self.now
      (desk (g.F.Files.state c.args.files.now) (g.K.Sink.state c.args.out.now) (g.L.Link.state c.args.link.now)) tt (λ r st. flush_none (peers_of c.args.cfg.now) r);
  script = refl;
}

pub flush_device-requires-clause-serving : goal.flush_device-requires-clause-serving
flush_device-requires-clause-serving g c = still_serving c.args.cfg.now _ _ c.loop-number.invariant.run.keeps c.requires

pub flush_device-requires-clause-device : goal.flush_device-requires-clause-device
flush_device-requires-clause-device g c = record { device = omega (arith, c.loop-number-test.true); other = omega arith }

pub loop-number-preserved : goal.loop-number-preserved
loop-number-preserved g c =
    let i = c.loop-number.invariant in
    record {
      within = omega (arith, c.loop-number-test.true);
      run = goes_next g.S.Services.stands c.args.cfg.now (flush_to (peers_of c.args.cfg.now))
          (flush_device (peers_of c.args.cfg.now)
          (dev_of (c.loop-number.number + 1))) c.loop-number.number c.args.self.now c.loop-number.self c.flush_device.new.self _ _ _ (flush_next (peers_of c.args.cfg.now)
          c.loop-number.number) tt tt i.run c.in_default.ensures.goes;
      script = c.flush_device.ensures.script ∙ i.script;
    }

pub returns-in-Err : goal.returns-in-Err
returns-in-Err g c = record {
  goes = goes_no_more g.S.Services.stands c.args.cfg.now (flush_to (peers_of c.args.cfg.now))
      (flush_device (peers_of c.args.cfg.now)
      (dev_of (c.loop-number.number + 1))) c.loop-number.number c.args.self.now c.loop-number.self c.flush_device.new.self _ _ _ (flush_next (peers_of c.args.cfg.now)
      c.loop-number.number) (flush_up (peers_of c.args.cfg.now)) 8 c.loop-number-test.true tt c.in-Err.fault
      c.loop-number.invariant.run c.in-Err.ensures.goes;
  script = c.flush_device.ensures.script ∙ c.loop-number.invariant.script;
}

pub returns : goal.returns
returns g c =
    let all : c.loop-number.number ≡ 8 = omega (arith, c.loop-number.invariant.within, c.loop-number-test.false) in
    record {
      goes = goes_as g.S.Services.stands c.args.cfg.now (flush_to (peers_of c.args.cfg.now) c.loop-number.number) (flush_to (peers_of c.args.cfg.now) 8) c.args.self.now c.loop-number.self _ _ _
          (λ seen r st refused.
          ap (λ n. flush_to (peers_of c.args.cfg.now) n refused r) all) c.loop-number.invariant.run;
      script = c.loop-number.invariant.script;
    }
