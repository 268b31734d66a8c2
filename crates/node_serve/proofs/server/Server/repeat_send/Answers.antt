use Rattle.std.proofs.Common.{◌≡◌, refl, ap, ◌∙◌, arith}
use Rattle.node_log.specs.Runs.{take_send, repeat_send}
use Rattle.node_serve.proofs.MakeLaws.{repeat_none, repeat_next}
use Rattle.node_serve.specs.Desks.{desk}
use Rattle.node_serve.proofs.Looping.{repeat_up}
use Rattle.node_serve.proofs.Joining.{still_serving, goes_same, goes_as, goes_next, goes_no_more}
use Rattle.node_serve.proofs.server.Server.repeat_send.Goals as goal

pub loop-init : goal.loop-init
loop-init g c = record {
  within = omega arith;
  run = goes_same g.S.Services.stands c.args.cfg.now (repeat_send c.args.dev 0) c.args.self.now
      (desk (g.F.Files.state c.args.files.now) (g.K.Sink.state c.args.out.now) (g.L.Link.state c.args.link.now)) tt (λ r st. repeat_none c.args.dev r);
  script = refl;
}

pub take_send-requires-clause-serving : goal.take_send-requires-clause-serving
take_send-requires-clause-serving g c = still_serving c.args.cfg.now _ _ c.loop.invariant.run.keeps c.requires.serving

pub loop-preserved : goal.loop-preserved
loop-preserved g c =
    let i = c.loop.invariant in
    record {
      within = omega (arith, c.loop-test.true);
      run = goes_next g.S.Services.stands c.args.cfg.now (repeat_send c.args.dev) (take_send c.args.dev) c.loop.counter c.args.self.now c.loop.self c.take_send.new.self _ _ _
          (repeat_next c.args.dev c.loop.counter) tt tt i.run c.in_default.ensures.goes;
      script = c.take_send.ensures.script ∙ i.script;
    }

pub returns-in-Err : goal.returns-in-Err
returns-in-Err g c = record {
  goes = goes_no_more g.S.Services.stands c.args.cfg.now (repeat_send c.args.dev) (take_send c.args.dev) c.loop.counter c.args.self.now c.loop.self c.take_send.new.self _ _ _
      (repeat_next c.args.dev c.loop.counter) (repeat_up c.args.dev) c.args.count c.loop-test.true tt c.in-Err.fault
      c.loop.invariant.run c.in-Err.ensures.goes;
  script = c.take_send.ensures.script ∙ c.loop.invariant.script;
}

pub returns : goal.returns
returns g c =
    let all : c.loop.counter ≡ c.args.count = omega (arith, c.loop.invariant.within, c.loop-test.false) in
    record {
      goes = goes_as g.S.Services.stands c.args.cfg.now (repeat_send c.args.dev c.loop.counter) (repeat_send c.args.dev c.args.count) c.args.self.now c.loop.self _ _ _ (λ seen r st refused.
          ap (λ n. repeat_send c.args.dev n refused r) all) c.loop.invariant.run;
      script = c.loop.invariant.script;
    }
