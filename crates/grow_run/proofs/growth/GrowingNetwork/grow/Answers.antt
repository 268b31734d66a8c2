use Rattle.std.proofs.Common.{◌<◌, refl, sym, subst, arith}
use Rattle.net_world_spec.specs.Sound.{event_fits}
use Rattle.grow_run.specs.Pings.{ping}
use Rattle.grow_run.proofs.Growing.{grows_none, grows_countable, grows_room, grows_leave, grows_version, grows_next, grows_all}
use Rattle.grow_run.proofs.growth.GrowingNetwork.grow.Goals as goal

pub loop-made-init : goal.loop-made-init
loop-made-init g c = grows_none g.S.Services.stands (ping c.args.code.now) c.args.events c.args.self.now.words c.args.self.now refl c.requires.fresh

pub make-requires : goal.make-requires
make-requires g c =
    let i = c.loop-made.invariant in
    let same = grows_version g.S.Services.stands (ping c.args.code.now) c.args.events c.args.self.now.words c.loop-made._made c.loop-made.self i in
    let few : c.loop-made._made < 50000 = omega (arith, c.requires.few, c.loop-made-test.true) in
    record {
      fits = subst (λ v. event_fits v c.in_ok-event.event) (sym same) c.in_ok-event.ensures.fits;
      few = omega (arith, c.requires.few, i.number, c.loop-made-test.true);
      counts = grows_countable g.S.Services.stands (ping c.args.code.now) c.args.events c.args.self.now.words c.loop-made._made c.loop-made.self c.in_ok-event.event i few c.in_ok-event.ensures.fits;
      room = grows_room g.S.Services.stands (ping c.args.code.now) c.args.events c.args.self.now.words c.loop-made._made c.loop-made.self i few;
    }

pub loop-made-preserved : goal.loop-made-preserved
loop-made-preserved g c =
    let i = c.loop-made.invariant in
    let done = c.in_ok-make.ensures in
    let l = grows_leave g.S.Services.stands (ping c.args.code.now) c.args.events c.args.self.now.words c.loop-made._made c.loop-made.self c.in_ok-event.event i in
    grows_next g.S.Services.stands (ping c.args.code.now) c.args.events c.args.self.now.words c.loop-made._made c.loop-made.self c.make.new.self c.next_event.new.words c.in_ok-event.event i
    c.loop-made-test.true (omega (arith, c.requires.few, c.loop-made-test.true))
    (c.in_ok-event.ensures.event _ i.world) c.make.ensures.made.0 c.in_ok-event.ensures.fits (done.world _ i.world) done.made.1
    (done.counts _ _ i.world l i.ledger i.summary).0 (done.counts _ _ i.world l i.ledger i.summary).1 done.room

pub returns : goal.returns
returns g c = grows_all g.S.Services.stands (ping c.args.code.now) c.args.events c.args.self.now.words c.loop-made._made c.loop-made.self c.loop-made.invariant c.loop-made-test.false
