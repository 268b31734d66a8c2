use Rattle.std.proofs.Common.{◌∙◌, ◌+◌, length, IsTrue, sym, ap, subst, arith}
use Rattle.std.proofs.lemmas.List.{length_push}
use Rattle.node_io.proofs.SpawnerLaws.{kept_both}
use Rattle.fleet_run.specs.Children.{AreOpen, AreNumbered}
use Rattle.fleet_run.proofs.ChildLaws.{open_more, numbered_more, starts_next}
use Rattle.fleet_run.proofs.FleetLaws.{starts_cut}
use Rattle.fleet_run.proofs.starts.start_all.Goals as goal

pub returns-in_default : goal.returns-in_default
returns-in_default g c =
    let s = g.P.Spawner.state in
    let l = c.loop-words.invariant in
    let old = s c.args.spawn.now in
    let mid = s c.loop-words.spawn in
    let new = s c.start.new.self in
    let did = c.in_default.ensures.starts.did in
    record {
      kept = kept_both old mid new l.kept c.start.ensures.starts.kept;
      running = subst (λ run. AreOpen old.children run c.loop-words.started.items) (sym did.0) l.running;
      numbered = l.numbered;
      did = (omega (arith, did.3, l.kept.later), starts_cut old mid new c.args.starts.now c.loop-words.words-index c.words-item.result c.loop-words-test.true c.words-item.is l.asked did.2);
    }

pub loop-words-preserved : goal.loop-words-preserved
loop-words-preserved g c =
    let s = g.P.Spawner.state in
    let l = c.loop-words.invariant in
    let old = s c.args.spawn.now in
    let mid = s c.loop-words.spawn in
    let new = s c.start.new.self in
    let before = c.loop-words.started.items in
    let child = c.in-Ok.child in
    let grown = c.push_reserved.ensures.items in
    let did = c.in-Ok.ensures.starts.did in
    record {
      count = ap length grown ∙ length_push before child ∙ ap (λ n. n + 1) l.count;
      room = (c.push_reserved.ensures.len ∙ ap (λ n. n + 1) l.room.0, c.push_reserved.ensures.capacity ∙ l.room.1);
      kept = kept_both old mid new l.kept c.start.ensures.starts.kept;
      running = subst (AreOpen old.children new.children) (sym grown) (open_more old.children mid.children new.children before child l.running did.1 did.0);
      asked = λ t. starts_next old.starts mid.starts new.starts c.args.starts.now c.loop-words.words-index c.words-item.result
          c.loop-words-test.true c.words-item.is (l.asked t) (did.3 (subst IsTrue (sym l.kept.observable) t)).0;
      next = λ t. omega (arith, (did.3 (subst IsTrue (sym l.kept.observable) t)).2, l.next t);
      numbered = λ t. subst (AreNumbered old.started) (sym grown)
          (numbered_more old.started mid.started before child (l.numbered t) (did.3 (subst IsTrue (sym l.kept.observable) t)).1 (omega (arith, l.next t, l.count)));
    }
