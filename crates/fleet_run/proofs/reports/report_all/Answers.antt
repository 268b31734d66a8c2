use Rattle.std.proofs.Common.{◌≡◌, ◌∙◌, ◌+◌, ◌<◌, IsTrue, Some, length, get_or, slice_get, refl, sym, ap, subst, arith, rules}
use Rattle.std.proofs.lemmas.List.{length_push}
use Rattle.node_io.specs.Causes.{HasRisen}
use Rattle.node_io.specs.declared.spawner.Child.{Child}
use Rattle.node_io.proofs.SpawnerLaws.{kept_same, kept_both}
use Rattle.node_io.specs.Sinks.{Writes}
use Rattle.fleet_run.specs.Children.{LeavesAllBut}
use Rattle.fleet_run.specs.Fleets.{fleet_text}
use Rattle.fleet_run.proofs.ChildLaws.{next_is_open, next_waited, leaves_behind, numbered_at}
use Rattle.fleet_run.proofs.FleetLaws.{no_lines, given_none, given_next, lines_next, lines_fail, put_ok, put_failed}
use Rattle.fleet_run.proofs.reports.report_all.Goals as goal

pub loop-i-init : goal.loop-i-init
loop-i-init g c =
    let old = g.P.Spawner.state c.args.spawn.now in
    let out = g.K.Sink.state c.args.out.now in
    let none = c.requires.room.none in
    record {
      within = omega arith;
      count = ap length none;
      room = search rules;
      kept = kept_same old;
      starts = refl;
      running = λ base o. o;
      given = λ t n a. given_none n old.statuses c.args.statuses.now.items none;
      lines = subst (λ ss. Writes out out (fleet_text c.args.kids.now ss)) (sym none) (no_lines c.args.kids.now out);
    }

pub wait-requires : goal.wait-requires
wait-requires g c =
    let none : Child = record { 0 = 0 } in
    let i = c.loop-i.i in
    let o = c.requires.started in
    let inside : i < length c.args.started.now = omega (arith, c.loop-i-test.true, c.requires.started.each) in
    next_is_open o.base (g.P.Spawner.state c.loop-i.spawn).children c.args.started.now i none (get_or c.args.started.now i none) inside refl (c.loop-i.invariant.running o.base o.apart)

pub returns-in_default : goal.returns-in_default
returns-in_default g c =
    let none : Child = record { 0 = 0 } in
    let s = g.P.Spawner.state in
    let l = c.loop-i.invariant in
    let i = c.loop-i.i in
    let old = s c.args.spawn.now in
    let mid = s c.loop-i.spawn in
    let new = s c.wait.new.self in
    let inside : i < length c.args.started.now = omega (arith, c.loop-i-test.true, c.requires.started.each) in
    let rose : HasRisen mid.faults new.faults = c.in_default.ensures.waits.status in
    record {
      kept = kept_both old mid new l.kept c.wait.ensures.waits.kept;
      starts = c.wait.ensures.waits.starts ∙ l.starts;
      few = omega (arith, l.count, l.within);
      given = l.given;
      closed = λ base o.
          let behind = next_waited base mid.children new.children c.args.started.now i none (get_or c.args.started.now i none) inside refl c.wait.ensures.waits.children (l.running base o) in
          subst (λ n. LeavesAllBut n (length c.args.kids.now) base new.children) (ap (λ n. n + 1) (sym l.count))
          (leaves_behind base new.children c.args.started.now (i + 1) (length c.args.kids.now) behind (omega (arith, inside)) c.requires.started.each);
      did = (omega (arith, rose, l.kept.later), l.lines);
    }

pub returns-in_default-kid_line : goal.returns-in_default-kid_line
returns-in_default-kid_line g c =
    let none : Child = record { 0 = 0 } in
    let s = g.P.Spawner.state in
    let l = c.loop-i.invariant in
    let i = c.loop-i.i in
    let old = s c.args.spawn.now in
    let mid = s c.loop-i.spawn in
    let new = s c.wait.new.self in
    let inside : i < length c.args.started.now = omega (arith, c.loop-i-test.true, c.requires.started.each) in
    record {
      kept = kept_both old mid new l.kept c.wait.ensures.waits.kept;
      starts = c.wait.ensures.waits.starts ∙ l.starts;
      few = omega (arith, l.count, l.within);
      given = l.given;
      closed = λ base o.
          let behind = next_waited base mid.children new.children c.args.started.now i none (get_or c.args.started.now i none) inside refl c.wait.ensures.waits.children (l.running base o) in
          subst (λ n. LeavesAllBut n (length c.args.kids.now) base new.children) (ap (λ n. n + 1) (sym l.count))
          (leaves_behind base new.children c.args.started.now (i + 1) (length c.args.kids.now) behind (omega (arith, inside)) c.requires.started.each);
      did = l.lines;
    }

pub returns-then-is_err : goal.returns-then-is_err
returns-then-is_err g c =
    let none : Child = record { 0 = 0 } in
    let s = g.P.Spawner.state in
    let l = c.loop-i.invariant in
    let i = c.loop-i.i in
    let old = s c.args.spawn.now in
    let mid = s c.loop-i.spawn in
    let new = s c.wait.new.self in
    let grown = c.push_reserved.ensures.items in
    let inside : i < length c.args.started.now = omega (arith, c.loop-i-test.true, c.requires.started.each) in
    let piece = c.as_bytes.result.now in
    let out = g.K.Sink.state in
    record {
      kept = kept_both old mid new l.kept c.wait.ensures.waits.kept;
      starts = c.wait.ensures.waits.starts ∙ l.starts;
      few = omega (arith, ap length grown ∙ length_push c.loop-i.statuses.items c.in-Ok.status, l.count, c.loop-i-test.true);
      given = λ t n a.
          let number : (get_or c.args.started.now i none).0 ≡ n + i = numbered_at n c.args.started.now i none inside a in
          let there : IsTrue mid.observable = subst IsTrue (sym l.kept.observable) t in
          let given : slice_get old.statuses (n + i) ≡ Some c.in-Ok.status = ap (λ xs. slice_get xs (n + i)) (sym l.kept.statuses) ∙ ap (slice_get mid.statuses) (sym number) ∙ c.in-Ok.ensures.waits.status there in
          given_next n i old.statuses c.loop-i.statuses.items c.push_reserved.new.self.items c.in-Ok.status grown l.count (l.given t n a) given;
      closed = λ base o.
          let behind = next_waited base mid.children new.children c.args.started.now i none (get_or c.args.started.now i none) inside refl c.wait.ensures.waits.children (l.running base o) in
          subst (λ n. LeavesAllBut n (length c.args.kids.now) base new.children) (sym (ap length grown ∙ length_push c.loop-i.statuses.items c.in-Ok.status ∙ ap (λ n. n + 1) l.count))
          (leaves_behind base new.children c.args.started.now (i + 1) (length c.args.kids.now) behind (omega (arith, inside)) c.requires.started.each);
      did = lines_fail c.args.kids.now c.loop-i.statuses.items c.push_reserved.new.self.items c.in-Ok.status i c.index-kids-i.result piece
          l.count c.loop-i-test.true c.index-kids-i.is (c.as_bytes.ensures.value ∙ c.in-Ok-kid_line.ensures) grown (out c.args.out.now) (out c.loop-i.out) (out c.put_all.new.sink) l.lines
          (put_failed piece (out c.loop-i.out) (out c.put_all.new.sink) c.put_all.result c.is_err.result c.is_err.ensures.value c.if-is_err.true c.put_all.ensures);
    }

pub loop-i-preserved : goal.loop-i-preserved
loop-i-preserved g c =
    let none : Child = record { 0 = 0 } in
    let s = g.P.Spawner.state in
    let l = c.loop-i.invariant in
    let i = c.loop-i.i in
    let old = s c.args.spawn.now in
    let mid = s c.loop-i.spawn in
    let new = s c.wait.new.self in
    let grown = c.push_reserved.ensures.items in
    let inside : i < length c.args.started.now = omega (arith, c.loop-i-test.true, c.requires.started.each) in
    let piece = c.as_bytes.result.now in
    let out = g.K.Sink.state in
    record {
      within = omega (arith, c.loop-i-test.true);
      count = ap length grown ∙ length_push c.loop-i.statuses.items c.in-Ok.status ∙ ap (λ n. n + 1) l.count;
      room = (c.push_reserved.ensures.len ∙ ap (λ n. n + 1) l.room.0, c.push_reserved.ensures.capacity ∙ l.room.1);
      kept = kept_both old mid new l.kept c.wait.ensures.waits.kept;
      starts = c.wait.ensures.waits.starts ∙ l.starts;
      running = λ base o. next_waited base mid.children new.children c.args.started.now i none (get_or c.args.started.now i none) inside refl c.wait.ensures.waits.children (l.running base o);
      given = λ t n a.
          let number : (get_or c.args.started.now i none).0 ≡ n + i = numbered_at n c.args.started.now i none inside a in
          let there : IsTrue mid.observable = subst IsTrue (sym l.kept.observable) t in
          let given : slice_get old.statuses (n + i) ≡ Some c.in-Ok.status = ap (λ xs. slice_get xs (n + i)) (sym l.kept.statuses) ∙ ap (slice_get mid.statuses) (sym number) ∙ c.in-Ok.ensures.waits.status there in
          given_next n i old.statuses c.loop-i.statuses.items c.push_reserved.new.self.items c.in-Ok.status grown l.count (l.given t n a) given;
      lines = lines_next c.args.kids.now c.loop-i.statuses.items c.push_reserved.new.self.items c.in-Ok.status i c.index-kids-i.result piece
          l.count c.loop-i-test.true c.index-kids-i.is (c.as_bytes.ensures.value ∙ c.in-Ok-kid_line.ensures) grown (out c.args.out.now) (out c.loop-i.out) (out c.put_all.new.sink) l.lines
          (put_ok piece (out c.loop-i.out) (out c.put_all.new.sink) c.put_all.result c.is_err.result c.is_err.ensures.value c.if-is_err.false c.put_all.ensures);
    }
