use Rattle.std.proofs.Common.{◌≡◌, ◌+◌, ◌++◌, take, length, IsTrue}
use Rattle.std.specs.Prelude.{vec_len, vec_capacity}
use Rattle.node_io.specs.Spawners.{KeepsStatuses}
use Rattle.fleet_run.specs.Children.{AreOpen, AreNumbered}
use Rattle.fleet_run.proofs.starts.start_all.Given as goal

abbrev pub invariant-loop-words : goal.invariant-loop-words
invariant-loop-words g l =
    let old = g.P.Spawner.state l.initial.spawn in
    let now = g.P.Spawner.state l.spawn in
    record {
      count : length l.started.items ≡ l.words-index;
      room : (vec_len l.started ≡ l.words-index) × (vec_capacity l.started ≡ vec_capacity l.initial.started);
      kept : KeepsStatuses old now;
      running : AreOpen old.children now.children l.started.items;
      asked : IsTrue old.observable → now.starts ≡ old.starts ++ take l.words-index l.starts;
      next : IsTrue old.observable → now.started ≡ old.started + l.words-index;
      numbered : IsTrue old.observable → AreNumbered old.started l.started.items;
    }
