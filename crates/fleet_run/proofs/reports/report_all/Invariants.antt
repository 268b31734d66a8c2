use Rattle.std.proofs.Common.{◌≡◌, ◌≤◌, ℕ, List, take, drop, length, IsTrue}
use Rattle.std.specs.Prelude.{vec_len, vec_capacity}
use Rattle.node_io.specs.Sinks.{Writes}
use Rattle.node_io.specs.Spawners.{KeepsStatuses}
use Rattle.node_io.specs.declared.spawner.Child.{Child}
use Rattle.fleet_run.specs.Children.{AreOpen, AreNumbered}
use Rattle.fleet_run.specs.Fleets.{fleet_text}
use Rattle.fleet_run.proofs.reports.report_all.Given as goal

abbrev pub invariant-loop-i : goal.invariant-loop-i
invariant-loop-i g l =
    let old = g.P.Spawner.state l.initial.spawn in
    let now = g.P.Spawner.state l.spawn in
    record {
      within : l.i ≤ length l.kids;
      count : length l.statuses.items ≡ l.i;
      room : (vec_len l.statuses ≡ l.i) × (vec_capacity l.statuses ≡ vec_capacity l.initial.statuses);
      kept : KeepsStatuses old now;
      starts : now.starts ≡ old.starts;
      running : (base : List Child) → AreOpen base old.children l.started → AreOpen base now.children (drop l.i l.started);
      given : IsTrue old.observable → (n : ℕ) → AreNumbered n l.started → l.statuses.items ≡ take (length l.statuses.items) (drop n old.statuses);
      lines : Writes (g.K.Sink.state l.initial.out) (g.K.Sink.state l.out) (fleet_text l.kids l.statuses.items);
    }
