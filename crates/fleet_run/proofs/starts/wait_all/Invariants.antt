use Rattle.std.proofs.Common.{◌≡◌, List, drop}
use Rattle.node_io.specs.Spawners.{KeepsStatuses}
use Rattle.node_io.specs.declared.spawner.Child.{Child}
use Rattle.fleet_run.specs.Children.{AreOpen}
use Rattle.fleet_run.proofs.starts.wait_all.Given as goal

abbrev pub invariant-loop-child : goal.invariant-loop-child
invariant-loop-child g l =
    let old = g.P.Spawner.state l.initial.spawn in
    let now = g.P.Spawner.state l.spawn in
    record {
      kept : KeepsStatuses old now;
      starts : now.starts ≡ old.starts;
      running : (base : List Child) → AreOpen base old.children l.started → AreOpen base now.children (drop l.child-index l.started);
    }
