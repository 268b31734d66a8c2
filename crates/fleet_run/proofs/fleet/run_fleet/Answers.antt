use Rattle.std.proofs.Common.{[], inl, refl, arith, sym, subst, ◌∙◌}
use Rattle.fleet_run.specs.Children.{AreStarted}
use Rattle.node_io.proofs.SpawnerLaws.{kept_same}
use Rattle.fleet_run.proofs.FleetLaws.{all_started}
use Rattle.fleet_run.proofs.fleet.run_fleet.Goals as goal

pub returns-in_default : goal.returns-in_default
returns-in_default g c =
    let old = g.P.Spawner.state c.args.spawn.now in
    record {
      kept = kept_same old;
      statuses = [];
      few = omega arith;
      given = λ t. refl;
      did = inl (refl, refl);
    }

pub report_all-requires-clause-started : goal.report_all-requires-clause-started
report_all-requires-clause-started g c =
    let s = g.P.Spawner.state in
    subst (AreStarted c.as_slice-kids.result.now (s c.start_all.new.spawn).children) (sym c.deref-2.ensures.value)
    (all_started c.as_slice-kids.result.now c.as_slice.result.now c.start_all.new.started.items (s c.args.spawn.now) (s c.start_all.new.spawn) c.start_all.result c.is_err.result c.is_err.ensures.value c.if-is_err.false
    (c.as_slice.ensures ∙ c.in-Ok.ensures.starts) c.start_all.ensures)

pub report_all-requires-clause-room : goal.report_all-requires-clause-room
report_all-requires-clause-room g c = record { none = c.in-Ok.ensures.none.1; room = omega (arith, c.in-Ok.ensures.room.1) }
