-- How a fleet stands that a fault of children ended, and its lines after every answer.
use Rattle.std.proofs.Common.{◌≡◌, ◌⊎◌, inl, inr, ℕ, IsTrue, List, [], Some, Result, Ok, Err, sym, ap, ◌∙◌, subst, arith}
use Rattle.network_config.specs.declared.fleet.Fleet.{Fleet}
use Rattle.node_io.specs.Outsides.{Outside}
use Rattle.node_io.specs.Sinks.{SinkState, WritesPrefix}
use Rattle.node_io.proofs.SinkLaws.{prefix_none}
use Rattle.fleet_run.specs.Fleets.{fleet_text}
use Rattle.fleet_run.specs.Runs.{RunsFleet}
use Rattle.fleet_run.specs.declared.fault.FleetFault.{FleetFault}
use Rattle.fleet_run.specs.declared.fault.FleetFault.TheVariants as fleets
use Rattle.fleet_run.specs.declared.reports.FleetEnd.{FleetEnd}
use Rattle.fleet_run.specs.declared.reports.FleetEnd.TheVariants.{Well, Failed}
use Rattle.fleet_run.proofs.Prefixes.{prefix_written}
use Rattle.planet_commands.specs.declared.status.Cause.{Cause}
use Rattle.planet_commands.specs.declared.status.Cause.TheVariants.{SpawnFault}
use Rattle.planet_commands.specs.Said.{says}
use Rattle.planet_commands.specs.Takes.{Untaken}
use Rattle.planet_commands_fleet.specs.Fleets.{RunsAs, fleet_said, fleet_cause, Shop}
use Rattle.planet_cli.specs.Requests.{fleet}
use Rattle.planet_cli.specs.Does.{shop_in}
use Rattle.planet_cli.specs.Calls.{Calls}
use Rattle.planet_cli.proofs.Views.{says_one, Took, took, left, view}
use Rattle.planet_cli.specs.Fleets.{Unstarted, Unwaited, WritesLines}

stopped_by : (f : Fleet) (result : Result FleetEnd FleetFault) (old new : Outside) → RunsFleet f.children old.children new.children old.out new.out result → fleet_cause result ≡ SpawnFault
    → Unstarted f old new ⊎ Unwaited f old new
stopped_by f (Ok Well) old new p e = absurd (cc)
stopped_by f (Ok (Failed host s)) old new p e = absurd (cc)
stopped_by f (Err fleets.StartFault) old new p e = inl (record { starts = p.did.1; waited = p.did.2; out = p.did.3 })
stopped_by f (Err fleets.WaitFault) old new p e = inr (record { starts = p.did.1; statuses = p.statuses; given = p.given; left = p.did.2; lines = p.did.3 })
stopped_by f (Err fleets.WriteFault) old new p e = absurd (cc)
stopped_by f (Err fleets.NoMemory) old new p e = absurd (cc)

module _ (file : List ℕ) (cause : Cause) (old new : Outside) (n m : SinkState) (call : Calls (Some (fleet file)) cause old new n m) (seen : IsTrue old.files.observable) (f : Fleet) (is : fleet_said file old.files.held ≡ says f) where
  fleet_view : Took (fleet_said file) RunsAs old.files new.files call.found (shop_in old) (shop_in new)
  fleet_view = view (fleet_said file) RunsAs file old.files new.files call.found (shop_in old) (shop_in new) call.does.1

  stopped_so : (c : Cause) → Took (fleet_said file) RunsAs old.files new.files c (shop_in old) (shop_in new) → c ≡ SpawnFault → Unstarted f old new ⊎ Unwaited f old new
  stopped_so c (took g own p) e =
      subst (λ x. Unstarted x old new ⊎ Unwaited x old new) (says_one g f (sym (own seen) ∙ is)) (stopped_by g p.result old new p.runs (sym p.is ∙ e))
  stopped_so c (left u same) e = elim (subst (Untaken (fleet_said file) old.files new.files) e u) [ ]

  pub fleet_stopped : call.found ≡ SpawnFault → Unstarted f old new ⊎ Unwaited f old new
  fleet_stopped e = stopped_so call.found fleet_view e

  lines_so : (c : Cause) → Took (fleet_said file) RunsAs old.files new.files c (shop_in old) (shop_in new) → WritesLines f old.out new.out
  lines_so c (took g own p) =
      subst (λ x. WritesLines x old.out new.out) (says_one g f (sym (own seen) ∙ is))
      (record { statuses = p.runs.statuses; few = p.runs.few; lines = prefix_written g.children p.runs.statuses old.children new.children old.out new.out p.result p.runs.did })
  lines_so c (left u same) = record {
    statuses = [];
    few = omega arith;
    lines = subst (λ s. WritesPrefix old.out s (fleet_text f.children [])) (sym (ap (λ (w : Shop). w.out) same)) (prefix_none old.out (fleet_text f.children []));
  }

  pub fleet_written : WritesLines f old.out new.out
  fleet_written = lines_so call.found fleet_view
