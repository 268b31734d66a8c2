-- Causes that some commands don't end with, after the note too.
use Rattle.std.proofs.Common.{◌≢◌, ℕ, List, Option, Some, None, Result, Ok, Err, sym, subst}
use Rattle.node_io.specs.Causes.{HasRisen}
use Rattle.node_io.specs.FileMaps.{FileMap}
use Rattle.node_io.specs.FileStates.{FilesState}
use Rattle.node_io.specs.Outsides.{Outside}
use Rattle.node_io.specs.Sinks.{SinkState}
use Rattle.fleet_run.specs.declared.fault.AskFault.{AskFault}
use Rattle.fleet_run.specs.declared.fault.AskFault.TheVariants as asks
use Rattle.fleet_run.specs.declared.fault.FleetFault.{FleetFault}
use Rattle.fleet_run.specs.declared.fault.FleetFault.TheVariants as fleets
use Rattle.fleet_run.specs.declared.reports.FleetEnd.{FleetEnd}
use Rattle.fleet_run.specs.declared.reports.FleetEnd.TheVariants.{Well, Failed}
use Rattle.node_serve.specs.declared.fault.ServeFault.{ServeFault}
use Rattle.node_serve.specs.declared.fault.ServeFault.TheVariants as serves
use Rattle.planet_commands.specs.declared.status.Cause.{Cause}
use Rattle.planet_commands.specs.declared.status.Cause.TheVariants.{Done, Usage, Refused, ReadFault, WriteFault, LinkFault, SpawnFault, NoMemory, NodesFailed}
use Rattle.planet_commands.specs.Said.{Said}
use Rattle.planet_commands.specs.Takes.{Untaken}
use Rattle.planet_commands.specs.Renders.{Prints}
use Rattle.planet_commands_run.specs.Grown.{GrowsAs}
use Rattle.planet_commands_fleet.specs.Audits.{audit_said}
use Rattle.planet_commands_fleet.specs.Asks.{AsksAs, ask_said, ask_cause}
use Rattle.planet_commands_fleet.specs.Fleets.{RunsAs, fleet_said, fleet_cause}
use Rattle.planet_commands_fleet.specs.Nodes.{ServesAs, config_said, serve_cause}
use Rattle.planet_cli.specs.Kinds.{file_said}
use Rattle.planet_cli.specs.Requests.{Request, on_file, inject, fleet, audit, node, grow}
use Rattle.planet_cli.specs.Does.{Does, wire_in, shop_in, serving_in}
use Rattle.planet_cli.specs.Calls.{Calls}
use Rattle.planet_cli.specs.Laws.{UnlessLinked, UnlessFleet, IfNodesFailed}
use Rattle.planet_cli.proofs.Views.{Took, took, left, view, text_view, audit_view}
use Rattle.planet_cli.proofs.Giving.{call_gives_cause, fact_carries_over}

-- no fault of the link; and none of children
abbrev Unlinked : Cause → Type 0
Unlinked LinkFault = ⊥
Unlinked c = Unit {0}

abbrev Unstarted : Cause → Type 0
Unstarted SpawnFault = ⊥
Unstarted (NodesFailed h s) = ⊥
Unstarted c = Unit {0}

-- ---- commands

untaken : {A : Type 0} (said : FileMap → Said A) (files read : FilesState) (c : Cause) → Untaken said files read c → Unlinked c × Unstarted c
untaken said files read (Refused r) u = (tt, tt)
untaken said files read ReadFault u = (tt, tt)
untaken said files read NoMemory u = (tt, tt)
untaken said files read Done u = (tt, tt)
untaken said files read Usage u = (tt, tt)
untaken said files read WriteFault u = (tt, tt)
untaken said files read LinkFault u = elim u [ ]
untaken said files read SpawnFault u = elim u [ ]
untaken said files read (NodesFailed h s) u = elim u [ ]

printing_has_neither : (text : List ℕ) (c : Cause) (a b : SinkState) → Prints text c a b → Unlinked c × Unstarted c
printing_has_neither text Done a b p = (tt, tt)
printing_has_neither text WriteFault a b p = (tt, tt)
printing_has_neither text NoMemory a b p = (tt, tt)
printing_has_neither text Usage a b p = (tt, tt)
printing_has_neither text (Refused r) a b p = (tt, tt)
printing_has_neither text ReadFault a b p = (tt, tt)
printing_has_neither text LinkFault a b p = elim p [ ]
printing_has_neither text SpawnFault a b p = elim p [ ]
printing_has_neither text (NodesFailed h s) a b p = elim p [ ]

growing_has_neither : (seed k : ℕ) (c : Cause) (a b : SinkState) → GrowsAs seed k c a b → Unlinked c × Unstarted c
growing_has_neither seed k Done a b p = (tt, tt)
growing_has_neither seed k WriteFault a b p = (tt, tt)
growing_has_neither seed k NoMemory a b p = (tt, tt)
growing_has_neither seed k Usage a b p = (tt, tt)
growing_has_neither seed k (Refused r) a b p = (tt, tt)
growing_has_neither seed k ReadFault a b p = (tt, tt)
growing_has_neither seed k LinkFault a b p = elim p [ ]
growing_has_neither seed k SpawnFault a b p = elim p [ ]
growing_has_neither seed k (NodesFailed h s) a b p = elim p [ ]

asking_is_unstarted : (result : Result (Unit {0}) AskFault) → Unstarted (ask_cause result)
asking_is_unstarted (Ok x) = tt
asking_is_unstarted (Err asks.LinkFault) = tt
asking_is_unstarted (Err asks.WriteFault) = tt
asking_is_unstarted (Err asks.NoMemory) = tt

ran : (result : Result FleetEnd FleetFault) → Unlinked (fleet_cause result)
ran (Ok Well) = tt
ran (Ok (Failed h s)) = tt
ran (Err fleets.StartFault) = tt
ran (Err fleets.WaitFault) = tt
ran (Err fleets.WriteFault) = tt
ran (Err fleets.NoMemory) = tt

serving_is_unstarted : (result : Result (Unit {0}) ServeFault) → Unstarted (serve_cause result)
serving_is_unstarted (Ok x) = tt
serving_is_unstarted (Err serves.LinkFault) = tt
serving_is_unstarted (Err serves.WriteFault) = tt
serving_is_unstarted (Err serves.NoMemory) = tt

prints_so : (said : FileMap → Said (List ℕ)) (files read : FilesState) (c : Cause) (a b : SinkState) → Took said Prints files read c a b → Unlinked c × Unstarted c
prints_so said files read c a b (took text own p) = printing_has_neither text c a b p
prints_so said files read c a b (left u same) = untaken said files read c u

module _ (c : Cause) (old new : Outside) where
  asks_so : (file : List ℕ) → Took (ask_said file) AsksAs old.files new.files c (wire_in old) (wire_in new) → Unstarted c
  asks_so file (took a own p) = subst Unstarted (sym p.is) (asking_is_unstarted p.result)
  asks_so file (left u same) = (untaken (ask_said file) old.files new.files c u).1

  runs_so : (file : List ℕ) → Took (fleet_said file) RunsAs old.files new.files c (shop_in old) (shop_in new) → Unlinked c
  runs_so file (took f own p) = subst Unlinked (sym p.is) (ran p.result)
  runs_so file (left u same) = (untaken (fleet_said file) old.files new.files c u).0

  serves_so : (file : List ℕ) (turns : ℕ) (read : FilesState) → Took (config_said file) (ServesAs turns) old.files read c (record (serving_in old) { files = read }) (serving_in new) → Unstarted c
  serves_so file turns read (took cfg own p) = subst Unstarted (sym p.is) (serving_is_unstarted p.result)
  serves_so file turns read (left u same) = (untaken (config_said file) old.files read c u).1

  kinds : (q : Option Request) → Does q c old new → UnlessLinked q (Unlinked c) × UnlessFleet q (Unstarted c)
  kinds None d = (subst Unlinked (sym d.0) tt, subst Unstarted (sym d.0) tt)
  kinds (Some (on_file kind file)) d = prints_so (file_said kind file) old.files new.files c old.out new.out (text_view kind file old.files new.files c old.out new.out d.1)
  kinds (Some (inject file)) d = (tt, asks_so file (view (ask_said file) AsksAs file old.files new.files c (wire_in old) (wire_in new) d.1))
  kinds (Some (fleet file)) d = (runs_so file (view (fleet_said file) RunsAs file old.files new.files c (shop_in old) (shop_in new) d.1), tt)
  kinds (Some (node file turns)) d = (tt, serves_so file turns d.1.read (view (config_said file) (ServesAs turns) file old.files d.1.read c (record (serving_in old) { files = d.1.read }) (serving_in new) d.1.did))
  kinds (Some (grow seed k)) d = growing_has_neither seed k c old.out new.out d.1
  kinds (Some (audit file)) d = prints_so (audit_said file) old.files new.files c old.out new.out (audit_view file old.files new.files c old.out new.out d.1)

-- ---- calls

unless_linked : (q : Option Request) (P Q : Type 0) → (P → Q) → UnlessLinked q P → UnlessLinked q Q
unless_linked None P Q f h = f h
unless_linked (Some (on_file kind file)) P Q f h = f h
unless_linked (Some (inject file)) P Q f h = tt
unless_linked (Some (fleet file)) P Q f h = f h
unless_linked (Some (node file turns)) P Q f h = tt
unless_linked (Some (grow seed n)) P Q f h = f h
unless_linked (Some (audit file)) P Q f h = f h

unless_fleet : (q : Option Request) (P Q : Type 0) → (P → Q) → UnlessFleet q P → UnlessFleet q Q
unless_fleet None P Q f h = f h
unless_fleet (Some (on_file kind file)) P Q f h = f h
unless_fleet (Some (inject file)) P Q f h = f h
unless_fleet (Some (fleet file)) P Q f h = tt
unless_fleet (Some (node file turns)) P Q f h = f h
unless_fleet (Some (grow seed n)) P Q f h = f h
unless_fleet (Some (audit file)) P Q f h = f h

none_failed : (c : Cause) → Unstarted c → IfNodesFailed c (λ h s. ⊥)
none_failed Done u = tt
none_failed Usage u = tt
none_failed (Refused r) u = tt
none_failed ReadFault u = tt
none_failed WriteFault u = tt
none_failed LinkFault u = tt
none_failed SpawnFault u = tt
none_failed NoMemory u = tt
none_failed (NodesFailed h s) u = u

module _ (q : Option Request) (cause : Cause) (old new : Outside) (n m : SinkState) (call : Calls q cause old new n m) where
  link_so : Unlinked call.found → Unlinked cause
  link_so h = fact_carries_over call.found cause (HasRisen n.faults m.faults) (call_gives_cause q cause old new n m call) Unlinked tt tt h

  start_so : Unstarted call.found → Unstarted cause
  start_so h = fact_carries_over call.found cause (HasRisen n.faults m.faults) (call_gives_cause q cause old new n m call) Unstarted tt tt h

  pub cause_is_unlinked : UnlessLinked q (cause ≢ LinkFault)
  cause_is_unlinked = unless_linked q (Unlinked call.found) (cause ≢ LinkFault) (λ h e. subst Unlinked e (link_so h)) (kinds call.found old new q call.does).0

  pub cause_is_unspawned : UnlessFleet q (cause ≢ SpawnFault)
  cause_is_unspawned = unless_fleet q (Unstarted call.found) (cause ≢ SpawnFault) (λ h e. subst Unstarted e (start_so h)) (kinds call.found old new q call.does).1

  pub unfailing : UnlessFleet q (IfNodesFailed cause (λ h s. ⊥))
  unfailing = unless_fleet q (Unstarted call.found) (IfNodesFailed cause (λ h s. ⊥)) (λ h. none_failed cause (start_so h)) (kinds call.found old new q call.does).1
