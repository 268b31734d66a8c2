-- A fault comes only where its count rose.
use Rattle.std.proofs.Common.{◌≡◌, inl, inr, ℕ, List, Option, Some, None, Result, Ok, Err, sym, ap, subst}
use Rattle.network_config.specs.declared.fleet.AskFile.{AskFile}
use Rattle.network_config.specs.declared.fleet.Fleet.{Fleet}
use Rattle.network_config.specs.declared.serve.ServeConfig.{ServeConfig}
use Rattle.node_io.specs.Causes.{HasRisen}
use Rattle.node_io.specs.FileMaps.{FileMap}
use Rattle.node_io.specs.FileStates.{FilesState}
use Rattle.node_io.specs.Outsides.{Outside}
use Rattle.node_io.specs.Sinks.{SinkState}
use Rattle.fleet_run.specs.Asks.{Asks}
use Rattle.fleet_run.specs.Runs.{RunsFleet}
use Rattle.fleet_run.specs.declared.fault.AskFault.{AskFault}
use Rattle.fleet_run.specs.declared.fault.AskFault.TheVariants as asks
use Rattle.fleet_run.specs.declared.fault.FleetFault.{FleetFault}
use Rattle.fleet_run.specs.declared.fault.FleetFault.TheVariants as fleets
use Rattle.fleet_run.specs.declared.reports.FleetEnd.{FleetEnd}
use Rattle.fleet_run.specs.declared.reports.FleetEnd.TheVariants.{Well, Failed}
use Rattle.node_serve.specs.Moments.{ServesFrom}
use Rattle.node_serve.specs.declared.fault.ServeFault.{ServeFault}
use Rattle.node_serve.specs.declared.fault.ServeFault.TheVariants as serves
use Rattle.planet_commands.specs.Causes.{WriteRose, Explains}
use Rattle.planet_commands.specs.declared.status.Cause.{Cause}
use Rattle.planet_commands.specs.declared.status.Cause.TheVariants.{Done, Usage, Refused, ReadFault, WriteFault, LinkFault, SpawnFault, NoMemory, NodesFailed}
use Rattle.planet_commands.specs.Said.{Said}
use Rattle.planet_commands.specs.Takes.{Untaken}
use Rattle.planet_commands.specs.Renders.{Prints}
use Rattle.planet_commands_run.specs.Grown.{GrowsAs}
use Rattle.planet_commands_fleet.specs.Audits.{audit_said}
use Rattle.planet_commands_fleet.specs.Asks.{AsksAs, ask_said, ask_cause}
use Rattle.planet_commands_fleet.specs.Fleets.{RunsAs, fleet_said, fleet_cause}
use Rattle.planet_commands_fleet.specs.Nodes.{ServesAs, config_said, own_services, serve_cause}
use Rattle.planet_cli.specs.Kinds.{file_said}
use Rattle.planet_cli.specs.Requests.{Request, on_file, inject, fleet, audit, node, grow}
use Rattle.planet_cli.specs.Does.{Does, wire_in, shop_in, serving_in}
use Rattle.planet_cli.specs.Calls.{Calls}
use Rattle.planet_commands.specs.Notes.{Notes, told, no_memory, failed}
use Rattle.planet_cli.proofs.Views.{Took, took, left, view, text_view, audit_view}

module _ (old new : Outside) (n m : SinkState) where
  printing_explains : (text : List ℕ) (c : Cause) → Prints text c old.out new.out → Explains c old new n m
  printing_explains text Done p = tt
  printing_explains text WriteFault p = inl p.rose
  printing_explains text NoMemory p = tt
  printing_explains text Usage p = tt
  printing_explains text (Refused r) p = tt
  printing_explains text ReadFault p = elim p [ ]
  printing_explains text LinkFault p = elim p [ ]
  printing_explains text SpawnFault p = elim p [ ]
  printing_explains text (NodesFailed h s) p = tt

  growing_explains : (seed k : ℕ) (c : Cause) → GrowsAs seed k c old.out new.out → Explains c old new n m
  growing_explains seed k Done p = tt
  growing_explains seed k WriteFault p = inl p.is.rose
  growing_explains seed k NoMemory p = tt
  growing_explains seed k Usage p = tt
  growing_explains seed k (Refused r) p = tt
  growing_explains seed k ReadFault p = elim p [ ]
  growing_explains seed k LinkFault p = elim p [ ]
  growing_explains seed k SpawnFault p = elim p [ ]
  growing_explains seed k (NodesFailed h s) p = tt

  asking_explains : (a : AskFile) (result : Result (Unit {0}) AskFault) → Asks a old.link new.link old.out new.out result → Explains (ask_cause result) old new n m
  asking_explains a (Ok x) p = tt
  asking_explains a (Err asks.LinkFault) p = p.did.0
  asking_explains a (Err asks.WriteFault) p = inl p.did.2.rose
  asking_explains a (Err asks.NoMemory) p = tt

  ran : (f : Fleet) (result : Result FleetEnd FleetFault) → RunsFleet f.children old.children new.children old.out new.out result → Explains (fleet_cause result) old new n m
  ran f (Ok Well) p = tt
  ran f (Ok (Failed h s)) p = tt
  ran f (Err fleets.StartFault) p = p.did.0
  ran f (Err fleets.WaitFault) p = p.did.0
  ran f (Err fleets.WriteFault) p = inl p.did.2.rose
  ran f (Err fleets.NoMemory) p = tt

  serving_explains : (cfg : ServeConfig) (turns : ℕ) (read : FilesState) (result : Result (Unit {0}) ServeFault) → read.write_faults ≡ old.files.write_faults
      → ServesFrom cfg (own_services cfg) turns (record (serving_in old) { files = read }) (serving_in new) result → Explains (serve_cause result) old new n m
  serving_explains cfg turns read (Ok x) same p = tt
  serving_explains cfg turns read (Err serves.LinkFault) same p = p.serves.faults
  serving_explains cfg turns read (Err serves.WriteFault) same p = elim p.serves.faults [ inl rose ↦ inr (inl (subst (λ k. HasRisen k new.files.write_faults) same rose)) | inr rose ↦ inl rose ]
  serving_explains cfg turns read (Err serves.NoMemory) same p = tt

  -- where nothing was taken
  untaken : {A : Type 0} (said : FileMap → Said A) (c : Cause) → Untaken said old.files new.files c → Explains c old new n m
  untaken said (Refused r) u = tt
  untaken said ReadFault u = u
  untaken said NoMemory u = tt
  untaken said Done u = tt
  untaken said Usage u = tt
  untaken said WriteFault u = elim u [ ]
  untaken said LinkFault u = elim u [ ]
  untaken said SpawnFault u = elim u [ ]
  untaken said (NodesFailed h s) u = tt

  prints_so : (said : FileMap → Said (List ℕ)) (c : Cause) → Took said Prints old.files new.files c old.out new.out → Explains c old new n m
  prints_so said c (took text own p) = printing_explains text c p
  prints_so said c (left u same) = untaken said c u

  asks_so : (file : List ℕ) (c : Cause) → Took (ask_said file) AsksAs old.files new.files c (wire_in old) (wire_in new) → Explains c old new n m
  asks_so file c (took a own p) = subst (λ k. Explains k old new n m) (sym p.is) (asking_explains a p.result p.asks)
  asks_so file c (left u same) = untaken (ask_said file) c u

  runs_so : (file : List ℕ) (c : Cause) → Took (fleet_said file) RunsAs old.files new.files c (shop_in old) (shop_in new) → Explains c old new n m
  runs_so file c (took f own p) = subst (λ k. Explains k old new n m) (sym p.is) (ran f p.result p.runs)
  runs_so file c (left u same) = untaken (fleet_said file) c u

  serves_so : (file : List ℕ) (turns : ℕ) (c : Cause) (read : FilesState) → read.write_faults ≡ old.files.write_faults
      → Took (config_said file) (ServesAs turns) old.files read c (record (serving_in old) { files = read }) (serving_in new) → Explains c old new n m
  serves_so file turns c read same (took cfg own p) = subst (λ k. Explains k old new n m) (sym p.is) (serving_explains cfg turns read p.result same p.serves)
  serves_so file turns c read same (left u is) = untaken (config_said file) c (subst (λ f. Untaken (config_said file) old.files f c) (sym (ap (λ w. w.files) is)) u)

  -- of what was done
  pub explains : (q : Option Request) (c : Cause) → Does q c old new → Explains c old new n m
  explains None c d = subst (λ k. Explains k old new n m) (sym d.0) tt
  explains (Some (on_file kind file)) c d = prints_so (file_said kind file) c (text_view kind file old.files new.files c old.out new.out d.1)
  explains (Some (inject file)) c d = asks_so file c (view (ask_said file) AsksAs file old.files new.files c (wire_in old) (wire_in new) d.1)
  explains (Some (fleet file)) c d = runs_so file c (view (fleet_said file) RunsAs file old.files new.files c (shop_in old) (shop_in new) d.1)
  explains (Some (node file turns)) c d =
      serves_so file turns c d.1.read d.1.did.takes.only.write_faults
      (view (config_said file) (ServesAs turns) file old.files d.1.read c (record (serving_in old) { files = d.1.read }) (serving_in new) d.1.did)
  explains (Some (grow seed k)) c d = growing_explains seed k c d.1
  explains (Some (audit file)) c d = prints_so (audit_said file) c (audit_view file old.files new.files c old.out new.out d.1)

  by_notes : (found cause : Cause) → Notes found n m cause → Explains found old new n m → Explains cause old new n m
  by_notes found cause (told w) h = h
  by_notes found cause (no_memory w) h = tt
  by_notes found cause (failed k is f) h = inr (inr f.rose)

  -- and of a call
  pub call_explains : (q : Option Request) (cause : Cause) → Calls q cause old new n m → Explains cause old new n m
  call_explains q cause call = by_notes call.found cause call.notes (explains q call.found call.does)

-- fault by fault
module _ (q : Option Request) (old new : Outside) (n m : SinkState) where
  pub read_rose : Calls q ReadFault old new n m → HasRisen old.files.read_faults new.files.read_faults
  read_rose call = call_explains old new n m q ReadFault call

  pub write_rose : Calls q WriteFault old new n m → WriteRose old new n m
  write_rose call = call_explains old new n m q WriteFault call

  pub link_rose : Calls q LinkFault old new n m → HasRisen old.link.faults new.link.faults
  link_rose call = call_explains old new n m q LinkFault call

  pub spawn_rose : Calls q SpawnFault old new n m → HasRisen old.children.faults new.children.faults
  spawn_rose call = call_explains old new n m q SpawnFault call
