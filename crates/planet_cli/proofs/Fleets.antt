-- The laws of `fleet`.
use Rattle.std.proofs.Common.{◌≡◌, ◌⊎◌, inl, inr, ℕ, IsTrue, List, ◌++◌, length, drop, Some, Result, Ok, Err, refl, sym, ap, ◌∙◌, subst}
use Rattle.std.proofs.Math.Seq.{take-length}
use Rattle.std.proofs.lemmas.List.{append-nil}
use Rattle.network_config.specs.declared.fleet.Fleet.{Fleet}
use Rattle.node_io.specs.Causes.{HasRisen}
use Rattle.node_io.specs.FileMaps.{FileMap}
use Rattle.node_io.specs.FileStates.{FilesState}
use Rattle.node_io.specs.Outsides.{Outside}
use Rattle.node_io.specs.Sinks.{SinkState, WritesPrefix}
use Rattle.node_io.specs.Spawners.{SpawnerState, Words}
use Rattle.node_io.proofs.SinkLaws.{prefix_none}
use Rattle.fleet_run.specs.Fleets.{fleet_starts, fleet_text, fleet_end}
use Rattle.fleet_run.specs.Runs.{Started, StartsPrefix, RunsFleet}
use Rattle.fleet_run.specs.declared.fault.FleetFault.{FleetFault}
use Rattle.fleet_run.specs.declared.fault.FleetFault.TheVariants as fleets
use Rattle.fleet_run.specs.declared.reports.FleetEnd.{FleetEnd}
use Rattle.fleet_run.specs.declared.reports.FleetEnd.TheVariants.{Well, Failed}
use Rattle.fleet_run.proofs.FleetLaws.{end_given}
use Rattle.fleet_run.proofs.Prefixes.{fleet_prefix}
use Rattle.planet_commands.specs.Causes.{Gives}
use Rattle.planet_commands.specs.declared.status.Cause.{Cause}
use Rattle.planet_commands.specs.declared.status.Cause.TheVariants.{Done, Usage, Refused, ReadFault, WriteFault, LinkFault, SpawnFault, NoMemory, NodesFailed}
use Rattle.planet_commands.specs.Said.{Said, nothing, outside, says, IsSaid}
use Rattle.planet_commands.specs.Takes.{Untaken}
use Rattle.planet_commands_fleet.specs.Fleets.{RunsAs, fleet_said, fleet_cause, Shop}
use Rattle.planet_cli.specs.Requests.{fleet}
use Rattle.planet_cli.specs.Does.{shop_in}
use Rattle.planet_cli.specs.Calls.{Calls}
use Rattle.planet_cli.specs.Laws.{IfEnded, IsEnded, RunsAtMost}
use Rattle.planet_cli.proofs.Views.{says_one, Took, took, left, view}
use Rattle.planet_cli.proofs.Giving.{call_gives_cause, fact_carries_over}

-- ---- ends

end_map : {P Q : FleetEnd → Type 0} (c : Cause) → ((end : FleetEnd) → P end → Q end) → IfEnded c P → IfEnded c Q
end_map Done f h = f Well h
end_map (NodesFailed host s) f h = f (Failed host s) h
end_map Usage f h = tt
end_map (Refused r) f h = tt
end_map ReadFault f h = tt
end_map WriteFault f h = tt
end_map LinkFault f h = tt
end_map SpawnFault f h = tt
end_map NoMemory f h = tt

-- a file that wasn't taken ends no fleet
untaken_ends_nothing : {A : Type 0} (said : FileMap → Said A) (P : FleetEnd → Type 0) (old new : FilesState) (c : Cause) → Untaken said old new c → IfEnded c P
untaken_ends_nothing said P old new Done u = elim u [ ]
untaken_ends_nothing said P old new (NodesFailed host s) u = elim u [ ]
untaken_ends_nothing said P old new Usage u = tt
untaken_ends_nothing said P old new (Refused r) u = tt
untaken_ends_nothing said P old new ReadFault u = tt
untaken_ends_nothing said P old new WriteFault u = tt
untaken_ends_nothing said P old new LinkFault u = tt
untaken_ends_nothing said P old new SpawnFault u = tt
untaken_ends_nothing said P old new NoMemory u = tt

ran_so : (f : Fleet) (result : Result FleetEnd FleetFault) (old new : Shop) → RunsFleet f.children old.children new.children old.out new.out result
    → IfEnded (fleet_cause result) (λ end. RunsFleet f.children old.children new.children old.out new.out (Ok end))
ran_so f (Ok Well) old new p = p
ran_so f (Ok (Failed host s)) old new p = p
ran_so f (Err fleets.StartFault) old new p = tt
ran_so f (Err fleets.WaitFault) old new p = tt
ran_so f (Err fleets.WriteFault) old new p = tt
ran_so f (Err fleets.NoMemory) old new p = tt

ran_as : (f : Fleet) (c : Cause) (old new : Shop) → RunsAs f c old new → IfEnded c (λ end. RunsFleet f.children old.children new.children old.out new.out (Ok end))
ran_as f c old new p = subst (λ k. IfEnded k (λ end. RunsFleet f.children old.children new.children old.out new.out (Ok end))) (sym p.is) (ran_so f p.result old new p.runs)

-- ---- fronts

starts_none : (words : List Words) (old new : SpawnerState) → new.starts ≡ old.starts → StartsPrefix words old new
starts_none words old new e = record { count = 0; is = λ t. e ∙ sym (append-nil old.starts) }

starts_all : (words : List Words) (old new : SpawnerState) → Started words old new → StartsPrefix words old new
starts_all words old new h = record { count = length words; is = λ t. h t ∙ ap (λ l. old.starts ++ l) (sym (take-length words)) }

starts_front : (f : Fleet) (result : Result FleetEnd FleetFault) (old new : Shop) → RunsFleet f.children old.children new.children old.out new.out result
    → StartsPrefix (fleet_starts f.children) old.children new.children
starts_front f (Ok end) old new p = starts_all (fleet_starts f.children) old.children new.children p.did.2
starts_front f (Err fleets.StartFault) old new p = p.did.1
starts_front f (Err fleets.WaitFault) old new p = starts_all (fleet_starts f.children) old.children new.children p.did.1
starts_front f (Err fleets.WriteFault) old new p = starts_all (fleet_starts f.children) old.children new.children p.did.0
starts_front f (Err fleets.NoMemory) old new p = elim p.did [
  | inl none ↦ starts_none (fleet_starts f.children) old.children new.children (ap (λ s. s.starts) none.0)
  | inr all ↦ starts_all (fleet_starts f.children) old.children new.children all.0
]

none_ran : (s : Said Fleet) (old new : Outside) → shop_in new ≡ shop_in old → RunsAtMost s old new
none_ran nothing old new e = (ap (λ w. w.children) e, ap (λ w. w.out) e)
none_ran (outside r) old new e = (ap (λ w. w.children) e, ap (λ w. w.out) e)
none_ran (says f) old new e = (
  starts_none (fleet_starts f.children) old.children new.children (ap (λ w. w.children.starts) e),
  subst (λ s. WritesPrefix old.out s (fleet_text f.children (drop old.children.started old.children.statuses))) (sym (ap (λ w. w.out) e)) (prefix_none old.out _),
)

-- ---- where no fault came

ended_or_poor : (f : Fleet) (result : Result FleetEnd FleetFault) (old new : Shop) → RunsFleet f.children old.children new.children old.out new.out result
    → ¬ (HasRisen old.children.faults new.children.faults) → ¬ (HasRisen old.out.faults new.out.faults) → IsEnded (fleet_cause result) ⊎ (fleet_cause result ≡ NoMemory)
ended_or_poor f (Ok Well) old new p k o = inl tt
ended_or_poor f (Ok (Failed host s)) old new p k o = inl tt
ended_or_poor f (Err fleets.StartFault) old new p k o = absurd (k p.did.0)
ended_or_poor f (Err fleets.WaitFault) old new p k o = absurd (k p.did.0)
ended_or_poor f (Err fleets.WriteFault) old new p k o = absurd (o p.did.2.rose)
ended_or_poor f (Err fleets.NoMemory) old new p k o = inr refl

pub unread : {A : Type 0} (said : FileMap → Said A) (old new : FilesState) (c : Cause) (v : A) → Untaken said old new c → (IsTrue old.observable → said old.held ≡ says v) → IsTrue old.observable
    → ¬ (HasRisen old.read_faults new.read_faults) → c ≡ NoMemory
unread said old new (Refused r) v u is seen p = let e : outside r ≡ says v = sym (u.1 seen) ∙ is seen in absurd (cc)
unread said old new ReadFault v u is seen p = absurd (p u)
unread said old new NoMemory v u is seen p = refl
unread said old new Done v u is seen p = elim u [ ]
unread said old new Usage v u is seen p = elim u [ ]
unread said old new WriteFault v u is seen p = elim u [ ]
unread said old new LinkFault v u is seen p = elim u [ ]
unread said old new SpawnFault v u is seen p = elim u [ ]
unread said old new (NodesFailed host s) v u is seen p = elim u [ ]

-- ---- calls

module _ (file : List ℕ) (cause : Cause) (old new : Outside) (n m : SinkState) (call : Calls (Some (fleet file)) cause old new n m) where
  fleet_view : Took (fleet_said file) RunsAs old.files new.files call.found (shop_in old) (shop_in new)
  fleet_view = view (fleet_said file) RunsAs file old.files new.files call.found (shop_in old) (shop_in new) call.does.1

  gives : Gives call.found cause (HasRisen n.faults m.faults)
  gives = call_gives_cause (Some (fleet file)) cause old new n m call

  -- what holds of how the fleet ended holds of what the call gives
  ended_as_found : (P : FleetEnd → Type 0) → IfEnded call.found P → IfEnded cause P
  ended_as_found P h = fact_carries_over call.found cause (HasRisen n.faults m.faults) gives (λ c. IfEnded c P) tt tt h

  ends_by : (P : FleetEnd → Type 0) (c : Cause) → Took (fleet_said file) RunsAs old.files new.files c (shop_in old) (shop_in new)
      → ((f : Fleet) (end : FleetEnd) → (IsTrue old.files.observable → fleet_said file old.files.held ≡ says f) → RunsFleet f.children old.children new.children old.out new.out (Ok end) → P end) → IfEnded c P
  ends_by P c (took f own p) h = end_map c (λ end r. h f end own r) (ran_as f c (shop_in old) (shop_in new) p)
  ends_by P c (left u same) h = untaken_ends_nothing (fleet_said file) P old.files new.files c u

  pub fleet_runs : IsTrue old.files.observable → (f : Fleet) → fleet_said file old.files.held ≡ says f → IfEnded cause (λ end. RunsFleet f.children old.children new.children old.out new.out (Ok end))
  fleet_runs seen f e =
      let P : FleetEnd → Type 0 = λ end. RunsFleet f.children old.children new.children old.out new.out (Ok end) in
      ended_as_found P (ends_by P call.found fleet_view (λ g end own r. subst (λ x. RunsFleet x.children old.children new.children old.out new.out (Ok end)) (says_one g f (sym (own seen) ∙ e)) r))

  pub fleet_begins : IsTrue old.files.observable → (f : Fleet) → fleet_said file old.files.held ≡ says f
      → IfEnded cause (λ end. Started (fleet_starts f.children) old.children new.children × (IsTrue old.children.observable → end ≡ fleet_end f.children (drop old.children.started old.children.statuses)))
  fleet_begins seen f e =
      end_map cause (λ end r. (r.did.2, λ told. end_given f.children (drop old.children.started old.children.statuses) r.statuses end r.did.0 (r.given told) r.did.1)) (fleet_runs seen f e)

  pub fleet_says : IsTrue old.files.observable → IfEnded cause (λ end. IsSaid (fleet_said file old.files.held))
  fleet_says seen =
      let P : FleetEnd → Type 0 = λ end. IsSaid (fleet_said file old.files.held) in
      ended_as_found P (ends_by P call.found fleet_view (λ g end own r. subst IsSaid (sym (own seen)) tt))

  pub fleet_waits : IfEnded cause (λ end. new.children.children ≡ old.children.children)
  fleet_waits =
      let P : FleetEnd → Type 0 = λ end. new.children.children ≡ old.children.children in
      ended_as_found P (ends_by P call.found fleet_view (λ g end own r. r.did.3))

  at_most : (c : Cause) → Took (fleet_said file) RunsAs old.files new.files c (shop_in old) (shop_in new) → IsTrue old.files.observable → IsTrue old.children.observable
      → RunsAtMost (fleet_said file old.files.held) old new
  at_most c (took f own p) seen told =
      subst (λ s. RunsAtMost s old new) (sym (own seen))
      (starts_front f p.result (shop_in old) (shop_in new) p.runs, fleet_prefix f.children old.children new.children old.out new.out p.result p.runs told)
  at_most c (left u same) seen told = none_ran (fleet_said file old.files.held) old new same

  pub fleet_fronts : IsTrue old.files.observable → IsTrue old.children.observable → RunsAtMost (fleet_said file old.files.held) old new
  fleet_fronts seen told = at_most call.found fleet_view seen told

  complete_so : (c : Cause) → Took (fleet_said file) RunsAs old.files new.files c (shop_in old) (shop_in new) → (f : Fleet) → IsTrue old.files.observable → fleet_said file old.files.held ≡ says f
      → ¬ (HasRisen old.files.read_faults new.files.read_faults) → ¬ (HasRisen old.children.faults new.children.faults) → ¬ (HasRisen old.out.faults new.out.faults) → IsEnded c ⊎ (c ≡ NoMemory)
  complete_so c (took g own p) f seen e r k o = subst (λ x. IsEnded x ⊎ (x ≡ NoMemory)) (sym p.is) (ended_or_poor g p.result (shop_in old) (shop_in new) p.runs k o)
  complete_so c (left u same) f seen e r k o = inr (unread (fleet_said file) old.files new.files c f u (λ s. e) seen r)

  pub fleet_is_complete : IsTrue old.files.observable → (f : Fleet) → fleet_said file old.files.held ≡ says f → ¬ (HasRisen old.files.read_faults new.files.read_faults)
      → ¬ (HasRisen old.children.faults new.children.faults) → ¬ (HasRisen old.out.faults new.out.faults) → ¬ (HasRisen n.faults m.faults) → IsEnded cause ⊎ (cause ≡ NoMemory)
  fleet_is_complete seen f e r k o written = elim gives [
    | inl same ↦ subst (λ x. IsEnded x ⊎ (x ≡ NoMemory)) (sym same) (complete_so call.found fleet_view f seen e r k o)
    | inr other ↦ elim other [ inl poor ↦ inr poor | inr w ↦ absurd (written w.1) ]
  ]
