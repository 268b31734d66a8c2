-- What a call of `node` does to files.
use Rattle.std.proofs.Common.{◌≡◌, ◌≢◌, ℕ, IsTrue, List, [], ◌∷◌, ◌++◌, Some, Result, Ok, Err, sym, ap, ◌∙◌, subst}
use Rattle.std.specs.Prelude.{OnOk}
use Rattle.network_config.specs.declared.serve.ServeConfig.{ServeConfig}
use Rattle.node_io.specs.FileMaps.{file_at}
use Rattle.node_io.specs.FileStates.{FilesState}
use Rattle.node_io.specs.Outsides.{Outside}
use Rattle.node_io.specs.Sinks.{SinkState}
use Rattle.node_serve.specs.Desks.{Serving}
use Rattle.node_serve.specs.declared.fault.ServeFault.{ServeFault}
use Rattle.node_serve.specs.declared.fault.ServeFault.TheVariants as faults
use Rattle.planet_commands.specs.declared.status.Cause.{Cause}
use Rattle.planet_commands.specs.declared.status.Cause.TheVariants.{Done}
use Rattle.planet_commands.specs.Said.{says}
use Rattle.planet_commands.specs.Takes.{Untaken}
use Rattle.planet_commands_fleet.specs.Nodes.{ServesAs, config_said, serve_cause}
use Rattle.planet_cli.specs.Requests.{node}
use Rattle.planet_cli.specs.Does.{serving_in}
use Rattle.planet_cli.specs.Calls.{Calls}
use Rattle.planet_cli.proofs.Views.{says_one, Took, took, left, view}
use Rattle.planet_cli.proofs.Giving.{done_found}

-- what an answer that is done says
done_so : {T : Type 0} (P : Type 0) (result : Result T ServeFault) → serve_cause result ≡ Done → OnOk result P → P
done_so P (Ok x) e h = h
done_so P (Err faults.LinkFault) e h = absurd (cc)
done_so P (Err faults.WriteFault) e h = absurd (cc)
done_so P (Err faults.NoMemory) e h = absurd (cc)

module _ (file : List ℕ) (turns : ℕ) (cause : Cause) (old new : Outside) (n m : SinkState) (call : Calls (Some (node file turns)) cause old new n m) where
  same_held : call.does.1.read.held ≡ old.files.held
  same_held = call.does.1.did.takes.only.held

  same_made : call.does.1.read.made ≡ old.files.made
  same_made = call.does.1.did.takes.only.made

  still : IsTrue old.files.observable → IsTrue call.does.1.read.observable
  still seen = subst IsTrue (sym call.does.1.did.takes.only.observable) seen

  abbrev View : Cause → Type 0
  View c = Took (config_said file) (ServesAs turns) old.files call.does.1.read c (record (serving_in old) { files = call.does.1.read }) (serving_in new)

  node_view : View call.found
  node_view = view (config_said file) (ServesAs turns) file old.files call.does.1.read call.found (record (serving_in old) { files = call.does.1.read }) (serving_in new) call.does.1.did

  others_by : (c : Cause) (cfg : ServeConfig) → View c → IsTrue old.files.observable → config_said file old.files.held ≡ says cfg → (other : List ℕ) → other ≢ cfg.log
      → file_at new.files.held other ≡ file_at old.files.held other
  others_by c cfg (took own_cfg own p) seen e other apart =
      let same : own_cfg ≡ cfg = says_one own_cfg cfg (sym (own seen) ∙ e) in
      p.serves.serves.others (still seen) other (λ i. apart (i ∙ ap (λ (k : ServeConfig). k.log) same)) ∙ ap (λ h. file_at h other) same_held
  others_by c cfg (left u same) seen e other apart = ap (λ (s : Serving). file_at s.files.held other) same ∙ ap (λ h. file_at h other) same_held

  pub node_others : IsTrue old.files.observable → (cfg : ServeConfig) → config_said file old.files.held ≡ says cfg → (other : List ℕ) → other ≢ cfg.log → file_at new.files.held other ≡ file_at old.files.held other
  node_others seen cfg e other apart = others_by call.found cfg node_view seen e other apart

  made_by : (c : Cause) (cfg : ServeConfig) → View c → IsTrue old.files.observable → config_said file old.files.held ≡ says cfg → c ≡ Done → new.files.made ≡ old.files.made ++ cfg.log ∷ []
  made_by c cfg (took own_cfg own p) seen e done =
      let same : own_cfg ≡ cfg = says_one own_cfg cfg (sym (own seen) ∙ e) in
      done_so (new.files.made ≡ call.does.1.read.made ++ own_cfg.log ∷ []) p.result (sym p.is ∙ done) (p.serves.serves.made.1 (still seen))
      ∙ ap (λ l. l ++ own_cfg.log ∷ []) same_made ∙ ap (λ (k : ServeConfig). old.files.made ++ k.log ∷ []) same
  made_by c cfg (left u same) seen e done = elim (subst (Untaken (config_said file) old.files call.does.1.read) done u) [ ]

  pub node_made : IsTrue old.files.observable → (cfg : ServeConfig) → config_said file old.files.held ≡ says cfg → cause ≡ Done → new.files.made ≡ old.files.made ++ cfg.log ∷ []
  node_made seen cfg e done = made_by call.found cfg node_view seen e (done_found (Some (node file turns)) cause old new n m call done)

  unbound_by : (c : Cause) → View c → new.link.bound ≡ [] → (new.files.held ≡ old.files.held) × (new.files.made ≡ old.files.made) × (new.out ≡ old.out)
  unbound_by c (took cfg own p) none =
      let u = p.serves.serves.unbound none in
      (ap (λ (f : FilesState). f.held) u.0 ∙ same_held, ap (λ (f : FilesState). f.made) u.0 ∙ same_made, u.1)
  unbound_by c (left u same) none = (
    ap (λ (s : Serving). s.files.held) same ∙ same_held,
    ap (λ (s : Serving). s.files.made) same ∙ same_made,
    ap (λ (s : Serving). s.out) same,
  )

  pub node_unbound : new.link.bound ≡ [] → (new.files.held ≡ old.files.held) × (new.files.made ≡ old.files.made) × (new.out ≡ old.out)
  node_unbound none = unbound_by call.found node_view none
