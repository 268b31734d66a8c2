-- What commands leave as it was.
use Rattle.std.proofs.Common.{◌≡◌, inl, ℕ, IsTrue, List, Option, Some, None, sym, ap, ◌∙◌, subst}
use Rattle.node_io.specs.FileMaps.{MayName}
use Rattle.node_io.specs.FileStates.{FilesState}
use Rattle.node_io.specs.Outsides.{Outside}
use Rattle.node_io.specs.Sinks.{SinkState}
use Rattle.planet_commands.specs.declared.status.Cause.{Cause}
use Rattle.planet_commands.specs.Said.{Said, nothing, outside, says}
use Rattle.network_config.specs.declared.serve.ServeConfig.{ServeConfig}
use Rattle.planet_commands_fleet.specs.Asks.{AsksAs, ask_said}
use Rattle.planet_commands_fleet.specs.Fleets.{RunsAs, fleet_said}
use Rattle.planet_commands_fleet.specs.Nodes.{ServesAs, config_said}
use Rattle.planet_cli.specs.Requests.{Request, on_file, inject, fleet, audit, node, grow}
use Rattle.planet_cli.specs.Does.{Does, wire_in, shop_in, serving_in}
use Rattle.planet_cli.specs.Calls.{Calls}
use Rattle.planet_cli.specs.Laws.{UnlessLinked, UnlessFleet, UnlessNode, AsksFor, LogsAtMost, MakesAtMost}
use Rattle.planet_cli.proofs.Views.{Took, took, left, view}

module _ (c : Cause) (old new : Outside) where
  pub link_stays : (q : Option Request) → Does q c old new → UnlessLinked q (new.link ≡ old.link)
  link_stays None d = ap (λ o. o.link) d.1
  link_stays (Some (on_file kind file)) d = ap (λ o. o.link) d.0
  link_stays (Some (inject file)) d = tt
  link_stays (Some (fleet file)) d = ap (λ o. o.link) d.0
  link_stays (Some (node file turns)) d = tt
  link_stays (Some (grow seed n)) d = ap (λ o. o.link) d.0
  link_stays (Some (audit file)) d = ap (λ o. o.link) d.0

  pub clock_stays : (q : Option Request) → Does q c old new → UnlessNode q (new.clock ≡ old.clock)
  clock_stays None d = ap (λ o. o.clock) d.1
  clock_stays (Some (on_file kind file)) d = ap (λ o. o.clock) d.0
  clock_stays (Some (inject file)) d = ap (λ o. o.clock) d.0
  clock_stays (Some (fleet file)) d = ap (λ o. o.clock) d.0
  clock_stays (Some (node file turns)) d = tt
  clock_stays (Some (grow seed n)) d = ap (λ o. o.clock) d.0
  clock_stays (Some (audit file)) d = ap (λ o. o.clock) d.0

  pub children_stay : (q : Option Request) → Does q c old new → UnlessFleet q (new.children ≡ old.children)
  children_stay None d = ap (λ o. o.children) d.1
  children_stay (Some (on_file kind file)) d = ap (λ o. o.children) d.0
  children_stay (Some (inject file)) d = ap (λ o. o.children) d.0
  children_stay (Some (fleet file)) d = tt
  children_stay (Some (node file turns)) d = d.0
  children_stay (Some (grow seed n)) d = ap (λ o. o.children) d.0
  children_stay (Some (audit file)) d = ap (λ o. o.children) d.0

  script_asked : (file : List ℕ) → Took (ask_said file) AsksAs old.files new.files c (wire_in old) (wire_in new) → new.link.script ≡ old.link.script
  script_asked file (took a own p) = p.asks.script
  script_asked file (left u same) = ap (λ w. w.link.script) same

  pub script_stays : (q : Option Request) → Does q c old new → UnlessNode q (new.link.script ≡ old.link.script)
  script_stays None d = ap (λ o. o.link.script) d.1
  script_stays (Some (on_file kind file)) d = ap (λ o. o.link.script) d.0
  script_stays (Some (inject file)) d = script_asked file (view (ask_said file) AsksAs file old.files new.files c (wire_in old) (wire_in new) d.1)
  script_stays (Some (fleet file)) d = ap (λ o. o.link.script) d.0
  script_stays (Some (node file turns)) d = tt
  script_stays (Some (grow seed n)) d = ap (λ o. o.link.script) d.0
  script_stays (Some (audit file)) d = ap (λ o. o.link.script) d.0

  statuses_run : (file : List ℕ) → Took (fleet_said file) RunsAs old.files new.files c (shop_in old) (shop_in new) → new.children.statuses ≡ old.children.statuses
  statuses_run file (took f own p) = p.runs.kept.statuses
  statuses_run file (left u same) = ap (λ w. w.children.statuses) same

  pub statuses_stay : (q : Option Request) → Does q c old new → new.children.statuses ≡ old.children.statuses
  statuses_stay None d = ap (λ o. o.children.statuses) d.1
  statuses_stay (Some (on_file kind file)) d = ap (λ o. o.children.statuses) d.0
  statuses_stay (Some (inject file)) d = ap (λ o. o.children.statuses) d.0
  statuses_stay (Some (fleet file)) d = statuses_run file (view (fleet_said file) RunsAs file old.files new.files c (shop_in old) (shop_in new) d.1)
  statuses_stay (Some (node file turns)) d = ap (λ k. k.statuses) d.0
  statuses_stay (Some (grow seed n)) d = ap (λ o. o.children.statuses) d.0
  statuses_stay (Some (audit file)) d = ap (λ o. o.children.statuses) d.0

  -- ---- files

  pub files_stay : (q : Option Request) → Does q c old new → UnlessNode q (new.files.held ≡ old.files.held)
  files_stay None d = ap (λ o. o.files.held) d.1
  files_stay (Some (on_file kind file)) d = d.1.takes.only.held
  files_stay (Some (inject file)) d = d.1.takes.only.held
  files_stay (Some (fleet file)) d = d.1.takes.only.held
  files_stay (Some (node file turns)) d = tt
  files_stay (Some (grow seed n)) d = ap (λ o. o.files.held) d.0
  files_stay (Some (audit file)) d = d.1.only.held

  node_asked : (file : List ℕ) (turns : ℕ) (read : FilesState) → MayName old.files.asked read.asked file
      → Took (config_said file) (ServesAs turns) old.files read c (record (serving_in old) { files = read }) (serving_in new) → MayName old.files.asked new.files.asked file
  node_asked file turns read named (took cfg own p) = subst (λ k. MayName old.files.asked k file) (sym p.serves.serves.only.asked) named
  node_asked file turns read named (left u same) = subst (λ k. MayName old.files.asked k file) (sym (ap (λ w. w.files.asked) same)) named

  pub files_asked : (q : Option Request) → Does q c old new → AsksFor q old.files.asked new.files.asked
  files_asked None d = ap (λ o. o.files.asked) d.1
  files_asked (Some (on_file kind file)) d = d.1.takes.asked
  files_asked (Some (inject file)) d = d.1.takes.asked
  files_asked (Some (fleet file)) d = d.1.takes.asked
  files_asked (Some (node file turns)) d = node_asked file turns d.1.read d.1.did.takes.asked (view (config_said file) (ServesAs turns) file old.files d.1.read c (record (serving_in old) { files = d.1.read }) (serving_in new) d.1.did)
  files_asked (Some (grow seed n)) d = ap (λ o. o.files.asked) d.0
  files_asked (Some (audit file)) d = (d.1.asked.names, d.1.asked.asked)

  none_made : (s : Said ServeConfig) → new.files.made ≡ old.files.made → LogsAtMost s old.files.made new.files.made
  none_made nothing is = is
  none_made (outside r) is = is
  none_made (says cfg) is = inl is

  node_made : (file : List ℕ) (turns : ℕ) (read : FilesState) → read.made ≡ old.files.made
      → Took (config_said file) (ServesAs turns) old.files read c (record (serving_in old) { files = read }) (serving_in new)
      → IsTrue old.files.observable → LogsAtMost (config_said file old.files.held) old.files.made new.files.made
  node_made file turns read same (took cfg own p) seen =
      subst (λ s. LogsAtMost s old.files.made new.files.made) (sym (own seen)) (subst (λ k. MayName k new.files.made cfg.log) same p.serves.serves.made.0)
  node_made file turns read same (left u is) seen = none_made (config_said file old.files.held) (ap (λ w. w.files.made) is ∙ same)

  pub files_made : (q : Option Request) → Does q c old new → MakesAtMost q old new
  files_made None d = ap (λ o. o.files.made) d.1
  files_made (Some (on_file kind file)) d = d.1.takes.only.made
  files_made (Some (inject file)) d = d.1.takes.only.made
  files_made (Some (fleet file)) d = d.1.takes.only.made
  files_made (Some (node file turns)) d = node_made file turns d.1.read d.1.did.takes.only.made (view (config_said file) (ServesAs turns) file old.files d.1.read c (record (serving_in old) { files = d.1.read }) (serving_in new) d.1.did)
  files_made (Some (grow seed n)) d = ap (λ o. o.files.made) d.0
  files_made (Some (audit file)) d = d.1.only.made

-- ---- calls

module _ (q : Option Request) (cause : Cause) (old new : Outside) (n m : SinkState) (call : Calls q cause old new n m) where
  pub call_asks : AsksFor q old.files.asked new.files.asked
  call_asks = files_asked call.found old new q call.does

  pub call_makes : MakesAtMost q old new
  call_makes = files_made call.found old new q call.does

  pub call_holds : UnlessNode q (new.files.held ≡ old.files.held)
  call_holds = files_stay call.found old new q call.does

  pub call_links : UnlessLinked q (new.link ≡ old.link)
  call_links = link_stays call.found old new q call.does

  pub call_hears : UnlessNode q (new.link.script ≡ old.link.script)
  call_hears = script_stays call.found old new q call.does

  pub call_times : UnlessNode q (new.clock ≡ old.clock)
  call_times = clock_stays call.found old new q call.does

  pub call_starts : UnlessFleet q (new.children ≡ old.children)
  call_starts = children_stay call.found old new q call.does

  pub call_statuses : new.children.statuses ≡ old.children.statuses
  call_statuses = statuses_stay call.found old new q call.does
