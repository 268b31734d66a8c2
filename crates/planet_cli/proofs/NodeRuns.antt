-- What the run of a node keeps, and that a log replays to its run's lines.
use Rattle.std.proofs.Common.{◌≡◌, ◌⊎◌, inl, inr, ℕ, ◌<◌, ◌≤◌, ◌^◌, IsTrue, Bool, true, false, cond, nat_lt, List, [], ◌++◌, length, take, Option, Some, None, Result, Ok, Err, refl, sym, ap, ◌∙◌, subst}
use Rattle.std.proofs.lemmas.Bool.{le-ltb}
use Rattle.std.proofs.Math.Seq.{take-length}
use Rattle.plan_base.specs.declared.stamp.Version.{Version}
use Rattle.plan_base.specs.declared.stamp.Version.TheVariants.{One, Two}
use Rattle.service_api.specs.Services.{ServiceState}
use Rattle.service_api.specs.declared.package.PackageName.{PackageName}
use Rattle.service_registry_spec.specs.Beginning.{opening_standing, present_without}
use Rattle.network_config.specs.declared.event.LogEvent.{LogEvent}
use Rattle.network_config.specs.declared.node.Log.{Log}
use Rattle.network_config.specs.declared.node.NodeConfig.{NodeConfig}
use Rattle.network_config.specs.declared.serve.ServeConfig.{ServeConfig}
use Rattle.network_config.specs.NodeRules.{KeepsBoot, KeepsServe}
use Rattle.line_reader.specs.declared.fault.LineFault.{LineFault}
use Rattle.line_reader.specs.declared.fault.LineFault.TheVariants as lines
use Rattle.node_files.specs.Configs.{config_of}
use Rattle.node_files.proofs.ConfigLaws.{config_rules}
use Rattle.node_io.specs.Causes.{HasRisen}
use Rattle.node_io.specs.Clocks.{ClockState}
use Rattle.node_io.specs.FileMaps.{FileMap, file_at, untouched}
use Rattle.node_io.specs.FileStates.{FilesState}
use Rattle.node_io.specs.Outsides.{Outside}
use Rattle.node_io.specs.Sinks.{SinkState, Writes}
use Rattle.node_core_spec.specs.State.{NodeState, new_node}
use Rattle.node_core_spec.specs.Fits.{NodeFits}
use Rattle.node_core_spec.proofs.Contexts.{node_ordered}
use Rattle.node_log.specs.Runs.{played_entries}
use Rattle.node_log.specs.Texts.{whole_trace}
use Rattle.node_log.specs.Follow.{lost_after, lost_places}
use Rattle.node_serve.specs.Desks.{Serving, IsSeen, desk_of, seen_at, start_at}
use Rattle.node_serve.specs.Shown.{Agrees}
use Rattle.node_serve.specs.Served.{Served, Begun}
use Rattle.node_serve.specs.Again.{ReadsAgain}
use Rattle.node_serve.proofs.Again.{again}
use Rattle.node_serve.proofs.Ending.{whole_agrees}
use Rattle.planet_commands.specs.declared.status.Cause.{Cause}
use Rattle.planet_commands.specs.declared.status.Cause.TheVariants.{Done, NoMemory}
use Rattle.planet_commands.specs.declared.status.Refusal.TheVariants.{TooLong}
use Rattle.planet_commands.specs.Said.{Said, outside, says, said_by, said_within, said_at, line_limit}
use Rattle.planet_commands_run.specs.Keeping.{KeepsNodeRun, node_at}
use Rattle.node_log.specs.Nodes.{log_node}
use Rattle.planet_commands_run.specs.Schedules.{schedule_said, log_trace}
use Rattle.planet_commands_run.proofs.Logs.{log_said}
use Rattle.planet_commands_fleet.specs.Nodes.{config_said, own_services, moment, begun_config, begun_with}
use Rattle.planet_cli.specs.declared.kinds.Kind.TheVariants.{Replay}
use Rattle.planet_cli.specs.Requests.{on_file, node}
use Rattle.planet_cli.specs.Does.{serving_in}
use Rattle.planet_cli.specs.Calls.{Calls}
use Rattle.planet_cli.specs.Replays.{ReplaysLog}
use Rattle.planet_cli.specs.Outcomes.{whole, outcome_by, outcome_of, IsWhole, WritesOut}
use Rattle.planet_cli.proofs.Giving.{is_written, is_complete}
use Rattle.planet_cli.proofs.NodeKeeping.{begins, entries_keep, log_run_keeps}
use Rattle.planet_cli.specs.Laws.{ServesAtMost}
use Rattle.planet_cli.proofs.Serving.{node_serves, node_fronts, node_moment}
use Rattle.planet_cli.specs.Runs.{first_node, made_run, KeepsOrder, KeepsServing, KeepsUpTo, AgreesServing, ReplaysSo}

-- ---- what a file says keeps its rules

module _ {A : Type 0} (Keeps : A → Type 0) (read : List ℕ → Result A LineFault) (keeps : (bytes : List ℕ) (v : A) → read bytes ≡ Ok v → Keeps v) (v : A) where
  by_result : (bytes : List ℕ) (r : Result A LineFault) → read bytes ≡ r → said_by r ≡ says v → Keeps v
  by_result bytes (Ok w) e s = let same : w ≡ v = cc in subst Keeps same (keeps bytes w e)
  by_result bytes (Err (lines.Line n reason)) e s = absurd (cc)
  by_result bytes (Err lines.NoMemory) e s = absurd (cc)

  by_length : (long : Bool) (bytes : List ℕ) → cond long (outside TooLong) (said_by (read bytes)) ≡ says v → Keeps v
  by_length true bytes s = absurd (cc)
  by_length false bytes s = by_result bytes (read bytes) refl s

  by_file : (file : Option (List ℕ)) → said_at line_limit (λ b. said_by (read b)) file ≡ says v → Keeps v
  by_file None s = absurd (cc)
  by_file (Some bytes) s = by_length (nat_lt line_limit (length bytes)) bytes s

config_keeps : (file : List ℕ) (files : FileMap) (cfg : ServeConfig) → config_said file files ≡ says cfg → KeepsServe cfg
config_keeps file files cfg e = by_file KeepsServe config_of (λ bytes v s. config_rules bytes (Ok v) s) cfg (file_at files file) e

-- ---- the run of a node

booted_fits : (boot : ℕ) (c : NodeConfig) (n : ServiceState) → NodeFits (new_node c n) → NodeFits (new_node (record c { boot = boot }) n)
unfolding new_node
booted_fits boot c n f = record {
  here = f.here;
  hosts = f.hosts;
  near = f.near;
  ordered = f.ordered;
  services = f.services;
  queues = f.queues;
  serial = f.serial;
  now = f.now;
}

run_keeps : (cfg : ServeConfig) (turns : ℕ) (old new : Serving) → KeepsServe cfg → (s : Served (begun_config cfg old) (first_node cfg old) turns (begun_with cfg old) new)
    → KeepsNodeRun (first_node cfg old) (made_run cfg turns old s.refused).events
run_keeps cfg turns old new k s =
    entries_keep (begun_config cfg old).node (own_services cfg) (made_run cfg turns old s.refused).events
    (booted_fits (moment cfg.node.version old.clock) cfg.node (own_services cfg) (begins cfg.node cfg.missing k.node))
    (λ i d h. (s.readable i d h).keeps)

serving_keeps : (cfg : ServeConfig) (turns : ℕ) (old new : Serving) → KeepsServe cfg → Served (begun_config cfg old) (first_node cfg old) turns (begun_with cfg old) new → KeepsServing cfg turns old new
serving_keeps cfg turns old new k s = record { served = s; keeps = run_keeps cfg turns old new k s }

pub node_keeps : (file : List ℕ) (turns : ℕ) (cause : Cause) (old new : Outside) (n m : SinkState) → Calls (Some (node file turns)) cause old new n m → IsSeen (desk_of (serving_in old)) → IsTrue old.clock.observable
    → (cfg : ServeConfig) → config_said file old.files.held ≡ says cfg → cause ≡ Done → KeepsServing cfg turns (serving_in old) (serving_in new)
node_keeps file turns cause old new n m call seen clock cfg e done =
    serving_keeps cfg turns (serving_in old) (serving_in new) (config_keeps file old.files.held cfg e) (node_serves file turns cause old new n m call seen clock cfg e done)

-- ---- after every answer

begun_keep : (cfg : ServeConfig) (turns : ℕ) (old new : Serving) → KeepsServe cfg → (b : Begun (begun_config cfg old) (first_node cfg old) turns (begun_with cfg old) new)
    → KeepsNodeRun (first_node cfg old) (take b.steps (made_run cfg turns old b.refused).events)
begun_keep cfg turns old new k b =
    entries_keep (begun_config cfg old).node (own_services cfg) (take b.steps (made_run cfg turns old b.refused).events)
    (booted_fits (moment cfg.node.version old.clock) cfg.node (own_services cfg) (begins cfg.node cfg.missing k.node))
    (λ i d h. (b.readable i d h).keeps)

up_to : (cfg : ServeConfig) (turns : ℕ) (old new : Serving) → KeepsServe cfg → ServesAtMost (says cfg) turns old new → KeepsUpTo cfg turns old new
up_to cfg turns old new k (inl s) = inl (serving_keeps cfg turns old new k s)
up_to cfg turns old new k (inr (inl b)) = inr (inl (record { begun = b; keeps = begun_keep cfg turns old new k b }))
up_to cfg turns old new k (inr (inr u)) = inr (inr u)

agree_so : (cfg : ServeConfig) (turns : ℕ) (old new : Serving) → ServesAtMost (says cfg) turns old new → AgreesServing cfg turns old new
unfolding lost_after
agree_so cfg turns old new (inl s) =
    let events = (made_run cfg turns old s.refused).events in
    let all : take (length events) events ≡ events = take-length events in
    record {
      refused = s.refused;
      steps = length events;
      places = s.places ∙ ap lost_places (sym all);
      agrees = inr (subst (Agrees (begun_config cfg old) (start_at (desk_of old) (first_node cfg old)) (seen_at (desk_of new))) (sym all)
          (whole_agrees (begun_config cfg old) (first_node cfg old) turns (begun_with cfg old) new s));
    }
agree_so cfg turns old new (inr (inl b)) = record { refused = b.refused; steps = b.steps; places = b.places; agrees = b.agrees }
agree_so cfg turns old new (inr (inr u)) = record {
  refused = [];
  steps = 0;
  places = refl;
  agrees = inl (record { sent = ap (λ (s : Serving). s.link.sent) u.0; log = untouched u.1; out = inl (ap (λ (s : Serving). s.out.taken) u.0) });
}

module _ (file : List ℕ) (turns : ℕ) (cause : Cause) (old new : Outside) (n m : SinkState) (call : Calls (Some (node file turns)) cause old new n m) (seen : IsSeen (desk_of (serving_in old))) (clock : IsTrue old.clock.observable)
    (cfg : ServeConfig) (e : config_said file old.files.held ≡ says cfg) where
  fronts : ServesAtMost (says cfg) turns (serving_in old) (serving_in new)
  fronts = subst (λ s. ServesAtMost s turns (serving_in old) (serving_in new)) e (node_fronts file turns cause old new n m call seen clock)

  pub node_up_to : KeepsUpTo cfg turns (serving_in old) (serving_in new)
  node_up_to = up_to cfg turns (serving_in old) (serving_in new) (config_keeps file old.files.held cfg e) fronts

  pub node_agrees : AgreesServing cfg turns (serving_in old) (serving_in new)
  node_agrees = agree_so cfg turns (serving_in old) (serving_in new) fronts

pub run_ordered : (first : NodeState) (es : List LogEvent) → KeepsNodeRun first es → KeepsOrder first es
run_ordered first es k n p = node_ordered (node_at first es n) p (k.fits n)

pub log_ordered : (words : List (List ℕ)) (files : FilesState) (l : Log) → ReplaysLog words files l → KeepsOrder (log_node l) l.events
log_ordered words files l r = run_ordered (log_node l) l.events (log_run_keeps r.bytes l r.says)

-- ---- its log, replayed

boot_keeps : (v : Version) (clock : ClockState) → moment v clock < 2 ^ 64 → KeepsBoot v (moment v clock)
boot_keeps One clock l = refl
boot_keeps Two clock l = l

begun_keeps : (cfg : ServeConfig) (old : Serving) → KeepsServe cfg → moment cfg.node.version old.clock < 2 ^ 64 → KeepsServe (begun_config cfg old)
begun_keeps cfg old k l = record {
  node = record {
    few = k.node.few;
    ascend = k.node.ascend;
    numbers = k.node.numbers;
    here = k.node.here;
    neighbours = k.node.neighbours;
    devices = k.node.devices;
    serial = k.node.serial;
    boot = boot_keeps cfg.node.version old.clock l;
    link = k.node.link;
  };
  serial = k.serial;
  link = k.link;
  missing = k.missing;
  period = k.period;
  log = k.log;
  devices = k.devices;
  ports = k.ports;
  apart = k.apart;
  injects = k.injects;
  weight = k.weight;
}

-- the trace of a log of this node is that of its entries
trace_of_entries : (c : NodeConfig) (missing : List PackageName) (log : Log) → log.node ≡ c → log.missing ≡ missing
    → whole_trace c.here (played_entries 0 (new_node c (opening_standing (present_without missing))) log.events) ≡ log_trace log
trace_of_entries c missing log e f =
    ap (λ (x : NodeConfig). whole_trace x.here (played_entries 0 (new_node x (opening_standing (present_without missing))) log.events)) (sym e)
    ∙ ap (λ y. whole_trace log.node.here (played_entries 0 (new_node log.node (opening_standing (present_without y))) log.events)) (sym f)

short_said : (limit : ℕ) (read : List ℕ → Said (List ℕ)) (bytes trace : List ℕ) → nat_lt limit (length bytes) ≡ false → read bytes ≡ says trace → said_within limit read bytes ≡ says trace
short_said limit read bytes trace e h = ap (λ t. cond t (outside TooLong) (read bytes)) e ∙ h

left_by : (cfg : ServeConfig) (old new : Outside) → ReadsAgain (begun_config cfg (serving_in old)) (first_node cfg (serving_in old)) (begun_with cfg (serving_in old)) (serving_in new) → ReplaysSo cfg.log old new
left_by cfg old new r = record {
  bytes = r.bytes;
  there = r.there;
  trace = log_trace r.log;
  wrote = r.trace ∙ ap (λ t. old.out.taken ++ t) (trace_of_entries (begun_config cfg (serving_in old)).node cfg.missing r.log r.begins r.missing);
  again = λ short.
      ap (λ o. outcome_by whole (said_at line_limit schedule_said o)) r.there
      ∙ ap (outcome_by whole) (short_said line_limit schedule_said r.bytes (log_trace r.log) (le-ltb 4194304 (length r.bytes) short) (log_said r.bytes r.log r.reads));
}

pub node_replays : (file : List ℕ) (turns : ℕ) (cause : Cause) (old new : Outside) (n m : SinkState) → Calls (Some (node file turns)) cause old new n m → IsTrue old.files.observable
    → (cfg : ServeConfig) → config_said file old.files.held ≡ says cfg → moment cfg.node.version old.clock < 2 ^ 64
    → (s : Served (begun_config cfg (serving_in old)) (first_node cfg (serving_in old)) turns (begun_with cfg (serving_in old)) (serving_in new))
    → length (made_run cfg turns (serving_in old) s.refused).events ≤ 50000 → ReplaysSo cfg.log old new
node_replays file turns cause old new n m call seen cfg e small s few =
    left_by cfg old new
    (again (begun_config cfg (serving_in old)) (first_node cfg (serving_in old)) turns (begun_with cfg (serving_in old)) (serving_in new) s
    (begun_keeps cfg (serving_in old) (config_keeps file old.files.held cfg e) small) few)

pub node_replays_told : (file : List ℕ) (turns : ℕ) (cause : Cause) (old new : Outside) (n m : SinkState) → Calls (Some (node file turns)) cause old new n m → IsTrue old.files.observable
    → IsTrue old.clock.observable → (cfg : ServeConfig) → config_said file old.files.held ≡ says cfg
    → (s : Served (begun_config cfg (serving_in old)) (first_node cfg (serving_in old)) turns (begun_with cfg (serving_in old)) (serving_in new))
    → length (made_run cfg turns (serving_in old) s.refused).events ≤ 50000 → ReplaysSo cfg.log old new
node_replays_told file turns cause old new n m call seen clock cfg e s few =
    node_replays file turns cause old new n m call seen cfg e (node_moment file turns cause old new n m call seen clock cfg e s) s few

-- ---- such a replay

module _ (log : List ℕ) (old new : Outside) (s : ReplaysSo log old new) (short : length s.bytes ≤ 4194304) (cause : Cause) (before after : Outside) (n m : SinkState)
    (call : Calls (Some (on_file Replay log)) cause before after n m) (seen : IsTrue before.files.observable) (same : before.files.held ≡ new.files.held) where
  is_trace : outcome_of (Some (on_file Replay log)) before.files.held ≡ whole s.trace
  is_trace = ap (λ h. outcome_of (Some (on_file Replay log)) h) same ∙ s.again short

  pub trace_written : cause ≡ Done → Writes before.out after.out s.trace
  trace_written done = subst (λ o. WritesOut o before.out after.out) is_trace (is_written (Some (on_file Replay log)) cause before after n m call seen done)

  pub trace_whole : ¬ (HasRisen before.files.read_faults after.files.read_faults) → ¬ (HasRisen before.out.faults after.out.faults) → ¬ (HasRisen n.faults m.faults) → (cause ≡ Done) ⊎ (cause ≡ NoMemory)
  trace_whole r o f = is_complete (Some (on_file Replay log)) cause before after n m call seen (subst IsWhole (sym is_trace) tt) r o f tt
