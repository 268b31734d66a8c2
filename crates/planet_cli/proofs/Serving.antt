-- The laws of `node`, and of files that aren't taken.
use Rattle.std.proofs.Common.{◌≡◌, ◌⊎◌, inl, inr, ℕ, ◌<◌, ◌^◌, IsTrue, List, ◌++◌, length, take, codes, Option, Some, None, Result, Ok, Err, refl, sym, ap, ◌∙◌, subst, arith}
use Rattle.std.proofs.lemmas.List.{length-append}
use Rattle.network_config.specs.declared.event.LogEvent.{LogEvent}
use Rattle.network_config.specs.declared.serve.ServeConfig.{ServeConfig}
use Rattle.node_files.specs.LogTexts.{head_text}
use Rattle.node_io.specs.Causes.{HasRisen}
use Rattle.node_io.specs.FileMaps.{ChangesOnly, SavesFront}
use Rattle.node_io.specs.FileStates.{FilesState}
use Rattle.node_io.specs.Outsides.{Outside}
use Rattle.node_io.specs.Sinks.{SinkState}
use Rattle.node_core_spec.specs.State.{NodeState}
use Rattle.fleet_run.specs.Asks.{ask_line}
use Rattle.plan_base.specs.declared.stamp.Version.{Version}
use Rattle.plan_base.specs.declared.stamp.Version.TheVariants.{One, Two}
use Rattle.node_io.specs.Clocks.{ClockState}
use Rattle.node_log.specs.Texts.{begun_trace, whole_trace}
use Rattle.node_serve.specs.Desks.{Serving, IsSeen, desk_of, seen_at, start_at}
use Rattle.node_serve.specs.Shown.{run_log, Agrees}
use Rattle.node_serve.specs.Served.{Served, AgreesEarly, Begun, Ends, run_in}
use Rattle.node_serve.specs.Moments.{booted_config, Asks, ServesFrom}
use Rattle.node_serve.specs.declared.fault.ServeFault.{ServeFault}
use Rattle.node_serve.specs.declared.fault.ServeFault.TheVariants as faults
use Rattle.planet_commands.specs.declared.status.Cause.{Cause}
use Rattle.planet_commands.specs.declared.status.Cause.TheVariants.{Done, WriteFault, LinkFault, NoMemory}
use Rattle.planet_commands.specs.Said.{Said, nothing, outside, says}
use Rattle.planet_commands.specs.Takes.{Untaken}
use Rattle.planet_commands_fleet.specs.Asks.{AsksAs, ask_said}
use Rattle.planet_commands_fleet.specs.Nodes.{ServesAs, config_said, own_services, own_node, moment, behind_moment, begun_config, begun_with, serve_cause}
use Rattle.planet_cli.specs.Requests.{Request, on_file, inject, fleet, audit, node, grow}
use Rattle.planet_cli.specs.Does.{Does, wire_in, serving_in}
use Rattle.planet_cli.specs.Calls.{Calls}
use Rattle.planet_cli.specs.Outcomes.{Outcome, whole, runs, outcome_by, outcome_of, IsAccepted}
use Rattle.planet_cli.specs.Laws.{ServesAtMost}
use Rattle.planet_cli.proofs.Views.{says_one, Took, took, left, view}
use Rattle.planet_cli.proofs.Fleets.{unread}
use Rattle.planet_cli.proofs.Giving.{call_gives_cause, done_found, well}

-- ---- a run over files that were read before

module _ (cfg : ServeConfig) (n : NodeState) (turns : ℕ) (old new : Serving) (read : FilesState) (held : read.held ≡ old.files.held) where
  served_before : Served cfg n turns (record old { files = read }) new → Served cfg n turns old new
  served_before x = record {
    refused = x.refused;
    places = x.places;
    log = subst (λ f. ChangesOnly f new.files.held cfg.log (run_log cfg (run_in cfg n turns old x.refused))) held x.log;
    out = x.out;
    sent = x.sent;
    binds = x.binds;
    script = x.script;
    answers = x.answers;
    readable = x.readable;
  }

  agrees_before : (events : List LogEvent) → AgreesEarly cfg (desk_of (record old { files = read })) (desk_of new) ⊎ Agrees cfg (start_at (desk_of (record old { files = read })) n) (seen_at (desk_of new)) events
      → AgreesEarly cfg (desk_of old) (desk_of new) ⊎ Agrees cfg (start_at (desk_of old) n) (seen_at (desk_of new)) events
  agrees_before events (inl x) = inl (record { sent = x.sent; log = subst (λ f. SavesFront f new.files.held cfg.log (head_text cfg.node cfg.missing)) held x.log; out = x.out })
  agrees_before events (inr x) = inr (subst (λ f. Agrees cfg (record (start_at (desk_of old) n) { files = f }) (seen_at (desk_of new)) events) held x)

  begun_before : Begun cfg n turns (record old { files = read }) new → Begun cfg n turns old new
  begun_before x = record {
    refused = x.refused;
    steps = x.steps;
    places = x.places;
    log = subst (λ f. SavesFront f new.files.held cfg.log (run_log cfg (run_in cfg n turns old x.refused))) held x.log;
    out = x.out;
    sent = x.sent;
    readable = x.readable;
    agrees = agrees_before (take x.steps (run_in cfg n turns old x.refused).events) x.agrees;
    binds = x.binds;
    script = x.script;
    answers = x.answers;
  }

  ended_before : (result : Result (Unit {0}) ServeFault) → Ends cfg n turns (record old { files = read }) new result → Served cfg n turns old new ⊎ Begun cfg n turns old new
  ended_before (Ok x) e = inl (served_before e)
  ended_before (Err f) e = inr (begun_before e)

or_none : {A B C : Type 0} → A ⊎ B → A ⊎ (B ⊎ C)
or_none (inl a) = inl a
or_none (inr b) = inr (inl b)

none_served : (s : Said ServeConfig) (turns : ℕ) (old : Serving) (read : FilesState) → read.held ≡ old.files.held → ServesAtMost s turns old (record old { files = read })
none_served nothing turns old read held = (refl, held)
none_served (outside r) turns old read held = (refl, held)
none_served (says cfg) turns old read held = inr (inr (refl, held))

-- ---- the moment

asked_is : (v : Version) (old new : ClockState) (boot : ℕ) → IsTrue old.observable → Asks v old new boot → (boot ≡ moment v old) × (new ≡ behind_moment v old)
asked_is One old new boot seen a = (a.1, a.0)
asked_is Two old new boot seen a =
    (a.told seen, λ i. record { observable = a.observable i; answers = a.answers seen i; last = (a.last seen ∙ a.told seen) i })

asked_seen : (v : Version) (old new : ClockState) (boot : ℕ) → IsTrue old.observable → Asks v old new boot → IsTrue new.observable
asked_seen One old new boot seen a = subst (λ c. IsTrue c.observable) (sym a.0) seen
asked_seen Two old new boot seen a = subst IsTrue (sym a.observable) seen

-- what holds of a run from a moment on that the clock told
from_moment : (P : ServeConfig → Serving → Type 0) (cfg : ServeConfig) (old : Serving) (boot : ℕ) (clock : ClockState) → IsTrue old.clock.observable → Asks cfg.node.version old.clock clock boot
    → P (booted_config boot cfg) (record old { clock = clock }) → P (begun_config cfg old) (begun_with cfg old)
from_moment P cfg old boot clock seen a h =
    let e = asked_is cfg.node.version old.clock clock boot seen a in
    subst (λ b. P (booted_config b cfg) (begun_with cfg old)) e.0 (subst (λ k. P (booted_config boot cfg) (record old { clock = k })) e.1 h)

-- ---- causes

served_well : (old new : Serving) (cfg : ServeConfig) (turns : ℕ) (result : Result (Unit {0}) ServeFault) → serve_cause result ≡ Done → Ends cfg (own_node cfg) turns old new result
    → Served cfg (own_node cfg) turns old new
served_well old new cfg turns (Ok x) e h = h
served_well old new cfg turns (Err faults.LinkFault) e h = absurd (cc)
served_well old new cfg turns (Err faults.WriteFault) e h = absurd (cc)
served_well old new cfg turns (Err faults.NoMemory) e h = absurd (cc)

done_or_poor : (cfg : ServeConfig) (turns : ℕ) (old new : Serving) (result : Result (Unit {0}) ServeFault) → ServesFrom cfg (own_services cfg) turns old new result
    → ¬ (HasRisen old.files.write_faults new.files.write_faults) → ¬ (HasRisen old.link.faults new.link.faults) → ¬ (HasRisen old.out.faults new.out.faults) → (serve_cause result ≡ Done) ⊎ (serve_cause result ≡ NoMemory)
done_or_poor cfg turns old new (Ok x) p w l o = inl refl
done_or_poor cfg turns old new (Err faults.LinkFault) p w l o = absurd (l p.serves.faults)
done_or_poor cfg turns old new (Err faults.WriteFault) p w l o = elim p.serves.faults [ inl rose ↦ absurd (w rose) | inr rose ↦ absurd (o rose) ]
done_or_poor cfg turns old new (Err faults.NoMemory) p w l o = inr refl

-- ---- calls

module _ (file : List ℕ) (turns : ℕ) (cause : Cause) (old new : Outside) (n m : SinkState) (call : Calls (Some (node file turns)) cause old new n m) where
  still_held : call.does.1.read.held ≡ old.files.held
  still_held = call.does.1.did.takes.only.held

  node_view : Took (config_said file) (ServesAs turns) old.files call.does.1.read call.found (record (serving_in old) { files = call.does.1.read }) (serving_in new)
  node_view = view (config_said file) (ServesAs turns) file old.files call.does.1.read call.found (record (serving_in old) { files = call.does.1.read }) (serving_in new) call.does.1.did

  still_seen : IsSeen (desk_of (serving_in old)) → IsSeen (desk_of (record (serving_in old) { files = call.does.1.read }))
  still_seen seen = (subst IsTrue (sym call.does.1.did.takes.only.observable) seen.0, seen.1, seen.2)

  module _ (seen : IsSeen (desk_of (serving_in old))) (clock : IsTrue old.clock.observable) where
    served_so : (c : Cause) (cfg : ServeConfig) → Took (config_said file) (ServesAs turns) old.files call.does.1.read c (record (serving_in old) { files = call.does.1.read }) (serving_in new)
        → config_said file old.files.held ≡ says cfg → c ≡ Done → Served (begun_config cfg (serving_in old)) (own_node (begun_config cfg (serving_in old))) turns (begun_with cfg (serving_in old)) (serving_in new)
    served_so c cfg (took own_cfg own p) e done =
        let s = p.serves in
        let first : Serving = record (serving_in old) { clock = s.clock } in
        subst (λ k. Served (begun_config k (serving_in old)) (own_node (begun_config k (serving_in old))) turns (begun_with k (serving_in old)) (serving_in new)) (says_one own_cfg cfg (sym (own seen.0) ∙ e))
        (from_moment (λ k a. Served k (own_node k) turns a (serving_in new)) own_cfg (serving_in old) s.boot s.clock clock s.asked
        (served_before (booted_config s.boot own_cfg) (own_node (booted_config s.boot own_cfg)) turns first (serving_in new) call.does.1.read still_held
        (served_well (record first { files = call.does.1.read }) (serving_in new) (booted_config s.boot own_cfg) turns p.result (sym p.is ∙ done)
        (s.serves.runs (still_seen seen) (asked_seen own_cfg.node.version old.clock s.clock s.boot clock s.asked)))))
    served_so c cfg (left u same) e done = elim (subst (Untaken (config_said file) old.files call.does.1.read) done u) [ ]

    pub node_serves : (cfg : ServeConfig) → config_said file old.files.held ≡ says cfg → cause ≡ Done
        → Served (begun_config cfg (serving_in old)) (own_node (begun_config cfg (serving_in old))) turns (begun_with cfg (serving_in old)) (serving_in new)
    node_serves cfg e done = served_so call.found cfg node_view e (done_found (Some (node file turns)) cause old new n m call done)

    at_most : (c : Cause) → Took (config_said file) (ServesAs turns) old.files call.does.1.read c (record (serving_in old) { files = call.does.1.read }) (serving_in new)
        → ServesAtMost (config_said file old.files.held) turns (serving_in old) (serving_in new)
    at_most c (took cfg own p) =
        let s = p.serves in
        let first : Serving = record (serving_in old) { clock = s.clock } in
        subst (λ x. ServesAtMost x turns (serving_in old) (serving_in new)) (sym (own seen.0))
        (or_none (from_moment (λ k a. Served k (own_node k) turns a (serving_in new) ⊎ Begun k (own_node k) turns a (serving_in new)) cfg (serving_in old) s.boot s.clock clock s.asked
        (ended_before (booted_config s.boot cfg) (own_node (booted_config s.boot cfg)) turns first (serving_in new) call.does.1.read still_held p.result
        (s.serves.runs (still_seen seen) (asked_seen cfg.node.version old.clock s.clock s.boot clock s.asked)))))
    at_most c (left u same) =
        subst (λ s. ServesAtMost (config_said file old.files.held) turns (serving_in old) s) (sym same)
        (none_served (config_said file old.files.held) turns (serving_in old) call.does.1.read still_held)

    pub node_fronts : ServesAtMost (config_said file old.files.held) turns (serving_in old) (serving_in new)
    node_fronts = at_most call.found node_view

  -- the moment of a node that served is a number of 64 bits
  moment_so : (c : Cause) (cfg : ServeConfig) → Took (config_said file) (ServesAs turns) old.files call.does.1.read c (record (serving_in old) { files = call.does.1.read }) (serving_in new)
      → IsTrue old.files.observable → IsTrue old.clock.observable → config_said file old.files.held ≡ says cfg
      → (trace : List ℕ) → new.out.taken ≡ old.out.taken ++ trace → 0 < length trace → moment cfg.node.version old.clock < 2 ^ 64
  moment_so c cfg (took own_cfg own p) seen clock e trace is some =
      let s = p.serves in
      subst (λ (k : ServeConfig). moment k.node.version old.clock < 2 ^ 64) (says_one own_cfg cfg (sym (own seen) ∙ e))
      (subst (λ b. b < 2 ^ 64) (asked_is own_cfg.node.version old.clock s.clock s.boot clock s.asked).0 s.fits)
  moment_so c cfg (left u same) seen clock e trace is some =
      absurd (omega (arith, ap (λ (x : Serving). length x.out.taken) same, ap length is, length-append old.out.taken trace, some))

  pub node_moment : IsTrue old.files.observable → IsTrue old.clock.observable → (cfg : ServeConfig) → config_said file old.files.held ≡ says cfg
      → Served (begun_config cfg (serving_in old)) (own_node (begun_config cfg (serving_in old))) turns (begun_with cfg (serving_in old)) (serving_in new) → moment cfg.node.version old.clock < 2 ^ 64
  unfolding whole_trace
  node_moment seen clock cfg e s =
      let run = run_in (begun_config cfg (serving_in old)) (own_node (begun_config cfg (serving_in old))) turns (begun_with cfg (serving_in old)) s.refused in
      moment_so call.found cfg node_view seen clock e (whole_trace cfg.node.here run.entries) s.out
      (omega (arith, length-append (begun_trace cfg.node.here run.entries) (codes "end\n")))

  complete_so : (c : Cause) (cfg : ServeConfig) → Took (config_said file) (ServesAs turns) old.files call.does.1.read c (record (serving_in old) { files = call.does.1.read }) (serving_in new)
      → IsTrue old.files.observable → config_said file old.files.held ≡ says cfg → ¬ (HasRisen old.files.read_faults new.files.read_faults) → ¬ (HasRisen old.files.write_faults new.files.write_faults)
      → ¬ (HasRisen old.link.faults new.link.faults) → ¬ (HasRisen old.out.faults new.out.faults) → (c ≡ Done) ⊎ (c ≡ NoMemory)
  complete_so c cfg (took own_cfg own p) seen e r w l o =
      subst (λ x. (x ≡ Done) ⊎ (x ≡ NoMemory)) (sym p.is)
      (done_or_poor own_cfg turns (record (serving_in old) { files = call.does.1.read }) (serving_in new) p.result p.serves
      (λ rose. w (subst (λ k. HasRisen k new.files.write_faults) call.does.1.did.takes.only.write_faults rose)) l o)
  complete_so c cfg (left u same) seen e r w l o =
      inr (unread (config_said file) old.files call.does.1.read c cfg u (λ s. e) seen (λ rose. r (subst (λ f. HasRisen old.files.read_faults f.read_faults) (sym (ap (λ x. x.files) same)) rose)))

  pub node_is_complete : IsTrue old.files.observable → (cfg : ServeConfig) → config_said file old.files.held ≡ says cfg → ¬ (HasRisen old.files.read_faults new.files.read_faults)
      → ¬ (HasRisen old.files.write_faults new.files.write_faults) → ¬ (HasRisen old.link.faults new.link.faults) → ¬ (HasRisen old.out.faults new.out.faults) → ¬ (HasRisen n.faults m.faults)
      → (cause ≡ Done) ⊎ (cause ≡ NoMemory)
  node_is_complete seen cfg e r w l o k = well call.found cause (HasRisen n.faults m.faults) (call_gives_cause (Some (node file turns)) cause old new n m call) k (complete_so call.found cfg node_view seen e r w l o)

-- ---- files that aren't taken

abbrev Kept : Outside → Outside → Type 0
Kept old new = (new.link ≡ old.link) × (new.clock ≡ old.clock) × (new.files.held ≡ old.files.held)

taken_so : {A : Type 0} (made : A → Outcome) (s : Said A) (v : A) → s ≡ says v → IsAccepted (made v) → IsAccepted (outcome_by made s)
taken_so made s v e h = subst (λ x. IsAccepted (outcome_by made x)) (sym e) h

module _ (c : Cause) (old new : Outside) (seen : IsTrue old.files.observable) where
  ask_kept : (file : List ℕ) → new.clock ≡ old.clock → new.files.held ≡ old.files.held → ¬ (IsAccepted (outcome_by (λ a. whole (ask_line a)) (ask_said file old.files.held)))
      → Took (ask_said file) AsksAs old.files new.files c (wire_in old) (wire_in new) → Kept old new
  ask_kept file clock held h (took a own p) = absurd (h (taken_so (λ x. whole (ask_line x)) (ask_said file old.files.held) a (own seen) tt))
  ask_kept file clock held h (left u same) = (ap (λ w. w.link) same, clock, held)

  node_kept : (file : List ℕ) (turns : ℕ) (read : FilesState) → read.held ≡ old.files.held → ¬ (IsAccepted (outcome_by (λ x. runs) (config_said file old.files.held)))
      → Took (config_said file) (ServesAs turns) old.files read c (record (serving_in old) { files = read }) (serving_in new) → Kept old new
  node_kept file turns read held h (took cfg own p) = absurd (h (taken_so (λ x. runs) (config_said file old.files.held) cfg (own seen) tt))
  node_kept file turns read held h (left u same) = (ap (λ w. w.link) same, ap (λ w. w.clock) same, ap (λ w. w.files.held) same ∙ held)

  unaccepted_keeps_all : (q : Option Request) → Does q c old new → ¬ (IsAccepted (outcome_of q old.files.held)) → Kept old new
  unaccepted_keeps_all None d h = (ap (λ o. o.link) d.1, ap (λ o. o.clock) d.1, ap (λ o. o.files.held) d.1)
  unaccepted_keeps_all (Some (on_file kind file)) d h = (ap (λ o. o.link) d.0, ap (λ o. o.clock) d.0, d.1.takes.only.held)
  unaccepted_keeps_all (Some (inject file)) d h = ask_kept file (ap (λ o. o.clock) d.0) d.1.takes.only.held h (view (ask_said file) AsksAs file old.files new.files c (wire_in old) (wire_in new) d.1)
  unaccepted_keeps_all (Some (fleet file)) d h = (ap (λ o. o.link) d.0, ap (λ o. o.clock) d.0, d.1.takes.only.held)
  unaccepted_keeps_all (Some (node file turns)) d h =
      node_kept file turns d.1.read d.1.did.takes.only.held h
      (view (config_said file) (ServesAs turns) file old.files d.1.read c (record (serving_in old) { files = d.1.read }) (serving_in new) d.1.did)
  unaccepted_keeps_all (Some (grow seed k)) d h = (ap (λ o. o.link) d.0, ap (λ o. o.clock) d.0, ap (λ o. o.files.held) d.0)
  unaccepted_keeps_all (Some (audit file)) d h = (ap (λ o. o.link) d.0, ap (λ o. o.clock) d.0, d.1.only.held)

pub none_kept : (q : Option Request) (cause : Cause) (old new : Outside) (n m : SinkState) → Calls q cause old new n m → IsTrue old.files.observable → ¬ (IsAccepted (outcome_of q old.files.held))
    → (new.link ≡ old.link) × (new.clock ≡ old.clock) × (new.files.held ≡ old.files.held)
none_kept q cause old new n m call seen h = unaccepted_keeps_all call.found old new seen q call.does h
