-- What a run has done when it ends.
use Rattle.std.proofs.Common.{◌≡◌, ℕ, ◌+◌, inl, inr, List, [], ◌++◌, length, take, drop, Some, refl, sym, ◌∙◌, ap, subst, arith, codes, append_assoc, append-nil}
use Rattle.std.specs.List.{All, flat_map}
use Rattle.std.proofs.lemmas.List.Elements.{All-nil}
use Rattle.std.proofs.Math.Seq.{take-append-add, take-append_seam, take-length}
use Rattle.network_config.specs.declared.serve.ServeConfig.{ServeConfig}
use Rattle.node_files.specs.LogTexts.{head_text, entry_text}
use Rattle.node_io.specs.Clocks.{ClockState}
use Rattle.node_io.specs.FileMaps.{ChangesOnly, SavesFront, untouched, begun}
use Rattle.node_io.specs.Sinks.{SinkState}
use Rattle.node_io.proofs.SinkLaws.{front_longer}
use Rattle.node_core_spec.specs.State.{NodeState}
use Rattle.node_log.specs.Runs.{Running, opened_run, played_entries, turns, node_run}
use Rattle.node_log.specs.Texts.{trace_line, lines_text, begun_trace, whole_trace}
use Rattle.node_log.specs.Follow.{Ext, lost_after, lost_places}
use Rattle.node_log.proofs.Places.{own_places}
use Rattle.node_serve.specs.Fronts.{AppendsFront}
use Rattle.node_serve.specs.Sendings.{frames_of}
use Rattle.node_serve.specs.Shown.{run_log, run_trace, IsReadable, Agrees, Reached, Stopped, UsedUpTo}
use Rattle.node_serve.specs.Desks.{Desk, Serving, desk_of, with_clock, seen_at, start_at}
use Rattle.node_serve.specs.Served.{run_in, IsBound, MayBind, Begins, EndsEarly, Served, Begun}
use Rattle.node_log.proofs.Going.{ext_refl, turns_grows}
use Rattle.node_serve.proofs.FrameLaws.{frames_of_run}
use Rattle.node_serve.proofs.Agreeing.{agrees_all}
use Rattle.node_serve.proofs.Showing.{text_more}

-- ---- texts of a run that goes on

log_goes_on : (cfg : ServeConfig) (r d : Running) → Ext r d → (more : List ℕ) × (run_log cfg d ≡ run_log cfg r ++ more)
log_goes_on cfg r d x = (flat_map entry_text x.events, ap (λ es. head_text cfg.node cfg.missing ++ flat_map entry_text es) x.log ∙ text_more (head_text cfg.node cfg.missing) entry_text r.events x.events)

trace_goes_on : (cfg : ServeConfig) (r d : Running) → Ext r d → (more : List ℕ) × (run_trace cfg d ≡ run_trace cfg r ++ more)
unfolding begun_trace lines_text
trace_goes_on cfg r d x =
    let new = played_entries (length r.events) r.node x.events in
    (lines_text cfg.node.here new, ap (begun_trace cfg.node.here) x.lines ∙ text_more (codes "planet trace 1\n") (trace_line cfg.node.here) r.entries new)

-- entries used of a list that is as before
used_as_before : {A : Type 0} {n : ℕ} {old mid new : List A} → mid ≡ old → UsedUpTo n mid new → UsedUpTo n old new
used_as_before same u = record { count = u.count; few = u.few; is = u.is ∙ ap (drop u.count) same }

-- ---- the beginning

module _ (cfg : ServeConfig) (old new : Desk) where
  head_is : (node : NodeState) → run_log cfg (opened_run node) ≡ head_text cfg.node cfg.missing
  head_is node = append-nil (head_text cfg.node cfg.missing)

  first_is : (node : NodeState) → run_trace cfg (opened_run node) ≡ codes "planet trace 1\n"
  unfolding begun_trace lines_text
  first_is node = append-nil (codes "planet trace 1\n")

  -- the link was bound, and the log and the trace were begun
  pub begins : ChangesOnly old.files.held new.files.held cfg.log (head_text cfg.node cfg.missing) → new.files.target ≡ cfg.log → new.out.taken ≡ old.out.taken ++ codes "planet trace 1\n"
      → new.link.sent ≡ old.link.sent → IsBound cfg old.link new.link → new.link.script ≡ old.link.script → Begins cfg old new
  unfolding frames_of
  begins log is_log out sent binds script = record {
    shows = λ node. record {
      sees = record {
        grows = ext_refl (opened_run node);
        log = subst (ChangesOnly old.files.held new.files.held cfg.log) (sym (head_is node)) log;
        target = is_log;
        out = out ∙ ap (λ l. old.out.taken ++ l) (sym (first_is node));
        sent = sent ∙ sym (append-nil old.link.sent);
        readable = All-nil (IsReadable cfg.node.version);
      };
      frames = refl;
    };
    binds = binds;
    script = script;
  }

  -- the trace was begun in part
  pub early_trace : ChangesOnly old.files.held new.files.held cfg.log (head_text cfg.node cfg.missing) → AppendsFront old.out.taken new.out.taken (codes "planet trace 1\n")
      → new.link.sent ≡ old.link.sent → IsBound cfg old.link new.link → new.link.script ≡ old.link.script → EndsEarly cfg old new
  early_trace log out sent binds script =
      let head = head_text cfg.node cfg.missing in
      record {
        out = out;
        agrees = record {
          sent = sent;
          log = begun (length head) (subst (ChangesOnly old.files.held new.files.held cfg.log) (sym (take-length head)) log);
          out = inr (record { more = []; there = log.here ∙ ap Some (sym (append-nil head) ∙ sym (append-nil (head ++ []))) }, out);
        };
        binds = inr binds;
        script = script;
      }

  -- the log was begun in part, or not at all
  pub early_log : SavesFront old.files.held new.files.held cfg.log (head_text cfg.node cfg.missing) → new.out.taken ≡ old.out.taken → new.link.sent ≡ old.link.sent → MayBind cfg old.link new.link
      → new.link.script ≡ old.link.script → EndsEarly cfg old new
  early_log log out sent binds script = record {
    out = record { count = 0; is = out ∙ sym (append-nil old.out.taken) };
    agrees = record { sent = sent; log = log; out = inl out };
    binds = binds;
    script = script;
  }

  -- a prefix of the log's first lines is one of every log
  saves_more : (whole rest : List ℕ) → whole ≡ head_text cfg.node cfg.missing ++ rest → SavesFront old.files.held new.files.held cfg.log (head_text cfg.node cfg.missing) → SavesFront old.files.held new.files.held cfg.log whole
  saves_more whole rest e (untouched same) = untouched same
  saves_more whole rest e (begun count h) =
      let more = front_longer count (head_text cfg.node cfg.missing) rest in
      begun more.0 (subst (ChangesOnly old.files.held new.files.held cfg.log) (more.1 ∙ ap (take more.0) (sym e)) h)

  -- what ended early has begun every run
  pub ended_early : (clock : ClockState) (node : NodeState) (n : ℕ) → EndsEarly cfg old new → Begun cfg node n (with_clock old clock) (with_clock new clock)
  unfolding whole_trace begun_trace lost_after
  ended_early clock node n h =
      let whole = run_in cfg node n (with_clock old clock) [] in
      let lines = lines_text cfg.node.here whole.entries in
      let more = front_longer h.out.count (codes "planet trace 1\n") (lines ++ codes "end\n") in
      record {
        refused = [];
        steps = 0;
        places = refl;
        log = saves_more (run_log cfg whole) (flat_map entry_text whole.events) refl h.agrees.log;
        out = record { count = more.0; is = h.out.is ∙ ap (λ l. old.out.taken ++ l) (more.1 ∙ ap (take more.0) (sym (append_assoc (codes "planet trace 1\n") lines (codes "end\n")))) };
        sent = record { count = 0; is = h.agrees.sent ∙ sym (append-nil old.link.sent) };
        readable = All-nil (IsReadable cfg.node.version);
        agrees = inl h.agrees;
        binds = h.binds;
        script = record { count = 0; few = omega arith; is = h.script };
        answers = record { count = 0; few = omega arith; is = refl };
      }

-- nothing was done
pub ended_before : (cfg : ServeConfig) (old : Serving) (node : NodeState) (n : ℕ) → Begun cfg node n old old
ended_before cfg old node n = ended_early cfg (desk_of old) (desk_of old) old.clock node n (early_log cfg (desk_of old) (desk_of old) (untouched refl) refl refl (inl refl) refl)

-- ---- the run

module _ (cfg : ServeConfig) (node : NodeState) (n : ℕ) (first : Desk) (mid last : Serving) (b : Begins cfg first (desk_of mid)) where
  same_run : (refused : List ℕ) → turns cfg mid.link.script mid.clock.last mid.clock.answers n refused (opened_run node) ≡ run_in cfg node n (with_clock first mid.clock) refused
  unfolding node_run
  same_run refused = ap (λ x. turns cfg x mid.clock.last mid.clock.answers n refused (opened_run node)) b.script

  -- the whole run
  pub run_is_served : {stands : Running → Type 0} (out : SinkState) → Reached stands cfg (start_at first node) (seen_at (desk_of last)) (opened_run node) (turns cfg mid.link.script mid.clock.last mid.clock.answers n)
      → out.taken ≡ last.out.taken ++ codes "end\n" → last.link.binds ≡ mid.link.binds → last.link.script ≡ drop n mid.link.script → last.clock.answers ≡ drop n mid.clock.answers
      → Served cfg node n (with_clock first mid.clock) (record last { out = out })
  unfolding whole_trace
  run_is_served out a taken binds script answers =
      let refused = lost_places a.done.events in
      let same : a.done ≡ run_in cfg node n (with_clock first mid.clock) refused = a.is refused (own_places a.done.events) ∙ same_run refused in
      record {
        refused = refused;
        places = ap (λ r. lost_places r.events) same;
        log = subst (λ r. ChangesOnly first.files.held last.files.held cfg.log (run_log cfg r)) same a.shows.sees.log;
        out = taken ∙ ap (λ l. l ++ codes "end\n") a.shows.sees.out ∙ append_assoc first.out.taken (run_trace cfg a.done) (codes "end\n") ∙ ap (λ r. first.out.taken ++ (run_trace cfg r ++ codes "end\n")) same;
        sent = a.shows.sees.sent ∙ ap (λ r. first.link.sent ++ r.sent) same;
        binds = binds ∙ b.binds;
        script = script ∙ ap (drop n) b.script;
        answers = answers;
        readable = subst (λ r. All (IsReadable cfg.node.version) r.events) same a.shows.sees.readable;
      }

  -- a prefix of it
  pub stop_is_begun : Stopped cfg (start_at first node) (seen_at (desk_of last)) (opened_run node) (turns cfg mid.link.script mid.clock.last mid.clock.answers n)
      → last.link.binds ≡ mid.link.binds → UsedUpTo n mid.link.script last.link.script → UsedUpTo n mid.clock.answers last.clock.answers
      → Begun cfg node n (with_clock first mid.clock) last
  unfolding whole_trace
  stop_is_begun a binds script answers =
      let refused = lost_places a.done.events in
      let whole = run_in cfg node n (with_clock first mid.clock) refused in
      let x : Ext a.done whole = subst (Ext a.done) (same_run refused) (a.within refused (own_places a.done.events)) in
      let front : take (length a.done.events) whole.events ≡ a.done.events = ap (take (length a.done.events)) x.log ∙ take-append_seam a.done.events x.events in
      let log = log_goes_on cfg a.done whole x in
      let trace = trace_goes_on cfg a.done whole x in
      let in_log = front_longer a.shows.count (run_log cfg a.done) log.0 in
      let in_trace = front_longer a.shows.out.count (run_trace cfg a.done) (trace.0 ++ codes "end\n") in
      record {
        refused = refused;
        steps = length a.done.events;
        places = ap lost_places (sym front);
        log = begun in_log.0 (subst (ChangesOnly first.files.held last.files.held cfg.log) (in_log.1 ∙ ap (take in_log.0) (sym log.1)) a.shows.log);
        out = record {
          count = in_trace.0;
          is = a.shows.out.is
              ∙ ap (λ l. first.out.taken ++ l) (in_trace.1 ∙ ap (take in_trace.0) (sym (append_assoc (run_trace cfg a.done) trace.0 (codes "end\n")) ∙ ap (λ l. l ++ codes "end\n") (sym trace.1)));
        };
        sent = record { count = length a.done.sent; is = a.shows.sent ∙ ap (λ l. first.link.sent ++ l) (sym (ap (take (length a.done.sent)) x.frames ∙ take-append_seam a.done.sent x.sent)) };
        readable = subst (All (IsReadable cfg.node.version)) (sym front) a.shows.readable;
        agrees = inr (subst (Agrees cfg (start_at first node) (seen_at (desk_of last))) (sym front) a.shows.agrees);
        binds = inr (binds ∙ b.binds);
        script = used_as_before b.script script;
        answers = answers;
      }

  -- all of it but the end of the trace
  pub cut : {stands : Running → Type 0} (out : SinkState) → Reached stands cfg (start_at first node) (seen_at (desk_of last)) (opened_run node) (turns cfg mid.link.script mid.clock.last mid.clock.answers n)
      → AppendsFront last.out.taken out.taken (codes "end\n") → last.link.binds ≡ mid.link.binds → last.link.script ≡ drop n mid.link.script → last.clock.answers ≡ drop n mid.clock.answers
      → Begun cfg node n (with_clock first mid.clock) (record last { out = out })
  unfolding whole_trace
  cut out a taken binds script answers =
      let refused = lost_places a.done.events in
      let whole = run_in cfg node n (with_clock first mid.clock) refused in
      let same : a.done ≡ whole = a.is refused (own_places a.done.events) ∙ same_run refused in
      let front : take (length a.done.events) whole.events ≡ a.done.events = sym (ap (λ r. take (length a.done.events) r.events) same) ∙ take-length a.done.events in
      let trace = run_trace cfg a.done in
      record {
        refused = refused;
        steps = length a.done.events;
        places = ap lost_places (sym front);
        log = begun (length (run_log cfg whole)) (subst (ChangesOnly first.files.held last.files.held cfg.log) (sym (take-length (run_log cfg whole)))
            (subst (λ r. ChangesOnly first.files.held last.files.held cfg.log (run_log cfg r)) same a.shows.sees.log));
        out = record {
          count = length trace + taken.count;
          is = taken.is ∙ ap (λ l. l ++ take taken.count (codes "end\n")) a.shows.sees.out ∙ append_assoc first.out.taken trace (take taken.count (codes "end\n"))
              ∙ ap (λ l. first.out.taken ++ l) (sym (take-append-add trace (codes "end\n") taken.count) ∙ ap (λ r. take (length trace + taken.count) (run_trace cfg r ++ codes "end\n")) same);
        };
        sent = record { count = length a.done.sent; is = a.shows.sees.sent ∙ ap (λ l. first.link.sent ++ l) (sym (take-length a.done.sent) ∙ ap (λ r. take (length a.done.sent) r.sent) same) };
        readable = subst (All (IsReadable cfg.node.version)) (sym front) a.shows.sees.readable;
        agrees = inr (subst (Agrees cfg (start_at first node) (seen_at (desk_of (record last { out = out })))) (sym front)
            (agrees_all cfg (start_at first node) (seen_at (desk_of (record last { out = out }))) a.done [] taken.count a.shows.sees.grows a.shows.frames
            (a.shows.sees.log.here ∙ ap Some (sym (append-nil (run_log cfg a.done))))
            (taken.is ∙ ap (λ l. l ++ take taken.count (codes "end\n")) a.shows.sees.out ∙ append_assoc first.out.taken trace (take taken.count (codes "end\n")))
            a.shows.sees.sent));
        binds = inr (binds ∙ b.binds);
        script = record { count = n; few = omega arith; is = script ∙ ap (drop n) b.script };
        answers = record { count = n; few = omega arith; is = answers };
      }

-- ---- a whole run

pub whole_agrees : (cfg : ServeConfig) (node : NodeState) (n : ℕ) (old new : Serving) (s : Served cfg node n old new) → Agrees cfg (start_at (desk_of old) node) (seen_at (desk_of new)) (run_in cfg node n old s.refused).events
unfolding node_run whole_trace
whole_agrees cfg node n old new s =
    let run = run_in cfg node n old s.refused in
    let last = codes "end\n" in
    agrees_all cfg (start_at (desk_of old) node) (seen_at (desk_of new)) run [] (length last)
    (turns_grows cfg old.link.script old.clock.last old.clock.answers n s.refused (opened_run node)) (frames_of_run cfg node old.link.script old.clock.last old.clock.answers n s.refused)
    (s.log.here ∙ ap Some (sym (append-nil (run_log cfg run)))) (s.out ∙ ap (λ l. old.out.taken ++ (run_trace cfg run ++ l)) (sym (take-length last))) s.sent
