-- That log, output and frames sent agree.
use Rattle.std.proofs.Common.{◌≡◌, ℕ, zero, suc, ◌+◌, ◌≤◌, ◌⊎◌, inl, inr, List, [], ◌∷◌, ◌++◌, length, take, Some, refl, sym, ◌∙◌, ap, subst, arith, codes, append_assoc, append-nil, length-append}
use Rattle.std.proofs.Math.Seq.{take-append-add, take-append_seam, take-length}
use Rattle.network_config.specs.declared.event.LogEvent.{LogEvent}
use Rattle.network_config.specs.declared.serve.ServeConfig.{ServeConfig}
use Rattle.node_files.specs.LogTexts.{entry_text}
use Rattle.node_io.specs.FileMaps.{file_at, ChangesOnly, WritesMore}
use Rattle.node_core_spec.specs.State.{NodeState}
use Rattle.node_log.specs.Runs.{Running, opened_run, node_by, node_after, played_entries, with_entry}
use Rattle.node_log.specs.Texts.{begun_trace, whole_trace}
use Rattle.node_log.specs.Follow.{Ext}
use Rattle.node_log.proofs.Going.{ext_trans, ext_entry}
use Rattle.node_serve.specs.Fronts.{AppendsFront, WritesFront}
use Rattle.node_serve.specs.Sendings.{sent_at, frames_of}
use Rattle.node_serve.specs.Shown.{Seen, Start, entries_log, run_log, run_trace, IsReadable, Sees, Shows, HasLogged, Agrees, Fronts}
use Rattle.node_serve.proofs.Showing.{changes_more, log_more, next_lines, trace_more, sent_same, readable_more}

-- ---- prefixes

front_exact : {A : Type 0} (n : ℕ) (xs ys : List A) → take n xs ≡ take (length (take n xs)) (xs ++ ys)
front_exact zero xs ys = refl
front_exact (suc n) [] ys = refl
front_exact (suc n) (x ∷ xs) ys = ap (λ l. x ∷ l) (front_exact n xs ys)

take_short : {A : Type 0} (n : ℕ) (xs ys : List A) → n ≤ length xs → take n (xs ++ ys) ≡ take n xs
take_short zero xs ys h = refl
take_short (suc n) [] ys h = absurd (omega (arith, h))
take_short (suc n) (x ∷ xs) ys h = ap (λ l. x ∷ l) (take_short n xs ys (omega (arith, h)))

-- ---- the frames of a run

run_lines : (node : NodeState) (r : Running) → Ext (opened_run node) r → r.entries ≡ played_entries 0 node r.events
run_lines node r x = x.lines ∙ ap (played_entries 0 node) (sym x.log)

run_node : (node : NodeState) (r : Running) → Ext (opened_run node) r → node_after node r.events ≡ r.node
run_node node r x = ap (node_after node) x.log ∙ sym x.node

frames_more : (node : NodeState) (es : List LogEvent) (e : LogEvent) → frames_of node (es ++ e ∷ []) ≡ frames_of node es ++ sent_at (node_after node es) e
unfolding frames_of node_after
frames_more node [] e = append-nil (sent_at node e)
frames_more node (f ∷ es) e =
    let rest = frames_of (node_by node f) es in
    ap (λ l. sent_at node f ++ l) (frames_more (node_by node f) es e) ∙ sym (append_assoc (sent_at node f) rest (sent_at (node_after (node_by node f) es) e))

-- one entry more sends what it sends
pub frames_next : (node : NodeState) (e : LogEvent) (r : Running) → Ext (opened_run node) r → frames_of node (r.events ++ e ∷ []) ≡ frames_of node r.events ++ sent_at r.node e
frames_next node e r x = frames_more node r.events e ∙ ap (λ n. frames_of node r.events ++ sent_at n e) (run_node node r x)

-- a step that sends nothing
pub shows_unsent : (cfg : ServeConfig) (base : Start) (old seen : Seen) (e : LogEvent) (r : Running) → Shows cfg base old r → sent_at r.node e ≡ [] → Sees cfg base seen (with_entry e r) → Shows cfg base seen (with_entry e r)
unfolding with_entry
shows_unsent cfg base old seen e r h none s = record {
  sees = s;
  frames = h.frames ∙ sym (frames_next base.node e r h.sees.grows ∙ ap (λ l. frames_of base.node r.events ++ l) none ∙ append-nil (frames_of base.node r.events));
}

-- ---- agreement

made_few : (made logged n : ℕ) → (logged ≡ made) ⊎ (logged ≡ made + 1) → logged ≤ n → made ≤ n
made_few made logged n (inl e) h = omega (arith, e, h)
made_few made logged n (inr e) h = omega (arith, e, h)

module _ (cfg : ServeConfig) (base : Start) (seen : Seen) where
  -- of more entries than those that were made
  pub agrees_more : (es more : List LogEvent) → Agrees cfg base seen es → Agrees cfg base seen (es ++ more)
  agrees_more es more a =
      let logged : take a.logged (es ++ more) ≡ take a.logged es = take_short a.logged es more a.few in
      let made : take a.made (es ++ more) ≡ take a.made es = take_short a.made es more (made_few a.made a.logged (length es) a.next a.few) in
      let size : length (es ++ more) ≡ length es + length more = length-append es more in
      record {
        made = a.made;
        logged = a.logged;
        next = a.next;
        few = omega (arith, a.few, size);
        log = subst (HasLogged cfg seen.files) (sym logged) a.log;
        out = record { count = a.out.count; is = a.out.is ∙ ap (λ l. base.taken ++ take a.out.count (whole_trace cfg.node.here (played_entries 0 base.node l))) (sym logged) };
        lines = subst (λ l. length (begun_trace cfg.node.here (played_entries 0 base.node l)) ≤ a.out.count) (sym made) a.lines;
        sent = a.sent ∙ ap (λ l. base.sent ++ frames_of base.node l) (sym made);
      }

  -- all that a run made so far, with more behind its log and a prefix of the end behind its lines
  pub agrees_all : (r : Running) (more : List ℕ) (count : ℕ) → Ext (opened_run base.node) r → r.sent ≡ frames_of base.node r.events
      → file_at seen.files cfg.log ≡ Some (run_log cfg r ++ more) → seen.taken ≡ base.taken ++ (run_trace cfg r ++ take count (codes "end\n")) → seen.sent ≡ base.sent ++ r.sent
      → Agrees cfg base seen r.events
  unfolding whole_trace
  agrees_all r more count x frames log out sent =
      let n = length r.events in
      let all : take n r.events ≡ r.events = take-length r.events in
      let trace = run_trace cfg r in
      let lines : r.entries ≡ played_entries 0 base.node (take n r.events) = run_lines base.node r x ∙ ap (played_entries 0 base.node) (sym all) in
      let short : length trace ≤ length trace + count = omega arith in
      record {
        made = n;
        logged = n;
        next = inl refl;
        few = omega arith;
        log = record { more = more; there = log ∙ ap (λ es. Some (entries_log cfg es ++ more)) (sym all) };
        out = record {
          count = length trace + count;
          is = out ∙ ap (λ l. base.taken ++ l) (sym (take-append-add trace (codes "end\n") count)) ∙ ap (λ es. base.taken ++ take (length trace + count) (whole_trace cfg.node.here es)) lines;
        };
        lines = subst (λ es. length (begun_trace cfg.node.here es) ≤ length trace + count) lines short;
        sent = sent ∙ ap (λ l. base.sent ++ l) (frames ∙ ap (frames_of base.node) (sym all));
      }

  -- and one step more, with a prefix of its lines, and its frame not sent
  pub agrees_next : (e : LogEvent) (r : Running) (count : ℕ) → Ext (opened_run base.node) r → r.sent ≡ frames_of base.node r.events
      → file_at seen.files cfg.log ≡ Some (run_log cfg (with_entry e r)) → seen.taken ≡ base.taken ++ (run_trace cfg r ++ take count (next_lines cfg e r)) → seen.sent ≡ base.sent ++ r.sent
      → Agrees cfg base seen (with_entry e r).events
  unfolding with_entry whole_trace
  agrees_next e r count x frames log out sent =
      let n = length r.events in
      let es = r.events ++ e ∷ [] in
      let size : length es ≡ n + 1 = length-append r.events (e ∷ []) in
      let all : take (n + 1) es ≡ es = ap (λ k. take k es) (sym size) ∙ take-length es in
      let old : take n es ≡ r.events = take-append_seam r.events (e ∷ []) in
      let before = run_trace cfg r in
      let next = next_lines cfg e r in
      let done = take count next in
      let lines : (with_entry e r).entries ≡ played_entries 0 base.node (take (n + 1) es) = run_lines base.node (with_entry e r) (ext_trans (opened_run base.node) r (with_entry e r) x (ext_entry e r))
      ∙ ap (played_entries 0 base.node) (sym all) in
      let front : before ++ done ≡ take (length before + length done) (before ++ (next ++ codes "end\n")) = ap (λ l. before ++ l) (front_exact count next (codes "end\n"))
      ∙ sym (take-append-add before (next ++ codes "end\n") (length done)) in
      let whole : before ++ (next ++ codes "end\n") ≡ whole_trace cfg.node.here (played_entries 0 base.node (take (n + 1) es)) =
      sym (append_assoc before next (codes "end\n")) ∙ ap (λ l. l ++ codes "end\n") (sym (trace_more cfg e r)) ∙ ap (whole_trace cfg.node.here) lines in
      let short : length before ≤ length before + length done = omega arith in
      record {
        made = n;
        logged = n + 1;
        next = inr refl;
        few = omega (arith, size);
        log = record { more = []; there = log ∙ ap Some (sym (append-nil (entries_log cfg es))) ∙ ap (λ l. Some (entries_log cfg l ++ [])) (sym all) };
        out = record { count = length before + length done; is = out ∙ ap (λ l. base.taken ++ l) (front ∙ ap (take (length before + length done)) whole) };
        lines = subst (λ l. length (begun_trace cfg.node.here l) ≤ length before + length done) (run_lines base.node r x ∙ ap (played_entries 0 base.node) (sym old)) short;
        sent = sent ∙ ap (λ l. base.sent ++ l) (frames ∙ ap (frames_of base.node) (sym old));
      }

-- ---- prefixes of a run stand outside

-- all of it is a prefix
fronts_from : (cfg : ServeConfig) (base : Start) (seen : Seen) (r : Running) → Sees cfg base seen r → Agrees cfg base seen r.events → Fronts cfg base seen r
fronts_from cfg base seen r h a = record {
  count = length (run_log cfg r);
  log = subst (ChangesOnly base.files seen.files cfg.log) (sym (take-length (run_log cfg r))) h.log;
  out = record { count = length (run_trace cfg r); is = h.out ∙ ap (λ l. base.taken ++ l) (sym (take-length (run_trace cfg r))) };
  sent = h.sent;
  readable = h.readable;
  agrees = a;
}

pub fronts_whole : (cfg : ServeConfig) (base : Start) (seen : Seen) (r : Running) → Shows cfg base seen r → Fronts cfg base seen r
fronts_whole cfg base seen r h =
    fronts_from cfg base seen r h.sees
    (agrees_all cfg base seen r [] 0 h.sees.grows h.frames (h.sees.log.here ∙ ap Some (sym (append-nil (run_log cfg r)))) (h.sees.out ∙ ap (λ l. base.taken ++ l) (sym (append-nil (run_trace cfg r)))) h.sees.sent)

-- a step was made and written, and its frame wasn't sent
pub fronts_unsent : (cfg : ServeConfig) (base : Start) (old seen : Seen) (e : LogEvent) (r : Running) → Shows cfg base old r → Sees cfg base seen (with_entry e r) → Fronts cfg base seen (with_entry e r)
fronts_unsent cfg base old seen e r h s =
    let next = next_lines cfg e r in
    fronts_from cfg base seen (with_entry e r) s
    (agrees_next cfg base seen e r (length next) h.sees.grows h.frames s.log.here
    (s.out ∙ ap (λ l. base.taken ++ l) (trace_more cfg e r ∙ ap (λ l. run_trace cfg r ++ l) (sym (take-length next)))) (s.sent ∙ ap (λ l. base.sent ++ l) (sent_same e r)))

-- the log line was written in part
pub fronts_log : (cfg : ServeConfig) (base : Start) (old new : Seen) (e : LogEvent) (r : Running) → Shows cfg base old r → IsReadable cfg.node.version e
    → WritesFront old.files new.files old.target (entry_text e) → new.taken ≡ old.taken → new.sent ≡ old.sent
    → Fronts cfg base new (with_entry e r)
unfolding with_entry
fronts_log cfg base old new e r h k log out sent =
    let before = run_log cfg r in
    let more = take log.count (entry_text e) in
    let logged = changes_more base.files old.files new.files cfg.log old.target before more h.sees.log h.sees.target log.is in
    let front = sym (take-append-add before (entry_text e) log.count) ∙ ap (take (length before + log.count)) (sym (log_more cfg e r)) in
    let traced = sym (take-append-add (run_trace cfg r) (next_lines cfg e r) 0) ∙ ap (take (length (run_trace cfg r) + 0)) (sym (trace_more cfg e r)) in
    let written = out ∙ h.sees.out ∙ ap (λ l. base.taken ++ l) (sym (append-nil (run_trace cfg r))) in
    record {
      count = length before + log.count;
      log = subst (ChangesOnly base.files new.files cfg.log) front logged;
      out = record { count = length (run_trace cfg r) + 0; is = written ∙ ap (λ l. base.taken ++ l) traced };
      sent = sent ∙ h.sees.sent ∙ ap (λ l. base.sent ++ l) (sym (sent_same e r));
      readable = readable_more cfg.node.version e r h.sees.readable k;
      agrees = agrees_more cfg base new r.events (e ∷ []) (agrees_all cfg base new r more 0 h.sees.grows h.frames logged.here written (sent ∙ h.sees.sent));
    }

-- the log line was written, and its lines in part
pub fronts_lines : (cfg : ServeConfig) (base : Start) (old new : Seen) (e : LogEvent) (r : Running) → Shows cfg base old r → IsReadable cfg.node.version e
    → WritesMore old.files new.files old.target (entry_text e) → AppendsFront old.taken new.taken (next_lines cfg e r) → new.sent ≡ old.sent
    → Fronts cfg base new (with_entry e r)
fronts_lines cfg base old new e r h k log out sent =
    let before = run_trace cfg r in
    let whole = run_log cfg (with_entry e r) in
    let logged = subst (ChangesOnly base.files new.files cfg.log) (sym (log_more cfg e r)) (changes_more base.files old.files new.files cfg.log old.target (run_log cfg r) (entry_text e) h.sees.log h.sees.target log) in
    let written = out.is ∙ ap (λ l. l ++ take out.count (next_lines cfg e r)) h.sees.out ∙ append_assoc base.taken before (take out.count (next_lines cfg e r)) in
    let front = sym (take-append-add before (next_lines cfg e r) out.count) ∙ ap (take (length before + out.count)) (sym (trace_more cfg e r)) in
    record {
      count = length whole;
      log = subst (ChangesOnly base.files new.files cfg.log) (sym (take-length whole)) logged;
      out = record { count = length before + out.count; is = written ∙ ap (λ l. base.taken ++ l) front };
      sent = sent ∙ h.sees.sent ∙ ap (λ l. base.sent ++ l) (sym (sent_same e r));
      readable = readable_more cfg.node.version e r h.sees.readable k;
      agrees = agrees_next cfg base new e r out.count h.sees.grows h.frames logged.here written (sent ∙ h.sees.sent);
    }
