-- What stands outside when one more step was written.
use Rattle.std.proofs.Common.{◌≡◌, ℕ, ◌+◌, Bool, List, [], ◌∷◌, ◌++◌, length, Option, Some, None, IsSome, unwrap_or, refl, sym, ◌∙◌, ap, subst, codes, append_assoc, append-nil}
use Rattle.std.specs.List.{All, flat_map}
use Rattle.std.proofs.lemmas.List.Elements.{All-nil, All-cons, All-append}
use Rattle.std.proofs.lemmas.Bool.{false≢true}
use Rattle.std.proofs.lemmas.Grind.{flat_map-append}
use Rattle.plan_base.specs.declared.stamp.Version.{Version}
use Rattle.network_config.specs.declared.event.LogEvent.{LogEvent}
use Rattle.network_config.specs.declared.serve.ServeConfig.{ServeConfig}
use Rattle.plan_base.specs.declared.ids.Dev.{Dev}
use Rattle.packet_frame.specs.declared.frame.PlainStamped.{PlainStamped}
use Rattle.packet_frame.specs.Stamped.{stamped_bytes}
use Rattle.node_files.specs.LogTexts.{head_text, entry_text}
use Rattle.node_io.specs.FileMaps.{FileMap, file_at, contents, ChangesOnly, WritesMore}
use Rattle.node_log.specs.Runs.{Running, opened_run, acts_of, entries_at, with_entry, marked_running, holding, with_sent}
use Rattle.node_log.specs.Texts.{trace_line, lines_text, begun_trace}
use Rattle.node_log.proofs.Going.{ext_trans, ext_entry, ext_marked, ext_holding, ext_sent}
use Rattle.node_serve.specs.Shown.{Seen, Start, run_log, run_trace, IsReadable, Sees, Shows}

-- ---- files

is_there : (o : Option (List ℕ)) (x : List ℕ) → IsSome o → unwrap_or o [] ≡ x → o ≡ Some x
is_there None x h e = absurd (false≢true h)
is_there (Some y) x h e = ap Some e

-- a file that was made, and written on
pub changes_more : (base old new : FileMap) (name target x y : List ℕ) → ChangesOnly base old name x → target ≡ name → WritesMore old new target y → ChangesOnly base new name (x ++ y)
changes_more base old new name target x y h t w =
    let v : WritesMore old new name y = subst (λ n. WritesMore old new n y) t w in
    let was : IsSome (file_at old name) = subst IsSome (sym h.here) refl in
    let before : contents old name ≡ x = ap (λ o. unwrap_or o []) h.here in
    record {
      here = is_there (file_at new name) (x ++ y) (v.there was) (v.here ∙ ap (λ l. l ++ y) before);
      others = λ other d. v.others other d ∙ h.others other d;
    }

-- ---- texts

pub text_more : {A : Type 0} (head : List ℕ) (f : A → List ℕ) (xs ys : List A) → head ++ flat_map f (xs ++ ys) ≡ (head ++ flat_map f xs) ++ flat_map f ys
text_more head f xs ys = ap (λ l. head ++ l) (flat_map-append f xs ys) ∙ sym (append_assoc head (flat_map f xs) (flat_map f ys))

pub log_more : (cfg : ServeConfig) (e : LogEvent) (r : Running) → run_log cfg (with_entry e r) ≡ run_log cfg r ++ entry_text e
unfolding with_entry
log_more cfg e r = text_more (head_text cfg.node cfg.missing) entry_text r.events (e ∷ []) ∙ ap (λ l. (head_text cfg.node cfg.missing ++ flat_map entry_text r.events) ++ l) (append-nil (entry_text e))

-- the lines of the next step
abbrev pub next_lines : ServeConfig → LogEvent → Running → List ℕ
next_lines cfg e r = lines_text cfg.node.here (entries_at (length r.events + 1) (acts_of r.node e))

pub trace_more : (cfg : ServeConfig) (e : LogEvent) (r : Running) → run_trace cfg (with_entry e r) ≡ run_trace cfg r ++ next_lines cfg e r
unfolding begun_trace lines_text with_entry
trace_more cfg e r = text_more (codes "planet trace 1\n") (trace_line cfg.node.here) r.entries (entries_at (length r.events + 1) (acts_of r.node e))

-- ---- a step that was written

pub sent_same : (e : LogEvent) (r : Running) → (with_entry e r).sent ≡ r.sent
unfolding with_entry
sent_same e r = refl

pub readable_more : (v : Version) (e : LogEvent) (r : Running) → All (IsReadable v) r.events → IsReadable v e → All (IsReadable v) (with_entry e r).events
unfolding with_entry
readable_more v e r h k = All-append (IsReadable v) r.events (e ∷ []) h (All-cons (IsReadable v) e [] k (All-nil (IsReadable v)))

pub sees_entry : (cfg : ServeConfig) (base : Start) (old new : Seen) (e : LogEvent) (r : Running) → Sees cfg base old r → IsReadable cfg.node.version e
    → WritesMore old.files new.files old.target (entry_text e) → new.target ≡ old.target → new.taken ≡ old.taken ++ next_lines cfg e r → new.sent ≡ old.sent
    → Sees cfg base new (with_entry e r)
sees_entry cfg base old new e r h k log target out sent = record {
  grows = ext_trans (opened_run base.node) r (with_entry e r) h.grows (ext_entry e r);
  log = subst (ChangesOnly base.files new.files cfg.log) (sym (log_more cfg e r)) (changes_more base.files old.files new.files cfg.log old.target (run_log cfg r) (entry_text e) h.log h.target log);
  target = target ∙ h.target;
  out = out ∙ ap (λ l. l ++ next_lines cfg e r) h.out ∙ append_assoc base.taken (run_trace cfg r) (next_lines cfg e r) ∙ ap (λ l. base.taken ++ l) (sym (trace_more cfg e r));
  sent = sent ∙ h.sent ∙ ap (λ l. base.sent ++ l) (sym (sent_same e r));
  readable = readable_more cfg.node.version e r h.readable k;
}

-- a frame that was sent
pub sees_sent : (cfg : ServeConfig) (base : Start) (old new : Seen) (d : Dev) (x : PlainStamped) (bytes : List ℕ) (r : Running) → Sees cfg base old r
    → bytes ≡ stamped_bytes x → new.files ≡ old.files → new.target ≡ old.target → new.taken ≡ old.taken → new.sent ≡ old.sent ++ (d, bytes) ∷ []
    → Sees cfg base new (with_sent d x r)
sees_sent cfg base old new d x bytes r h spelled files target out sent = record {
  grows = ext_trans (opened_run base.node) r (with_sent d x r) h.grows (ext_sent d x r);
  log = subst (λ f. ChangesOnly base.files f cfg.log (run_log cfg r)) (sym files) h.log;
  target = target ∙ h.target;
  out = out ∙ h.out;
  sent = sent ∙ ap (λ l. l ++ (d, bytes) ∷ []) h.sent ∙ append_assoc base.sent r.sent ((d, bytes) ∷ []) ∙ ap (λ b. base.sent ++ (r.sent ++ (d, b) ∷ [])) spelled;
  readable = h.readable;
}

-- ---- what isn't shown

pub shows_marked : (cfg : ServeConfig) (base : Start) (seen : Seen) (t : ℕ) (r : Running) → Shows cfg base seen r → Shows cfg base seen (marked_running t r)
shows_marked cfg base seen t r h = record {
  sees = record {
    grows = ext_trans (opened_run base.node) r (marked_running t r) h.sees.grows (ext_marked t r);
    log = h.sees.log;
    target = h.sees.target;
    out = h.sees.out;
    sent = h.sees.sent;
    readable = h.sees.readable;
  };
  frames = h.frames;
}

pub shows_holding : (cfg : ServeConfig) (base : Start) (seen : Seen) (b : Bool) (r : Running) → Shows cfg base seen r → Shows cfg base seen (holding b r)
shows_holding cfg base seen b r h = record {
  sees = record {
    grows = ext_trans (opened_run base.node) r (holding b r) h.sees.grows (ext_holding b r);
    log = h.sees.log;
    target = h.sees.target;
    out = h.sees.out;
    sent = h.sees.sent;
    readable = h.sees.readable;
  };
  frames = h.frames;
}
