-- The lines of entries that are made again.
use Rattle.std.proofs.Common.{◌≡◌, ℕ, ◌+◌, ◌<◌, ◌≤◌, List, [], ◌∷◌, ◌++◌, length, take, drop, get_or, refl, sym, ◌∙◌, ap, subst, arith, codes, append-nil, append_assoc}
use Rattle.std.proofs.lemmas.Grind.{take_at_read}
use Rattle.std.proofs.lemmas.List.{take_all, take-append-drop, length-take-le}
use Rattle.plan_base.specs.declared.ids.Host.{Host}
use Rattle.network_config.specs.declared.event.LogEvent.{LogEvent}
use Rattle.service_api.specs.Services.{ServiceState}
use Rattle.node_io.specs.Sinks.{SinkState, Writes, FailsIn}
use Rattle.node_io.proofs.SinkLaws.{writes_none, writes_both, writes_as, fails_as, fails_more, fails_longer}
use Rattle.node_log.specs.Replays.{Stops}
use Rattle.node_log.proofs.Printing.{stops_as, stops_more, stops_longer}
use Rattle.node_log.specs.declared.fault.ReplayFault.{ReplayFault}
use Rattle.node_core_spec.specs.State.{NodeState}
use Rattle.node_core.specs.declared.node.Node.{Node}
use Rattle.node_core.specs.Stands.{NodeStands}
use Rattle.node_log.specs.Runs.{Entry, acts_of, node_by, entries_at, played_entries, node_after}
use Rattle.node_log.specs.Texts.{trace_line, lines_text, begun_trace, whole_trace}
use Rattle.node_log.proofs.Going.{played_more, after_more}

-- ---- lines

lines_append : (here : Host) (xs ys : List Entry) → lines_text here (xs ++ ys) ≡ lines_text here xs ++ lines_text here ys
unfolding lines_text
lines_append here [] ys = refl
lines_append here (x ∷ xs) ys = ap (λ l. trace_line here x ++ l) (lines_append here xs ys) ∙ sym (append_assoc (trace_line here x) (lines_text here xs) (lines_text here ys))

pub none_played : (here : Host) (s : NodeState) → lines_text here (played_entries 0 s []) ≡ []
unfolding lines_text played_entries
none_played here s = refl

one_played : (here : Host) (n : ℕ) (s : NodeState) (e : LogEvent) → lines_text here (played_entries n s (e ∷ [])) ≡ lines_text here (entries_at (n + 1) (acts_of s e))
unfolding played_entries
one_played here n s e = ap (lines_text here) (append-nil (entries_at (n + 1) (acts_of s e)))

more_played : (here : Host) (s : NodeState) (es fs : List LogEvent) → lines_text here (played_entries 0 s (es ++ fs)) ≡ lines_text here (played_entries 0 s es) ++ lines_text here (played_entries (length es) (node_after s es) fs)
more_played here s es fs =
    let count : 0 + length es ≡ length es = omega arith in
    ap (lines_text here) (played_more 0 s es fs) ∙ lines_append here (played_entries 0 s es) (played_entries (0 + length es) (node_after s es) fs)
    ∙ ap (λ n. lines_text here (played_entries 0 s es) ++ lines_text here (played_entries n (node_after s es) fs)) count

-- the lines of the entries up to the next one
pub next_played : (here : Host) (s : NodeState) (es : List LogEvent) (i n : ℕ) (d : LogEvent) → i < length es → n ≡ i + 1
    → lines_text here (played_entries 0 s (take (i + 1) es)) ≡ lines_text here (played_entries 0 s (take i es)) ++ lines_text here (entries_at n (acts_of (node_after s (take i es)) (get_or es i d)))
next_played here s es i n d h number =
    let e = get_or es i d in
    let node = node_after s (take i es) in
    let count : length (take i es) + 1 ≡ n = ap (λ k. k + 1) (length-take-le i es (omega (arith, h))) ∙ sym number in
    ap (λ l. lines_text here (played_entries 0 s l)) (take_at_read es i d h).1 ∙ more_played here s (take i es) (e ∷ [])
    ∙ ap (λ l. lines_text here (played_entries 0 s (take i es)) ++ l) (one_played here (length (take i es)) node e ∙ ap (λ k. lines_text here (entries_at k (acts_of node e))) count)

-- ---- the loop

pub none_stands : {S : Type 0} (stands : S → ServiceState) (n : Node S) (s : NodeState) → NodeStands stands n s → NodeStands stands n (node_after s [])
unfolding node_after
none_stands stands n s h = h

one_after : (s : NodeState) (e : LogEvent) → node_after s (e ∷ []) ≡ node_by s e
unfolding node_after
one_after s e = refl

pub next_stands : {S : Type 0} (stands : S → ServiceState) (n : Node S) (s : NodeState) (es : List LogEvent) (i : ℕ) (d e : LogEvent) → i < length es → e ≡ get_or es i d
    → NodeStands stands n (node_by (node_after s (take i es)) e) → NodeStands stands n (node_after s (take (i + 1) es))
next_stands stands n s es i d e h same x =
    let g = get_or es i d in
    let after : node_after s (take (i + 1) es) ≡ node_by (node_after s (take i es)) g = ap (node_after s) (take_at_read es i d h).1 ∙ after_more s (take i es) (g ∷ []) ∙ one_after (node_after s (take i es)) g in
    subst (NodeStands stands n) (sym after) (subst (λ y. NodeStands stands n (node_by (node_after s (take i es)) y)) same x)

module _ (here : Host) (s : NodeState) (es : List LogEvent) (i n : ℕ) (d e : LogEvent) (a b c : SinkState) (h : i < length es) (same : e ≡ get_or es i d) (number : n ≡ i + 1)
    (before : Writes a b (lines_text here (played_entries 0 s (take i es)))) where
  first : List ℕ
  first = lines_text here (played_entries 0 s (take i es))

  lines : List ℕ
  lines = lines_text here (entries_at n (acts_of (node_after s (take i es)) e))

  next_is : first ++ lines ≡ lines_text here (played_entries 0 s (take (i + 1) es))
  unfolding first lines
  next_is = ap (λ y. lines_text here (played_entries 0 s (take i es)) ++ lines_text here (entries_at n (acts_of (node_after s (take i es)) y))) same ∙ sym (next_played here s es i n d h number)

  pub next_written : Writes b c (lines_text here (entries_at n (acts_of (node_after s (take i es)) e))) → Writes a c (lines_text here (played_entries 0 s (take (i + 1) es)))
  unfolding first lines
  next_written w = writes_as a c (first ++ lines) (lines_text here (played_entries 0 s (take (i + 1) es))) next_is (writes_both a b c first lines before w)

  pub next_stopped : (fault : ReplayFault) → Stops fault (lines_text here (entries_at n (acts_of (node_after s (take i es)) e))) b c → Stops fault (lines_text here (played_entries 0 s es)) a c
  unfolding first lines
  next_stopped fault p =
      let upto = take (i + 1) es in
      let rest = lines_text here (played_entries (length upto) (node_after s upto) (drop (i + 1) es)) in
      let whole : (first ++ lines) ++ rest ≡ lines_text here (played_entries 0 s es) =
      ap (λ l. l ++ rest) next_is ∙ sym (ap (λ l. lines_text here (played_entries 0 s l)) (sym (take-append-drop (i + 1) es)) ∙ more_played here s upto (drop (i + 1) es)) in
      stops_as fault a c ((first ++ lines) ++ rest) (lines_text here (played_entries 0 s es)) whole (stops_longer fault a c (first ++ lines) rest (stops_more fault a b c first lines before p))

pub all_written : (here : Host) (s : NodeState) (es : List LogEvent) (i : ℕ) (a b : SinkState) → length es ≤ i → Writes a b (lines_text here (played_entries 0 s (take i es))) → Writes a b (lines_text here (played_entries 0 s es))
all_written here s es i a b h w = writes_as a b (lines_text here (played_entries 0 s (take i es))) (lines_text here (played_entries 0 s es)) (ap (λ l. lines_text here (played_entries 0 s l)) (take_all i es h)) w

-- ---- the whole trace

whole_is : (here : Host) (es : List Entry) → (codes "planet trace 1\n" ++ lines_text here es) ++ codes "end\n" ≡ whole_trace here es
unfolding whole_trace begun_trace
whole_is here es = refl

pub trace_begun : (here : Host) (es : List Entry) (a b : SinkState) → FailsIn a b (codes "planet trace 1\n") → FailsIn a b (whole_trace here es)
trace_begun here es a b f = fails_as a b _ (whole_trace here es) (whole_is here es) (fails_longer a b (codes "planet trace 1\n" ++ lines_text here es) (codes "end\n") (fails_longer a b (codes "planet trace 1\n") (lines_text here es) f))

module _ (here : Host) (es : List Entry) (a b c d : SinkState) (begun : Writes a b (codes "planet trace 1\n")) where
  pub trace_stopped : (fault : ReplayFault) → Stops fault (lines_text here es) b c → Stops fault (whole_trace here es) a c
  trace_stopped fault p =
      stops_as fault a c _ (whole_trace here es) (whole_is here es)
      (stops_longer fault a c (codes "planet trace 1\n" ++ lines_text here es) (codes "end\n") (stops_more fault a b c (codes "planet trace 1\n") (lines_text here es) begun p))

  pub trace_cut : Writes b c (lines_text here es) → FailsIn c d (codes "end\n") → FailsIn a d (whole_trace here es)
  trace_cut w f = fails_as a d _ (whole_trace here es) (whole_is here es) (fails_more a c d (codes "planet trace 1\n" ++ lines_text here es) (codes "end\n") (writes_both a b c (codes "planet trace 1\n") (lines_text here es) begun w) f)

  pub trace_written : Writes b c (lines_text here es) → Writes c d (codes "end\n") → Writes a d (whole_trace here es)
  trace_written w v =
      writes_as a d _ (whole_trace here es) (whole_is here es)
      (writes_both a c d (codes "planet trace 1\n" ++ lines_text here es) (codes "end\n") (writes_both a b c (codes "planet trace 1\n") (lines_text here es) begun w) v)

pub none_written : (here : Host) (s : NodeState) (a : SinkState) → Writes a a (lines_text here (played_entries 0 s []))
none_written here s a = writes_as a a [] (lines_text here (played_entries 0 s [])) (sym (none_played here s)) (writes_none a)
