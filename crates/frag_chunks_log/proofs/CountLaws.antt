-- The notes of a log's entries, one entry after the other.
use Rattle.std.proofs.Common.{◌≡◌, ℕ, ◌+◌, ◌<◌, ◌≤◌, List, [], ◌∷◌, ◌++◌, length, take, get_or, refl, sym, ◌∙◌, ap}
use Rattle.std.proofs.lemmas.Grind.{take_at_read}
use Rattle.std.proofs.lemmas.List.{take_all}
use Rattle.network_config.specs.declared.event.LogEvent.{LogEvent}
use Rattle.node_core_spec.specs.State.{NodeState}
use Rattle.node_log.specs.Runs.{acts_of, node_by, node_after}
use Rattle.frag_chunks_log.specs.declared.counting.Counting.{Counting}
use Rattle.frag_chunks_log.specs.Counting.{with_acts, with_entries}

counted_more : (s : NodeState) (es fs : List LogEvent) (c : Counting) → with_entries s (es ++ fs) c ≡ with_entries (node_after s es) fs (with_entries s es c)
unfolding node_after
counted_more s [] fs c = refl
counted_more s (e ∷ es) fs c = counted_more (node_by s e) es fs (with_acts (acts_of s e) c)

-- the entry at a place, behind those in front of it
pub next_counted : (s : NodeState) (es : List LogEvent) (i : ℕ) (d e : LogEvent) (old mid new : Counting) → i < length es → e ≡ get_or es i d
    → mid ≡ with_entries s (take i es) old → new ≡ with_acts (acts_of (node_after s (take i es)) e) mid → new ≡ with_entries s (take (i + 1) es) old
next_counted s es i d e old mid new h same before x =
    x ∙ ap (λ y. with_acts (acts_of (node_after s (take i es)) y) mid) same
    ∙ ap (λ c. with_acts (acts_of (node_after s (take i es)) (get_or es i d)) c) before
    ∙ sym (counted_more s (take i es) (get_or es i d ∷ []) old)
    ∙ ap (λ l. with_entries s l old) (sym (take_at_read es i d h).1)

pub all_counted : (s : NodeState) (es : List LogEvent) (i : ℕ) (old new : Counting) → length es ≤ i → new ≡ with_entries s (take i es) old → new ≡ with_entries s es old
all_counted s es i old new h x = x ∙ ap (λ l. with_entries s l old) (take_all i es h)
