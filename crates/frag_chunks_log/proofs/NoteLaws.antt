-- What is gathered of a log is what its notes are gathered to, and each key has its line.
use Rattle.std.proofs.Common.{◌≡◌, ℕ, Bool, true, false, if◌then◌else◌, List, [], ◌∷◌, ◌++◌, Some, refl, sym, ◌∙◌, ap, append_assoc}
use Rattle.std.specs.Prelude.{ℤ, codes}
use Rattle.std.specs.Ordering.{int_eq}
use Rattle.std.specs.Option.{option_map}
use Rattle.service_api.specs.declared.answer.Note.{Note}
use Rattle.network_config.specs.declared.event.LogEvent.{LogEvent}
use Rattle.node_core_spec.specs.declared.acts.Act.{Act}
use Rattle.node_core_spec.specs.declared.acts.Act.TheVariants.{Noted}
use Rattle.node_core_spec.specs.State.{NodeState}
use Rattle.node_log.specs.Runs.{acts_of, node_by}
use Rattle.frag_chunks.specs.declared.holding.Entry.{Entry}
use Rattle.frag_chunks.specs.declared.gather.Held.{Held}
use Rattle.frag_chunks.specs.Gathers.{gathered_entries, holding_of, held_of}
use Rattle.frag_chunks.specs.Messages.{held_now, held_after}
use Rattle.frag_chunks.proofs.Keys.{key_is}
use Rattle.frag_chunks_log.specs.declared.counting.Counting.{Counting}
use Rattle.frag_chunks_log.specs.Counting.{nothing, with_note, with_act, with_acts, with_entries}
use Rattle.frag_chunks_log.specs.Texts.{count_text, held_line, keys_text, gathered_text, gather_output}
use Rattle.frag_chunks_log.specs.Notes.{note_of, notes_in, log_notes, HasLine}

-- ---- the notes as one list

abbrev with_notes : List Note → Counting → Counting
with_notes [] c = c
with_notes (note ∷ more) c = with_notes more (with_note note c)

notes_more : (xs ys : List Note) (c : Counting) → with_notes (xs ++ ys) c ≡ with_notes ys (with_notes xs c)
notes_more [] ys c = refl
notes_more (x ∷ xs) ys c = notes_more xs ys (with_note x c)

act_noted : (a : Act) (c : Counting) → with_act a c ≡ with_notes (note_of a) c
act_noted (Noted note) c = refl
act_noted _ c = refl

acts_noted : (acts : List Act) (c : Counting) → with_acts acts c ≡ with_notes (notes_in acts) c
acts_noted [] c = refl
acts_noted (a ∷ more) c = acts_noted more (with_act a c) ∙ ap (with_notes (notes_in more)) (act_noted a c) ∙ sym (notes_more (note_of a) (notes_in more) c)

entries_noted : (node : NodeState) (es : List LogEvent) (c : Counting) → with_entries node es c ≡ with_notes (log_notes node es) c
entries_noted node [] c = refl
entries_noted node (e ∷ es) c =
    entries_noted (node_by node e) es (with_acts (acts_of node e) c)
    ∙ ap (with_notes (log_notes (node_by node e) es)) (acts_noted (acts_of node e) c)
    ∙ sym (notes_more (notes_in (acts_of node e)) (log_notes (node_by node e) es) c)

notes_gathered : (notes : List Note) (c : Counting) → (with_notes notes c).gather.entries ≡ gathered_entries c.gather.port notes c.gather.entries
unfolding with_note
notes_gathered [] c = refl
notes_gathered (note ∷ more) c = notes_gathered more (with_note note c)

log_gathered : (port : ℕ) (node : NodeState) (es : List LogEvent) → (with_entries node es (nothing port)).gather.entries ≡ gathered_entries port (log_notes node es) []
log_gathered port node es = ap (λ c. c.gather.entries) (entries_noted node es (nothing port)) ∙ notes_gathered (log_notes node es) (nothing port)

-- ---- lines

-- behind what stands there the text goes on
line_more : (text more line : List ℕ) → HasLine text line → HasLine (text ++ more) line
line_more text more line h = record {
  before = h.before;
  behind = h.behind ++ more;
  is = ap (λ t. t ++ more) h.is ∙ append_assoc (keys_text h.before) (line ++ h.behind) more ∙ ap (λ t. keys_text h.before ++ t) (append_assoc line h.behind more);
}

-- before it comes the line of one more key
line_next : (e : Entry) (text line : List ℕ) → HasLine text line → HasLine (held_line (held_of e.key e.holding) ++ text) line
line_next e text line h = record {
  before = e ∷ h.before;
  behind = h.behind;
  is = ap (λ t. held_line (held_of e.key e.holding) ++ t) h.is ∙ sym (append_assoc (held_line (held_of e.key e.holding)) (keys_text h.before) (line ++ h.behind));
}

kept_line : (k : ℤ) (es : List Entry) (x : Held) → held_now k es ≡ Some x → HasLine (keys_text es) (held_line x)
kept_line k [] x h = absurd cc
kept_line k (e ∷ es) x h = by (int_eq e.key k) refl (kept_line k es x) h
  where
    by : (t : Bool) → int_eq e.key k ≡ t → (held_now k es ≡ Some x → HasLine (keys_text es) (held_line x)) → option_map (held_of k) (if t then Some e.holding else holding_of k es) ≡ Some x
        → HasLine (keys_text (e ∷ es)) (held_line x)
    by true same more is =
        let own : held_of e.key e.holding ≡ x = ap (λ j. held_of j e.holding) (key_is e.key k same) ∙ one (held_of k e.holding) x is in
        record { before = []; behind = keys_text es; is = ap (λ y. held_line y ++ keys_text es) own }
      where
        one : (y z : Held) → Some y ≡ Some z → y ≡ z
        one y z s = cc
    by false other more is = line_next e (keys_text es) (held_line x) (more is)

text_line : (c : Counting) (line : List ℕ) → HasLine (keys_text c.gather.entries) line → HasLine (gathered_text c) line
unfolding gathered_text
text_line c line h = line_more (keys_text c.gather.entries) (count_text (codes "skipped ") c.skipped ++ codes "\nend\n") line h

-- a key of which this is held after the notes of a log has its line
pub key_line : (port : ℕ) (node : NodeState) (es : List LogEvent) (k : ℤ) (x : Held) → held_after port k (log_notes node es) ≡ Some x → HasLine (gather_output port node es) (held_line x)
key_line port node es k x h = text_line (with_entries node es (nothing port)) (held_line x) (kept_line k (with_entries node es (nothing port)).gather.entries x (ap (held_now k) (log_gathered port node es) ∙ h))
