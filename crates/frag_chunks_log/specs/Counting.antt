-- The notes of a log's run, gathered for a port.
use Rattle.std.specs.Prelude.{ℕ, ◌+◌, min, List, [], ◌∷◌}
use Rattle.service_api.specs.declared.answer.Note.{Note}
use Rattle.network_config.specs.declared.event.LogEvent.{LogEvent}
use Rattle.node_core_spec.specs.declared.acts.Act.{Act}
use Rattle.node_core_spec.specs.declared.acts.Act.TheVariants.{Noted}
use Rattle.node_core_spec.specs.State.{NodeState}
use Rattle.node_log.specs.Runs.{acts_of, node_by}
use Rattle.frag_chunks.specs.declared.gather.Added.{Added}
use Rattle.frag_chunks.specs.declared.gather.Added.TheVariants.{Full}
use Rattle.frag_chunks.specs.Gathers.{answer_of, with_note as gathered_note}
use Rattle.frag_chunks_log.specs.declared.counting.Counting.{Counting}

-- nothing gathered for a port
abbrev pub nothing : ℕ → Counting
nothing port = record { gather = record { port = port; entries = [] }; skipped = 0 }

-- the count of notes without room after one with this answer; it stands still at the greatest number of 64 bits
abbrev pub skipped_after : Added → ℕ → ℕ
skipped_after Full n = min (n + 1) 18446744073709551615
skipped_after _ n = n

-- one note more
unfoldable pub with_note : Note → Counting → Counting
with_note note c = record { gather = gathered_note note c.gather; skipped = skipped_after (answer_of note c.gather) c.skipped }

-- the note of an act, if it has one
abbrev pub with_act : Act → Counting → Counting
with_act (Noted note) c = with_note note c
with_act _ c = c

-- the notes of acts in order
abbrev pub with_acts : List Act → Counting → Counting
with_acts [] c = c
with_acts (a ∷ more) c = with_acts more (with_act a c)

-- the notes of a log's entries in order, each entry made at the node that the ones before it leave
abbrev pub with_entries : NodeState → List LogEvent → Counting → Counting
with_entries node [] c = c
with_entries node (e ∷ es) c = with_entries (node_by node e) es (with_acts (acts_of node e) c)
