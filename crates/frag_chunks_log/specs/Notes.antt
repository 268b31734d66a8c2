-- The notes of a log's run as one list, and the line of a key in what is written of them.
use Rattle.std.specs.Prelude.{ℕ, ◌≡◌, List, [], ◌∷◌, ◌++◌}
use Rattle.service_api.specs.declared.answer.Note.{Note}
use Rattle.network_config.specs.declared.event.LogEvent.{LogEvent}
use Rattle.node_core_spec.specs.declared.acts.Act.{Act}
use Rattle.node_core_spec.specs.declared.acts.Act.TheVariants.{Noted}
use Rattle.node_core_spec.specs.State.{NodeState}
use Rattle.node_log.specs.Runs.{acts_of, node_by}
use Rattle.frag_chunks.specs.declared.holding.Entry.{Entry}
use Rattle.frag_chunks_log.specs.Texts.{keys_text}

-- the note of an act, if it has one
abbrev pub note_of : Act → List Note
note_of (Noted note) = note ∷ []
note_of _ = []

-- the notes of acts in order
abbrev pub notes_in : List Act → List Note
notes_in [] = []
notes_in (a ∷ more) = note_of a ++ notes_in more

-- the notes of a log's entries in order, each entry made at the node that the ones before it leave
abbrev pub log_notes : NodeState → List LogEvent → List Note
log_notes node [] = []
log_notes node (e ∷ es) = notes_in (acts_of node e) ++ log_notes (node_by node e) es

-- a text has this line, right behind those of some keys
pub record HasLine (text line : List ℕ) : Type 0 where
  pub before : List Entry
  pub behind : List ℕ
  pub is : text ≡ keys_text before ++ (line ++ behind)
