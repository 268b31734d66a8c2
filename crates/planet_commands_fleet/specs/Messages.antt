-- The commands `cut` and `gather`: what their files say to them, and what is written of a log.
use Rattle.std.specs.Prelude.{ℕ, List}
use Rattle.network_config.specs.declared.node.Log.{Log}
use Rattle.node_files.specs.Logs.{log_of}
use Rattle.command_files.specs.Cuts.{cut_of}
use Rattle.command_files.specs.Texts.{cut_output}
use Rattle.service_api.specs.declared.answer.Note.{Note}
use Rattle.frag_chunks_log.specs.Texts.{gather_output}
use Rattle.frag_chunks_log.specs.Notes.{log_notes}
use Rattle.planet_commands.specs.Said.{Said, says, said_by, said_then}
use Rattle.node_log.specs.Nodes.{log_node}

-- the asks of the parts of the message that bytes name, or their first refusal
abbrev pub parts_said : List ℕ → Said (List ℕ)
parts_said bytes = said_then (said_by (cut_of bytes)) (λ m. says (cut_output m))

-- what is held of the messages of a log for a port: its steps once more, at the node that `replay` has too
abbrev pub messages_text : ℕ → Log → List ℕ
messages_text port l = gather_output port (log_node l) l.events

-- the same of the log that bytes say, or their first refusal
abbrev pub messages_said : ℕ → List ℕ → Said (List ℕ)
messages_said port bytes = said_then (said_by (log_of bytes)) (λ l. says (messages_text port l))

-- the notes of its run, in order
abbrev pub notes_of : Log → List Note
notes_of l = log_notes (log_node l) l.events
