-- What is written of what was gathered.
use Rattle.std.specs.Prelude.{ℕ, ℤ, List, [], ◌∷◌, ◌++◌, length, codes}
use Rattle.std.specs.Fmt.{decimal}
use Rattle.hex.specs.Hex.{encode_lower}
use Rattle.plan_base.specs.declared.tree.Value.TheVariants as value
use Rattle.plan_printer_spec.specs.Printed.{value_text}
use Rattle.network_config.specs.declared.event.LogEvent.{LogEvent}
use Rattle.node_core_spec.specs.State.{NodeState}
use Rattle.frag_chunks.specs.declared.holding.Entry.{Entry}
use Rattle.frag_chunks.specs.declared.gather.Held.{Held}
use Rattle.frag_chunks.specs.declared.gather.Held.TheVariants as held
use Rattle.frag_chunks.specs.Gathers.{held_of}
use Rattle.frag_chunks_log.specs.declared.counting.Counting.{Counting}
use Rattle.frag_chunks_log.specs.Counting.{nothing, with_entries}

-- a word and a key, printed as an int of a program
abbrev pub key_text : List ℕ → ℤ → List ℕ
key_text word key = word ++ value_text (value.Int key)

-- a word and a count
abbrev pub count_text : List ℕ → ℕ → List ℕ
count_text word n = word ++ decimal n

-- a whole message
unfoldable pub whole_line : ℤ → List ℕ → List ℕ
whole_line key bytes = key_text (codes "message ") key ++ (count_text (codes " bytes ") (length bytes) ++ (codes " " ++ (encode_lower bytes ++ codes "\n")))

-- a message of which parts are missing
unfoldable pub open_line : ℤ → ℕ → ℕ → List ℕ
open_line key there count = key_text (codes "open ") key ++ (count_text (codes " has ") there ++ (count_text (codes " of ") count ++ codes "\n"))

-- what is held of a key
abbrev pub held_line : Held → List ℕ
held_line (held.Whole key bytes) = whole_line key bytes
held_line (held.Missing key there count) = open_line key there count
held_line (held.Spoiled key) = key_text (codes "spoiled ") key ++ codes "\n"

-- all keys, in the order of their first notes
abbrev pub keys_text : List Entry → List ℕ
keys_text [] = []
keys_text (e ∷ es) = held_line (held_of e.key e.holding) ++ keys_text es

-- the whole text
unfoldable pub gathered_text : Counting → List ℕ
gathered_text c = keys_text c.gather.entries ++ (count_text (codes "skipped ") c.skipped ++ codes "\nend\n")

-- what is written of a log's entries, from a node on, for a port
abbrev pub gather_output : ℕ → NodeState → List LogEvent → List ℕ
gather_output port node es = gathered_text (with_entries node es (nothing port))
