-- The handlers that lines name.
use Rattle.std.specs.Prelude.{ℕ, Bool, false, if◌then◌else◌, List, Option, Some, None, Ok, Err}
use Rattle.std.specs.Str.{bytes_eq}
use lib.Chars.{codes}
use Rattle.plan_base.specs.declared.name.Name.{Name}
use Rattle.plan_base.specs.declared.tree.Program.{Program}
use Rattle.plan_types_spec.specs.Handlers.{is_handler}
use Rattle.plan_base.specs.declared.stamp.Version.{Version}
use Rattle.plan_base.specs.declared.stamp.Version.TheVariants.{One, Two}
use Rattle.line_reader.specs.declared.fault.LineReason.TheVariants.{BadArgument}
use Rattle.line_reader.specs.Reads.{◌>>=◌, Part, word_at, allowed_or_reason}
use Rattle.line_reader.specs.Programs.{named_word}

-- whether what was read is this word
abbrev pub read_is : List ℕ → Part (List ℕ) → Bool
read_is text (Ok w) = bytes_eq w.0 text
read_is text (Err e) = false

-- whether this word comes next
abbrev pub comes : List ℕ → List (List ℕ) → Bool
comes text ws = read_is text (word_at ws)

-- whether a handler comes next: under version 2, where the next word says so
abbrev pub has_handler : Version → List (List ℕ) → Bool
has_handler One ws = false
has_handler Two ws = comes (codes "handler") ws

-- `handler NAME`, where a function of that name may handle
unfoldable pub named_handler : Program → List (List ℕ) → Part (Option Name)
named_handler program ws = do
  first ← word_at ws
  w ← word_at first.1
  name ← named_word w.0 BadArgument
  _ ← allowed_or_reason (is_handler program name) BadArgument
  Ok (Some name, w.1)

-- the handler where one comes next, else none
unfoldable pub handler_at : Version → Program → List (List ℕ) → Part (Option Name)
handler_at version program ws = if has_handler version ws then named_handler program ws else Ok (None, ws)
