-- The names of files in lines.
use Rattle.std.specs.Prelude.{ℕ, List, Ok}
use Rattle.network_config.specs.FileNames.{is_file_name}
use Rattle.line_reader.specs.declared.fault.LineReason.TheVariants.{BadWord}
use Rattle.line_reader.specs.Reads.{◌>>=◌, Part, word_at, allowed_or_reason}

-- the next word as a file name
unfoldable pub file_name_at : List (List ℕ) → Part (List ℕ)
file_name_at ws = do
  w ← word_at ws
  _ ← allowed_or_reason (is_file_name w.0) BadWord
  Ok w
