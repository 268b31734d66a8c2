-- How many frames, arrivals, losses, visits and drops a trace has.
use Rattle.std.specs.Prelude.{ℕ, Bool, true, false, List}
use Rattle.std.specs.List.{count_by}
use Rattle.trace_chart_picture.specs.declared.line.Line.{Line}
use Rattle.trace_chart_picture.specs.declared.line.Line.TheVariants.{Gave, Raised, Spent, Wire, WireShown, Lost, LostAdvert}

-- a frame went onto the wire
abbrev pub is_frame : Line → Bool
is_frame (Wire number) = true
is_frame (WireShown number hex) = true
is_frame _ = false

-- a frame was lost
abbrev pub is_loss : Line → Bool
is_loss (Lost f bound) = true
is_loss LostAdvert = true
is_loss _ = false

-- a visit ended
abbrev pub is_visit : Line → Bool
is_visit (Gave h f v evals rest) = true
is_visit (Raised h f x evals rest) = true
is_visit (Spent h f rest) = true
is_visit _ = false

abbrev pub frames : List Line → ℕ
frames ls = count_by is_frame ls

abbrev pub losses : List Line → ℕ
losses ls = count_by is_loss ls

abbrev pub visits : List Line → ℕ
visits ls = count_by is_visit ls
